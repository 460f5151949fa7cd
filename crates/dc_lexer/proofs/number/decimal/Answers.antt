use Rattle.std.proofs.Common.{◌+◌, ap, ◌∙◌}
use Rattle.dc_lexer.specs.Fronts as fronts
use Rattle.dc_token.proofs.Lists.{rest_of}
use Rattle.dc_lexer.proofs.Numbers.{decimal_found, float_found}
use Rattle.dc_lexer.proofs.number.decimal.Goals as goal

pub returns-then-is_float : goal.returns-then-is_float
returns-then-is_float c = float_found c.args.z.now c.digits_end-end.result c.past.result c.requires.digit c.requires.no_hex c.requires.no_binary c.digits_end-end.ensures.value c.digits_end-end.ensures.within.0 (c.is_float.ensures.yes c.if-is_float.true) c.past.ensures.value

pub returns : goal.returns
returns c =
    let suffix = c.number_suffix.ensures.value ∙ ap (λ x. fronts.number_suffix x) (rest_of c.args.z.now c.digits_end-end.result) in
    decimal_found c.args.z.now c.digits_end-end.result (c.digits_end-end.result + c.number_suffix.result) c.requires.digit c.requires.no_hex c.requires.no_binary c.digits_end-end.ensures.value c.digits_end-end.ensures.within.0 (c.is_float.ensures.only c.if-is_float.false)
    (ap (λ k. c.digits_end-end.result + k) suffix)
