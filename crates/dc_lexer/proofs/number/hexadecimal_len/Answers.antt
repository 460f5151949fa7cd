use Rattle.std.proofs.Common.{◌+◌, ap, sym, ◌∙◌}
use Rattle.dc_lexer.specs.Fronts as fronts
use Rattle.dc_token.proofs.Lists.{rest_of}
use Rattle.dc_lexer.proofs.Hexadecimals.{hexadecimal_longest, hexadecimal_nothing}
use Rattle.dc_lexer.proofs.number.hexadecimal_len.Goals as goal

pub returns-then-not-has_hex : goal.returns-then-not-has_hex
returns-then-not-has_hex c = hexadecimal_nothing c.args.z.now c.past-end.result c.requires c.past-end.ensures.value (sym c.has_hex.ensures ∙ c.if-not-has_hex.true)

pub returns : goal.returns
returns c =
    let suffix = c.number_suffix.ensures.value ∙ ap (λ x. fronts.number_suffix x) (rest_of c.args.z.now c.past-end.result) in
    hexadecimal_longest c.args.z.now c.past-end.result (c.past-end.result + c.number_suffix.result) c.requires c.past-end.ensures.value (sym c.has_hex.ensures ∙ c.if-not-has_hex.false) (ap (λ k. c.past-end.result + k) suffix)
