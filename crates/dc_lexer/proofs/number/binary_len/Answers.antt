use Rattle.std.proofs.Common.{◌+◌, ap, sym, ◌∙◌}
use Rattle.dc_lexer.specs.Fronts as fronts
use Rattle.dc_token.proofs.Lists.{rest_of}
use Rattle.dc_lexer.proofs.Hexadecimals.{binary_longest, binary_nothing}
use Rattle.dc_lexer.proofs.number.binary_len.Goals as goal

pub returns-then-not-has_binary : goal.returns-then-not-has_binary
returns-then-not-has_binary c = binary_nothing c.args.z.now c.past-end.result c.requires c.past-end.ensures.value (sym c.has_binary.ensures ∙ c.if-not-has_binary.true)

pub returns : goal.returns
returns c =
    let suffix = c.number_suffix.ensures.value ∙ ap (λ x. fronts.number_suffix x) (rest_of c.args.z.now c.past-end.result) in
    binary_longest c.args.z.now c.past-end.result (c.past-end.result + c.number_suffix.result) c.requires c.past-end.ensures.value (sym c.has_binary.ensures ∙ c.if-not-has_binary.false) (ap (λ k. c.past-end.result + k) suffix)
