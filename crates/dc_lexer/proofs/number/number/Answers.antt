use Rattle.std.proofs.Common.{◌∙◌, sym}
use Rattle.dc_lexer.proofs.Hexadecimals.{binary_found}
use Rattle.dc_lexer.proofs.number.number.Goals as goal

pub returns-then-begins-2 : goal.returns-then-begins-2
returns-then-begins-2 c = binary_found c.args.z.now c.binary_len.result (sym c.begins-2.ensures ∙ c.if-begins-2.true) c.binary_len.ensures
