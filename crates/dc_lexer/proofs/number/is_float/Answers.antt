use Rattle.std.proofs.Common.{sym, ◌∙◌}
use Rattle.dc_lexer.proofs.Numbers.{mark_last}
use Rattle.dc_lexer.proofs.number.is_float.Goals as goal

pub returns-then-end-z-clause-yes : goal.returns-then-end-z-clause-yes
returns-then-end-z-clause-yes c is = mark_last c.args.z.now c.args.end (sym c.byte-b.ensures.value ∙ c.if-b-ne46.false) c.if-end-z.true
