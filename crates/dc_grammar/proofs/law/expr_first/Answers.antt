use Rattle.dc_grammar.proofs.Meanings.{expr_first}
use Rattle.dc_grammar.proofs.law.expr_first.Goals as goal

pub returns : goal.returns
returns c = expr_first
