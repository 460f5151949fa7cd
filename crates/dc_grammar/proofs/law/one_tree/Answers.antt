use Rattle.dc_grammar.proofs.Laws.{one_tree}
use Rattle.dc_grammar.proofs.law.one_tree.Goals as goal

pub returns : goal.returns
returns c = one_tree
