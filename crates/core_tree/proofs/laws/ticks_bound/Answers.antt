use Rattle.core_tree.proofs.Ticking as ticking
use Rattle.core_tree.proofs.laws.ticks_bound.Goals as goal

pub returns : goal.returns
returns c = ticking.ticks_bound
