use Rattle.std.proofs.Common.{length}
use Rattle.dc_layout.specs.Cells.{Right, Waits}
use Rattle.dc_layout.proofs.layout.table.Given as goal

abbrev pub invariant-loop-waiting : goal.invariant-loop-waiting
invariant-loop-waiting l = Right l.structs.entries l.known.entries × Waits l.structs.entries l.known.entries l.waiting

abbrev pub decreases-loop-waiting : goal.decreases-loop-waiting
decreases-loop-waiting l = length l.waiting
