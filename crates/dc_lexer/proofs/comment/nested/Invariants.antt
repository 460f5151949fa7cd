use Rattle.std.proofs.Common.{length, ◌-◌}
use Rattle.dc_lexer.proofs.Comments.{NestedScan}
use Rattle.dc_lexer.proofs.comment.nested.Given as goal

abbrev pub invariant-loop-at : goal.invariant-loop-at
invariant-loop-at l = NestedScan l.z l.at l.depth

abbrev pub decreases-loop-at : goal.decreases-loop-at
decreases-loop-at l = length l.z - l.at
