use Rattle.std.proofs.Common.{length, ◌-◌}
use Rattle.dc_lexer.proofs.Comments.{BlockScan}
use Rattle.dc_lexer.proofs.comment.block.Given as goal

abbrev pub invariant-loop-at : goal.invariant-loop-at
invariant-loop-at l = BlockScan l.z l.at

abbrev pub decreases-loop-at : goal.decreases-loop-at
decreases-loop-at l = length l.z - l.at
