use Rattle.std.proofs.Common.{length, ◌-◌}
use Rattle.dc_lexer.proofs.Names.{NameScan}
use Rattle.dc_lexer.proofs.name.name.Given as goal

abbrev pub invariant-loop-at : goal.invariant-loop-at
invariant-loop-at l = NameScan l.z l.at

abbrev pub decreases-loop-at : goal.decreases-loop-at
decreases-loop-at l = length l.z - l.at
