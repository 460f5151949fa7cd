use Rattle.std.proofs.Common.{length, ◌-◌}
use Rattle.dc_lexer.proofs.Strings.{StringScan}
use Rattle.dc_lexer.proofs.string.body_end.Given as goal

abbrev pub invariant-loop-at : goal.invariant-loop-at
invariant-loop-at l = StringScan l.z l.from l.quote l.escapes l.at

abbrev pub decreases-loop-at : goal.decreases-loop-at
decreases-loop-at l = length l.z - l.at
