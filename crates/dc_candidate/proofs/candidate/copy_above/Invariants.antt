use Rattle.std.proofs.Common.{◌≡◌, take}
use Rattle.dc_candidate.proofs.candidate.copy_above.Given as goal

abbrev pub invariant-loop-is_above : goal.invariant-loop-is_above
invariant-loop-is_above l = l.copy ≡ take l.is_above-index l.is_above-items
