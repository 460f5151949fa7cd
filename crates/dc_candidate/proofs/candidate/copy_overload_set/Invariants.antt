use Rattle.std.proofs.Common.{◌≡◌, take}
use Rattle.dc_candidate.proofs.candidate.copy_overload_set.Given as goal

abbrev pub invariant-loop-candidate : goal.invariant-loop-candidate
invariant-loop-candidate l = l.copy ≡ take l.candidate-index l.candidate-items
