use Rattle.std.proofs.Common.{◌≡◌, take}
use Rattle.dc_candidate.proofs.candidate.copy_candidates.Given as goal

abbrev pub invariant-loop-set : goal.invariant-loop-set
invariant-loop-set l = l.copy ≡ take l.set-index l.set-items
