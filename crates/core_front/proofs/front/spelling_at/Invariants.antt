use Rattle.std.proofs.Common.{◌≡◌, length}
use Rattle.core_front.specs.Front.{spelling_at}
use Rattle.core_front.proofs.front.spelling_at.Given as goal

abbrev pub invariant-loop-rest : goal.invariant-loop-rest
invariant-loop-rest l = spelling_at l.fn.tokens l.offset ≡ spelling_at l.rest l.offset

abbrev pub decreases-loop-rest : goal.decreases-loop-rest
decreases-loop-rest l = length l.rest
