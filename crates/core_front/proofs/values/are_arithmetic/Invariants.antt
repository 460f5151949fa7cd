use Rattle.std.proofs.Common.{◌≡◌, drop, map}
use Rattle.core_front.specs.Building.{are_arithmetic, linked}
use Rattle.core_front.proofs.values.are_arithmetic.Given as goal

abbrev pub invariant-loop-step : goal.invariant-loop-step
invariant-loop-step l = are_arithmetic (map linked (drop l.step-index l.steps)) ≡ are_arithmetic (map linked l.steps)
