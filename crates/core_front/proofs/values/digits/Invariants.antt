use Rattle.std.proofs.Common.{◌≡◌, ◌≤◌, drop}
use Rattle.core_front.specs.Building.{digits_from}
use Rattle.core_front.proofs.values.digits.Given as goal

abbrev pub invariant-loop-digit : goal.invariant-loop-digit
invariant-loop-digit l = (digits_from l.value (drop l.digit-index l.token) ≡ digits_from 0 l.token) × (l.value ≤ 2147483647)
