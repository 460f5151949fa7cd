use Rattle.std.proofs.Common.{◌≡◌, ◌<◌, ◌^◌, drop}
use Rattle.dc_token.specs.Literals.{value_from}
use Rattle.dc_token.proofs.literal.value_of.Given as goal

abbrev pub invariant-loop-b : goal.invariant-loop-b
invariant-loop-b l = (value_from l.base l.value (drop l.b-index l.digits) ≡ value_from l.base 0 l.digits) × (l.value < 2 ^ 64)
