use Rattle.std.proofs.Common.{◌≡◌, ◌≤◌, drop, length}
use Rattle.std.specs.Map.{lookup}
use Rattle.dc_types.specs.declared.place.Place.{Place}
use Rattle.dc_types.specs.Same as same
use Rattle.core_lower.specs.Lowered.{found_from, body_places}
use Rattle.core_lower.proofs.names.numbers_of.Given as goal

abbrev pub invariant-loop-i : goal.invariant-loop-i
invariant-loop-i l = ((q : Place) → lookup (same.place q) l.table ≡ found_from l.i q (body_places (drop l.i l.bodies))) × (l.i ≤ length l.bodies)

abbrev pub decreases-loop-i : goal.decreases-loop-i
decreases-loop-i l = l.i
