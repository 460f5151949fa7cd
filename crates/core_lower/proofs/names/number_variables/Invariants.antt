use Rattle.std.proofs.Common.{◌≡◌, ◌+◌, ◌≤◌, drop, length}
use Rattle.std.specs.Map.{lookup}
use Rattle.dc_types.specs.declared.place.Place.{Place}
use Rattle.dc_types.specs.Same as same
use Rattle.core_lower.specs.Lowered.{found_from, variable_places}
use Rattle.core_lower.specs.Choice.{else_found}
use Rattle.core_lower.proofs.names.number_variables.Given as goal

abbrev pub invariant-loop-i : goal.invariant-loop-i
invariant-loop-i l = ((q : Place) → lookup (same.place q) l.table ≡ else_found (found_from (l.first + l.i) q (variable_places (drop l.i l.variables))) (lookup (same.place q) l.fn.table)) × (l.i ≤ length l.variables)

abbrev pub decreases-loop-i : goal.decreases-loop-i
decreases-loop-i l = l.i
