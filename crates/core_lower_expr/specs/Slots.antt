-- What slots say of names.
use Rattle.std.specs.Prelude.{ℕ, List}
use Rattle.std.specs.Map.{lookup}
use Rattle.std.specs.Option.{unwrap_or}
use Rattle.dc_types.specs.declared.place.Place.{Place}
use Rattle.dc_types.specs.Same as same
use Rattle.core_lower_expr.specs.Lowered.{Names}
use Rattle.core_lower_expr.specs.declared.slots.Slots.{Slots}

-- the number of a place, or 0 for one that has none, which closed trees don't name
abbrev pub number_in : List (Place × ℕ) → Place → ℕ
number_in table place = unwrap_or (lookup (same.place place) table) 0

abbrev pub names_of : Slots → Names
names_of at = record { slot = λ place. number_in at.named place; function = λ place. number_in at.functions place }
