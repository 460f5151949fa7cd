-- The ticks of events one behind the other.
use Rattle.std.proofs.Common.{◌≡◌, ◌+◌, List, [], ◌∷◌, ◌++◌, arith}
use Rattle.dc_types.specs.declared.event.Event.{Event}
use Rattle.dc_types.specs.Events.{ticks}

pub ticks-append : (xs ys : List Event) → ticks (xs ++ ys) ≡ ticks xs + ticks ys
ticks-append [] ys = omega arith
ticks-append (x ∷ xs) ys = let e = ticks-append xs ys in omega arith
