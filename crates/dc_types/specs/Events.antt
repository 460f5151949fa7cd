-- What a run prints, and the ticks that it takes.
use Rattle.std.specs.Prelude.{◌≡◌, ℕ, ◌+◌, List, [], ◌∷◌, ◌++◌}
use Rattle.std.specs.List.{flat_map}
use Rattle.dc_types.specs.declared.event.Event.{Event}
use Rattle.dc_types.specs.declared.event.Event.TheVariants as event

-- the bytes that an event prints
abbrev pub bytes_of : Event → List ℕ
bytes_of (event.Print bytes) = bytes
bytes_of (event.Enter place) = []
bytes_of (event.Turn place) = []

-- the bytes that events print, in their order
abbrev pub printed : List Event → List ℕ
printed events = flat_map bytes_of events

-- The entry of a function and the turn of a loop take one tick each, and a print takes none.
abbrev pub ticks_of : Event → ℕ
ticks_of (event.Enter place) = 1
ticks_of (event.Turn place) = 1
ticks_of (event.Print bytes) = 0

-- how many ticks events take
abbrev pub ticks : List Event → ℕ
ticks [] = 0
ticks (e ∷ es) = ticks_of e + ticks es

-- All these events begin with those.
pub record BeginsWith (events all : List Event) : Type 0 where
  pub rest : List Event
  pub split : all ≡ events ++ rest
