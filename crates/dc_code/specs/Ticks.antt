-- Ticks, as the events of a run show them.
use Rattle.std.specs.Prelude.{◌≡◌, ℕ, ◌≤◌, List}
use Rattle.dc_types.specs.declared.event.Event.{Event}
use Rattle.dc_types.specs.declared.event.Limits.{Limits}
use Rattle.dc_types.specs.Events.{ticks, BeginsWith}
use Rattle.dc_code.specs.State.{End, Bound}
use Rattle.dc_code.specs.Exec.{Exec}
use Rattle.dc_code.specs.declared.code.Draft.{Draft}

-- What the bound n does to a run of an entry: it takes n ticks at most, and all n where it ends for want of one more.
-- A larger bound lengthens the list of events alone, and changes no end but that one.
pub record BoundsTicks (code : Draft) (entry : ℕ) (limits : Limits) (n : ℕ) (events : List Event) (end : End) : Type 0 where
  pub at_most : ticks events ≤ n
  pub all_taken : end ≡ Bound → ticks events ≡ n
  pub lengthened : (m : ℕ) (more : List Event) (other : End) → n ≤ m → Exec code entry limits m more other → BeginsWith events more
  pub stays : (m : ℕ) → n ≤ m → (end ≡ Bound → ⊥) → Exec code entry limits m events end

-- So it is with each run of any code.
abbrev pub TicksBound : Type 0
TicksBound = (code : Draft) (entry : ℕ) (limits : Limits) (n : ℕ) (events : List Event) (end : End) → Exec code entry limits n events end → BoundsTicks code entry limits n events end
