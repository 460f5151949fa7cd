-- Laws of the machine.
use Rattle.std.specs.Prelude.{◌≡◌, ℕ, ◌<◌, ◌≤◌, List, ◌++◌, Some, slice_get}
use Rattle.dc_types.specs.declared.event.Event.{Event}
use Rattle.dc_types.specs.declared.event.Limits.{Limits}
use Rattle.dc_code.specs.State.{Machine, End, Stuck, On, Done}
use Rattle.dc_code.specs.Exec.{step, steps, start, Exec}
use Rattle.dc_code.specs.Standing.{Stands, rank}
use Rattle.dc_code.specs.declared.instr.Function.{Function}
use Rattle.dc_code.specs.declared.code.Draft.{Draft}

-- A run has one end and one list of events.
abbrev pub RunsOnce : Type 0
RunsOnce = (code : Draft) (entry : ℕ) (limits : Limits) (n : ℕ) (xs ys : List Event) (d e : End) → Exec code entry limits n xs d → Exec code entry limits n ys e → (xs ≡ ys) × (d ≡ e)

-- how a run ends from here: after more events, with no fewer instructions that take memory, and not stuck
pub record EndsFrom (code : Draft) (limits : Limits) (m : Machine) : Type 0 where
  pub count : ℕ
  pub end : End
  pub more : List Event
  pub taken : ℕ
  pub ends : steps code limits count (On m) ≡ Done end (m.events ++ more) taken
  pub counts : m.taken ≤ taken
  pub not_stuck : end ≡ Stuck → ⊥

-- Sound code never gets stuck: the run of each entry, within any limits and any number of ticks, ends otherwise.
pub record EndsWell (code : Draft) (entry : ℕ) (limits : Limits) (n : ℕ) : Type 0 where
  pub events : List Event
  pub end : End
  pub run : Exec code entry limits n events end
  pub not_stuck : end ≡ Stuck → ⊥

-- what one instruction of sound code keeps
pub record KeepsStanding (code : Draft) (limits : Limits) (first : ℕ) : Type 0 where
  -- a run begins well
  pub begins : (n k : ℕ) (f : Function) → slice_get code.functions k ≡ Some f → f.weight ≡ first → Stands code limits first (start code n f)
  pub keeps : (m m' : Machine) → Stands code limits first m → step code limits m ≡ On m' → Stands code limits first m'
  pub falls : (m m' : Machine) → Stands code limits first m → step code limits m ≡ On m' → rank code m' < rank code m
  pub ends : (m : Machine) → Stands code limits first m → EndsFrom code limits m
