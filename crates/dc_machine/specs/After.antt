-- The machine's state, as the machine that runs code by its rules, and what an instruction leads to.
use Rattle.std.specs.Prelude.{◌≡◌, ℕ, ◌+◌, ◌<◌, ◌≤◌, vec_capacity, List, [], ◌∷◌, ◌++◌, Option, Some, None, reverse, take, drop, slice_get}
use Rattle.dc_types.specs.declared.place.Place.{Place}
use Rattle.dc_types.specs.declared.event.TrapKind.TheVariants.{Depth}
use Rattle.dc_types.specs.declared.event.Event.{Event}
use Rattle.dc_types.specs.declared.event.Event.TheVariants.{Enter, Turn, Print}
use Rattle.dc_types.specs.declared.event.Limits.{Limits}
use Rattle.dc_code.specs.State.{Machine, End, Returned, Trapped, Bound, Run, On, Done}
use Rattle.dc_code.specs.Blocks.{words_in}
use Rattle.dc_code.specs.Exec.{first_blocks, does, taken_by}
use Rattle.dc_code.specs.declared.code.Draft.{Draft}
use Rattle.dc_code.specs.declared.run.Caller.{Caller}
use Rattle.dc_code.specs.declared.instr.Function.{Function}
use Rattle.dc_code.specs.declared.instr.Op.{Op}
use Rattle.dc_code.specs.declared.instr.Op.TheVariants as op
pub use Rattle.dc_code.specs.Simple.{IsSimple}
use Rattle.dc_machine.specs.declared.state.State.{State}
use Rattle.dc_machine.specs.declared.state.Next.{Next}
use Rattle.dc_machine.specs.declared.state.Next.TheVariants.{Goes, Turns, Enters, Takes, Prints, Stops, TooDeep}
use Rattle.dc_machine.specs.declared.state.Stop.{Stop}
use Rattle.dc_machine.specs.declared.state.Stop.TheVariants as stop

abbrev pub machine_of : Draft → State → ℕ → List Event → Machine
machine_of code s taken events = record {
  pc = s.pc;
  words = s.words.items;
  base = s.base;
  callers = reverse s.callers.items;
  nest = s.nest;
  blocks = first_blocks code;
  cells = 0;
  pending = s.pending.items;
  left = s.left;
  taken = taken;
  events = events;
}

abbrev pub entering : Option Function → List Event
entering None = []
entering (Some f) = Enter f.place ∷ []

abbrev pub stopped : Place → Stop → Machine → End
stopped place (stop.Returned s n) m = Returned (words_in m s n) m.blocks
stopped place (stop.Trapped trap) m = Trapped trap place
stopped place stop.Bound m = Bound

-- what an instruction at a place leads to
abbrev pub after : Draft → Place → Next → State → ℕ → List Event → Run
after code place Goes s taken events = On (machine_of code s taken events)
after code place Turns s taken events = On (machine_of code s taken (events ++ Turn place ∷ []))
after code place (Enters f) s taken events = On (machine_of code s taken (events ++ entering (slice_get code.functions f)))
after code place Takes s taken events = On (machine_of code s (taken + 1) events)
after code place Prints s taken events = On (record (machine_of code s (taken + 1) (events ++ Print s.pending.items ∷ [])) { pending = [] })
after code place (Stops stop) s taken events = Done (stopped place stop (machine_of code s taken events)) events taken
after code place (TooDeep f) s taken events = Done (Trapped Depth place) (events ++ entering (slice_get code.functions f)) taken

-- An instruction leads there, wherever it stands and whatever came before.
abbrev pub Leads : Draft → Limits → Op → State → Next → State → Type 0
Leads code limits o old next new = (place : Place) (taken : ℕ) (events : List Event) →
    does code limits (record { place = place; op = o }) (machine_of code old taken events) ≡ after code place next new taken events

-- the same of an instruction that reads neither code nor limits
abbrev pub Does : Op → State → Next → State → Type 0
Does o old next new = (code : Draft) (limits : Limits) → Leads code limits o old next new

-- There is as much room for frames and calls.
pub record KeepsRoom (old new : State) : Type 0 where
  pub words : vec_capacity old.words ≤ vec_capacity new.words
  pub callers : vec_capacity old.callers ≤ vec_capacity new.callers

-- A return's words fit the caller's frame, if a call waits.
abbrev pub ReturnsFitBack : Op → List Caller → ℕ → Type 0
ReturnsFitBack (op.Return s n) callers base = (c : Caller) (cs : List Caller) → callers ≡ c ∷ cs → c.base + c.slot + n ≤ base
ReturnsFitBack _ callers base = Unit {0}

-- The instruction takes memory, whatever came before.
abbrev pub Wants : Draft → Limits → Op → State → Type 0
Wants code limits o m = (place : Place) (taken : ℕ) (events : List Event) → taken < taken_by (does code limits (record { place = place; op = o }) (machine_of code m taken events))

-- so many words of the last frame, from a slot on
abbrev pub frame_words : State → ℕ → ℕ → List ℕ
frame_words s slot n = take n (drop (s.base + slot) s.words.items)
