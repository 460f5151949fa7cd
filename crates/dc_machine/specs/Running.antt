-- A run in its middle.
use Rattle.std.specs.Prelude.{◌≡◌, ℕ, ◌+◌, ◌<◌, ◌≤◌, List, [], ◌∷◌, ◌++◌, length, Option, Some, None, Result, Ok, Err, vec_capacity, slice_get}
use Rattle.std.specs.Io.KnownBytes.{Appends, Keeps}
use Rattle.dc_edge.specs.Sink.{AppendsFront}
use Rattle.dc_types.specs.declared.event.Event.{Event}
use Rattle.dc_types.specs.declared.event.Event.TheVariants.{Print}
use Rattle.dc_types.specs.declared.event.Limits.{Limits}
use Rattle.dc_code.specs.State.{Machine, End, Run, On, Done}
use Rattle.dc_code.specs.Exec.{step, steps, taken_by}
use Rattle.dc_code.specs.Standing.{Stands}
use Rattle.dc_code.specs.declared.code.Draft.{Draft}
use Rattle.dc_code.specs.declared.instr.Instr.{Instr}
use Rattle.dc_machine.specs.declared.state.State.{State}
use Rattle.dc_machine.specs.declared.state.Next.{Next}
use Rattle.dc_machine.specs.declared.state.Halt.{Halt}
use Rattle.dc_machine.specs.declared.state.Stop.{Stop}
use Rattle.dc_machine.specs.declared.state.Fault.{Fault}
use Rattle.dc_machine.specs.declared.state.Fault.TheVariants.{NoMemory, Failed}
use Rattle.dc_machine.specs.After.{machine_of, stopped, after}
use Rattle.dc_machine.specs.Runs.{TakesFrontAfter}
use Rattle.dc_types.specs.Events.{printed}

-- The machine stands between two instructions, with room for all frames that the limits allow.
pub record Ready (code : Draft) (limits : Limits) (m : State) : Type 0 where
  pub first : ℕ
  pub taken : ℕ
  pub events : List Event
  pub stands : Stands code limits first (machine_of code m taken events)
  pub words : first + limits.stack ≤ vec_capacity m.words
  pub callers : limits.depth ≤ vec_capacity m.callers

-- The same before the first instruction.
pub record Begins (code : Draft) (limits : Limits) (m : State) : Type 0 where
  pub first : ℕ
  pub stands : Stands code limits first (machine_of code m 0 [])
  pub words : first + limits.stack ≤ vec_capacity m.words
  pub callers : limits.depth ≤ vec_capacity m.callers

-- ---- one instruction

-- It leads there.
pub record Stepped (code : Draft) (limits : Limits) (m : State) (next : Next) (m' : State) : Type 0 where
  pub instr : Instr
  pub there : slice_get code.instrs m.pc ≡ Some instr
  pub step_is : (taken : ℕ) (events : List Event) → step code limits (machine_of code m taken events) ≡ after code instr.place next m' taken events

-- There was no memory for it, and it takes some.
abbrev pub IsTaking : Draft → Limits → State → Type 0
IsTaking code limits m = (taken : ℕ) (events : List Event) → taken < taken_by (step code limits (machine_of code m taken events))

-- The run goes on, after these events more, which went to the sink.
pub record GoesOn (code : Draft) (limits : Limits) (m m' : State) (old new : Option (List ℕ)) : Type 0 where
  pub more : List Event
  pub count : ℕ
  pub step_is : (taken : ℕ) (events : List Event) → step code limits (machine_of code m taken events) ≡ On (machine_of code m' (taken + count) (events ++ more))
  pub put : Appends old new (printed more)

-- how the run ends at an instruction
abbrev pub end_at : Draft → Instr → Stop → State → End
end_at code i stop m = stopped i.place stop (machine_of code m 0 [])

-- The run ends, after these events more.
pub record Halts (code : Draft) (limits : Limits) (halt : Halt) (m m' : State) (old new : Option (List ℕ)) : Type 0 where
  pub instr : Instr
  pub there : slice_get code.instrs halt.pc ≡ Some instr
  pub more : List Event
  pub step_is : (taken : ℕ) (events : List Event) → step code limits (machine_of code m taken events) ≡ Done (end_at code instr halt.stop m') (events ++ more) taken
  pub put : Appends old new (printed more)

-- A put failed: a text that isn't empty is printed, and the sink took a front of it.
pub record Breaks (code : Draft) (limits : Limits) (m : State) (old new : Option (List ℕ)) : Type 0 where
  pub text : List ℕ
  pub some : 0 < length text
  pub next : ℕ → List Event → Machine
  pub step_is : (taken : ℕ) (events : List Event) → step code limits (machine_of code m taken events) ≡ On (next taken events)
  pub events_are : (taken : ℕ) (events : List Event) → (next taken events).events ≡ events ++ Print text ∷ []
  pub put : AppendsFront old new text

abbrev pub Advances : Draft → Limits → State → State → Option (List ℕ) → Option (List ℕ) → Result (Option Halt) Fault → Type 0
Advances code limits m m' old new (Ok None) = GoesOn code limits m m' old new
Advances code limits m m' old new (Ok (Some halt)) = Halts code limits halt m m' old new
Advances code limits m m' old new (Err NoMemory) = IsTaking code limits m × Keeps old new
Advances code limits m m' old new (Err Failed) = Breaks code limits m old new

-- ---- a run

-- It ends so at an instruction, and what its events print went to the sink.
pub record Ended (code : Draft) (limits : Limits) (halt : Halt) (from : Run) (m' : State) (old new : Option (List ℕ)) : Type 0 where
  pub instr : Instr
  pub there : slice_get code.instrs halt.pc ≡ Some instr
  pub count : ℕ
  pub events : List Event
  pub taken : ℕ
  pub steps_are : steps code limits count from ≡ Done (end_at code instr halt.stop m') events taken
  pub put : Appends old new (printed events)

-- It would end in some way, and of what its events print a front went to the sink.
pub record Broken (code : Draft) (limits : Limits) (from : Run) (old new : Option (List ℕ)) : Type 0 where
  pub count : ℕ
  pub events : List Event
  pub end : End
  pub taken : ℕ
  pub steps_are : steps code limits count from ≡ Done end events taken
  pub put : AppendsFront old new (printed events)

-- It prints a text that isn't empty. The sink took what was printed before, and a front of it.
pub record BrokenAtPut (code : Draft) (limits : Limits) (from : Run) (old new : Option (List ℕ)) : Type 0 where
  pub count : ℕ
  pub before : List Event
  pub text : List ℕ
  pub behind : List Event
  pub end : End
  pub taken : ℕ
  pub steps_are : steps code limits count from ≡ Done end (before ++ Print text ∷ behind) taken
  pub some : 0 < length text
  pub put : TakesFrontAfter old new (printed before) text

-- It comes to an instruction that takes memory.
pub record ComesToTake (code : Draft) (limits : Limits) (from : Run) : Type 0 where
  pub count : ℕ
  pub some : 0 < taken_by (steps code limits count from)

abbrev pub Runs : Draft → Limits → Run → State → Option (List ℕ) → Option (List ℕ) → Result Halt Fault → Type 0
Runs code limits from m' old new (Ok halt) = Ended code limits halt from m' old new
Runs code limits from m' old new (Err NoMemory) = Broken code limits from old new × ComesToTake code limits from
Runs code limits from m' old new (Err Failed) = BrokenAtPut code limits from old new

-- After some instructions the run has come to the machine's state.
pub record Comes (code : Draft) (limits : Limits) (from : Run) (m : State) (old new : Option (List ℕ)) : Type 0 where
  pub ready : Ready code limits m
  pub leads : (r : ℕ) → (k : ℕ) × (steps code limits k from ≡ steps code limits r (On (machine_of code m ready.taken ready.events)))
  pub put : Appends old new (printed ready.events)
