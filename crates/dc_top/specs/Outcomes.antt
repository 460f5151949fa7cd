-- What the run of a program does within a bound of ticks, and how it ends.
use Rattle.std.specs.Prelude.{◌≡◌, ℕ, ◌<◌, ◌∷◌, [], ◌++◌, List, length, Option, Some, None, ℤ, pos, Result, Ok, Err}
use Rattle.std.specs.Io.KnownBytes.{Appends}
use Rattle.dc_types.specs.declared.kind.Kind.TheVariants as kind
use Rattle.dc_types.specs.declared.ty.Ty.{Ty}
use Rattle.dc_types.specs.declared.ty.Ty.TheOpen.{Ty-F}
use Rattle.dc_types.specs.declared.ty.Ty.TheViews.{out-Ty}
use Rattle.dc_value.specs.declared.value.Value.{Value}
use Rattle.dc_types.specs.declared.event.Event.{Event}
use Rattle.dc_types.specs.declared.event.Event.TheVariants.{Print}
use Rattle.dc_types.specs.declared.event.Limits.{Limits}
use Rattle.dc_types.specs.Events.{printed}
use Rattle.dc_types.specs.Integers.{wrap}
use Rattle.dc_edge.specs.Sink.{AppendsFront}
use Rattle.dc_edge.specs.declared.sink.SinkFault.{SinkFault}
use Rattle.dc_edge.specs.declared.sink.SinkFault.TheVariants as sink
use Rattle.dc_machine.specs.Runs.{TakesFrontAfter}
use Rattle.core_tree.specs.Values.{number_in}
use Rattle.core_tree.specs.Nodes.{own_type}
use Rattle.core_tree.specs.Typed.{AreTyped}
use Rattle.core_tree.specs.Meaning as meaning
use Rattle.dc_top.specs.declared.program.Program.{Program}
use Rattle.dc_top.specs.declared.program.Ending.{Ending}
use Rattle.dc_top.specs.declared.program.Ending.TheVariants as ending

-- the bodies and the start are typed, closed, and within the limit on weights
abbrev pub IsTypedProgram : Program → Type 0
IsTypedProgram program = AreTyped program.bodies (program.start ∷ [])

-- the limits of a run in at most n ticks
abbrev pub limits_of : ℕ → Limits
limits_of n = record { ticks = n; cells = 16777216; depth = 10000; stack = 4194304 }

-- what a program means within n ticks
unfoldable pub outcome_of : Program → ℕ → meaning.Outcome
outcome_of program n = meaning.meaning program.bodies program.start (limits_of n) n

-- the number, as a `long`, that a value of a type is, and 0 for a value of `void`
abbrev pub number_by : Ty-F Ty → Value → ℤ
number_by (Ty-F.Int k) v = wrap kind.I64 (number_in v)
number_by _ v = pos 0

-- A meaning's end as that of a run. Closed trees have one: they never come to a call of a function without a body.
abbrev pub ending_by : Ty → meaning.End → Option Ending
ending_by ty (meaning.Gave v) = Some (ending.Number (number_by (out-Ty ty) v))
ending_by ty (meaning.Trapped trap place) = Some (ending.Trapped (record { kind = trap; place = place }))
ending_by ty meaning.Bound = Some ending.Bound
ending_by ty (meaning.Missing f) = None

-- how the run of a program in at most n ticks ends
unfoldable pub ending_of : Program → ℕ → Option Ending
ending_of program n = ending_by (own_type program.start) (outcome_of program n).end

-- what it prints
unfoldable pub output_of : Program → ℕ → List ℕ
output_of program n = printed (outcome_of program n).events

-- ---- a run over a sink

-- The run ended so, and the sink took what it prints.
pub record Ends (program : Program) (n : ℕ) (old new : Option (List ℕ)) (ending : Ending) : Type 0 where
  pub ended : ending_of program n ≡ Some ending
  pub put : Appends old new (output_of program n)

-- The program prints a text that isn't empty. The sink took all that is printed before, and a front of this text.
pub record BreaksAtPut (program : Program) (n : ℕ) (old new : Option (List ℕ)) : Type 0 where
  pub before : List Event
  pub text : List ℕ
  pub behind : List Event
  pub events : (outcome_of program n).events ≡ before ++ Print text ∷ behind
  pub some : 0 < length text
  pub put : TakesFrontAfter old new (printed before) text

-- What a run comes to. After want of memory the sink took a front of what the program prints.
abbrev pub RanSo : Program → ℕ → Option (List ℕ) → Option (List ℕ) → Result Ending SinkFault → Type 0
RanSo program n old new (Ok ending) = Ends program n old new ending
RanSo program n old new (Err sink.Failed) = BreaksAtPut program n old new
RanSo program n old new (Err sink.NoMemory) = AppendsFront old new (output_of program n)
