-- What a run of an entry comes to.
use Rattle.std.specs.Prelude.{◌≡◌, ℕ, ◌<◌, ℤ, List, [], ◌∷◌, ◌++◌, length, Option}
use Rattle.std.specs.Io.KnownBytes.{Appends}
use Rattle.dc_edge.specs.Sink.{AppendsFront}
use Rattle.dc_types.specs.declared.kind.Kind.TheVariants as kind
use Rattle.dc_types.specs.declared.event.Event.{Event}
use Rattle.dc_types.specs.declared.event.Event.TheVariants.{Print}
use Rattle.dc_types.specs.declared.event.Limits.{Limits}
use Rattle.dc_code.specs.State.{End, Returned, Trapped, Bound}
use Rattle.dc_code.specs.Numbers.{number_of}
use Rattle.dc_code.specs.Exec.{Exec, Takes}
use Rattle.dc_code.specs.declared.code.Draft.{Draft}
use Rattle.dc_code.specs.declared.run.Block.{Block}
use Rattle.dc_machine.specs.declared.report.RunEnd.{RunEnd}
use Rattle.dc_machine.specs.declared.report.RunEnd.TheVariants as run
use Rattle.dc_types.specs.Events.{printed}

-- The run ends so, and what its events print went to the sink.
pub record EndsSo (code : Draft) (entry : ℕ) (limits : Limits) (old new : Option (List ℕ)) (end : End) : Type 0 where
  pub events : List Event
  pub exec : Exec code entry limits limits.ticks events end
  pub put : Appends old new (printed events)

-- The run would end in some way, and of what its events print a front went to the sink.
pub record BreaksOff (code : Draft) (entry : ℕ) (limits : Limits) (old new : Option (List ℕ)) : Type 0 where
  pub events : List Event
  pub end : End
  pub exec : Exec code entry limits limits.ticks events end
  pub put : AppendsFront old new (printed events)

-- The sink took the first bytes whole, and a front of those behind them.
pub record TakesFrontAfter (old new : Option (List ℕ)) (first bytes : List ℕ) : Type 0 where
  pub front : List ℕ
  pub back : List ℕ
  pub split : bytes ≡ front ++ back
  pub appended : Appends old new (first ++ front)

-- The run prints a text that isn't empty. The sink took all that was printed before, and a front of this text.
pub record BreaksAtPut (code : Draft) (entry : ℕ) (limits : Limits) (old new : Option (List ℕ)) : Type 0 where
  pub before : List Event
  pub text : List ℕ
  pub behind : List Event
  pub end : End
  pub exec : Exec code entry limits limits.ticks (before ++ Print text ∷ behind) end
  pub some : 0 < length text
  pub put : TakesFrontAfter old new (printed before) text

-- the first word of a value, or 0 where it has none
abbrev pub first_of : List ℕ → ℕ
first_of [] = 0
first_of (w ∷ ws) = w

-- A run that ends with this number ends with a value whose first word, as a `long`, is that number.
pub record EndsWith (code : Draft) (entry : ℕ) (limits : Limits) (old new : Option (List ℕ)) (z : ℤ) : Type 0 where
  pub words : List ℕ
  pub blocks : List Block
  pub number : z ≡ number_of kind.I64 (first_of words)
  pub so : EndsSo code entry limits old new (Returned words blocks)

-- A put fails only where there is something to put, and want of memory comes only where the run comes to an
-- instruction that takes some.
abbrev pub RanTo : Draft → ℕ → Limits → Option (List ℕ) → Option (List ℕ) → RunEnd → Type 0
RanTo code entry limits old new (run.Value z) = EndsWith code entry limits old new z
RanTo code entry limits old new (run.Trapped trap) = EndsSo code entry limits old new (Trapped trap.kind trap.place)
RanTo code entry limits old new run.Bound = EndsSo code entry limits old new Bound
RanTo code entry limits old new run.WriteFault = BreaksAtPut code entry limits old new
RanTo code entry limits old new run.NoMemory = BreaksOff code entry limits old new × Takes code entry limits limits.ticks

-- how the report shows an end
abbrev pub Shows : End → RunEnd → Type 0
Shows (Returned words blocks) (run.Value z) = z ≡ number_of kind.I64 (first_of words)
Shows (Trapped trap place) (run.Trapped t) = (t.kind ≡ trap) × (t.place ≡ place)
Shows Bound run.Bound = Unit {0}
Shows _ _ = ⊥
