-- How a run came out, as its report says.
use Rattle.std.proofs.Common.{◌≡◌, ℕ, List, Option, sym, ap, ap₂, ◌∙◌, subst, ◌<◌}
use Rattle.std.specs.Prelude.{slice_get, Some}
use Rattle.dc_types.specs.declared.event.Limits.{Limits}
use Rattle.dc_code.specs.State.{End, Returned, Trapped, Bound, Run}
use Rattle.dc_code.specs.Exec.{steps, begin, taken_by, Takes}
use Rattle.dc_code.specs.declared.code.Draft.{Draft}
use Rattle.dc_code.specs.declared.instr.Instr.{Instr}
use Rattle.dc_machine.specs.declared.state.State.{State}
use Rattle.dc_machine.specs.declared.state.Halt.{Halt}
use Rattle.dc_machine.specs.declared.report.RunEnd.{RunEnd}
use Rattle.dc_machine.specs.declared.report.RunEnd.TheVariants as run
use Rattle.dc_machine.specs.Running.{end_at, Ended, Broken, BrokenAtPut, ComesToTake}
use Rattle.dc_machine.specs.Runs.{EndsSo, BreaksOff, BreaksAtPut, RanTo, Shows}

module _ (code : Draft) (entry : ℕ) (limits : Limits) (old new : Option (List ℕ)) where
  shown : (x : End) (end : RunEnd) → Shows x end → EndsSo code entry limits old new x → RanTo code entry limits old new end
  shown (Returned words blocks) (run.Value z) h s = record { words = words; blocks = blocks; number = h; so = s }
  shown (Trapped trap place) (run.Trapped t) h s = let P : End → Type 0 = EndsSo code entry limits old new in subst P (ap₂ (λ k p. Trapped k p) (sym h.0) (sym h.1)) s
  shown Bound run.Bound h s = s
  shown _ _ h s = absurd h

  module _ (from : Run) (is : from ≡ begin code entry limits.ticks) where
    pub ended : (halt : Halt) (m : State) (end : RunEnd) → Ended code limits halt from m old new → ((i : Instr) → slice_get code.instrs halt.pc ≡ Some i → Shows (end_at code i halt.stop m) end) → RanTo code entry limits old new end
    ended halt m end e shows = shown (end_at code e.instr halt.stop m) end (shows e.instr e.there) (record {
      events = e.events;
      exec = record { count = e.count; taken = e.taken; ends = ap (steps code limits e.count) (sym is) ∙ e.steps_are };
      put = e.put;
    })

    pub broken : Broken code limits from old new → BreaksOff code entry limits old new
    broken b = record {
      events = b.events;
      end = b.end;
      exec = record { count = b.count; taken = b.taken; ends = ap (steps code limits b.count) (sym is) ∙ b.steps_are };
      put = b.put;
    }

    pub broken_at_put : BrokenAtPut code limits from old new → BreaksAtPut code entry limits old new
    broken_at_put b = record {
      before = b.before;
      text = b.text;
      behind = b.behind;
      end = b.end;
      exec = record { count = b.count; taken = b.taken; ends = ap (steps code limits b.count) (sym is) ∙ b.steps_are };
      some = b.some;
      put = b.put;
    }

    pub takes : ComesToTake code limits from → Takes code entry limits limits.ticks
    takes t = let P : Run → Type 0 = λ r. 0 < taken_by (steps code limits t.count r) in record { count = t.count; some = subst P is t.some }
