-- What one instruction leads to, with what it shows put into the sink.
use Rattle.std.proofs.Common.{◌≡◌, ℕ, ◌+◌, ◌<◌, List, [], ◌∷◌, ◌++◌, length, Option, Some, None, refl, sym, ap, ap₂, ◌∙◌, subst, arith, append-nil, add-zero}
use Rattle.std.specs.Prelude.{slice_get, Result, Ok, Err, IfOk, OnErr}
use Rattle.std.specs.Io.KnownBytes.{Appends}
use Rattle.dc_edge.specs.Sink.{AppendsFront}
use Rattle.dc_types.specs.declared.event.TrapKind.TheVariants.{Depth}
use Rattle.dc_types.specs.declared.event.Event.{Event}
use Rattle.dc_types.specs.declared.event.Event.TheVariants.{Turn, Print}
use Rattle.dc_types.specs.declared.event.Limits.{Limits}
use Rattle.dc_code.specs.State.{Run, On, Done}
use Rattle.dc_code.specs.Exec.{at_instr, does, taken_by}
use Rattle.dc_code.specs.declared.code.Draft.{Draft}
use Rattle.dc_code.specs.declared.instr.Instr.{Instr}
use Rattle.dc_code.specs.declared.instr.Function.{Function}
use Rattle.dc_code.specs.declared.instr.Op.{Op}
use Rattle.dc_machine.specs.declared.state.State.{State}
use Rattle.dc_machine.specs.declared.state.Next.{Next}
use Rattle.dc_machine.specs.declared.state.Next.TheVariants.{Goes, Turns, Enters, Takes, Prints, Stops, TooDeep}
use Rattle.dc_machine.specs.declared.state.Stop.{Stop}
use Rattle.dc_machine.specs.declared.state.Stop.TheVariants as stop
use Rattle.dc_machine.specs.After.{machine_of, entering, stopped, Leads, Wants}
use Rattle.dc_types.specs.Events.{printed}
use Rattle.dc_machine.specs.Running.{Stepped, IsTaking, GoesOn, end_at, Halts, Breaks}

pub stepped : (code : Draft) (limits : Limits) (i : Instr) (o : Op) (m : State) (next : Next) (m' : State) → slice_get code.instrs m.pc ≡ Some i → o ≡ i.op → Leads code limits o m next m' → Stepped code limits m next m'
stepped code limits i o m next m' there is leads = record {
  instr = i;
  there = there;
  step_is = λ taken events.
      ap (λ j. at_instr code limits j (machine_of code m taken events)) there
      ∙ ap (λ o. does code limits (record { place = i.place; op = o }) (machine_of code m taken events)) (sym is)
      ∙ leads i.place taken events;
}

pub takes : (code : Draft) (limits : Limits) (i : Instr) (o : Op) (m : State) → slice_get code.instrs m.pc ≡ Some i → o ≡ i.op → Wants code limits o m → IsTaking code limits m
takes code limits i o m there is wants taken events =
    let e = ap (λ j. at_instr code limits j (machine_of code m taken events)) there ∙ ap (λ o. does code limits (record { place = i.place; op = o }) (machine_of code m taken events)) (sym is) in
    let P : Run → Type 0 = λ r. taken < taken_by r in
    subst P (sym e) (wants i.place taken events)

pub stepped_ok : {E : Type 0} (code : Draft) (limits : Limits) (i : Instr) (o : Op) (m : State) (r : Result Next E) (m' : State) → slice_get code.instrs m.pc ≡ Some i → o ≡ i.op → IfOk r (λ next. Leads code limits o m next m') → IfOk r (λ next. Stepped code limits m next m')
stepped_ok code limits i o m (Ok next) m' there is leads = stepped code limits i o m next m' there is leads
stepped_ok code limits i o m (Err error) m' there is leads = tt

pub takes_err : {E : Type 0} (code : Draft) (limits : Limits) (i : Instr) (o : Op) (m : State) (r : Result Next E) → slice_get code.instrs m.pc ≡ Some i → o ≡ i.op → OnErr r (Wants code limits o m) → OnErr r (IsTaking code limits m)
takes_err code limits i o m (Ok next) there is wants = tt
takes_err code limits i o m (Err error) there is wants = takes code limits i o m there is wants

pub same_appends : (a : Option (List ℕ)) → Appends a a []
same_appends None = tt
same_appends (Some xs) = sym (append-nil xs)

module _ (code : Draft) (limits : Limits) (m m' : State) (old : Option (List ℕ)) where
  pub goes : Stepped code limits m Goes m' → GoesOn code limits m m' old old
  goes s = record {
    more = [];
    count = 0;
    step_is = λ taken events. s.step_is taken events ∙ ap₂ (λ t es. On (machine_of code m' t es)) (sym (add-zero taken)) (sym (append-nil events));
    put = same_appends old;
  }

  pub turns : Stepped code limits m Turns m' → GoesOn code limits m m' old old
  turns s = record {
    more = Turn s.instr.place ∷ [];
    count = 0;
    step_is = λ taken events. s.step_is taken events ∙ ap (λ t. On (machine_of code m' t (events ++ Turn s.instr.place ∷ []))) (sym (add-zero taken));
    put = same_appends old;
  }

  no_print : (o : Option Function) → printed (entering o) ≡ []
  no_print None = refl
  no_print (Some f) = refl

  silent : (o : Option Function) → Appends old old (printed (entering o))
  silent o = subst (Appends old old) (sym (no_print o)) (same_appends old)

  pub enters : (f : ℕ) → Stepped code limits m (Enters f) m' → GoesOn code limits m m' old old
  enters f s = record {
    more = entering (slice_get code.functions f);
    count = 0;
    step_is = λ taken events. s.step_is taken events ∙ ap (λ t. On (machine_of code m' t (events ++ entering (slice_get code.functions f)))) (sym (add-zero taken));
    put = silent (slice_get code.functions f);
  }

  pub takes_some : Stepped code limits m Takes m' → GoesOn code limits m m' old old
  takes_some s = record {
    more = [];
    count = 1;
    step_is = λ taken events. s.step_is taken events ∙ ap (λ es. On (machine_of code m' (taken + 1) es)) (sym (append-nil events));
    put = same_appends old;
  }

  same_end : (i : Instr) (st : Stop) (taken : ℕ) (events : List Event) → stopped i.place st (machine_of code m' taken events) ≡ end_at code i st m'
  same_end i (stop.Returned s n) taken events = refl
  same_end i (stop.Trapped trap) taken events = refl
  same_end i stop.Bound taken events = refl

  pub stops : (st : Stop) → Stepped code limits m (Stops st) m' → Halts code limits (record { pc = m.pc; stop = st }) m m' old old
  stops st s = record {
    instr = s.instr;
    there = s.there;
    more = [];
    step_is = λ taken events. s.step_is taken events ∙ ap₂ (λ e es. Done e es taken) (same_end s.instr st taken events) (sym (append-nil events));
    put = same_appends old;
  }

  pub too_deep : (f : ℕ) → Stepped code limits m (TooDeep f) m' → Halts code limits (record { pc = m.pc; stop = stop.Trapped Depth }) m m' old old
  too_deep f s = record {
    instr = s.instr;
    there = s.there;
    more = entering (slice_get code.functions f);
    step_is = s.step_is;
    put = silent (slice_get code.functions f);
  }

-- ---- the pending text is put into the sink

module _ (code : Draft) (limits : Limits) (m x : State) (s : Stepped code limits m Prints x) where
  bytes_of : printed (Print x.pending.items ∷ []) ≡ x.pending.items
  bytes_of = append-nil x.pending.items

  pub prints : (m' : State) (old new : Option (List ℕ)) → m'.pc ≡ x.pc → m'.words ≡ x.words → m'.base ≡ x.base → m'.callers ≡ x.callers → m'.nest ≡ x.nest → m'.left ≡ x.left → m'.pending.items ≡ [] → Appends old new x.pending.items → GoesOn code limits m m' old new
  prints m' old new pc words base callers nest left empty put = record {
    more = Print x.pending.items ∷ [];
    count = 1;
    step_is = λ taken events. s.step_is taken events ∙ ap (λ m. On m) (sym (same taken (events ++ Print x.pending.items ∷ [])));
    put = subst (Appends old new) (sym bytes_of) put;
  }
    where
      same : (taken : ℕ) (events : List Event) → machine_of code m' (taken + 1) events ≡ record (machine_of code x (taken + 1) events) { pending = [] }
      same taken events = cc

  pub breaks : (old new : Option (List ℕ)) → 0 < length x.pending.items → AppendsFront old new x.pending.items → Breaks code limits m old new
  breaks old new some put = record {
    text = x.pending.items;
    some = some;
    next = λ taken events. record (machine_of code x (taken + 1) (events ++ Print x.pending.items ∷ [])) { pending = [] };
    step_is = s.step_is;
    events_are = λ taken events. refl;
    put = put;
  }

  pub wants : IsTaking code limits m
  wants taken events = let P : Run → Type 0 = λ r. taken < taken_by r in subst P (sym (s.step_is taken events)) (omega arith)
