-- A run, one instruction after another.
use Rattle.std.proofs.Common.{◌≡◌, ℕ, suc, ◌+◌, ◌<◌, List, [], ◌∷◌, ◌++◌, Option, Some, None, refl, sym, ap, ◌∙◌, subst, arith, append_assoc}
use Rattle.std.specs.Prelude.{Err}
use Rattle.std.specs.Io.KnownBytes.{Appends, Keeps}
use Rattle.dc_edge.specs.Sink.{AppendsFront}
use Rattle.dc_types.specs.declared.event.Event.{Event}
use Rattle.dc_types.specs.declared.event.Event.TheVariants.{Print}
use Rattle.dc_types.specs.declared.event.Limits.{Limits}
use Rattle.dc_code.specs.State.{Machine, Run, On, Done}
use Rattle.dc_code.specs.Exec.{steps, taken_by}
use Rattle.dc_code.specs.Standing.{rank}
use Rattle.dc_code.specs.Laws.{EndsFrom, KeepsStanding}
use Rattle.dc_code.specs.declared.code.Draft.{Draft}
use Rattle.dc_machine.specs.declared.state.State.{State}
use Rattle.dc_machine.specs.declared.state.Halt.{Halt}
use Rattle.dc_machine.specs.declared.state.Fault.{Fault}
use Rattle.dc_machine.specs.declared.state.Fault.TheVariants.{NoMemory, Failed}
use Rattle.dc_machine.specs.After.{KeepsRoom, machine_of}
use Rattle.dc_types.specs.Events.{bytes_of, printed}
use Rattle.dc_machine.specs.Runs.{TakesFrontAfter}
use Rattle.dc_machine.specs.Running.{Ready, Begins, IsTaking, GoesOn, Halts, Breaks, Advances, Ended, Broken, BrokenAtPut, ComesToTake, Runs, Comes}
use Rattle.dc_machine.proofs.Advance.{same_appends}

printed-append : (xs ys : List Event) → printed (xs ++ ys) ≡ printed xs ++ printed ys
printed-append [] ys = refl
printed-append (x ∷ xs) ys = ap (λ l. bytes_of x ++ l) (printed-append xs ys) ∙ sym (append_assoc (bytes_of x) (printed xs) (printed ys))

-- ---- bytes

appends_more : (a b c : Option (List ℕ)) (x y : List ℕ) → Appends a b x → Appends b c y → Appends a c (x ++ y)
appends_more None b c x y p q = tt
appends_more (Some xs) None c x y p q = absurd p
appends_more (Some xs) (Some ys) None x y p q = q
appends_more (Some xs) (Some ys) (Some zs) x y p q = q ∙ ap (λ l. l ++ y) p ∙ append_assoc xs x y

appends_kept : (a b c : Option (List ℕ)) (x : List ℕ) → Appends a b x → Keeps b c → Appends a c x
appends_kept None b c x p k = tt
appends_kept (Some xs) None c x p k = absurd p
appends_kept (Some xs) (Some ys) None x p k = k
appends_kept (Some xs) (Some ys) (Some zs) x p k = k ∙ p

module _ (old mid new : Option (List ℕ)) (events : List Event) (put : Appends old mid (printed events)) where
  all_put : (more : List Event) → Appends mid new (printed more) → Appends old new (printed (events ++ more))
  all_put more q = subst (Appends old new) (sym (printed-append events more)) (appends_more old mid new (printed events) (printed more) put q)

  front_put : (text : List ℕ) → AppendsFront mid new text → TakesFrontAfter old new (printed events) text
  front_put text q = record {
    front = q.front;
    back = q.back;
    split = q.split;
    appended = appends_more old mid new (printed events) q.front put q.appended;
  }

  kept_put : (rest : List Event) → Keeps mid new → AppendsFront old new (printed (events ++ rest))
  kept_put rest k = record {
    front = printed events;
    back = printed rest;
    split = printed-append events rest;
    appended = appends_kept old mid new (printed events) put k;
  }

-- ---- instructions

module _ (code : Draft) (limits : Limits) (from : Run) (m : State) (old mid : Option (List ℕ)) (c : Comes code limits from m old mid) (laws : (first : ℕ) → KeepsStanding code limits first) where
  abbrev r : Ready code limits m
  r = c.ready

  abbrev here : Machine
  here = machine_of code m r.taken r.events

  pub goes_on : (m' : State) (new : Option (List ℕ)) → GoesOn code limits m m' mid new → KeepsRoom m m' → Comes code limits from m' old new
  goes_on m' new g room = record {
    ready = record {
      first = r.first;
      taken = r.taken + g.count;
      events = r.events ++ g.more;
      stands = (laws r.first).keeps here (machine_of code m' (r.taken + g.count) (r.events ++ g.more)) r.stands (g.step_is r.taken r.events);
      words = omega (arith, r.words, room.words);
      callers = omega (arith, r.callers, room.callers);
    };
    leads = λ n. let k = c.leads (suc n) in (k.0, k.1 ∙ ap (steps code limits n) (g.step_is r.taken r.events));
    put = all_put old mid new r.events c.put g.more g.put;
  }

  pub rank_falls : (m' : State) (new : Option (List ℕ)) → GoesOn code limits m m' mid new → rank code (machine_of code m' 0 []) < rank code (machine_of code m 0 [])
  rank_falls m' new g = (laws r.first).falls here (machine_of code m' (r.taken + g.count) (r.events ++ g.more)) r.stands (g.step_is r.taken r.events)

  pub halts : (halt : Halt) (m' : State) (new : Option (List ℕ)) → Halts code limits halt m m' mid new → Ended code limits halt from m' old new
  halts halt m' new h =
      let k = c.leads 1 in
      record {
        instr = h.instr;
        there = h.there;
        count = k.0;
        events = r.events ++ h.more;
        taken = r.taken;
        steps_are = k.1 ∙ h.step_is r.taken r.events;
        put = all_put old mid new r.events c.put h.more h.put;
      }

  pub breaks : (new : Option (List ℕ)) → Breaks code limits m mid new → BrokenAtPut code limits from old new
  breaks new b =
      let x : Machine = b.next r.taken r.events in
      let e = b.step_is r.taken r.events in
      let end : EndsFrom code limits x = (laws r.first).ends x ((laws r.first).keeps here x r.stands e) in
      let k = c.leads (suc end.count) in
      record {
        count = k.0;
        before = r.events;
        text = b.text;
        behind = end.more;
        end = end.end;
        taken = end.taken;
        steps_are = k.1 ∙ ap (steps code limits end.count) e ∙ end.ends ∙ ap (λ es. Done end.end es end.taken) (ap (λ es. es ++ end.more) (b.events_are r.taken r.events) ∙ append_assoc r.events (Print b.text ∷ []) end.more);
        some = b.some;
        put = front_put old mid new r.events c.put b.text b.put;
      }

  pub wants : (new : Option (List ℕ)) → IsTaking code limits m → Keeps mid new → Broken code limits from old new × ComesToTake code limits from
  wants new t kept =
      let end : EndsFrom code limits here = (laws r.first).ends here r.stands in
      let k = c.leads end.count in
      let j = c.leads 1 in
      let P : Run → Type 0 = λ q. 0 < taken_by q in (
        record {
          count = k.0;
          events = r.events ++ end.more;
          end = end.end;
          taken = end.taken;
          steps_are = k.1 ∙ end.ends;
          put = kept_put old mid new r.events c.put end.more kept;
        },
        record { count = j.0; some = subst P (sym j.1) (omega (arith, t r.taken r.events)) },
      )

  pub fails : (fault : Fault) (m' : State) (new : Option (List ℕ)) → Advances code limits m m' mid new (Err fault) → Runs code limits from m' old new (Err fault)
  fails NoMemory m' new a = wants new a.0 a.1
  fails Failed m' new a = breaks new a

pub comes : (code : Draft) (limits : Limits) (m : State) (old : Option (List ℕ)) → Begins code limits m → Comes code limits (On (machine_of code m 0 [])) m old old
comes code limits m old b = record {
  ready = record { first = b.first; taken = 0; events = []; stands = b.stands; words = b.words; callers = b.callers };
  leads = λ r. (r, refl);
  put = same_appends old;
}
