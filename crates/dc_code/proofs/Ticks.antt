-- A run takes as many ticks as its events show, and more ticks only lengthen it.
use Rattle.std.proofs.Common.{◌≡◌, ℕ, zero, suc, ◌+◌, ◌-◌, ◌≤◌, Bool, true, false, nat_lt, List, [], ◌∷◌, ◌++◌, length, Option, Some, None, refl, sym, ap, ◌∙◌, subst, arith, append-nil, append_assoc}
use Rattle.std.specs.Prelude.{slice_get, if◌then◌else◌}
use Rattle.dc_types.specs.declared.place.Place.{Place}
use Rattle.dc_types.specs.declared.event.TrapKind.{TrapKind}
use Rattle.dc_types.specs.declared.event.TrapKind.TheVariants.{Heap, Depth}
use Rattle.dc_types.specs.declared.event.Event.{Event}
use Rattle.dc_types.specs.declared.event.Event.TheVariants.{Enter, Turn, Print}
use Rattle.dc_types.specs.declared.event.Limits.{Limits}
use Rattle.dc_code.specs.State.{Machine, End, Returned, Trapped, Bound, Stuck, Run, On, Done}
use Rattle.dc_code.specs.Effect.{Effect, Writes, Goes, Turns, Calls, Returns, Changes, Makes, Lengthens, Prints, Flushes, Traps, Sticks}
use Rattle.dc_code.specs.Table.{effect, is_taking}
use Rattle.dc_code.specs.Perform.{ended, ticked_by, is_too_deep, entered, back_to, changes, with_longer, with_words, perform}
use Rattle.dc_code.specs.Exec.{counted, at_instr, step, steps, start, begin_at, begin, function_at, Exec}
use Rattle.dc_types.specs.Events.{ticks_of, ticks, BeginsWith}
use Rattle.dc_types.proofs.Ticks.{ticks-append}
use Rattle.dc_code.specs.Ticks.{BoundsTicks, TicksBound}
use Rattle.dc_code.specs.declared.instr.Op.{Op}
use Rattle.dc_code.specs.declared.instr.Op.TheVariants as op
use Rattle.dc_code.specs.declared.instr.Instr.{Instr}
use Rattle.dc_code.specs.declared.instr.Function.{Function}
use Rattle.dc_code.specs.declared.code.Draft.{Draft}
use Rattle.dc_code.specs.declared.run.Caller.{Caller}
use Rattle.dc_code.specs.declared.run.Block.{Block}
use Rattle.dc_code.proofs.Once.{events_of, end_of_run, stays, longer}

-- ---- what ticks are taken from one state of the machine on

-- The machine has come to x after more events, which took the ticks that it has less.
pub record GoesOn (m x : Machine) : Type 0 where
  pub more : List Event
  pub events : x.events ≡ m.events ++ more
  pub left : ticks more + x.left ≡ m.left

pub record ComesTo (m : Machine) (end : End) (events : List Event) : Type 0 where
  pub more : List Event
  pub events_are : events ≡ m.events ++ more
  pub at_most : ticks more ≤ m.left
  pub all_taken : end ≡ Bound → ticks more ≡ m.left

abbrev Onward : Machine → Run → Type 0
Onward m (On x) = GoesOn m x
Onward m (Done end events taken) = ComesTo m end events

trap_is_not_bound : (trap : TrapKind) (place : Place) → Trapped trap place ≡ Bound → ⊥
trap_is_not_bound trap place e = cc

stuck_is_not_bound : Stuck ≡ Bound → ⊥
stuck_is_not_bound e = cc

value_is_not_bound : (ws : List ℕ) (blocks : List Block) → Returned ws blocks ≡ Bound → ⊥
value_is_not_bound ws blocks e = cc

-- with no event, with a print, and with an event that takes a tick
quiet : (m x : Machine) → x.left ≡ m.left → x.events ≡ m.events → GoesOn m x
quiet m x l e = record { more = []; events = e ∙ sym (append-nil m.events); left = omega (arith, l) }

printing : (m x : Machine) (text : List ℕ) → x.left ≡ m.left → x.events ≡ m.events ++ Print text ∷ [] → GoesOn m x
printing m x text l e = record { more = Print text ∷ []; events = e; left = omega (arith, l) }

ticking : (m x : Machine) (event : Event) → ticks_of event ≡ 1 → suc x.left ≡ m.left → x.events ≡ m.events ++ event ∷ [] → GoesOn m x
ticking m x event t l e = record { more = event ∷ []; events = e; left = omega (arith, t, l) }

ends : (m : Machine) (end : End) → (end ≡ Bound → ⊥) → ComesTo m end m.events
ends m end h = record { more = []; events_are = sym (append-nil m.events); at_most = omega arith; all_taken = λ e. absurd (h e) }

ends_late : (m : Machine) (end : End) (n : ℕ) (event : Event) → ticks_of event ≡ 1 → m.left ≡ suc n → (end ≡ Bound → ⊥) → ComesTo m end (m.events ++ event ∷ [])
ends_late m end n event t l h = record { more = event ∷ []; events_are = refl; at_most = omega (arith, t, l); all_taken = λ e. absurd (h e) }

runs_out : (m : Machine) → m.left ≡ 0 → ComesTo m Bound m.events
runs_out m l = record { more = []; events_are = sym (append-nil m.events); at_most = omega arith; all_taken = λ e. sym l }

module _ (limits : Limits) where
  by_test : (m : Machine) (b : Bool) (r q : Run) → Onward m r → Onward m q → Onward m (if b then r else q)
  by_test m true r q h k = h
  by_test m false r q h k = k

  turns_by : (place : Place) (m : Machine) (l : ℕ) → m.left ≡ l → Onward m (ticked_by l (Turn place) m (λ m. On (record m { pc = m.pc + 1 })))
  turns_by place m zero e = runs_out m e
  turns_by place m (suc n) e = ticking m _ (Turn place) refl (sym e) refl

  calls_by : (place : Place) (f : Function) (a d : ℕ) (m : Machine) (l : ℕ) → m.left ≡ l → Onward m (ticked_by l (Enter f.place) m (λ m. if is_too_deep limits m.nest f.weight then ended (Trapped Depth place) m else On (entered f a d m)))
  calls_by place f a d m zero e = runs_out m e
  calls_by place f a d m (suc n) e = by_test m (is_too_deep limits m.nest f.weight) _ _ (ends_late m (Trapped Depth place) n (Enter f.place) refl e (trap_is_not_bound Depth place)) (ticking m _ (Enter f.place) refl (sym e) refl)

  returns_by : (cs : List Caller) (ws : List ℕ) (m : Machine) → Onward m (back_to cs ws m)
  returns_by [] ws m = ends m (Returned ws m.blocks) (value_is_not_bound ws m.blocks)
  returns_by (c ∷ cs) ws m = quiet m _ refl refl

  changes_by : (block start : ℕ) (ws : List ℕ) (m : Machine) → GoesOn m (changes block start ws m)
  changes_by zero start ws m = quiet m _ refl refl
  changes_by (suc b) start ws m = quiet m _ refl refl

  lengthens_by : (block : ℕ) (ws : List ℕ) (m x : Machine) → x.left ≡ m.left → x.events ≡ m.events → GoesOn m (with_longer block ws x)
  lengthens_by zero ws m x l e = quiet m x l e
  lengthens_by (suc b) ws m x l e = quiet m _ l e

  performs : (place : Place) (e : Effect) (m : Machine) → Onward m (perform limits place e m)
  performs place (Writes d ws) m = quiet m _ refl refl
  performs place (Goes t) m = quiet m _ refl refl
  performs place Turns m = turns_by place m m.left refl
  performs place (Calls f a d) m = calls_by place f a d m m.left refl
  performs place (Returns ws) m = returns_by m.callers ws m
  performs place (Changes block start ws) m = changes_by block start ws m
  performs place (Makes d rest ws growable) m = by_test m (nat_lt limits.cells (m.cells + length ws)) _ _ (ends m (Trapped Heap place) (trap_is_not_bound Heap place)) (quiet m _ refl refl)
  performs place (Lengthens d rest block ws) m = by_test m (nat_lt limits.cells (m.cells + length ws)) _ _ (ends m (Trapped Heap place) (trap_is_not_bound Heap place)) (lengthens_by block ws m _ refl refl)
  performs place (Prints bytes) m = quiet m _ refl refl
  performs place Flushes m = printing m _ m.pending refl refl
  performs place (Traps trap) m = ends m (Trapped trap place) (trap_is_not_bound trap place)
  performs place Sticks m = ends m Stuck stuck_is_not_bound

  -- the count of what takes memory changes neither ticks nor events
  uncounted : (m : Machine) (r : Run) → Onward (record m { taken = m.taken + 1 }) r → Onward m r
  uncounted m (On x) o = record { more = o.more; events = o.events; left = o.left }
  uncounted m (Done end events taken) o = record { more = o.more; events_are = o.events_are; at_most = o.at_most; all_taken = o.all_taken }

  module _ (code : Draft) where
    does_by : (b : Bool) (place : Place) (e : Effect) (m : Machine) → Onward m (perform limits place e (counted b m))
    does_by true place e m = uncounted m _ (performs place e (record m { taken = m.taken + 1 }))
    does_by false place e m = performs place e m

    at_by : (o : Option Instr) (m : Machine) → Onward m (at_instr code limits o m)
    at_by None m = ends m Stuck stuck_is_not_bound
    at_by (Some i) m = does_by (is_taking i.op) i.place (effect code m i.op) m

    then_on : (m x : Machine) → GoesOn m x → (r : Run) → Onward x r → Onward m r
    then_on m x g (On y) o = record {
      more = g.more ++ o.more;
      events = o.events ∙ ap (λ es. es ++ o.more) g.events ∙ append_assoc m.events g.more o.more;
      left = omega (arith, ticks-append g.more o.more, g.left, o.left);
    }
    then_on m x g (Done end events taken) o = record {
      more = g.more ++ o.more;
      events_are = o.events_are ∙ ap (λ es. es ++ o.more) g.events ∙ append_assoc m.events g.more o.more;
      at_most = omega (arith, ticks-append g.more o.more, g.left, o.at_most);
      all_taken = λ e. let all = o.all_taken e in omega (arith, ticks-append g.more o.more, g.left, all);
    }

    first_step : (k : ℕ) (m : Machine) → ((x : Machine) → Onward x (steps code limits k (On x))) → (r : Run) → Onward m r → Onward m (steps code limits k r)
    first_step k m later (On x) o = then_on m x o (steps code limits k (On x)) (later x)
    first_step k m later (Done end events taken) o = subst (Onward m) (sym (stays code limits k end events taken)) o

    pub onward : (k : ℕ) (m : Machine) → Onward m (steps code limits k (On m))
    onward zero m = quiet m m refl refl
    onward (suc k) m = first_step k m (onward k) (step code limits m) (at_by (slice_get code.instrs m.pc) m)

-- ---- the same machine with more ticks

abbrev richer : ℕ → Machine → Machine
richer d m = record m { left = m.left + d }

-- all events of a run so far begin with these
abbrev Begun : List Event → Run → Type 0
Begun es (On x) = BeginsWith es x.events
Begun es (Done end events taken) = BeginsWith es events

-- With d more ticks a run is the same, but where it would end for want of a tick it may go on.
abbrev Richer : ℕ → Run → Run → Type 0
Richer d (On x) r = r ≡ On (richer d x)
Richer d (Done Bound events taken) r = Begun events r
Richer d (Done (Returned ws blocks) events taken) r = r ≡ Done (Returned ws blocks) events taken
Richer d (Done (Trapped trap place) events taken) r = r ≡ Done (Trapped trap place) events taken
Richer d (Done Stuck events taken) r = r ≡ Done Stuck events taken

begun_by : (m : Machine) (r : Run) → Onward m r → Begun m.events r
begun_by m (On x) o = record { rest = o.more; split = o.events }
begun_by m (Done end events taken) o = record { rest = o.more; split = o.events_are }

begun_on : (es : List Event) (m : Machine) → BeginsWith es m.events → (r : Run) → Begun m.events r → Begun es r
begun_on es m b (On x) o = record { rest = b.rest ++ o.rest; split = o.split ∙ ap (λ xs. xs ++ o.rest) b.split ∙ append_assoc es b.rest o.rest }
begun_on es m b (Done end events taken) o = record { rest = b.rest ++ o.rest; split = o.split ∙ ap (λ xs. xs ++ o.rest) b.split ∙ append_assoc es b.rest o.rest }

module _ (limits : Limits) (d : ℕ) where
  -- a tick is there for both, or only for the richer one, or for none
  ticked_richer : (event : Event) (m : Machine) (go : Machine → Run) → ((x : Machine) → Richer d (go x) (go (richer d x))) → ((l : ℕ) → Begun m.events (ticked_by l event (richer d m) go)) → (l l' : ℕ) → l' ≡ l + d → Richer d (ticked_by l event m go) (ticked_by l' event (richer d m) go)
  ticked_richer event m go same begun zero l' e = begun l'
  ticked_richer event m go same begun (suc l) zero e = absurd (omega arith)
  ticked_richer event m go same begun (suc l) (suc l') e =
      let is : l' ≡ l + d = omega arith in
      let Q : ℕ → Type 0 = λ n. Richer d (go (record m { left = l; events = m.events ++ event ∷ [] })) (go (record m { left = n; events = m.events ++ event ∷ [] })) in
      subst Q (sym is) (same (record m { left = l; events = m.events ++ event ∷ [] }))

  test_richer : (b : Bool) (r q r' q' : Run) → Richer d r r' → Richer d q q' → Richer d (if b then r else q) (if b then r' else q')
  test_richer true r q r' q' h k = h
  test_richer false r q r' q' h k = k

  turns_richer : (place : Place) (m : Machine) → Richer d (perform limits place Turns m) (perform limits place Turns (richer d m))
  turns_richer place m = ticked_richer (Turn place) m (λ m. On (record m { pc = m.pc + 1 })) (λ x. refl) begun m.left (m.left + d) refl
    where
      begun : (l : ℕ) → Begun m.events (ticked_by l (Turn place) (richer d m) (λ m. On (record m { pc = m.pc + 1 })))
      begun zero = record { rest = []; split = sym (append-nil m.events) }
      begun (suc l) = record { rest = Turn place ∷ []; split = refl }

  abbrev enters : Place → Function → ℕ → ℕ → Machine → Run
  enters place f a s m = if is_too_deep limits m.nest f.weight then ended (Trapped Depth place) m else On (entered f a s m)

  calls_richer : (place : Place) (f : Function) (a s : ℕ) (m : Machine) → Richer d (perform limits place (Calls f a s) m) (perform limits place (Calls f a s) (richer d m))
  calls_richer place f a s m = ticked_richer (Enter f.place) m (enters place f a s) (λ x. test_richer (is_too_deep limits x.nest f.weight) _ _ _ _ refl refl) begun m.left (m.left + d) refl
    where
      either : (b : Bool) (x : Machine) → x.events ≡ m.events ++ Enter f.place ∷ [] → Begun m.events (if b then ended (Trapped Depth place) x else On (entered f a s x))
      either true x e = record { rest = Enter f.place ∷ []; split = e }
      either false x e = record { rest = Enter f.place ∷ []; split = e }

      begun : (l : ℕ) → Begun m.events (ticked_by l (Enter f.place) (richer d m) (enters place f a s))
      begun zero = record { rest = []; split = sym (append-nil m.events) }
      begun (suc l) = either (is_too_deep limits m.nest f.weight) (record m { left = l; events = m.events ++ Enter f.place ∷ [] }) refl

  returns_richer : (cs : List Caller) (ws : List ℕ) (m : Machine) → Richer d (back_to cs ws m) (back_to cs ws (richer d m))
  returns_richer [] ws m = refl
  returns_richer (c ∷ cs) ws m = refl

  changes_richer : (block start : ℕ) (ws : List ℕ) (m : Machine) → On (changes block start ws (richer d m)) ≡ On (richer d (changes block start ws m))
  changes_richer zero start ws m = refl
  changes_richer (suc b) start ws m = refl

  lengthens_richer : (block : ℕ) (ws : List ℕ) (x : Machine) → On (with_longer block ws (richer d x)) ≡ On (richer d (with_longer block ws x))
  lengthens_richer zero ws x = refl
  lengthens_richer (suc b) ws x = refl

  performs_richer : (place : Place) (e : Effect) (m : Machine) → Richer d (perform limits place e m) (perform limits place e (richer d m))
  performs_richer place (Writes s ws) m = refl
  performs_richer place (Goes t) m = refl
  performs_richer place Turns m = turns_richer place m
  performs_richer place (Calls f a s) m = calls_richer place f a s m
  performs_richer place (Returns ws) m = returns_richer m.callers ws m
  performs_richer place (Changes block start ws) m = changes_richer block start ws m
  performs_richer place (Makes s rest ws growable) m = test_richer (nat_lt limits.cells (m.cells + length ws)) _ _ _ _ refl refl
  performs_richer place (Lengthens s rest block ws) m = test_richer (nat_lt limits.cells (m.cells + length ws)) _ _ _ _ refl (lengthens_richer block ws (with_words s rest (record m { cells = m.cells + length ws })))
  performs_richer place (Prints bytes) m = refl
  performs_richer place Flushes m = refl
  performs_richer place (Traps trap) m = refl
  performs_richer place Sticks m = refl

  module _ (code : Draft) where
    -- no instruction looks at the ticks that are left
    same_effect : (m : Machine) (o : Op) → effect code (richer d m) o ≡ effect code m o
    same_effect m op.Turn = refl
    same_effect m _ = refl

    counted_richer : (b : Bool) (place : Place) (e : Effect) (m : Machine) → Richer d (perform limits place e (counted b m)) (perform limits place e (counted b (richer d m)))
    counted_richer true place e m = performs_richer place e (record m { taken = m.taken + 1 })
    counted_richer false place e m = performs_richer place e m

    at_richer : (o : Option Instr) (m : Machine) → Richer d (at_instr code limits o m) (at_instr code limits o (richer d m))
    at_richer None m = refl
    at_richer (Some i) m =
        let Q : Effect → Type 0 = λ e. Richer d (perform limits i.place (effect code m i.op) (counted (is_taking i.op) m)) (perform limits i.place e (counted (is_taking i.op) (richer d m))) in
        subst Q (sym (same_effect m i.op)) (counted_richer (is_taking i.op) i.place (effect code m i.op) m)

    begun_steps : (k : ℕ) (es : List Event) (r : Run) → Begun es r → Begun es (steps code limits k r)
    begun_steps k es (On m) b = begun_on es m b (steps code limits k (On m)) (begun_by m _ (onward limits code k m))
    begun_steps k es (Done end events taken) b = subst (Begun es) (sym (stays code limits k end events taken)) b

    pub steps_richer : (k : ℕ) (r r' : Run) → Richer d r r' → Richer d (steps code limits k r) (steps code limits k r')
    steps_richer zero r r' h = h
    steps_richer (suc k) (On m) r' h =
        let next = steps_richer k (step code limits m) (step code limits (richer d m)) (at_richer (slice_get code.instrs m.pc) m) in
        subst (Richer d (steps code limits k (step code limits m))) (ap (steps code limits (suc k)) (sym h)) next
    steps_richer (suc k) (Done Bound events taken) r' h = begun_steps (suc k) events r' h
    steps_richer (suc k) (Done (Returned ws blocks) events taken) r' h = ap (steps code limits (suc k)) h
    steps_richer (suc k) (Done (Trapped trap place) events taken) r' h = ap (steps code limits (suc k)) h
    steps_richer (suc k) (Done Stuck events taken) r' h = ap (steps code limits (suc k)) h

-- ---- the law

module _ (code : Draft) (entry : ℕ) (limits : Limits) where
  begin_richer_by : (o : Option Function) (n d : ℕ) → Richer d (begin_at code n o) (begin_at code (n + d) o)
  begin_richer_by None n d = refl
  begin_richer_by (Some f) n d = refl

  begin_richer : (n m : ℕ) → n ≤ m → Richer (m - n) (begin code entry n) (begin code entry m)
  begin_richer n m le =
      let whole : n + (m - n) ≡ m = omega arith in
      subst (λ k. Richer (m - n) (begin code entry n) (begin code entry k)) whole (begin_richer_by (function_at code (slice_get code.entries entry)) n (m - n))

  taken_by_start : (k n : ℕ) (o : Option Function) (end : End) (events : List Event) (taken : ℕ) → steps code limits k (begin_at code n o) ≡ Done end events taken → (ticks events ≤ n) × (end ≡ Bound → ticks events ≡ n)
  taken_by_start k n None end events taken e =
      let s = sym (stays code limits k Stuck [] 0) ∙ e in
      let none : [] ≡ events = ap (events_of []) s in
      let stuck : Stuck ≡ end = ap (end_of_run Stuck) s in
      (subst (λ es. ticks es ≤ n) none (omega arith), λ b. absurd (stuck_is_not_bound (stuck ∙ b)))
  taken_by_start k n (Some f) end events taken e =
      let o : ComesTo (start code n f) end events = subst (Onward (start code n f)) e (onward limits code k (start code n f)) in
      let is : ticks events ≡ ticks o.more = ap ticks o.events_are in
      (omega (arith, is, o.at_most), λ b. is ∙ o.all_taken b)

  module _ (n : ℕ) (events : List Event) (end : End) (run : Exec code entry limits n events end) where
    richer_run : (k m : ℕ) → n ≤ m → run.count ≤ k → Richer (m - n) (Done end events run.taken) (steps code limits k (begin code entry m))
    richer_run k m le far =
        subst (λ r. Richer (m - n) r (steps code limits k (begin code entry m))) (longer code limits run.count k (begin code entry n) end events run.taken far run.ends)
        (steps_richer limits (m - n) code k (begin code entry n) (begin code entry m) (begin_richer n m le))

    stays_by : (d : ℕ) (x : End) (taken : ℕ) (r : Run) → (x ≡ Bound → ⊥) → Richer d (Done x events taken) r → r ≡ Done x events taken
    stays_by d Bound taken r ne h = absurd (ne refl)
    stays_by d (Returned ws blocks) taken r ne h = h
    stays_by d (Trapped trap place) taken r ne h = h
    stays_by d Stuck taken r ne h = h

    front_by : (d : ℕ) (x other : End) (taken total : ℕ) (more : List Event) → Richer d (Done x events taken) (Done other more total) → BeginsWith events more
    front_by d Bound other taken total more h = h
    front_by d (Returned ws blocks) other taken total more h = record { rest = []; split = ap (events_of []) h ∙ sym (append-nil events) }
    front_by d (Trapped trap place) other taken total more h = record { rest = []; split = ap (events_of []) h ∙ sym (append-nil events) }
    front_by d Stuck other taken total more h = record { rest = []; split = ap (events_of []) h ∙ sym (append-nil events) }

    pub bounds : BoundsTicks code entry limits n events end
    bounds =
        let t = taken_by_start run.count n (function_at code (slice_get code.entries entry)) end events run.taken run.ends in
        record {
          at_most = t.0;
          all_taken = t.1;
          lengthened = λ m more other le e.
              let far : run.count ≤ run.count + e.count = omega arith in
              let h = richer_run (run.count + e.count) m le far in
              let near : e.count ≤ run.count + e.count = omega arith in
              front_by (m - n) end other run.taken e.taken more (subst (Richer (m - n) (Done end events run.taken)) (longer code limits e.count (run.count + e.count) (begin code entry m) other more e.taken near e.ends) h);
          stays = λ m le ne.
              let far : run.count ≤ run.count = omega arith in
              record { count = run.count; taken = run.taken; ends = stays_by (m - n) end run.taken (steps code limits run.count (begin code entry m)) ne (richer_run run.count m le far) };
        }

pub ticks_bound : TicksBound
ticks_bound code entry limits n events end run = bounds code entry limits n events end run
