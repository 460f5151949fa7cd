-- One instruction of sound code: the machine still stands, and its rank falls, or the run ends and is not stuck.
use Rattle.std.proofs.Common.{◌≡◌, ℕ, zero, suc, ◌+◌, ◌-◌, ◌*◌, ◌<◌, ◌≤◌, ◌⊎◌, inl, inr, Bool, true, false, nat_lt, nat_le, List, [], ◌∷◌, ◌++◌, length, take, replicate, Option, Some, None, refl, sym, ap, ◌∙◌, subst, arith, append-nil, ⊎_elim}
use Rattle.std.proofs.lemmas.Bool.{cases_lt}
use Rattle.std.specs.Prelude.{slice_get, if◌then◌else◌}
use Rattle.std.proofs.Math.Nat.{suc-mul, mul-le-mul_right, add-mul, one-mul}
use Rattle.std.proofs.lemmas.List.{length-take, length-append, length-replicate}
use Rattle.std.proofs.lemmas.Bool.{leb-false, ltb-false, or_parts}
use Rattle.dc_types.specs.declared.place.Place.{Place}
use Rattle.dc_types.specs.declared.event.TrapKind.{TrapKind}
use Rattle.dc_types.specs.declared.event.TrapKind.TheVariants.{Heap, Depth}
use Rattle.dc_types.specs.declared.event.Event.{Event}
use Rattle.dc_types.specs.declared.event.Event.TheVariants.{Enter, Turn, Print}
use Rattle.dc_types.specs.declared.event.Limits.{Limits}
use Rattle.dc_code.specs.State.{Machine, End, Returned, Trapped, Bound, Stuck, Run, On, Done}
use Rattle.dc_code.specs.Blocks.{put, words_in}
use Rattle.dc_code.specs.Effect.{Effect, Writes, Goes, Turns, Calls, Returns, Changes, Makes, Lengthens, Prints, Flushes, Traps, Sticks}
use Rattle.dc_code.specs.Table.{effect, is_taking}
use Rattle.dc_code.specs.Perform.{ended, with_words, ticked_by, is_too_deep, entered, back_to, changes, with_longer, perform}
use Rattle.dc_code.specs.Exec.{counted, does, at_instr, step}
use Rattle.dc_code.specs.Sound.{IsThere, IsTurn, CalleeFits, IsLast, FunctionFits, end_of, IsSound}
use Rattle.dc_code.specs.Standing.{Within, Waits, Stands, far_op, far_by, far, rank}
use Rattle.dc_code.specs.declared.instr.Op.{Op}
use Rattle.dc_code.specs.declared.instr.Op.TheVariants as op
use Rattle.dc_code.specs.declared.instr.Instr.{Instr}
use Rattle.dc_code.specs.declared.instr.Function.{Function}
use Rattle.dc_code.specs.declared.code.Draft.{Draft}
use Rattle.dc_code.specs.declared.run.Caller.{Caller}
use Rattle.dc_code.proofs.Words.{length-put, length-words_in}
use Rattle.dc_code.proofs.Fitting.{is_there, EffectFits, fits}

-- ---- how far it is

far_op_le : (all pc : ℕ) (o : Op) → far_op all pc o ≤ all + 1 - pc
far_op_le all pc op.Turn = omega arith
far_op_le all pc _ = omega arith

far_by_le : (all pc : ℕ) (o : Option Instr) → far_by all pc o ≤ all + 1 - pc
far_by_le all pc None = omega arith
far_by_le all pc (Some i) = far_op_le all pc i.op

far_turn : (all pc : ℕ) (o : Op) → IsTurn o → far_op all pc o ≡ 0
far_turn all pc op.Turn h = refl
far_turn all pc _ h = absurd h

far_there : (all pc : ℕ) (o : Option Instr) → IsThere o (λ i. IsTurn i.op) → far_by all pc o ≡ 0
far_there all pc None h = absurd h
far_there all pc (Some i) h = far_turn all pc i.op h

far_other : (all pc : ℕ) (o : Op) → (IsTurn o → ⊥) → far_op all pc o ≡ all + 1 - pc
far_other all pc op.Turn h = absurd (h tt)
far_other all pc _ h = refl

turn_or : (code : Draft) (m : Machine) (o : Op) → (IsTurn o → ⊥) ⊎ (effect code m o ≡ Turns)
turn_or code m op.Turn = inr refl
turn_or code m _ = inl (λ h. h)

last_before : (all : List Instr) (end pc : ℕ) (i : Instr) → slice_get all pc ≡ Some i → IsThere (slice_get all (end - 1)) (λ i. IsLast i.op) → pc < end → (IsLast i.op → ⊥) → pc + 1 < end
last_before all end pc i is last lt h = ⊎_elim (λ e. e) (λ e.
    let at : end - 1 ≡ pc = omega arith in
    absurd (h (subst (λ o. IsThere o (λ i. IsLast i.op)) (ap (slice_get all) at ∙ is) last))) (cases_lt (pc + 1) end)

trap_is_not_stuck : (trap : TrapKind) (place : Place) → Trapped trap place ≡ Stuck → ⊥
trap_is_not_stuck trap place e = cc

bound_is_not_stuck : Bound ≡ Stuck → ⊥
bound_is_not_stuck e = cc

value_is_not_stuck : (ws : List ℕ) (blocks : List _) → Returned ws blocks ≡ Stuck → ⊥
value_is_not_stuck ws blocks e = cc

times : (x m b : ℕ) → x ≤ m + 1 → x * b ≤ m * b + b
times x m b h = omega (arith, mul-le-mul_right b h, add-mul m 1 b, one-mul b)

module _ (code : Draft) (limits : Limits) (first : ℕ) where
  abbrev all : ℕ
  all = length code.instrs

  -- what one instruction leads to
  pub record GoesOn (m x : Machine) : Type 0 where
    pub stands : Stands code limits first x
    pub falls : rank code x < rank code m
    pub more : List Event
    pub events : x.events ≡ m.events ++ more
    pub counts : m.taken ≤ x.taken

  pub record ComesTo (m : Machine) (end : End) (events : List Event) (taken : ℕ) : Type 0 where
    pub not_stuck : end ≡ Stuck → ⊥
    pub more : List Event
    pub events_are : events ≡ m.events ++ more
    pub counts : m.taken ≤ taken

  abbrev pub Onward : Machine → Run → Type 0
  Onward m (On x) = GoesOn m x
  Onward m (Done end events taken) = ComesTo m end events taken

  ends_here : (m : Machine) (end : End) → (end ≡ Stuck → ⊥) → Onward m (ended end m)
  ends_here m end h = record { not_stuck = h; more = []; events_are = sym (append-nil m.events); counts = omega arith }

  if_onward : (m : Machine) (b : Bool) (r q : Run) → (b ≡ true → Onward m r) → (b ≡ false → Onward m q) → Onward m (if b then r else q)
  if_onward m true r q h k = h refl
  if_onward m false r q h k = k refl

  far_le : (pc : ℕ) → far code.instrs pc ≤ all + 1 - pc
  far_le pc = far_by_le all pc (slice_get code.instrs pc)

  module _ (sound : IsSound code) (m : Machine) (s : Stands code limits first m) where
    abbrev f : Function
    f = s.function

    abbrev end : ℕ
    end = end_of code s.within.number

    fit : FunctionFits code f end
    fit = sound.functions s.within.number f s.within.there

    -- the machine in this function at another instruction
    inside : (pc : ℕ) → f.first ≤ pc → pc < end → Within code f pc
    inside pc h k = record { number = s.within.number; there = s.within.there; from_first = h; to_end = k }

    -- an instruction that keeps the frames and takes no tick
    plain : (x : Machine) (more : List Event) → far code.instrs m.pc ≡ all + 1 - m.pc → f.first ≤ x.pc → x.pc < end → far code.instrs x.pc < all + 1 - m.pc
        → x.base ≡ m.base → x.callers ≡ m.callers → x.nest ≡ m.nest → x.left ≡ m.left → length x.words ≡ length m.words → x.events ≡ m.events ++ more → m.taken ≤ x.taken → GoesOn m x
    plain x more here from to near base callers nest left words events taken = record {
      stands = record {
        function = f;
        within = inside x.pc from to;
        frame = ap (λ n. n + f.weight) base ∙ s.frame ∙ sym words;
        waits = subst (λ b. Waits code first x.callers b f.result) (sym base) (subst (λ cs. Waits code first cs m.base f.result) (sym callers) s.waits);
        weight = ap (λ n. first + n.weight) nest ∙ s.weight ∙ sym words;
        depth = ap (λ n. n.depth) nest ∙ s.depth ∙ sym (ap length callers);
        deep = subst (λ n. n.depth ≤ limits.depth) (sym nest) s.deep;
        heavy = subst (λ n. n.weight ≤ limits.stack) (sym nest) s.heavy;
      };
      falls =
          let a = ap (λ n. n * (2 * (all + 2))) left in
          let b = ap (λ cs. length cs * (all + 2)) callers in
          omega (arith, a, b, here, near);
      more = more;
      events = events;
      counts = taken;
    }

    -- the same at the next instruction
    next : (x : Machine) (more : List Event) → far code.instrs m.pc ≡ all + 1 - m.pc → m.pc + 1 < end → x.pc ≡ m.pc + 1
        → x.base ≡ m.base → x.callers ≡ m.callers → x.nest ≡ m.nest → x.left ≡ m.left → length x.words ≡ length m.words → x.events ≡ m.events ++ more → m.taken ≤ x.taken → GoesOn m x
    next x more here to at base callers nest left words events taken =
        let from : f.first ≤ x.pc = omega (arith, s.within.from_first, at) in
        let to' : x.pc < end = omega (arith, to, at) in
        let near : far code.instrs x.pc < all + 1 - m.pc = omega (arith, far_le x.pc, at, to, fit.ends) in
        plain x more here from to' near base callers nest left words events taken

    none : (xs : List Event) → xs ≡ xs ++ []
    none xs = sym (append-nil xs)

    -- an instruction that takes a tick
    timed : (n : ℕ) (x : Machine) → m.left ≡ suc n → x.left ≡ n → length x.callers ≤ length m.callers + 1 → rank code x < rank code m
    timed n x l k c =
        let b = 2 * (all + 2) in
        let a = ap (λ n. n * b) l ∙ suc-mul n b in
        let d = ap (λ n. n * b) k in
        let g : length x.callers * (all + 2) ≤ length m.callers * (all + 2) + (all + 2) = times (length x.callers) (length m.callers) (all + 2) c in
        omega (arith, a, d, far_le x.pc, g)

    turns : (place : Place) → m.pc + 1 < end → (l : ℕ) → m.left ≡ l → Onward m (ticked_by l (Turn place) m (λ m. On (record m { pc = m.pc + 1 })))
    turns place to zero l = ends_here m Bound bound_is_not_stuck
    turns place to (suc n) l = record {
      stands = record {
        function = f;
        within = inside (m.pc + 1) (omega (arith, s.within.from_first)) to;
        frame = s.frame;
        waits = s.waits;
        weight = s.weight;
        depth = s.depth;
        deep = s.deep;
        heavy = s.heavy;
      };
      falls = let x : Machine = record m { pc = m.pc + 1; left = n; events = m.events ++ Turn place ∷ [] } in let le : length x.callers ≤ length m.callers + 1 = omega arith in timed n x l refl le;
      more = Turn place ∷ [];
      events = refl;
      counts = omega arith;
    }

    enters : (g : Function) (k a d n : ℕ) (events : List Event) → slice_get code.functions k ≡ Some g → CalleeFits f.weight a d g → m.pc + 1 < end → m.left ≡ suc n → is_too_deep limits m.nest g.weight ≡ false
        → GoesOn m (entered g a d (record m { left = n; events = m.events ++ events }))
    enters g k a d n events there c to l shallow =
        let parts = or_parts (nat_le limits.depth m.nest.depth) (nat_lt limits.stack (m.nest.weight + g.weight)) shallow in
        let deep = leb-false limits.depth m.nest.depth parts.0 in
        let heavy = ltb-false limits.stack (m.nest.weight + g.weight) parts.1 in
        let le : m.base + a + g.params ≤ length m.words = omega (arith, c.params_here, s.frame) in
        let args = length-words_in m a g.params le in
        let long : length (m.words ++ (words_in m a g.params ++ replicate (g.weight - g.params) 0)) ≡ length m.words + g.weight =
        omega (arith, length-append m.words (words_in m a g.params ++ replicate (g.weight - g.params) 0), length-append (words_in m a g.params) (replicate (g.weight - g.params) 0), length-replicate {A = ℕ} (g.weight - g.params) 0, args, c.params) in
        record {
          stands = record {
            function = g;
            within = record { number = k; there = there; from_first = omega arith; to_end = (sound.functions k g there).rises };
            frame = sym long;
            waits = (record { function = f; within = inside (m.pc + 1) (omega (arith, s.within.from_first)) to; frame = s.frame; room = c.result_here; weight = s.weight }, s.depth, s.waits);
            weight = omega (arith, long, s.weight);
            depth = omega (arith, s.depth);
            deep = omega (arith, deep);
            heavy = heavy;
          };
          falls = let x : Machine = entered g a d (record m { left = n; events = m.events ++ events }) in let le : length x.callers ≤ length m.callers + 1 = omega arith in timed n x l refl le;
          more = events;
          events = refl;
          counts = omega arith;
        }

    calls_on : (place : Place) (g : Function) (k a d : ℕ) → slice_get code.functions k ≡ Some g → CalleeFits f.weight a d g → m.pc + 1 < end → (l : ℕ) → m.left ≡ l
        → Onward m (ticked_by l (Enter g.place) m (λ m. if is_too_deep limits m.nest g.weight then ended (Trapped Depth place) m else On (entered g a d m)))
    calls_on place g k a d there c to zero l = ends_here m Bound bound_is_not_stuck
    calls_on place g k a d there c to (suc n) l =
        if_onward m (is_too_deep limits m.nest g.weight) (ended (Trapped Depth place) (record m { left = n; events = m.events ++ Enter g.place ∷ [] })) (On (entered g a d (record m { left = n; events = m.events ++ Enter g.place ∷ [] })))
        (λ deep. record { not_stuck = trap_is_not_stuck Depth place; more = Enter g.place ∷ []; events_are = refl; counts = omega arith })
        (λ shallow. enters g k a d n (Enter g.place ∷ []) there c to l shallow)

    returns_on : (cs : List Caller) (ws : List ℕ) → m.callers ≡ cs → Waits code first cs m.base f.result → far code.instrs m.pc ≡ all + 1 - m.pc → length ws ≡ f.result → Onward m (back_to cs ws m)
    returns_on [] ws is waits here long = ends_here m (Returned ws m.blocks) (value_is_not_stuck ws m.blocks)
    returns_on (c ∷ cs) ws is waits here long =
        let w = waits.0 in
        let cut : length (take m.base m.words) ≡ m.base = omega (arith, length-take m.base m.words, s.frame) in
        let le : c.base + c.slot + length ws ≤ length (take m.base m.words) = omega (arith, cut, w.frame, w.room, long) in
        let words : length (put (take m.base m.words) (c.base + c.slot) ws) ≡ m.base = length-put (take m.base m.words) (c.base + c.slot) ws le ∙ cut in
        let n = ap length is in
        record {
          stands = record {
            function = w.function;
            within = w.within;
            frame = w.frame ∙ sym words;
            waits = waits.2;
            weight = w.weight ∙ sym words;
            depth = waits.1;
            deep = omega (arith, waits.1, n, s.depth, s.deep);
            heavy = omega (arith, w.weight, s.weight, s.frame, s.heavy);
          };
          falls =
              let b = ap (λ cs. length cs * (all + 2)) is ∙ suc-mul (length cs) (all + 2) in
              omega (arith, b, far_le c.pc, here, s.within.to_end, fit.ends);
          more = [];
          events = none m.events;
          counts = omega arith;
        }

    changes_on : (block start : ℕ) (ws : List ℕ) → (block ≡ 0 → length (put m.words start ws) ≡ length m.words) → far code.instrs m.pc ≡ all + 1 - m.pc → m.pc + 1 < end → GoesOn m (changes block start ws m)
    changes_on zero start ws keep here to = next _ [] here to refl refl refl refl refl (keep refl) (none m.events) (omega arith)
    changes_on (suc b) start ws keep here to = next _ [] here to refl refl refl refl refl refl (none m.events) (omega arith)

    with_words_long : (d : ℕ) (ws : List ℕ) → d + length ws ≤ f.weight → length (put m.words (m.base + d) ws) ≡ length m.words
    with_words_long d ws h = let le : m.base + d + length ws ≤ length m.words = omega (arith, s.frame, h) in length-put m.words (m.base + d) ws le

    lengthens_on : (d : ℕ) (rest : List ℕ) (block cells : ℕ) (ws : List ℕ) → d + length rest ≤ f.weight → far code.instrs m.pc ≡ all + 1 - m.pc → m.pc + 1 < end → GoesOn m (with_longer block ws (with_words d rest (record m { cells = cells })))
    lengthens_on d rest zero cells ws h here to = next _ [] here to refl refl refl refl refl (with_words_long d rest h) (none m.events) (omega arith)
    lengthens_on d rest (suc b) cells ws h here to = next _ [] here to refl refl refl refl refl (with_words_long d rest h) (none m.events) (omega arith)

    -- each effect
    performs : (place : Place) (e : Effect) → EffectFits code m f end e → far code.instrs m.pc ≡ all + 1 - m.pc → Onward m (perform limits place e m)
    performs place (Writes d ws) h here = next _ [] here h.1 refl refl refl refl refl (with_words_long d ws h.0) (none m.events) (omega arith)
    performs place (Goes t) h here = plain _ [] here h.0 h.1 (goes_near t h.2 here) refl refl refl refl refl (none m.events) (omega arith)
      where
        goes_near : (t : ℕ) → (t ≤ m.pc → IsThere (slice_get code.instrs t) (λ i. IsTurn i.op)) → far code.instrs m.pc ≡ all + 1 - m.pc → far code.instrs t < all + 1 - m.pc
        goes_near t back here = ⊎_elim
            (λ lt. let k = far_le t in let i = fit.ends in let w = s.within.to_end in omega (arith, lt, k, i, w))
            (λ le. let z = far_there all t (slice_get code.instrs t) (back le) in let i = fit.ends in let w = s.within.to_end in omega (arith, z, i, w))
            (cases_lt m.pc t)
    performs place Turns h here = turns place h m.left refl
    performs place (Calls g a d) h here = calls_on place g h.0 a d h.1 h.2 h.3 m.left refl
    performs place (Returns ws) h here = returns_on m.callers ws refl s.waits here h
    performs place (Changes block start ws) h here = changes_on block start ws h.0 here h.1
    performs place (Makes d rest ws growable) h here =
        if_onward m (nat_lt limits.cells (m.cells + length ws)) (ended (Trapped Heap place) m) _ (λ over. ends_here m (Trapped Heap place) (trap_is_not_stuck Heap place))
        (λ room. next _ [] here h.1 refl refl refl refl refl (with_words_long d (suc (length m.blocks) ∷ rest) h.0) (none m.events) (omega arith))
    performs place (Lengthens d rest block ws) h here =
        if_onward m (nat_lt limits.cells (m.cells + length ws)) (ended (Trapped Heap place) m) _ (λ over. ends_here m (Trapped Heap place) (trap_is_not_stuck Heap place))
        (λ room. lengthens_on d rest block (m.cells + length ws) ws h.0 here h.1)
    performs place (Prints bytes) h here = next _ [] here h refl refl refl refl refl refl (none m.events) (omega arith)
    performs place Flushes h here = next _ (Print m.pending ∷ []) here h refl refl refl refl refl refl refl (omega arith)
    performs place (Traps trap) h here = ends_here m (Trapped trap place) (trap_is_not_stuck trap place)
    performs place Sticks h here = absurd h

  -- ---- the count of what takes memory changes nothing else

  abbrev counted_stands : (b : Bool) (m : Machine) → Stands code limits first m → Stands code limits first (counted b m)
  counted_stands false m s = s
  counted_stands true m s = record { function = s.function; within = s.within; frame = s.frame; waits = s.waits; weight = s.weight; depth = s.depth; deep = s.deep; heavy = s.heavy }

  counted_onward : (m : Machine) (r : Run) → Onward (record m { taken = m.taken + 1 }) r → Onward m r
  counted_onward m (On x) o = record { stands = o.stands; falls = o.falls; more = o.more; events = o.events; counts = omega (arith, o.counts) }
  counted_onward m (Done end events taken) o = record { not_stuck = o.not_stuck; more = o.more; events_are = o.events_are; counts = omega (arith, o.counts) }

  module _ (sound : IsSound code) where
    does_on : (b : Bool) (m : Machine) (s : Stands code limits first m) (place : Place) (e : Effect) → EffectFits code m s.function (end_of code s.within.number) e → far code.instrs m.pc ≡ all + 1 - m.pc → Onward m (perform limits place e (counted b m))
    does_on false m s place e h here = performs sound m s place e h here
    does_on true m s place e h here = counted_onward m _ (performs sound (record m { taken = m.taken + 1 }) (counted_stands true m s) place e h here)

    turns_on : (b : Bool) (m : Machine) (s : Stands code limits first m) (place : Place) → m.pc + 1 < end_of code s.within.number → Onward m (perform limits place Turns (counted b m))
    turns_on false m s place to = turns sound m s place to m.left refl
    turns_on true m s place to =
        let x : Machine = record m { taken = m.taken + 1 } in
        counted_onward m (perform limits place Turns x) (turns sound x (counted_stands true m s) place to m.left refl)

    by_kind : (m : Machine) (s : Stands code limits first m) (i : Instr) → slice_get code.instrs m.pc ≡ Some i → EffectFits code m s.function (end_of code s.within.number) (effect code m i.op)
        → (IsTurn i.op → ⊥) ⊎ (effect code m i.op ≡ Turns) → Onward m (does code limits i m)
    by_kind m s i is h (inl other) =
        let here = ap (far_by all m.pc) is ∙ far_other all m.pc i.op other in
        does_on (is_taking i.op) m s i.place (effect code m i.op) h here
    by_kind m s i is h (inr turn) =
        let to : m.pc + 1 < end_of code s.within.number = subst (EffectFits code m s.function (end_of code s.within.number)) turn h in
        subst (λ e. Onward m (perform limits i.place e (counted (is_taking i.op) m))) (sym turn) (turns_on (is_taking i.op) m s i.place to)

    by_instr : (m : Machine) (s : Stands code limits first m) (o : Option Instr) → slice_get code.instrs m.pc ≡ o → Onward m (at_instr code limits o m)
    by_instr m s None is =
        let there = sound.functions s.within.number s.function s.within.there in
        absurd (subst (λ o. IsThere o (λ i. Unit {0})) is (is_there code.instrs m.pc (omega (arith, s.within.to_end, there.ends))))
    by_instr m s (Some i) is =
        let there = sound.functions s.within.number s.function s.within.there in
        let fit = there.each m.pc i s.within.from_first s.within.to_end is in
        by_kind m s i is (fits code m s.function (end_of code s.within.number) s.frame s.within.from_first i.op fit (last_before code.instrs (end_of code s.within.number) m.pc i is there.last s.within.to_end)) (turn_or code m i.op)

    pub onward : (m : Machine) → Stands code limits first m → Onward m (step code limits m)
    onward m s = by_instr m s (slice_get code.instrs m.pc) refl
