-- The machine follows calls.
use Rattle.std.proofs.Common.{◌≡◌, ℕ, zero, suc, ◌+◌, ◌-◌, ◌≤◌, Bool, true, false, not, ◌&&◌, ◌||◌, List, [], ◌∷◌, ◌++◌, length, map, drop, replicate, Some, refl, sym, ap, ap₂, ◌∙◌, subst, arith, append_assoc, length-append, length-drop, IsTrue, true≢false, pos}
use Rattle.std.specs.Prelude.{slice_get, if◌then◌else◌}
use Rattle.std.proofs.lemmas.List.{length-replicate, replicate-append-replicate}
use Rattle.dc_types.specs.declared.kind.Kind.{Kind}
use Rattle.dc_types.specs.declared.place.Place.{Place}
use Rattle.dc_types.specs.declared.ty.Ty.{Ty}
use Rattle.dc_types.specs.declared.ty.Ty.TheOpen.{Ty-F}
use Rattle.dc_types.specs.declared.ty.Ty.TheViews.{out-Ty}
use Rattle.dc_value.specs.declared.value.Value.{Value}
use Rattle.dc_types.specs.declared.event.TrapKind.TheVariants.{Depth}
use Rattle.dc_types.specs.declared.event.Event.{Event}
use Rattle.dc_types.specs.declared.event.Event.TheVariants.{Enter}
use Rattle.dc_types.specs.declared.event.Limits.{Limits}
use Rattle.dc_types.specs.Integers.{InKind}
use Rattle.dc_types.proofs.Values.{zero_in_kind}
use Rattle.dc_code.specs.State as machine
use Rattle.dc_code.specs.State.{Machine, Run, On, Done}
use Rattle.dc_code.specs.Exec.{first_blocks}
use Rattle.dc_code.specs.Effect.{Calls as Calling}
use Rattle.dc_code.specs.Table.{named}
use Rattle.dc_code.specs.Blocks.{words_in}
use Rattle.dc_code.specs.Perform as perform
use Rattle.dc_code.specs.Perform.{ticked_by, with_words}
use Rattle.dc_code.specs.declared.instr.Op.TheVariants as op
use Rattle.dc_code.specs.declared.run.Nest.{Nest}
use Rattle.dc_code.specs.declared.code.Draft.{Draft}
use Rattle.core_tree.specs.Values.{nothing}
use Rattle.core_tree.specs.Weight.{sum, body_weight, stmt_weight_step, stmt_weight, stmts_weight}
use Rattle.core_tree.specs.Meaning.{State, Ran, Goes, Over, Trapped, and_then, Flow, Next, Back, Opened, is_too_deep, within, handed, frame, body_at, result_of, enter, calls_of, stmts_meaning}
use Rattle.core_tree.specs.Typed.{is_void, is_number, are_numbers, all_of, completes_step, completes, types_of, variables_of, IsTyped}
use Rattle.core_tree.specs.declared.tree.Variable.{Variable}
use Rattle.core_tree.specs.declared.stmt.Stmt.{Stmt}
use Rattle.core_tree.specs.declared.stmt.Stmt.TheOpen.{Stmt-F}
use Rattle.core_tree.specs.declared.stmt.Stmt.TheViews.{roll-Stmt}
use Rattle.core_tree.specs.declared.stmt.Stmt.TheFolds.{map-Stmt, fold-roll-Stmt, ind-Stmt}
use Rattle.core_tree.specs.declared.body.Body.{Body}
use Rattle.core_lower_expr.specs.Lowered.{instr, no_code, then_ops, call_ops}
use Rattle.core_lower_expr.specs.Frames.{word, words_at}
use Rattle.core_lower_expr.proofs.Steps.{HasAt, has_front, has_back, Leads, here, leads, one}
use Rattle.core_lower_expr.proofs.Seams.{take_more, put_more}
use Rattle.core_lower_expr.proofs.Locals.{words_of, Good}
use Rattle.core_lower_expr.proofs.Follow.{Here, front, having, at, ended_after, value, unit, fixed, front_length, M, Went, Gives, Operates, then_follows, none_follows, answers}
use Rattle.core_lower_expr.proofs.Ops.{number, num_is}
use Rattle.core_lower_expr.proofs.Prints.{AreFine}
use Rattle.core_lower_expr.proofs.Exprs.{number_is, CallsFollow}
use Rattle.core_lower.specs.Lowered.{return_ops, body_places, names_in, number_at, end_by, stmts_code, body_code, function_of}
use Rattle.core_lower.proofs.Flow.{GivesFlow, WentOn, WentBack, FollowsFlow, after_flow, then_flow, return_op, on_tick}
use Rattle.core_lower.proofs.Stmts.{void_is, stmts_follow}
use Rattle.core_lower.proofs.Leading.{slots_fit}
use Rattle.core_lower.proofs.Frames.{nothing_word, handed_words, handed_good, handed_length, fresh_words, fresh_good, good_append, words_append, numbers_split}

-- a body's function and its code are there
pub record Loaded (code : Draft) (bodies : List Body) (number : ℕ) (b : Body) : Type 0 where
  pub first : ℕ
  pub there : slice_get code.functions number ≡ Some (function_of b first)
  pub has : HasAt code.instrs first (body_code bodies b first)

no_tick : (l : ℕ) (event : Event) (m : Machine) (go : Machine → Run) → l ≡ 0 → ticked_by l event m go ≡ Done machine.Bound m.events m.taken
no_tick zero event m go e = refl
no_tick (suc n) event m go e = absurd (omega arith)

few_words : (x : Ty-F Ty) (v : Value) → length (words_at x v) ≤ 1
few_words (Ty-F.Int k) v = omega arith
few_words Ty-F.Void v = omega arith
few_words (Ty-F.Fixed a n) v = omega arith
few_words (Ty-F.Slice a) v = omega arith
few_words Ty-F.Str v = omega arith
few_words (Ty-F.Struct p) v = omega arith
few_words (Ty-F.Enum p a) v = omega arith
few_words Ty-F.NullLit v = omega arith
few_words Ty-F.EmptyLit v = omega arith

-- ---- the end of a function

-- how many slots the end of a function takes
abbrev pub end_room : {A : Type 0} → Ty-F A → ℕ
end_room (Ty-F.Int k) = 5
end_room _ = 0

module _ (code : Draft) (limits : Limits) (nest : Nest) (h : Here) (vars : List Variable) (fuel : ℕ) where
  nothing_op : (place : Place) (k : Kind) → Operates code limits nest h vars fuel unit (number k) (λ d. instr place (op.Const d 0) ∷ []) (λ a s. Goes nothing s)
  nothing_op place k pc spare taken temps rest s a has e good fine room ticks =
      answers code limits nest h vars fuel (number k) (M code limits nest h vars pc taken s temps rest) pc spare taken temps rest s s.left nothing (0 ∷ []) e good
      (subst (InKind k) (sym (num_is (pos 0))) (zero_in_kind k)) (ap (λ w. w ∷ []) nothing_word) (omega (arith, room)) (omega arith)
      (one code limits (at code limits nest h vars pc taken s temps rest) (instr place (op.Const spare 0)) _ has.0 refl)

  abbrev Ends : Ty-F Ty → Place → Type 0
  Ends x place = FollowsFlow code limits nest h vars x fuel (λ pc spare. end_by x place spare) (end_room x) (λ s. Goes (Back nothing) s)

  number_end : (place : Place) (k : Kind) → Ends (Ty-F.Int k) place
  number_end place k =
      then_flow code limits nest h vars (Ty-F.Int k) fuel (number k) (then_ops no_code (λ d. instr place (op.Const d 0) ∷ [])) (return_ops place 1) 5 (λ s. Goes nothing s) (λ v s. Goes (Back v) s)
      (then_follows code limits nest h vars fuel unit (number k) no_code (λ d. instr place (op.Const d 0) ∷ []) 0 (λ s. Goes tt s) (λ a s. Goes nothing s) (none_follows code limits nest h vars fuel) (nothing_op place k))
      (return_op code limits nest h vars (Ty-F.Int k) fuel place 1 (λ v. refl))

  void_end : (place : Place) → Ends Ty-F.Void place
  void_end place =
      then_flow code limits nest h vars Ty-F.Void fuel (value Ty-F.Void) no_code (return_ops place 0) 0 (λ s. Goes nothing s) (λ v s. Goes (Back v) s)
      (λ pc spare taken temps more s has e good room ticks.
      let g = none_follows code limits nest h vars fuel pc spare taken temps more s has e good room ticks in
      record { rest = g.rest; taken = g.taken; fine = tt; good = g.good; fills = g.fills; ticks = g.ticks; by = g.by })
      (return_op code limits nest h vars Ty-F.Void fuel place 0 (λ v. refl))

  -- a function that comes to its end returns nothing
  pub end_follows : (place : Place) (rt : Ty) → IsTrue (is_void rt || is_number rt) → Ends (out-Ty rt) place
  end_follows place rt t = by_void (is_void rt) refl where
    by_void : (b : Bool) → is_void rt ≡ b → Ends (out-Ty rt) place
    by_void true e = subst (λ x. Ends x place) (sym (void_is rt e)) (void_end place)
    by_void false e = let k = number_is rt (subst (λ b. IsTrue (b || is_number rt)) e t) in subst (λ x. Ends x place) (sym k.1) (number_end place k.0)

-- a statement that doesn't come to its end weighs something
abbrev Weighs : Stmt → Type 0
Weighs e = IsTrue (not (completes e)) → 8 ≤ stmt_weight e

module _ {Y : Type 0} (p : Y → Stmt) (h : (y : Y) → Weighs (p y)) where
  some_of : (ys : List Y) → IsTrue (not (all_of (map completes (map p ys)))) → 8 ≤ sum (map stmt_weight (map p ys))
  some_of [] t = absurd (true≢false (sym t))
  some_of (y ∷ ys) t = by_test (some_of ys) (completes (p y)) refl where
    by_test : (IsTrue (not (all_of (map completes (map p ys)))) → 8 ≤ sum (map stmt_weight (map p ys))) → (b : Bool) → completes (p y) ≡ b → 8 ≤ sum (map stmt_weight (map p (y ∷ ys)))
    by_test next true e = let more = next (subst (λ b. IsTrue (not (b && all_of (map completes (map p ys))))) e t) in omega (arith, more)
    by_test next false e = let here = h y (ap not e) in omega (arith, here)

  some_layer : (y : Stmt-F Y) → IsTrue (not (completes_step (map-Stmt Stmt Bool completes (map-Stmt Y Stmt p y)))) → 8 ≤ stmt_weight_step (map-Stmt Stmt ℕ stmt_weight (map-Stmt Y Stmt p y))
  some_layer (Stmt-F.Eval e) t = omega arith
  some_layer (Stmt-F.Declare v e) t = omega arith
  some_layer (Stmt-F.Block stmts) t = omega arith
  some_layer (Stmt-F.If place [] last) t = omega (arith, some_of last t)
  some_layer (Stmt-F.If place (b ∷ bs) last) t = omega arith
  some_layer (Stmt-F.While place e body) t = omega arith
  some_layer (Stmt-F.Return place e) t = omega arith

some_rolled : (x : Stmt-F Stmt) → (IsTrue (not (completes_step (map-Stmt Stmt Bool completes x))) → 8 ≤ stmt_weight_step (map-Stmt Stmt ℕ stmt_weight x)) → Weighs (roll-Stmt x)
some_rolled x h t = subst (λ n. 8 ≤ n) (sym (fold-roll-Stmt ℕ stmt_weight_step x)) (h (subst (λ b. IsTrue (not b)) (fold-roll-Stmt Bool completes_step x) t))

some_weight : (e : Stmt) → Weighs e
some_weight = ind-Stmt Weighs (λ x y is. subst (λ z. Weighs (roll-Stmt z)) is (some_rolled _ (some_layer (λ e. e.0) (λ e. e.1) y)))

-- a function that doesn't come to its end has a statement
some_stmts : (stmts : List Stmt) → IsTrue (not (all_of (map completes stmts))) → 8 ≤ stmts_weight stmts
some_stmts [] t = absurd (true≢false (sym t))
some_stmts (e ∷ es) t = by_test (some_stmts es) (completes e) refl where
  by_test : (IsTrue (not (all_of (map completes es))) → 8 ≤ stmts_weight es) → (b : Bool) → completes e ≡ b → 8 ≤ stmts_weight (e ∷ es)
  by_test next true is = let more = next (subst (λ b. IsTrue (not (b && all_of (map completes es)))) is t) in omega (arith, more)
  by_test next false is = let here = some_weight e (ap not is) in omega (arith, here)

room_at : (x : Ty-F Ty) → end_room x ≤ 5
room_at (Ty-F.Int k) = omega arith
room_at Ty-F.Void = omega arith
room_at (Ty-F.Fixed a n) = omega arith
room_at (Ty-F.Slice a) = omega arith
room_at Ty-F.Str = omega arith
room_at (Ty-F.Struct p) = omega arith
room_at (Ty-F.Enum p a) = omega arith
room_at Ty-F.NullLit = omega arith
room_at Ty-F.EmptyLit = omega arith

pub room_there : (bodies : List Body) (b : Body) → IsTyped bodies b → end_room (out-Ty b.result) ≤ stmts_weight b.stmts
room_there bodies b good = by_void (is_void b.result) refl where
  by_void : (c : Bool) → is_void b.result ≡ c → end_room (out-Ty b.result) ≤ stmts_weight b.stmts
  by_void true e = let z = ap end_room (void_is b.result e) in omega (arith, z)
  by_void false e =
      let t = subst (λ c. IsTrue (c || not (all_of (map completes b.stmts)))) e good.flow in
      omega (arith, some_stmts b.stmts t, room_at (out-Ty b.result))

abbrev pub nest_of : Opened → Nest
nest_of opened = record { depth = opened.depth; weight = opened.weight }

module _ (code : Draft) (limits : Limits) (bodies : List Body) where
  abbrev pub function : Place → ℕ
  function place = number_at place (body_places bodies)

  module _ (loaded : (f : Place) (b : Body) → body_at bodies f ≡ Some b → Loaded code bodies (function f) b) (fit : (f : Place) (b : Body) → body_at bodies f ≡ Some b → IsTyped bodies b) where
    params_fit : (f : Place) (b : Body) → body_at bodies f ≡ Some b → IsTrue (are_numbers (types_of b.params))
    params_fit f b is = (numbers_split b.params b.locals (fit f b is).variables).0

    module _ (opened : Opened) (h : Here) (vars : List Variable) (pc spare : ℕ) (temps rest : List ℕ) (vs : List Value) (b : Body) (s : State) where
      abbrev more : List ℕ
      more = map word vs ++ rest

      abbrev inner : Here
      inner = record { below = front h s temps ++ more; callers = record { pc = pc + 1; base = length h.below; slot = spare; nest = nest_of opened } ∷ h.callers }

      abbrev nest' : Nest
      nest' = nest_of (within opened (body_weight b))

      abbrev x : Ty-F Ty
      x = out-Ty b.result

      -- the caller goes on with what the callee gives
      back_in : (from mid : Run) (before k : ℕ) (v : Value) (t : State) → spare ≡ fixed code limits (nest_of opened) h vars + length temps → Good vars s.locals → 5 ≤ length more → k ≤ before → Leads code limits from mid →
          WentBack code limits nest' inner (variables_of b) x mid k v t → Went code limits (nest_of opened) h vars (value x) from (pc + 1) temps (length more) before v (record t { locals = s.locals })
      back_in from mid before k v t e good room le l w =
          let ws = words_at x v in
          record {
            rest = drop (length ws) more;
            taken = w.taken;
            fine = w.fine;
            good = good;
            fills = omega (arith, length-drop (length ws) more, few_words x v, room);
            ticks = omega (arith, le, w.ticks);
            by = leads code limits from mid _ l (leads code limits mid _ _ w.by (here code limits _ _
                (ap (λ l. On (having code limits (nest_of opened) h vars (pc + 1) w.taken (record t { locals = s.locals }) l))
                (put_more (front h s temps) more ws (length h.below + spare) (omega (arith, front_length code limits (nest_of opened) h vars s temps good, e))))));
          }

      finish : (from mid : Run) (before k pc2 room2 : ℕ) (r : Ran Flow) → spare ≡ fixed code limits (nest_of opened) h vars + length temps → Good vars s.locals → 5 ≤ length more → k ≤ before → Leads code limits from mid →
          GivesFlow code limits nest' inner (variables_of b) x mid pc2 room2 k r →
          ((t : State) → WentOn code limits nest' inner (variables_of b) x mid pc2 room2 k t → WentBack code limits nest' inner (variables_of b) x mid k nothing t) →
          Gives code limits (nest_of opened) h vars (value x) from (pc + 1) temps (length more) before (and_then r (λ flow t. Goes (result_of flow) (record t { locals = s.locals })))
      finish from mid before k pc2 room2 (Goes Next t) e good room le l g end = back_in from mid before k nothing t e good room le l (end t g)
      finish from mid before k pc2 room2 (Goes (Back v) t) e good room le l g end = back_in from mid before k v t e good room le l g
      finish from mid before k pc2 room2 (Over stop events) e good room le l g end = ended_after code limits (nest_of opened) h vars from mid stop events l g

      -- a call, from the machine that has taken its tick
      entered : (place : Place) (n taken before first : ℕ) (from : Run) (deep : Bool) → ((opened : Opened) → CallsFollow code limits (nest_of opened) bodies n function (calls_of bodies limits n opened)) → IsTyped bodies b → HasAt code.instrs first (body_code bodies b first) →
          spare ≡ fixed code limits (nest_of opened) h vars + length temps → Good vars s.locals → AreFine (types_of b.params) vs → 5 ≤ length more → s.left ≤ before → s.left ≤ n →
          Leads code limits from (if deep then Done (machine.Trapped Depth place) s.events taken else On (record {
            pc = first;
            words = (front h s temps ++ more) ++ (words_in (at code limits (nest_of opened) h vars pc taken s temps more) spare (length b.params) ++ replicate (body_weight b - length b.params) 0);
            base = length (front h s temps ++ more);
            callers = inner.callers;
            nest = nest';
            blocks = first_blocks code;
            cells = 0;
            pending = [];
            left = s.left;
            taken = taken;
            events = s.events;
          })) →
          Gives code limits (nest_of opened) h vars (value x) from (pc + 1) temps (length more) before (if deep then Over (Trapped Depth place) s.events else
          and_then (stmts_meaning (calls_of bodies limits n (within opened (body_weight b))) b.stmts (record s { locals = frame b vs })) (λ flow t. Goes (result_of flow) (record t { locals = s.locals })))
      entered place n taken before first from true cf good_b has e good fine room le few l = record { taken = taken; stops = tt; by = l }
      entered place n taken before first from false cf good_b has e good fine room le few l =
          let w = body_weight b in
          let p = length b.params in
          let k = length b.locals in
          let vs' = variables_of b in
          let u : State = record s { locals = frame b vs } in
          let mv = map word vs in
          let zs = replicate {A = ℕ} k 0 in
          let rest' = replicate {A = ℕ} (w - (p + k)) 0 in
          let all = front h s temps ++ more in
          let numbers = numbers_split b.params b.locals good_b.variables in
          let count : length vs' ≡ p + k = length-append b.params b.locals in
          let size : length rest' ≡ w - (p + k) = length-replicate {A = ℕ} (w - (p + k)) 0 in
          let handed_is : words_in (at code limits (nest_of opened) h vars pc taken s temps more) spare p ≡ mv =
          take_more (front h s temps) mv rest (length h.below + spare) p (omega (arith, front_length code limits (nest_of opened) h vars s temps good, e)) (sym (handed_length b.params vs fine)) in
          let zeros : replicate (w - p) 0 ≡ zs ++ rest' = ap (λ n. replicate n 0) (omega arith) ∙ sym (replicate-append-replicate {A = ℕ} k (w - (p + k)) 0) in
          let frame_is : words_of u.locals ≡ mv ++ zs = words_append (handed b.params vs) (handed b.locals []) ∙ ap₂ (λ a b. a ++ b) (handed_words b.params vs fine) (fresh_words b.locals) in
          let words : all ++ (words_in (at code limits (nest_of opened) h vars pc taken s temps more) spare p ++ replicate (w - p) 0) ≡ front inner u [] ++ rest' =
          ap₂ (λ a b. all ++ (a ++ b)) handed_is zeros ∙ ap (λ l. all ++ l) (sym (append_assoc mv zs rest') ∙ ap (λ l. l ++ rest') (sym frame_is))
          ∙ sym (append_assoc (all ++ words_of u.locals) [] rest' ∙ append_assoc all (words_of u.locals) ([] ++ rest')) in
          let mid = M code limits nest' inner vs' first taken u [] rest' in
          let to_mid : Leads code limits from mid = leads code limits from _ mid l (here code limits _ mid (ap (λ l. On (having code limits nest' inner vs' first taken u l)) words)) in
          let good_u : Good vs' u.locals = good_append b.params b.locals (handed b.params vs) (handed b.locals []) (handed_good b.params vs fine) (fresh_good b.locals numbers.1) in
          let names = names_in bodies vs' in
          let cs = stmts_code names b.stmts first (length vs') in
          let es = end_by x b.place (length vs') in
          let calls = calls_of bodies limits n (within opened w) in
          finish from mid before s.left (first + length cs) (length rest') (stmts_meaning calls b.stmts u) e good room le to_mid
          (stmts_follow code limits nest' inner vs' b.result n bodies names calls good_b.variables (slots_fit bodies vs') params_fit (cf (within opened w)) b.stmts good_b.stmts first taken rest' u (has_front code.instrs first cs es has) good_u (omega (arith, size)) few)
          (λ t o.
          after_flow code limits nest' inner vs' x mid _ (first + length cs + length es) (first + length cs + length es) (length o.rest) (length o.rest) s.left t.left (Goes (Back nothing) t) o.by refl refl o.ticks
          (end_follows code limits nest' inner vs' n b.place b.result good_b.result (first + length cs) o.taken o.rest t (has_back code.instrs first cs es has) o.good (omega (arith, o.fills, size, room_there bodies b good_b)) (omega (arith, o.ticks, few))))

    abbrev on : Opened → Here → List Variable → ℕ → ℕ → State → List ℕ → List ℕ → Machine
    on opened h vars pc taken s temps more = at code limits (nest_of opened) h vars pc taken s temps more

    -- the function of a body is called
    calling : (opened : Opened) (h : Here) (vars : List Variable) (place f : Place) (b : Body) (load : Loaded code bodies (function f) b) (pc spare taken : ℕ) (temps more : List ℕ) (s : State) → HasAt code.instrs pc (call_ops place (function f) spare) →
        Leads code limits (On (on opened h vars pc taken s temps more)) (perform.calls limits place (function_of b load.first) spare spare (on opened h vars pc taken s temps more))
    calling opened h vars place f b load pc spare taken temps more s has =
        one code limits (on opened h vars pc taken s temps more) (instr place (op.Call (function f) spare spare)) _ has.0
        (ap (λ o. perform.perform limits place (named o (λ g. Calling g spare spare)) (on opened h vars pc taken s temps more)) load.there)

    pub calls_follow : (n : ℕ) (opened : Opened) → CallsFollow code limits (nest_of opened) bodies n function (calls_of bodies limits n opened)
    calls_follow zero opened h vars place f b is pc spare taken temps rest s vs has e good fine room ticks =
        let load = loaded f b is in
        let m = on opened h vars pc taken s temps (map word vs ++ rest) in
        let g = function_of b load.first in
        record {
          taken = taken;
          stops = tt;
          by = leads code limits _ _ _ (calling opened h vars place f b load pc spare taken temps (map word vs ++ rest) s has) (here code limits _ _ (no_tick s.left (Enter b.place) m _ (omega (arith, ticks))));
        }
    calls_follow (suc n) opened h vars place f b is pc spare taken temps rest s vs has e good fine room ticks =
        let load = loaded f b is in
        let more = map word vs ++ rest in
        let m = on opened h vars pc taken s temps more in
        let G = Gives code limits (nest_of opened) h vars (value (out-Ty b.result)) (On m) (pc + 1) temps (length more) s.left in
        subst (λ o. G (enter (calls_of bodies limits n) limits opened place f o vs s)) (sym is)
        (on_tick code limits (nest_of opened) h vars (out-Ty b.result) G (On m) s.left (Enter b.place) s m _ _ (λ events l. l) refl
        (calling opened h vars place f b load pc spare taken temps more s has)
        (λ j is' l. entered opened h vars pc spare temps rest vs b (record s { left = j; events = s.events ++ Enter b.place ∷ [] }) place n taken s.left load.first (On m) (is_too_deep limits opened (body_weight b)) (calls_follow n) (fit f b is) load.has
        e good fine room (omega (arith, is')) (omega (arith, is', ticks)) l))
