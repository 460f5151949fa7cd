-- A larger bound on ticks lengthens what a meaning does, and changes nothing else.
use Rattle.std.proofs.Common.{◌≡◌, ℕ, zero, suc, ◌+◌, ◌-◌, ◌≤◌, Bool, List, [], ◌∷◌, ◌++◌, map, Option, Some, None, Result, Ok, Err, refl, sym, ap, subst, arith, ℤ}
use Rattle.std.specs.Prelude.{if◌then◌else◌}
use Rattle.dc_types.specs.declared.kind.Kind.{Kind}
use Rattle.dc_types.specs.declared.place.Place.{Place}
use Rattle.dc_types.specs.declared.ty.Ty.{Ty}
use Rattle.dc_value.specs.declared.value.Value.{Value}
use Rattle.dc_types.specs.declared.event.TrapKind.{TrapKind}
use Rattle.dc_types.specs.declared.event.TrapKind.TheVariants.{Depth}
use Rattle.dc_types.specs.declared.event.Event.TheVariants.{Enter, Turn, Print}
use Rattle.dc_types.specs.declared.event.Limits.{Limits}
use Rattle.dc_types.specs.Integers.{binary, compare}
use Rattle.core_tree.specs.Values.{num, nothing, number_in, number_of_tree, truth_number, is_zero, texts_of}
use Rattle.core_tree.specs.Weight.{body_weight}
use Rattle.core_tree.specs.Meaning.{State, End, Gave, Trapped, Bound, Missing, Ran, Goes, Over, Part, and_then, both, each, tick, value_at, with_value, assigned, given, operated, chained, printed, Calls, tree_step, tree_meaning, Flow, Next, Back, next_or, block, branched, turns, stmt_step, stmt_meaning, stmts_meaning, Opened, is_too_deep, within, frame, body_at, result_of, enter, calls_of, begun, no_calls, outcome}
use Rattle.dc_types.specs.Events.{ticks, BeginsWith}
use Rattle.core_tree.specs.Bounds.{TicksBound}
use Rattle.core_tree.specs.Nodes.{operation_with, branch_with}
use Rattle.core_tree.specs.Typed.{Each}
use Rattle.core_tree.specs.declared.tree.Operation.{Operation}
use Rattle.core_tree.specs.declared.tree.Tree.{Tree}
use Rattle.core_tree.specs.declared.tree.Tree.TheOpen.{Tree-F}
use Rattle.core_tree.specs.declared.tree.Tree.TheViews.{roll-Tree}
use Rattle.core_tree.specs.declared.tree.Tree.TheFolds.{map-Tree, fold-roll-Tree, ind-Tree}
use Rattle.core_tree.specs.declared.stmt.Branch.{Branch}
use Rattle.core_tree.specs.declared.stmt.Stmt.{Stmt}
use Rattle.core_tree.specs.declared.stmt.Stmt.TheOpen.{Stmt-F}
use Rattle.core_tree.specs.declared.stmt.Stmt.TheViews.{roll-Stmt}
use Rattle.core_tree.specs.declared.stmt.Stmt.TheFolds.{map-Stmt, fold-roll-Stmt, ind-Stmt}
use Rattle.core_tree.specs.declared.body.Body.{Body}
use Rattle.core_tree.proofs.Lengthening.{begins, begins_then, begins_more, ticks_more, more, events_of, Told, Grows, Pair, grows_then, then_told, then_pair, goes_told, goes_pair, over_told, bound_told, if_told, if_grows, tick_grows, tick_told}

trap_other : (trap : TrapKind) (place : Place) → Trapped trap place ≡ Bound → ⊥
trap_other trap place e = subst IsTrap e tt where
  IsTrap : End → Type 0
  IsTrap (Trapped trap place) = Unit {0}
  IsTrap (Gave v) = ⊥
  IsTrap Bound = ⊥
  IsTrap (Missing f) = ⊥

missing_other : (f : Place) → Missing f ≡ Bound → ⊥
missing_other f e = subst IsMissing e tt where
  IsMissing : End → Type 0
  IsMissing (Missing f) = Unit {0}
  IsMissing (Gave v) = ⊥
  IsMissing Bound = ⊥
  IsMissing (Trapped trap place) = ⊥

-- ---- expressions

module _ (n : ℕ) where
  assigned_pair : (place : Place) (v : Value) → Pair n (assigned place v) (assigned place v)
  assigned_pair place v = record { told = λ s d le. goes_told d v s (record s { locals = with_value place v s.locals }) refl refl; grows = λ s. begins s.events }

  given_pair : (place : Place) (r : Result ℤ TrapKind) → Pair n (given place r) (given place r)
  given_pair place (Ok z) = goes_pair n (num z)
  given_pair place (Err trap) = record { told = λ s d le. over_told d s (Trapped trap place) (trap_other trap place); grows = λ s. begins s.events }

  print_told : (d : ℕ) (tys : List Ty) (line : Bool) (vs : List Value) (s : State) → Told d s (printed tys line vs s) (printed tys line vs (more d s))
  print_told d tys line vs s =
      let event = Print (texts_of tys vs ++ (if line then 10 ∷ [] else [])) in
      record { same = refl; count = omega (arith, ticks_more s.events event); front = begins_more s.events event; fewer = omega arith }

  printed_pair : (tys : List Ty) (line : Bool) (vs : List Value) → Pair n (printed tys line vs) (printed tys line vs)
  printed_pair tys line vs = record { told = λ s d le. print_told d tys line vs s; grows = λ s. begins_more s.events (Print (texts_of tys vs ++ (if line then 10 ∷ [] else []))) }

  module _ {A B : Type 0} where
    both_pair : (p q : Part A) (p' q' : Part B) → Pair n p q → Pair n p' q' → Pair n (both p p') (both q q')
    both_pair p q p' q' f g =
        then_pair n p q (λ x s. and_then (p' s) (λ y s. Goes (x, y) s)) (λ x s. and_then (q' s) (λ y s. Goes (x, y) s)) f
        (λ x. then_pair n p' q' (λ y s. Goes (x, y) s) (λ y s. Goes (x, y) s) g (λ y. goes_pair n (x, y)))

  module _ (place : Place) (k : Kind) (p q : Tree → Part Value) where
    chained_pair : (os : List (Operation Tree)) → Each (λ o. Pair n (p o.operand) (q o.operand)) os → (x : Value) → Pair n (chained place k (map (operation_with p) os) x) (chained place k (map (operation_with q) os) x)
    chained_pair [] h x = goes_pair n x
    chained_pair (o ∷ os) h x =
        let go = chained place k (map (operation_with p) os) in
        let go' = chained place k (map (operation_with q) os) in
        then_pair n (p o.operand) (q o.operand) (λ y s. and_then (operated place o.operator k (x, y) s) go) (λ y s. and_then (operated place o.operator k (x, y) s) go') h.0
        (λ y. then_pair n (operated place o.operator k (x, y)) (operated place o.operator k (x, y)) go go' (given_pair place (binary o.operator k (number_in x) (number_in y))) (chained_pair os h.1))

  module _ {X A : Type 0} (p q : X → Part A) where
    each_pair : (xs : List X) → Each (λ x. Pair n (p x) (q x)) xs → Pair n (each (map p xs)) (each (map q xs))
    each_pair [] h = goes_pair n []
    each_pair (x ∷ xs) h =
        then_pair n (p x) (q x) (λ a s. and_then (each (map p xs) s) (λ rest s. Goes (a ∷ rest) s)) (λ a s. and_then (each (map q xs) s) (λ rest s. Goes (a ∷ rest) s)) h.0
        (λ a. then_pair n (each (map p xs)) (each (map q xs)) (λ rest s. Goes (a ∷ rest) s) (λ rest s. Goes (a ∷ rest) s) (each_pair xs h.1) (λ rest. goes_pair n (a ∷ rest)))

  module _ (calls calls' : Calls) (cp : (place f : Place) (args : List Value) → Pair n (calls place f args) (calls' place f args)) where
    abbrev Holds : Tree → Type 0
    Holds e = Pair n (tree_meaning calls e) (tree_meaning calls' e)

    rolled : (x : Tree-F Tree) → Pair n (tree_step calls (map-Tree Tree (Part Value) (tree_meaning calls) x)) (tree_step calls' (map-Tree Tree (Part Value) (tree_meaning calls') x)) → Holds (roll-Tree x)
    rolled x h =
        subst (λ m. Pair n m (tree_meaning calls' (roll-Tree x))) (sym (fold-roll-Tree (Part Value) (tree_step calls) x))
        (subst (λ m. Pair n (tree_step calls (map-Tree Tree (Part Value) (tree_meaning calls) x)) m) (sym (fold-roll-Tree (Part Value) (tree_step calls') x)) h)

    module _ {Y : Type 0} (p : Y → Tree) (h : (y : Y) → Holds (p y)) where
      abbrev P : Y → Part Value
      P y = tree_meaning calls (p y)

      abbrev Q : Y → Part Value
      Q y = tree_meaning calls' (p y)

      all_hold : (ys : List Y) → Each (λ e. Holds e) (map p ys)
      all_hold [] = tt
      all_hold (y ∷ ys) = (h y, all_hold ys)

      operands_hold : (os : List (Operation Y)) → Each (λ o. Holds o.operand) (map (operation_with p) os)
      operands_hold [] = tt
      operands_hold (o ∷ os) = (h o.operand, operands_hold os)

      layer : (y : Tree-F Y) → Pair n (tree_step calls (map-Tree Tree (Part Value) (tree_meaning calls) (map-Tree Y Tree p y))) (tree_step calls' (map-Tree Tree (Part Value) (tree_meaning calls') (map-Tree Y Tree p y)))
      layer (Tree-F.Constant place c) = goes_pair n (num (number_of_tree c.tree))
      layer (Tree-F.Local place v) = record { told = λ s d le. goes_told d (value_at v.place s.locals) s s refl refl; grows = λ s. begins s.events }
      layer (Tree-F.Assign place v e) = then_pair n (P e) (Q e) (assigned v.place) (assigned v.place) (h e) (assigned_pair v.place)
      layer (Tree-F.Chain place k first rest) =
          then_pair n (P first) (Q first) (chained place k (map (operation_with (tree_meaning calls)) (map (operation_with p) rest))) (chained place k (map (operation_with (tree_meaning calls')) (map (operation_with p) rest))) (h first)
          (chained_pair place k (tree_meaning calls) (tree_meaning calls') (map (operation_with p) rest) (operands_hold rest))
      layer (Tree-F.Compare place o k a b) =
          let go : Value × Value → Part Value = λ xy s. Goes (num (truth_number (compare o (number_in xy.0) (number_in xy.1)))) s in
          then_pair n (both (P a) (P b)) (both (Q a) (Q b)) go go (both_pair (P a) (Q a) (P b) (Q b) (h a) (h b)) (λ xy. goes_pair n (num (truth_number (compare o (number_in xy.0) (number_in xy.1)))))
      layer (Tree-F.Call place f ty args) =
          then_pair n (each (map (tree_meaning calls) (map p args))) (each (map (tree_meaning calls') (map p args))) (calls place f) (calls' place f) (each_pair (tree_meaning calls) (tree_meaning calls') (map p args) (all_hold args)) (cp place f)
      layer (Tree-F.Print place tys args line) =
          then_pair n (each (map (tree_meaning calls) (map p args))) (each (map (tree_meaning calls') (map p args))) (printed tys line) (printed tys line) (each_pair (tree_meaning calls) (tree_meaning calls') (map p args) (all_hold args)) (printed_pair tys line)

    pub tree_pair : (e : Tree) → Holds e
    tree_pair = ind-Tree Holds (λ x y is. subst (λ z. Holds (roll-Tree z)) is (rolled _ (layer (λ e. e.0) (λ e. e.1) y)))

    -- ---- statements

    module _ (p q : Part Flow) where
      next_pair : (flow : Flow) → Pair n p q → Pair n (next_or flow p) (next_or flow q)
      next_pair Next f = f
      next_pair (Back v) f = goes_pair n (Back v)

    module _ {X : Type 0} (p q : X → Part Flow) where
      block_pair : (xs : List X) → Each (λ x. Pair n (p x) (q x)) xs → Pair n (block (map p xs)) (block (map q xs))
      block_pair [] h = goes_pair n Next
      block_pair (x ∷ xs) h =
          then_pair n (p x) (q x) (λ flow. next_or flow (block (map p xs))) (λ flow. next_or flow (block (map q xs))) h.0
          (λ flow. next_pair (block (map p xs)) (block (map q xs)) flow (block_pair xs h.1))

    module _ (place : Place) (test test' : Part Value) (body body' : Part Flow) (tp : Pair n test test') (bp : Pair n body body') where
      next_grows : (flow : Flow) (q : Part Flow) → Grows q → Grows (next_or flow q)
      next_grows Next q g = g
      next_grows (Back v) q g = λ s. begins s.events

      turns_grows : (k : ℕ) → Grows (turns k place test' body')
      turns_grows zero = grows_then test' (λ v s. if is_zero v then Goes Next s else Over Bound s.events) tp.grows (λ v s. if_grows (is_zero v) s (Goes Next s) (Over Bound s.events) (begins s.events) (begins s.events))
      turns_grows (suc k) =
          let more_turns : Part Flow = λ s. and_then (body' s) (λ flow. next_or flow (turns k place test' body')) in
          grows_then test' (λ v s. if is_zero v then Goes Next s else tick (Turn place) more_turns s) tp.grows
          (λ v s. if_grows (is_zero v) s (Goes Next s) (tick (Turn place) more_turns s) (begins s.events)
          (tick_grows (Turn place) more_turns (grows_then body' (λ flow. next_or flow (turns k place test' body')) bp.grows (λ flow. next_grows flow (turns k place test' body') (turns_grows k))) s))

      abbrev turn : ℕ → Part Value → Part Flow → Part Flow
      turn k test body s = and_then (body s) (λ flow. next_or flow (turns k place test body))

      turn_grows : (k : ℕ) → Grows (turn k test' body')
      turn_grows k = grows_then body' (λ flow. next_or flow (turns k place test' body')) bp.grows (λ flow. next_grows flow (turns k place test' body') (turns_grows k))

      next_told : (d : ℕ) (t : State) (flow : Flow) (p q : Part Flow) → Told d t (p t) (q (more d t)) → Told d t (next_or flow p t) (next_or flow q (more d t))
      next_told d t Next p q h = h
      next_told d t (Back v) p q h = goes_told d (Back v) t t refl refl

      turns_told : (k k' : ℕ) (s : State) (d : ℕ) → k ≤ k' → s.left ≤ k → s.left ≤ n → Told d s (turns k place test body s) (turns k' place test' body' (more d s))
      turns_told zero zero s d le few fuel =
          let go : Value → Part Flow = λ v s. if is_zero v then Goes Next s else Over Bound s.events in
          then_told d s (test s) (test' (more d s)) go go (tp.told s d fuel)
          (λ v t fewer. if_told d t (is_zero v) (Goes Next t) (Over Bound t.events) (Goes Next (more d t)) (Over Bound t.events) (goes_told d Next t t refl refl) (bound_told d t (Over Bound t.events) (omega (arith, few, fewer)) (begins t.events)))
          (λ v t. if_grows (is_zero v) t (Goes Next t) (Over Bound t.events) (begins t.events) (begins t.events))
      turns_told zero (suc k') s d le few fuel =
          let go : Value → Part Flow = λ v s. if is_zero v then Goes Next s else Over Bound s.events in
          let go' : Value → Part Flow = λ v s. if is_zero v then Goes Next s else tick (Turn place) (turn k' test' body') s in
          then_told d s (test s) (test' (more d s)) go go' (tp.told s d fuel)
          (λ v t fewer. if_told d t (is_zero v) (Goes Next t) (Over Bound t.events) (Goes Next (more d t)) (tick (Turn place) (turn k' test' body') (more d t)) (goes_told d Next t t refl refl)
          (bound_told d t (tick (Turn place) (turn k' test' body') (more d t)) (omega (arith, few, fewer)) (tick_grows (Turn place) (turn k' test' body') (turn_grows k') (more d t))))
          (λ v t. if_grows (is_zero v) t (Goes Next t) (tick (Turn place) (turn k' test' body') t) (begins t.events) (tick_grows (Turn place) (turn k' test' body') (turn_grows k') t))
      turns_told (suc k) zero s d le few fuel = absurd (omega arith)
      turns_told (suc k) (suc k') s d le few fuel =
          let go : Value → Part Flow = λ v s. if is_zero v then Goes Next s else tick (Turn place) (turn k test body) s in
          let go' : Value → Part Flow = λ v s. if is_zero v then Goes Next s else tick (Turn place) (turn k' test' body') s in
          then_told d s (test s) (test' (more d s)) go go' (tp.told s d fuel)
          (λ v t fewer. if_told d t (is_zero v) (Goes Next t) (tick (Turn place) (turn k test body) t) (Goes Next (more d t)) (tick (Turn place) (turn k' test' body') (more d t)) (goes_told d Next t t refl refl)
          (tick_told d t (Turn place) (turn k test body) (turn k' test' body') refl (turn_grows k')
          (λ u e. then_told d u (body u) (body' (more d u)) (λ flow. next_or flow (turns k place test body)) (λ flow. next_or flow (turns k' place test' body')) (bp.told u d (omega (arith, e, fewer, fuel)))
          (λ flow w less. next_told d w flow (turns k place test body) (turns k' place test' body') (turns_told k k' w d (omega (arith, le)) (omega (arith, less, e, fewer, few)) (omega (arith, less, e, fewer, fuel))))
          (λ flow. next_grows flow (turns k' place test' body') (turns_grows k')))))
          (λ v t. if_grows (is_zero v) t (Goes Next t) (tick (Turn place) (turn k' test' body') t) (begins t.events) (tick_grows (Turn place) (turn k' test' body') (turn_grows k') t))

      while_pair : Pair n (λ s. turns s.left place test body s) (λ s. turns s.left place test' body' s)
      while_pair = record { told = λ s d le. turns_told s.left (s.left + d) s d (omega arith) (omega arith) le; grows = λ s. turns_grows s.left s }

    abbrev Stated : Stmt → Type 0
    Stated e = Pair n (stmt_meaning calls e) (stmt_meaning calls' e)

    module _ {Y : Type 0} (p : Y → Stmt) (h : (y : Y) → Stated (p y)) where
      all_stated : (ys : List Y) → Each (λ e. Stated e) (map p ys)
      all_stated [] = tt
      all_stated (y ∷ ys) = (h y, all_stated ys)

      abbrev SP : List Y → Part Flow
      SP ys = block (map (stmt_meaning calls) (map p ys))

      abbrev SQ : List Y → Part Flow
      SQ ys = block (map (stmt_meaning calls') (map p ys))

      blocks : (ys : List Y) → Pair n (SP ys) (SQ ys)
      blocks ys = block_pair (stmt_meaning calls) (stmt_meaning calls') (map p ys) (all_stated ys)

      branched_pair : (bs : List (Branch Y)) (last last' : Part Flow) → Pair n last last' → Pair n (branched calls (map (branch_with (stmt_meaning calls)) (map (branch_with p) bs)) last) (branched calls' (map (branch_with (stmt_meaning calls')) (map (branch_with p) bs)) last')
      branched_pair [] last last' l = l
      branched_pair (b ∷ bs) last last' l =
          let more_p = branched calls (map (branch_with (stmt_meaning calls)) (map (branch_with p) bs)) last in
          let more_q = branched calls' (map (branch_with (stmt_meaning calls')) (map (branch_with p) bs)) last' in
          let others = branched_pair bs last last' l in
          then_pair n (tree_meaning calls b.condition) (tree_meaning calls' b.condition) (λ v s. if is_zero v then more_p s else SP b.body s) (λ v s. if is_zero v then more_q s else SQ b.body s) (tree_pair b.condition)
          (λ v. record {
            told = λ s d le. if_told d s (is_zero v) (more_p s) (SP b.body s) (more_q (more d s)) (SQ b.body (more d s)) (others.told s d le) ((blocks b.body).told s d le);
            grows = λ s. if_grows (is_zero v) s (more_q s) (SQ b.body s) (others.grows s) ((blocks b.body).grows s);
          })

      stmt_layer : (y : Stmt-F Y) → Pair n (stmt_step calls (map-Stmt Stmt (Part Flow) (stmt_meaning calls) (map-Stmt Y Stmt p y))) (stmt_step calls' (map-Stmt Stmt (Part Flow) (stmt_meaning calls') (map-Stmt Y Stmt p y)))
      stmt_layer (Stmt-F.Eval e) = then_pair n (tree_meaning calls e) (tree_meaning calls' e) (λ v s. Goes Next s) (λ v s. Goes Next s) (tree_pair e) (λ v. goes_pair n Next)
      stmt_layer (Stmt-F.Declare v e) =
          then_pair n (λ s. and_then (tree_meaning calls e s) (assigned v.place)) (λ s. and_then (tree_meaning calls' e s) (assigned v.place)) (λ v s. Goes Next s) (λ v s. Goes Next s)
          (then_pair n (tree_meaning calls e) (tree_meaning calls' e) (assigned v.place) (assigned v.place) (tree_pair e) (assigned_pair v.place)) (λ v. goes_pair n Next)
      stmt_layer (Stmt-F.Block stmts) = blocks stmts
      stmt_layer (Stmt-F.If place branches last) = branched_pair branches (SP last) (SQ last) (blocks last)
      stmt_layer (Stmt-F.While place e body) = while_pair place (tree_meaning calls e) (tree_meaning calls' e) (SP body) (SQ body) (tree_pair e) (blocks body)
      stmt_layer (Stmt-F.Return place None) = goes_pair n (Back nothing)
      stmt_layer (Stmt-F.Return place (Some e)) = then_pair n (tree_meaning calls e) (tree_meaning calls' e) (λ v s. Goes (Back v) s) (λ v s. Goes (Back v) s) (tree_pair e) (λ v. goes_pair n (Back v))

    stmt_rolled : (x : Stmt-F Stmt) → Pair n (stmt_step calls (map-Stmt Stmt (Part Flow) (stmt_meaning calls) x)) (stmt_step calls' (map-Stmt Stmt (Part Flow) (stmt_meaning calls') x)) → Stated (roll-Stmt x)
    stmt_rolled x h =
        subst (λ m. Pair n m (stmt_meaning calls' (roll-Stmt x))) (sym (fold-roll-Stmt (Part Flow) (stmt_step calls) x))
        (subst (λ m. Pair n (stmt_step calls (map-Stmt Stmt (Part Flow) (stmt_meaning calls) x)) m) (sym (fold-roll-Stmt (Part Flow) (stmt_step calls') x)) h)

    stmt_pair : (e : Stmt) → Stated e
    stmt_pair = ind-Stmt Stated (λ x y is. subst (λ z. Stated (roll-Stmt z)) is (stmt_rolled _ (stmt_layer (λ e. e.0) (λ e. e.1) y)))

    pub stmts_pair : (es : List Stmt) → Pair n (stmts_meaning calls es) (stmts_meaning calls' es)
    stmts_pair es = block_pair (stmt_meaning calls) (stmt_meaning calls') es (all es) where
      all : (es : List Stmt) → Each (λ e. Stated e) es
      all [] = tt
      all (e ∷ es) = (stmt_pair e, all es)

-- ---- calls

module _ (bodies : List Body) (limits : Limits) where
  -- the body of a function, and back to the caller
  abbrev inside : (Opened → Calls) → Opened → Place → Body → List Value → Part Value
  inside calls opened place b args s =
      if is_too_deep limits opened (body_weight b) then Over (Trapped Depth place) s.events else
      and_then (stmts_meaning (calls (within opened (body_weight b))) b.stmts (record s { locals = frame b args })) (λ flow t. Goes (result_of flow) (record t { locals = s.locals }))

  inside_told : (n : ℕ) (calls calls' : Opened → Calls) → ((opened : Opened) (place f : Place) (args : List Value) → Pair n (calls opened place f args) (calls' opened place f args)) → (opened : Opened) (place : Place) (b : Body) (args : List Value) (s : State) (d : ℕ) → s.left ≤ n → Told d s (inside calls opened place b args s) (inside calls' opened place b args (more d s))
  inside_told n calls calls' cp opened place b args s d le =
      let inner = within opened (body_weight b) in
      let u : State = record s { locals = frame b args } in
      let sp = stmts_pair n (calls inner) (calls' inner) (cp inner) b.stmts in
      if_told d s (is_too_deep limits opened (body_weight b)) (Over (Trapped Depth place) s.events) _ (Over (Trapped Depth place) s.events) _ (over_told d s (Trapped Depth place) (trap_other Depth place))
      (back d s (stmts_meaning (calls inner) b.stmts u) (stmts_meaning (calls' inner) b.stmts (more d u)) (sp.told u d le)) where
        back : (d : ℕ) (s : State) (r r' : Ran Flow) → Told d (record s { locals = frame b args }) r r' → Told d s (and_then r (λ flow t. Goes (result_of flow) (record t { locals = s.locals }))) (and_then r' (λ flow t. Goes (result_of flow) (record t { locals = s.locals })))
        back d s (Goes flow t) r' h = record { same = ap (λ x. and_then x (λ flow t. Goes (result_of flow) (record t { locals = s.locals }))) h.same; count = h.count; front = h.front; fewer = h.fewer }
        back d s (Over end es) r' h = record {
          front = h.front;
          most = h.most;
          all = h.all;
          longer = begins_then es (events_of r') (events_of (and_then r' (λ flow t. Goes (result_of flow) (record t { locals = s.locals })))) h.longer (longer r');
          same = λ other. ap (λ x. and_then x (λ flow t. Goes (result_of flow) (record t { locals = s.locals }))) (h.same other);
        } where
          longer : (x : Ran Flow) → BeginsWith (events_of x) (events_of (and_then x (λ flow t. Goes (result_of flow) (record t { locals = s.locals }))))
          longer (Goes flow t) = begins t.events
          longer (Over end es) = begins es

  inside_grows : (n : ℕ) (calls : Opened → Calls) → ((opened : Opened) (place f : Place) (args : List Value) → Pair n (calls opened place f args) (calls opened place f args)) → (opened : Opened) (place : Place) (b : Body) (args : List Value) → Grows (inside calls opened place b args)
  inside_grows n calls cp opened place b args s =
      let inner = within opened (body_weight b) in
      let u : State = record s { locals = frame b args } in
      if_grows (is_too_deep limits opened (body_weight b)) s (Over (Trapped Depth place) s.events) _ (begins s.events)
      (back (stmts_meaning (calls inner) b.stmts u) ((stmts_pair n (calls inner) (calls inner) (cp inner) b.stmts).grows u)) where
        back : (r : Ran Flow) → BeginsWith s.events (events_of r) → BeginsWith s.events (events_of (and_then r (λ flow t. Goes (result_of flow) (record t { locals = s.locals }))))
        back (Goes flow t) h = h
        back (Over end es) h = h

  enter_pair : (n m : ℕ) (calls calls' : Opened → Calls) → ((opened : Opened) (place f : Place) (args : List Value) → Pair n (calls opened place f args) (calls' opened place f args)) → ((opened : Opened) (place f : Place) (args : List Value) → Pair m (calls' opened place f args) (calls' opened place f args)) →
      (opened : Opened) (place f : Place) (o : Option Body) (args : List Value) → Pair (suc n) (enter calls limits opened place f o args) (enter calls' limits opened place f o args)
  enter_pair n m calls calls' cp cs opened place f None args = record { told = λ s d le. over_told d s (Missing f) (missing_other f); grows = λ s. begins s.events }
  enter_pair n m calls calls' cp cs opened place f (Some b) args = record {
    told = λ s d le. tick_told d s (Enter b.place) (inside calls opened place b args) (inside calls' opened place b args) refl (inside_grows m calls' cs opened place b args)
        (λ t e. inside_told n calls calls' cp opened place b args t d (omega (arith, e, le)));
    grows = tick_grows (Enter b.place) (inside calls' opened place b args) (inside_grows m calls' cs opened place b args);
  }

  self_pair : (n : ℕ) (opened : Opened) (place f : Place) (args : List Value) → Pair n (calls_of bodies limits n opened place f args) (calls_of bodies limits n opened place f args)
  self_pair zero opened place f args = record { told = λ s d le. bound_told d s (Over Bound s.events) (omega (arith, le)) (begins s.events); grows = λ s. begins s.events }
  self_pair (suc n) opened place f args = enter_pair n n (calls_of bodies limits n) (calls_of bodies limits n) (self_pair n) (self_pair n) opened place f (body_at bodies f) args

  calls_pair : (n m : ℕ) → n ≤ m → (opened : Opened) (place f : Place) (args : List Value) → Pair n (calls_of bodies limits n opened place f args) (calls_of bodies limits m opened place f args)
  calls_pair zero m le opened place f args =
      let g = (self_pair m opened place f args).grows in
      record { told = λ s d fuel. bound_told d s (calls_of bodies limits m opened place f args (more d s)) (omega (arith, fuel)) (g (more d s)); grows = g }
  calls_pair (suc n) zero le opened place f args = absurd (omega arith)
  calls_pair (suc n) (suc m) le opened place f args = enter_pair n m (calls_of bodies limits n) (calls_of bodies limits m) (calls_pair n m (omega (arith, le))) (self_pair m) opened place f (body_at bodies f) args

-- ---- whole runs

gave_other : (v : Value) → Gave v ≡ Bound → ⊥
gave_other v e = subst IsGave e tt where
  IsGave : End → Type 0
  IsGave (Gave v) = Unit {0}
  IsGave Bound = ⊥
  IsGave (Trapped trap place) = ⊥
  IsGave (Missing f) = ⊥

record Bounded (n : ℕ) (r r' : Ran Value) : Type 0 where
  pub at_most : ticks (outcome r).events ≤ n
  pub all_taken : (outcome r).end ≡ Bound → ticks (outcome r).events ≡ n
  pub lengthened : BeginsWith (outcome r).events (outcome r').events
  pub stays : ((outcome r).end ≡ Bound → ⊥) → outcome r' ≡ outcome r

same_events : (r : Ran Value) → (outcome r).events ≡ events_of r
same_events (Goes v t) = refl
same_events (Over end es) = refl

bounded_by : (n d : ℕ) (r r' : Ran Value) → Told d (begun n) r r' → Bounded n r r'
bounded_by n d (Goes v t) r' h = record {
  at_most = omega (arith, h.count);
  all_taken = λ b. absurd (gave_other v b);
  lengthened = subst (λ es. BeginsWith t.events es) (sym (ap (λ x. (outcome x).events) h.same)) (begins t.events);
  stays = λ other. ap outcome h.same;
}
bounded_by n d (Over end es) r' h = record {
  at_most = omega (arith, h.most);
  all_taken = λ b. omega (arith, h.all b);
  lengthened = subst (λ xs. BeginsWith es xs) (sym (same_events r')) h.longer;
  stays = λ other. ap outcome (h.same other);
}

bounded : (bodies : List Body) (start : Tree) (limits : Limits) (n m : ℕ) → n ≤ m → Bounded n (tree_meaning (calls_of bodies limits n no_calls) start (begun n)) (tree_meaning (calls_of bodies limits m no_calls) start (begun m))
bounded bodies start limits n m le =
    let calls = calls_of bodies limits n no_calls in
    let calls' = calls_of bodies limits m no_calls in
    let d = m - n in
    let sum : n + d ≡ m = omega (arith, le) in
    let p = tree_pair n calls calls' (calls_pair bodies limits n m le no_calls) start in
    subst (λ k. Bounded n (tree_meaning calls start (begun n)) (tree_meaning calls' start (begun k))) sum
    (bounded_by n d (tree_meaning calls start (begun n)) (tree_meaning calls' start (begun (n + d))) (p.told (begun n) d (omega arith)))

pub ticks_bound : TicksBound
ticks_bound bodies start limits n =
    let here = bounded bodies start limits n n (omega arith) in
    record {
      at_most = here.at_most;
      all_taken = here.all_taken;
      lengthened = λ m le. (bounded bodies start limits n m le).lengthened;
      stays = λ m le other. (bounded bodies start limits n m le).stays other;
    }
