-- The machine follows each list of typed statements.
use Rattle.std.proofs.Common.{◌≡◌, ℕ, ◌+◌, ◌≤◌, Bool, ◌&&◌, List, [], ◌∷◌, length, map, Option, Some, None, refl, sym, ap, ◌∙◌, subst, arith, IsTrue, true≢false}
use Rattle.dc_types.specs.declared.kind.Kind.{Kind}
use Rattle.dc_types.specs.declared.place.Place.{Place}
use Rattle.dc_types.specs.declared.ty.Ty.{Ty}
use Rattle.dc_types.specs.declared.ty.Ty.TheOpen.{Ty-F}
use Rattle.dc_types.specs.declared.ty.Ty.TheViews.{out-Ty, out-roll-Ty}
use Rattle.dc_types.specs.declared.event.Limits.{Limits}
use Rattle.dc_types.specs.Exact.{ty-Decides}
use Rattle.dc_code.specs.declared.run.Nest.{Nest}
use Rattle.dc_code.specs.declared.code.Draft.{Draft}
use Rattle.core_tree.specs.Values.{void, nothing}
use Rattle.core_tree.specs.Weight.{sum, branches_weight, tree_weight, stmt_weight_step, stmt_weight, stmts_weight}
use Rattle.core_tree.specs.Meaning.{Part, Goes, Calls, Flow, Next, Back, and_then, assigned, block, branched, body_at, tree_meaning, stmt_step, stmt_meaning, stmts_meaning}
use Rattle.core_tree.specs.Nodes.{branch_with}
use Rattle.core_tree.specs.Typed.{Each, all_of, is_of, is_void, is_number, are_numbers, is_among, is_typed, is_condition, type_at, types_of, type_of, branches_typed, stmt_typed_step, stmt_typed, stmts_typed}
use Rattle.core_tree.specs.declared.tree.Variable.{Variable}
use Rattle.core_tree.specs.declared.tree.Tree.{Tree}
use Rattle.core_tree.specs.declared.stmt.Branch.{Branch}
use Rattle.core_tree.specs.declared.stmt.Stmt.{Stmt}
use Rattle.core_tree.specs.declared.stmt.Stmt.TheOpen.{Stmt-F}
use Rattle.core_tree.specs.declared.stmt.Stmt.TheViews.{roll-Stmt}
use Rattle.core_tree.specs.declared.stmt.Stmt.TheFolds.{map-Stmt, fold-roll-Stmt, ind-Stmt}
use Rattle.core_tree.specs.declared.body.Body.{Body}
use Rattle.core_lower_expr.specs.Lowered.{Names, Codes, no_code, block_code, then_ops, assign_ops, tree_code}
use Rattle.core_lower_expr.specs.Frames.{Slotted, words_at}
use Rattle.core_lower_expr.proofs.Follow.{Here, Form, value, Follows, then_follows, none_follows}
use Rattle.core_lower_expr.proofs.Ops.{number, assign_op}
use Rattle.core_lower_expr.proofs.Exprs.{both_true, of_is, number_is, type_is_number, CallsFollow, tree_follows}
use Rattle.core_lower.specs.Lowered.{branched_code, while_code, return_ops, stmt_code_step, stmt_code, stmts_code}
use Rattle.core_lower.proofs.Flow.{FollowsFlow, looser_flow, then_flow, eval_follows, return_op, block_follows, if_follows, while_follows}

pub void_is : (ty : Ty) → IsTrue (is_void ty) → out-Ty ty ≡ Ty-F.Void
void_is ty h = ap out-Ty (sym ((ty-Decides void ty).0 h)) ∙ out-roll-Ty Ty-F.Void

-- a typed expression has a type
pub some_type : (o : Option Ty) → IsTrue (is_typed o) → (ty : Ty) × (o ≡ Some ty)
some_type None t = absurd (true≢false (sym t))
some_type (Some ty) t = (ty, refl)

-- a condition is a number
pub some_number : (o : Option Ty) → IsTrue (is_condition o) → (ty : Ty) × (k : Kind) × (o ≡ Some ty) × (out-Ty ty ≡ Ty-F.Int k)
some_number None t = absurd (true≢false (sym t))
some_number (Some ty) t = let k = number_is ty t in (ty, k.0, refl, k.1)

module _ (code : Draft) (limits : Limits) (nest : Nest) (h : Here) (vars : List Variable) (rt : Ty) (fuel : ℕ) (bodies : List Body) (names : Names) (calls : Calls) (numbers : IsTrue (are_numbers (types_of vars))) (slotted : Slotted vars names.slot) (params : (f : Place) (b : Body) → body_at bodies f ≡ Some b → IsTrue (are_numbers (types_of b.params))) (cf : CallsFollow code limits nest bodies fuel names.function calls) where
  abbrev result : Ty-F Ty
  result = out-Ty rt

  abbrev F : Codes → ℕ → Part Flow → Type 0
  F = FollowsFlow code limits nest h vars result fuel

  abbrev E : (F : Form) → Codes → ℕ → Part F.A → Type 0
  E = Follows code limits nest h vars fuel

  -- an expression of a type
  e_follows : (e : Tree) (ty : Ty) → type_of bodies vars e ≡ Some ty → E (value (out-Ty ty)) (tree_code names e) (tree_weight e) (tree_meaning calls e)
  e_follows e ty t = tree_follows code limits nest h vars fuel bodies names calls numbers slotted params cf e ty t

  number_follows : (e : Tree) (ty : Ty) (k : Kind) → type_of bodies vars e ≡ Some ty → out-Ty ty ≡ Ty-F.Int k → E (number k) (tree_code names e) (tree_weight e) (tree_meaning calls e)
  number_follows e ty k t is = subst (λ x. E (value x) (tree_code names e) (tree_weight e) (tree_meaning calls e)) is (e_follows e ty t)

  looser : (c : Codes) (size n : ℕ) (m : Part Flow) → size ≤ n → F c size m → F c n m
  looser = looser_flow code limits nest h vars result fuel

  nothing_follows : result ≡ Ty-F.Void → E (value result) no_code 0 (λ s. Goes nothing s)
  nothing_follows e = subst (λ x. E (value x) no_code 0 (λ s. Goes nothing s)) (sym e) (λ pc spare taken temps more s has at good room ticks.
      let g = none_follows code limits nest h vars fuel pc spare taken temps more s has at good room ticks in
      record { rest = g.rest; taken = g.taken; fine = tt; good = g.good; fills = g.fills; ticks = g.ticks; by = g.by })

  none_returned : (place : Place) → result ≡ Ty-F.Void → F (then_ops no_code (return_ops place 0)) 0 (λ s. Goes (Back nothing) s)
  none_returned place e =
      then_flow code limits nest h vars result fuel (value result) no_code (return_ops place 0) 0 (λ s. Goes nothing s) (λ v s. Goes (Back v) s) (nothing_follows e)
      (return_op code limits nest h vars result fuel place 0 (λ v. sym (ap (λ x. length (words_at x v)) e)))

  some_returned : (place : Place) (e : Tree) (k : Kind) → result ≡ Ty-F.Int k → type_of bodies vars e ≡ Some rt → F (then_ops (tree_code names e) (return_ops place 1)) (tree_weight e) (λ s. and_then (tree_meaning calls e s) (λ v s. Goes (Back v) s))
  some_returned place e k is t =
      then_flow code limits nest h vars result fuel (value result) (tree_code names e) (return_ops place 1) (tree_weight e) (tree_meaning calls e) (λ v s. Goes (Back v) s) (e_follows e rt t)
      (return_op code limits nest h vars result fuel place 1 (λ v. sym (ap (λ x. length (words_at x v)) is)))

  declared : (v : Variable) (e : Tree) → type_at v.place vars ≡ Some v.ty → type_of bodies vars e ≡ Some v.ty →
      F (then_ops (tree_code names e) (assign_ops v.place (names.slot v.place))) (5 + tree_weight e) (λ s. and_then (and_then (tree_meaning calls e s) (assigned v.place)) (λ v s. Goes Next s))
  declared v e there t =
      let k = number_is v.ty (type_is_number v.place v.ty vars numbers there) in
      eval_follows code limits nest h vars result fuel (number k.0) (then_ops (tree_code names e) (assign_ops v.place (names.slot v.place))) (5 + tree_weight e) (λ s. and_then (tree_meaning calls e s) (assigned v.place))
      (then_follows code limits nest h vars fuel (number k.0) (number k.0) (tree_code names e) (assign_ops v.place (names.slot v.place)) (tree_weight e) (tree_meaning calls e) (assigned v.place) (number_follows e v.ty k.0 t k.1)
      (assign_op code limits nest h vars fuel v.place v v.ty k.0 (names.slot v.place) (slotted v.place v.ty there) there k.1))

  abbrev Holds : Stmt → Type 0
  Holds e = IsTrue (stmt_typed bodies vars rt e) → F (stmt_code names e) (stmt_weight e) (stmt_meaning calls e)

  abbrev Layer : Stmt-F Stmt → Type 0
  Layer x = IsTrue (stmt_typed_step bodies vars rt (map-Stmt Stmt Bool (stmt_typed bodies vars rt) x)) →
      F (stmt_code_step names (map-Stmt Stmt Codes (stmt_code names) x)) (stmt_weight_step (map-Stmt Stmt ℕ stmt_weight x)) (stmt_step calls (map-Stmt Stmt (Part Flow) (stmt_meaning calls) x))

  rolled : (x : Stmt-F Stmt) → Layer x → Holds (roll-Stmt x)
  rolled x g t =
      subst (λ c. F c (stmt_weight (roll-Stmt x)) (stmt_meaning calls (roll-Stmt x))) (sym (fold-roll-Stmt Codes (stmt_code_step names) x))
      (subst (λ z. F (stmt_code_step names (map-Stmt Stmt Codes (stmt_code names) x)) z (stmt_meaning calls (roll-Stmt x))) (sym (fold-roll-Stmt ℕ stmt_weight_step x))
      (subst (λ m. F (stmt_code_step names (map-Stmt Stmt Codes (stmt_code names) x)) (stmt_weight_step (map-Stmt Stmt ℕ stmt_weight x)) m) (sym (fold-roll-Stmt (Part Flow) (stmt_step calls) x))
      (g (subst IsTrue (fold-roll-Stmt Bool (stmt_typed_step bodies vars rt) x) t))))

  module _ {Y : Type 0} (p : Y → Stmt) (q : (y : Y) → Holds (p y)) where
    each_holds : (ys : List Y) → IsTrue (all_of (map (stmt_typed bodies vars rt) (map p ys))) → Each (λ e. F (stmt_code names e) (stmt_weight e) (stmt_meaning calls e)) (map p ys)
    each_holds [] t = tt
    each_holds (y ∷ ys) t =
        let b = both_true (stmt_typed bodies vars rt (p y)) (all_of (map (stmt_typed bodies vars rt) (map p ys))) t in
        (q y b.0, each_holds ys b.1)

    abbrev C : List Y → Codes
    C ys = block_code (map (stmt_code names) (map p ys))

    abbrev Z : List Y → ℕ
    Z ys = sum (map stmt_weight (map p ys))

    abbrev P : List Y → Part Flow
    P ys = block (map (stmt_meaning calls) (map p ys))

    abbrev T : List Y → Bool
    T ys = all_of (map (stmt_typed bodies vars rt) (map p ys))

    block_holds : (ys : List Y) → IsTrue (T ys) → F (C ys) (Z ys) (P ys)
    block_holds ys t = block_follows code limits nest h vars result fuel (stmt_code names) stmt_weight (stmt_meaning calls) (map p ys) (each_holds ys t)

    abbrev codes : List (Branch Y) → List (Branch Codes)
    codes bs = map (branch_with (stmt_code names)) (map (branch_with p) bs)

    abbrev weights : List (Branch Y) → List (Branch ℕ)
    weights bs = map (branch_with stmt_weight) (map (branch_with p) bs)

    abbrev parts : List (Branch Y) → List (Branch (Part Flow))
    parts bs = map (branch_with (stmt_meaning calls)) (map (branch_with p) bs)

    abbrev types : List (Branch Y) → List (Branch Bool)
    types bs = map (branch_with (stmt_typed bodies vars rt)) (map (branch_with p) bs)

    branches_hold : (place : Place) (bs : List (Branch Y)) (last : List Y) → IsTrue (branches_typed bodies vars (types bs)) → IsTrue (T last) →
        F (branched_code names place (codes bs) (C last)) (branches_weight (weights bs) + Z last) (branched calls (parts bs) (P last))
    branches_hold place [] last t ts = looser (C last) (Z last) (0 + Z last) (P last) (omega arith) (block_holds last ts)
    branches_hold place (b ∷ bs) last t ts =
        let e = b.condition in
        let us = both_true (is_condition (type_of bodies vars e)) (T b.body && branches_typed bodies vars (types bs)) t in
        let vs = both_true (T b.body) (branches_typed bodies vars (types bs)) us.1 in
        let c = some_number (type_of bodies vars e) us.0 in
        let more = branches_weight (weights bs) + Z last in
        looser (branched_code names place (codes (b ∷ bs)) (C last)) (tree_weight e + (Z b.body + more)) (branches_weight (weights (b ∷ bs)) + Z last) (branched calls (parts (b ∷ bs)) (P last)) (omega arith)
        (if_follows code limits nest h vars result fuel place c.1 (tree_code names e) (C b.body) (branched_code names place (codes bs) (C last)) (tree_weight e) (Z b.body) more (tree_meaning calls e) (P b.body) (branched calls (parts bs) (P last))
        (number_follows e c.0 c.1 c.2 c.3) (block_holds b.body vs.0) (branches_hold place bs last vs.1 ts))

    layer : (y : Stmt-F Y) → Layer (map-Stmt Y Stmt p y)
    layer (Stmt-F.Eval e) t =
        let ty = some_type (type_of bodies vars e) t in
        looser (tree_code names e) (tree_weight e) (8 + tree_weight e) (λ s. and_then (tree_meaning calls e s) (λ v s. Goes Next s)) (omega arith)
        (eval_follows code limits nest h vars result fuel (value (out-Ty ty.0)) (tree_code names e) (tree_weight e) (tree_meaning calls e) (e_follows e ty.0 ty.1))
    layer (Stmt-F.Declare v e) t =
        let ts = both_true (is_among v vars) (is_of v.ty (type_of bodies vars e)) t in
        looser (then_ops (tree_code names e) (assign_ops v.place (names.slot v.place))) (5 + tree_weight e) (8 + tree_weight e) (λ s. and_then (and_then (tree_meaning calls e s) (assigned v.place)) (λ v s. Goes Next s)) (omega arith)
        (declared v e (of_is v.ty (type_at v.place vars) ts.0) (of_is v.ty (type_of bodies vars e) ts.1))
    layer (Stmt-F.Block stmts) t = looser (C stmts) (Z stmts) (8 + Z stmts) (P stmts) (omega arith) (block_holds stmts t)
    layer (Stmt-F.If place branches last) t =
        let ts = both_true (branches_typed bodies vars (types branches)) (T last) t in
        branches_hold place branches last ts.0 ts.1
    layer (Stmt-F.While place e body) t =
        let ts = both_true (is_condition (type_of bodies vars e)) (T body) t in
        let c = some_number (type_of bodies vars e) ts.0 in
        looser (while_code place (tree_code names e) (C body)) (tree_weight e + Z body) (8 + (tree_weight e + Z body)) (stmt_step calls (Stmt-F.While place e (map (stmt_meaning calls) (map p body)))) (omega arith)
        (while_follows code limits nest h vars result fuel place c.1 (tree_code names e) (C body) (tree_weight e) (Z body) (tree_meaning calls e) (P body)
        (number_follows e c.0 c.1 c.2 c.3) (block_holds body ts.1))
    layer (Stmt-F.Return place None) t =
        looser (then_ops no_code (return_ops place 0)) 0 8 (λ s. Goes (Back nothing) s) (omega arith) (none_returned place (void_is rt t))
    layer (Stmt-F.Return place (Some e)) t =
        let ts = both_true (is_number rt) (is_of rt (type_of bodies vars e)) t in
        let k = number_is rt ts.0 in
        looser (then_ops (tree_code names e) (return_ops place 1)) (tree_weight e) (8 + tree_weight e) (λ s. and_then (tree_meaning calls e s) (λ v s. Goes (Back v) s)) (omega arith)
        (some_returned place e k.0 k.1 (of_is rt (type_of bodies vars e) ts.1))

  pub stmt_follows : (e : Stmt) → Holds e
  stmt_follows = ind-Stmt Holds (λ x y is. subst (λ z. Holds (roll-Stmt z)) is (rolled _ (layer (λ e. e.0) (λ e. e.1) y)))

  all_hold : (es : List Stmt) → IsTrue (stmts_typed bodies vars rt es) → Each (λ e. F (stmt_code names e) (stmt_weight e) (stmt_meaning calls e)) es
  all_hold [] t = tt
  all_hold (e ∷ es) t =
      let b = both_true (stmt_typed bodies vars rt e) (stmts_typed bodies vars rt es) t in
      (stmt_follows e b.0, all_hold es b.1)

  pub stmts_follow : (es : List Stmt) → IsTrue (stmts_typed bodies vars rt es) → F (stmts_code names es) (stmts_weight es) (stmts_meaning calls es)
  stmts_follow es t = block_follows code limits nest h vars result fuel (stmt_code names) stmt_weight (stmt_meaning calls) es (all_hold es t)
