-- The code of functions and entries fits them, so that the code of bodies and starts is sound.
use Rattle.std.proofs.Common.{◌≡◌, ℕ, suc, ◌+◌, ◌<◌, ◌≤◌, Bool, true, false, ◌&&◌, List, [], ◌∷◌, ◌++◌, length, map, Some, None, refl, sym, ap, ◌∙◌, subst, arith, length-append, IsTrue}
use Rattle.std.specs.Prelude.{slice_get, if◌then◌else◌}
use Rattle.dc_types.specs.declared.kind.Kind.{Kind}
use Rattle.dc_types.specs.declared.place.Place.{Place}
use Rattle.dc_types.specs.declared.ty.Ty.{Ty}
use Rattle.dc_types.specs.declared.ty.Ty.TheOpen.{Ty-F}
use Rattle.dc_types.specs.declared.ty.Ty.TheViews.{out-Ty}
use Rattle.dc_types.specs.Same as same
use Rattle.dc_code.specs.Sound.{IsThere, IsTurn}
use Rattle.dc_code.specs.declared.instr.Op.TheVariants as op
use Rattle.dc_code.specs.declared.instr.Function.{Function}
use Rattle.dc_code.specs.declared.code.Draft.{Draft}
use Rattle.core_tree.specs.Weight.{sum, branches_weight, tree_weight, stmt_weight_step, stmt_weight, stmts_weight}
use Rattle.core_tree.specs.Nodes.{branch_with}
use Rattle.core_tree.specs.Meaning.{body_at}
use Rattle.core_tree.specs.Typed.{Each, all_of, is_of, is_number, is_among, is_condition, type_at, type_of, branches_typed, stmt_typed_step, stmt_typed, stmts_typed}
use Rattle.core_tree.specs.declared.tree.Variable.{Variable}
use Rattle.core_tree.specs.declared.tree.Tree.{Tree}
use Rattle.core_tree.specs.declared.stmt.Branch.{Branch}
use Rattle.core_tree.specs.declared.stmt.Stmt.{Stmt}
use Rattle.core_tree.specs.declared.stmt.Stmt.TheOpen.{Stmt-F}
use Rattle.core_tree.specs.declared.stmt.Stmt.TheViews.{roll-Stmt}
use Rattle.core_tree.specs.declared.stmt.Stmt.TheFolds.{map-Stmt, fold-roll-Stmt, ind-Stmt}
use Rattle.core_tree.specs.declared.body.Body.{Body}
use Rattle.core_lower_expr.specs.Lowered.{Names, Codes, instr, no_code, block_code, then_ops, assign_ops, tree_code}
use Rattle.core_lower_expr.specs.Frames.{slot_of}
use Rattle.core_lower_expr.proofs.Steps.{HasAt, has_front, has_back}
use Rattle.core_lower_expr.proofs.Locals.{none_some}
use Rattle.core_lower_expr.proofs.Exprs.{both_true, of_is, number_is, some_weight}
use Rattle.core_lower_expr.proofs.Fitting.{IsCallee, FineAt, fine_append, Stays, OpsStay, none_stays, looser_stays, then_stays, same_slots, assign_stays, tree_stays}
use Rattle.core_lower.specs.Lowered.{if_code, branched_code, while_code, return_ops, stmt_code_step, stmt_code, stmts_code, names_in, count_by, count_of}
use Rattle.core_lower.proofs.Stmts.{void_is, some_type, some_number}
use Rattle.core_lower.proofs.Leading.{slots_fit}

slot_below : (place : Place) (ty : Ty) (vs : List Variable) → type_at place vs ≡ Some ty → slot_of place vs < length vs
slot_below place ty [] t = absurd (none_some ty t)
slot_below place ty (v ∷ vs) t = by_test (λ t. slot_below place ty vs t) (same.place v.place place) refl where
  by_test : (type_at place vs ≡ Some ty → slot_of place vs < length vs) → (b : Bool) → same.place v.place place ≡ b → slot_of place (v ∷ vs) < length (v ∷ vs)
  by_test next true e = let s = ap (λ b. if b then 0 else suc (slot_of place vs)) e in omega (arith, s)
  by_test next false e =
      let s = ap (λ b. if b then 0 else suc (slot_of place vs)) e in
      let more = next (sym (ap (λ b. if b then Some v.ty else type_at place vs) e) ∙ t) in
      omega (arith, s, more)

-- each variable has a slot in a frame that has room for all
pub slots_there : (bodies : List Body) (vs : List Variable) (weight : ℕ) → length vs ≤ weight → (place : Place) (ty : Ty) → type_at place vs ≡ Some ty → (names_in bodies vs).slot place < weight
slots_there bodies vs weight le place ty t = omega (arith, slots_fit bodies vs place ty t, slot_below place ty vs t, le)

module _ (draft : Draft) (f : Function) (end : ℕ) where
  abbrev S : Codes → ℕ → Type 0
  S = Stays draft f end

  -- ---- statements

  block_stays : {X : Type 0} (c : X → Codes) (z : X → ℕ) (xs : List X) → Each (λ x. S (c x) (z x)) xs → S (block_code (map c xs)) (sum (map z xs))
  block_stays c z [] all = none_stays draft f end
  block_stays c z (x ∷ xs) all = same_slots draft f end (c x) (block_code (map c xs)) (z x) (sum (map z xs)) all.0 (block_stays c z xs all.1)

  if_stays : (place : Place) (ct c1 c2 : Codes) (zt z1 z2 : ℕ) → 1 ≤ zt → S ct zt → S c1 z1 → S c2 z2 → S (if_code place ct c1 c2) (zt + (z1 + z2))
  if_stays place ct c1 c2 zt z1 z2 some st s1 s2 pc spare has from to room =
      let lt = ct pc spare in
      let first = pc + length lt + 1 in
      let la = c1 first spare in
      let second = first + length la + 1 in
      let lb = c2 second spare in
      let i = instr place (op.JumpZero spare second) in
      let j = instr place (op.Jump (second + length lb)) in
      let tail = la ++ (j ∷ lb) in
      let len : pc + length (lt ++ (i ∷ tail)) ≡ second + length lb = omega (arith, length-append lt (i ∷ tail), length-append la (j ∷ lb)) in
      let has1 = has_back draft.instrs pc lt (i ∷ tail) has in
      let has2 = has_back draft.instrs first la (j ∷ lb) has1.1 in
      let past : second ≤ pc + length lt → IsThere (slice_get draft.instrs second) (λ i. IsTurn i.op) = λ le. absurd (omega (arith, le)) in
      let over : second + length lb ≤ first + length la → IsThere (slice_get draft.instrs (second + length lb)) (λ i. IsTurn i.op) = λ le. absurd (omega (arith, le)) in
      fine_append draft f end pc lt (i ∷ tail) (st pc spare (has_front draft.instrs pc lt (i ∷ tail) has) from (omega (arith, to, len)) (omega (arith, room))) (
        record { fits = record { jumps = record { from_first = omega (arith, from); to_end = omega (arith, to, len); back = past }; numbers = omega (arith, room, some); addresses = tt; blocks = tt; calls = tt; returns = tt; names = tt }; simple = tt },
        fine_append draft f end first la (j ∷ lb) (s1 first spare (has_front draft.instrs first la (j ∷ lb) has1.1) (omega (arith, from)) (omega (arith, to, len)) (omega (arith, room))) (
          record { fits = record { jumps = record { from_first = omega (arith, from); to_end = omega (arith, to, len); back = over }; numbers = tt; addresses = tt; blocks = tt; calls = tt; returns = tt; names = tt }; simple = tt },
          s2 second spare has2.1 (omega (arith, from)) (omega (arith, to, len)) (omega (arith, room)),
        ),
      )

  while_stays : (place : Place) (ct cb : Codes) (zt zb : ℕ) → 1 ≤ zt → S ct zt → S cb zb → S (while_code place ct cb) (zt + zb)
  while_stays place ct cb zt zb some st sb pc spare has from to room =
      let lb = cb (pc + 2) spare in
      let at = pc + 2 + length lb in
      let lt = ct at spare in
      let j = instr place (op.JumpOther spare (pc + 1)) in
      let tail = lb ++ (lt ++ j ∷ []) in
      let two : pc + 1 + 1 ≡ pc + 2 = omega arith in
      let len : pc + length (instr place (op.Jump at) ∷ (instr place op.Turn ∷ tail)) ≡ at + length lt + 1 = omega (arith, length-append lb (lt ++ j ∷ []), length-append lt (j ∷ [])) in
      let has2 : HasAt draft.instrs (pc + 2) tail = subst (λ p. HasAt draft.instrs p tail) two has.1.1 in
      let has3 = has_back draft.instrs (pc + 2) lb (lt ++ j ∷ []) has2 in
      let over : at ≤ pc → IsThere (slice_get draft.instrs at) (λ i. IsTurn i.op) = λ le. absurd (omega (arith, le)) in
      let turn : pc + 1 ≤ at + length lt → IsThere (slice_get draft.instrs (pc + 1)) (λ i. IsTurn i.op) = λ le. subst (λ o. IsThere o (λ i. IsTurn i.op)) (sym has.1.0) tt in
      let inside : FineAt draft f end (pc + 2) tail =
      fine_append draft f end (pc + 2) lb (lt ++ j ∷ []) (sb (pc + 2) spare (has_front draft.instrs (pc + 2) lb (lt ++ j ∷ []) has2) (omega (arith, from)) (omega (arith, to, len)) (omega (arith, room)))
      (fine_append draft f end at lt (j ∷ []) (st at spare (has_front draft.instrs at lt (j ∷ []) has3) (omega (arith, from)) (omega (arith, to, len)) (omega (arith, room)))
      (record { fits = record { jumps = record { from_first = omega (arith, from); to_end = omega (arith, to, len); back = turn }; numbers = omega (arith, room, some); addresses = tt; blocks = tt; calls = tt; returns = tt; names = tt }; simple = tt }, tt)) in (
        record { fits = record { jumps = record { from_first = omega (arith, from); to_end = omega (arith, to, len); back = over }; numbers = tt; addresses = tt; blocks = tt; calls = tt; returns = tt; names = tt }; simple = tt },
        (
          record { fits = record { jumps = tt; numbers = tt; addresses = tt; blocks = tt; calls = tt; returns = tt; names = tt }; simple = tt },
          subst (λ p. FineAt draft f end p tail) (sym two) inside,
        ),
      )

  pub return_stays : (place : Place) (n : ℕ) → n ≡ f.result → OpsStay draft f end (return_ops place n) n
  return_stays place n is pc spare room = (record { fits = record { jumps = tt; numbers = omega (arith, room); addresses = tt; blocks = tt; calls = tt; returns = is; names = tt }; simple = tt }, tt)

  module _ (bodies : List Body) (vars : List Variable) (rt : Ty) (names : Names) (gives : f.result ≡ count_of rt) (slots : (place : Place) (ty : Ty) → type_at place vars ≡ Some ty → names.slot place < f.weight) (callees : (place : Place) (b : Body) → body_at bodies place ≡ Some b → IsThere (slice_get draft.functions (names.function place)) (IsCallee b)) where
    e_stays : (e : Tree) (ty : Ty) → type_of bodies vars e ≡ Some ty → S (tree_code names e) (tree_weight e)
    e_stays = tree_stays draft f end bodies vars names slots callees

    abbrev Holds : Stmt → Type 0
    Holds e = IsTrue (stmt_typed bodies vars rt e) → S (stmt_code names e) (stmt_weight e)

    abbrev Layer : Stmt-F Stmt → Type 0
    Layer x = IsTrue (stmt_typed_step bodies vars rt (map-Stmt Stmt Bool (stmt_typed bodies vars rt) x)) → S (stmt_code_step names (map-Stmt Stmt Codes (stmt_code names) x)) (stmt_weight_step (map-Stmt Stmt ℕ stmt_weight x))

    rolled : (x : Stmt-F Stmt) → Layer x → Holds (roll-Stmt x)
    rolled x g t =
        subst (λ c. S c (stmt_weight (roll-Stmt x))) (sym (fold-roll-Stmt Codes (stmt_code_step names) x))
        (subst (λ z. S (stmt_code_step names (map-Stmt Stmt Codes (stmt_code names) x)) z) (sym (fold-roll-Stmt ℕ stmt_weight_step x))
        (g (subst IsTrue (fold-roll-Stmt Bool (stmt_typed_step bodies vars rt) x) t)))

    returned_stays : (place : Place) (e : Tree) (k : Kind) → out-Ty rt ≡ Ty-F.Int k → IsTrue (is_of rt (type_of bodies vars e)) → S (then_ops (tree_code names e) (return_ops place 1)) (8 + tree_weight e)
    returned_stays place e k is t =
        then_stays draft f end (tree_code names e) (return_ops place 1) (tree_weight e) 1 (8 + tree_weight e) (omega arith) (omega arith) (e_stays e rt (of_is rt (type_of bodies vars e) t)) (return_stays place 1 (sym (gives ∙ ap count_by is)))

    module _ {Y : Type 0} (p : Y → Stmt) (q : (y : Y) → Holds (p y)) where
      abbrev C : List Y → Codes
      C ys = block_code (map (stmt_code names) (map p ys))

      abbrev Z : List Y → ℕ
      Z ys = sum (map stmt_weight (map p ys))

      abbrev T : List Y → Bool
      T ys = all_of (map (stmt_typed bodies vars rt) (map p ys))

      each_holds : (ys : List Y) → IsTrue (T ys) → Each (λ e. S (stmt_code names e) (stmt_weight e)) (map p ys)
      each_holds [] t = tt
      each_holds (y ∷ ys) t = let b = both_true (stmt_typed bodies vars rt (p y)) (T ys) t in (q y b.0, each_holds ys b.1)

      block_holds : (ys : List Y) → IsTrue (T ys) → S (C ys) (Z ys)
      block_holds ys t = block_stays (stmt_code names) stmt_weight (map p ys) (each_holds ys t)

      abbrev codes : List (Branch Y) → List (Branch Codes)
      codes bs = map (branch_with (stmt_code names)) (map (branch_with p) bs)

      abbrev weights : List (Branch Y) → List (Branch ℕ)
      weights bs = map (branch_with stmt_weight) (map (branch_with p) bs)

      abbrev types : List (Branch Y) → List (Branch Bool)
      types bs = map (branch_with (stmt_typed bodies vars rt)) (map (branch_with p) bs)

      branches_hold : (place : Place) (bs : List (Branch Y)) (last : List Y) → IsTrue (branches_typed bodies vars (types bs)) → IsTrue (T last) → S (branched_code names place (codes bs) (C last)) (branches_weight (weights bs) + Z last)
      branches_hold place [] last t ts = looser_stays draft f end (C last) (Z last) (0 + Z last) (omega arith) (block_holds last ts)
      branches_hold place (b ∷ bs) last t ts =
          let e = b.condition in
          let us = both_true (is_condition (type_of bodies vars e)) (T b.body && branches_typed bodies vars (types bs)) t in
          let vs = both_true (T b.body) (branches_typed bodies vars (types bs)) us.1 in
          let c = some_number (type_of bodies vars e) us.0 in
          let more = branches_weight (weights bs) + Z last in
          looser_stays draft f end (branched_code names place (codes (b ∷ bs)) (C last)) (tree_weight e + (Z b.body + more)) (branches_weight (weights (b ∷ bs)) + Z last) (omega arith)
          (if_stays place (tree_code names e) (C b.body) (branched_code names place (codes bs) (C last)) (tree_weight e) (Z b.body) more (omega (arith, some_weight e)) (e_stays e c.0 c.2) (block_holds b.body vs.0) (branches_hold place bs last vs.1 ts))

      layer : (y : Stmt-F Y) → Layer (map-Stmt Y Stmt p y)
      layer (Stmt-F.Eval e) t =
          let ty = some_type (type_of bodies vars e) t in
          looser_stays draft f end (tree_code names e) (tree_weight e) (8 + tree_weight e) (omega arith) (e_stays e ty.0 ty.1)
      layer (Stmt-F.Declare v e) t =
          let ts = both_true (is_among v vars) (is_of v.ty (type_of bodies vars e)) t in
          let slot = slots v.place v.ty (of_is v.ty (type_at v.place vars) ts.0) in
          then_stays draft f end (tree_code names e) (assign_ops v.place (names.slot v.place)) (tree_weight e) 5 (8 + tree_weight e) (omega arith) (omega arith) (e_stays e v.ty (of_is v.ty (type_of bodies vars e) ts.1)) (assign_stays draft f end v.place (names.slot v.place) slot)
      layer (Stmt-F.Block stmts) t = looser_stays draft f end (C stmts) (Z stmts) (8 + Z stmts) (omega arith) (block_holds stmts t)
      layer (Stmt-F.If place branches last) t =
          let ts = both_true (branches_typed bodies vars (types branches)) (T last) t in
          branches_hold place branches last ts.0 ts.1
      layer (Stmt-F.While place e body) t =
          let ts = both_true (is_condition (type_of bodies vars e)) (T body) t in
          let c = some_number (type_of bodies vars e) ts.0 in
          looser_stays draft f end (while_code place (tree_code names e) (C body)) (tree_weight e + Z body) (8 + (tree_weight e + Z body)) (omega arith)
          (while_stays place (tree_code names e) (C body) (tree_weight e) (Z body) (omega (arith, some_weight e)) (e_stays e c.0 c.2) (block_holds body ts.1))
      layer (Stmt-F.Return place None) t =
          then_stays draft f end no_code (return_ops place 0) 0 0 8 (omega arith) (omega arith) (none_stays draft f end) (return_stays place 0 (sym (gives ∙ ap count_by (void_is rt t))))
      layer (Stmt-F.Return place (Some e)) t =
          let ts = both_true (is_number rt) (is_of rt (type_of bodies vars e)) t in
          let k = number_is rt ts.0 in
          returned_stays place e k.0 k.1 ts.1

    stmt_stays : (e : Stmt) → Holds e
    stmt_stays = ind-Stmt Holds (λ x y is. subst (λ z. Holds (roll-Stmt z)) is (rolled _ (layer (λ e. e.0) (λ e. e.1) y)))

    pub stmts_stay : (es : List Stmt) → IsTrue (stmts_typed bodies vars rt es) → S (stmts_code names es) (stmts_weight es)
    stmts_stay es t = block_stays (stmt_code names) stmt_weight es (all es t) where
      all : (es : List Stmt) → IsTrue (stmts_typed bodies vars rt es) → Each (λ e. S (stmt_code names e) (stmt_weight e)) es
      all [] t = tt
      all (e ∷ es) t = let b = both_true (stmt_typed bodies vars rt e) (stmts_typed bodies vars rt es) t in (stmt_stays e b.0, all es b.1)
