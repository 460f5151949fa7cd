-- The code of typed expressions fits the function in which it stands.
use Rattle.std.proofs.Common.{◌≡◌, ℕ, suc, ◌+◌, ◌<◌, ◌≤◌, Bool, true, false, ◌&&◌, List, [], ◌∷◌, ◌++◌, length, map, Option, Some, None, refl, sym, ap, ◌∙◌, subst, arith, length-append, IsTrue, true≢false}
use Rattle.std.specs.Prelude.{slice_get}
use Rattle.dc_types.specs.declared.kind.Kind.{Kind}
use Rattle.dc_types.specs.declared.kind.Kind.TheVariants as kind
use Rattle.dc_types.specs.declared.kind.BinOp.{BinOp}
use Rattle.dc_types.specs.declared.kind.CmpOp.{CmpOp}
use Rattle.dc_types.specs.declared.place.Place.{Place}
use Rattle.dc_types.specs.declared.ty.Ty.{Ty}
use Rattle.dc_types.specs.declared.constant.Const.{Const}
use Rattle.dc_types.specs.Same as same
use Rattle.dc_code.specs.Simple.{IsSimple}
use Rattle.dc_code.specs.Sound.{IsThere, InstrFits, CalleeFits}
use Rattle.dc_code.specs.declared.instr.Op.{Op}
use Rattle.dc_code.specs.declared.instr.Instr.{Instr}
use Rattle.dc_code.specs.declared.instr.Function.{Function}
use Rattle.dc_code.specs.declared.code.Draft.{Draft}
use Rattle.core_tree.specs.Values.{int, void}
use Rattle.core_tree.specs.Weight.{sum, operations_weight, tree_weight_step, tree_weight}
use Rattle.core_tree.specs.Nodes.{operation_with}
use Rattle.core_tree.specs.Meaning.{body_at}
use Rattle.core_tree.specs.Typed.{is_of, are_of, are_numbers, type_at, is_among, types_of, takes, right_kind, operands_fit, type_step, type_of}
use Rattle.core_tree.specs.declared.tree.Variable.{Variable}
use Rattle.core_tree.specs.declared.tree.Operation.{Operation}
use Rattle.core_tree.specs.declared.tree.Tree.{Tree}
use Rattle.core_tree.specs.declared.tree.Tree.TheOpen.{Tree-F}
use Rattle.core_tree.specs.declared.tree.Tree.TheViews.{roll-Tree}
use Rattle.core_tree.specs.declared.tree.Tree.TheFolds.{map-Tree, fold-roll-Tree, ind-Tree}
use Rattle.core_tree.specs.declared.body.Body.{Body}
use Rattle.core_lower_expr.specs.Lowered.{Names, Codes, no_code, two_code, each_code, then_ops, constant_ops, local_ops, assign_ops, binary_ops, operation_code, operations_code, compare_ops, put_ops, line_ops, print_ops, call_ops, tree_code_step, tree_code}
use Rattle.core_lower_expr.proofs.Steps.{HasAt, has_front, has_back}
use Rattle.core_lower_expr.proofs.Exprs.{both_true, typed_is, of_is, some_weight}

length-map : (vs : List Variable) → length (types_of vs) ≡ length vs
length-map [] = refl
length-map (v ∷ vs) = ap suc (length-map vs)

pub there_as : {X : Type 0} (P Q : X → Type 0) (o : Option X) → ((x : X) → P x → Q x) → IsThere o P → IsThere o Q
there_as P Q None go h = h
there_as P Q (Some x) go h = go x h

-- what is known of the function of a body: it is handed its parameters, and fits its own frame
pub record IsCallee (b : Body) (g : Function) : Type 0 where
  pub params : g.params ≡ length b.params
  pub params_fit : g.params ≤ g.weight
  pub result_fits : g.result ≤ g.weight
  pub few : g.result ≤ 1

module _ (draft : Draft) (f : Function) (end : ℕ) where
  -- an instruction is one on numbers, and fits the function f, which ends before `end`
  pub record Fine (pc : ℕ) (o : Op) : Type 0 where
    pub fits : InstrFits draft f end pc o
    pub simple : IsSimple o

  abbrev pub FineAt : ℕ → List Instr → Type 0
  FineAt pc [] = Unit {0}
  FineAt pc (i ∷ is) = Fine pc i.op × FineAt (pc + 1) is

  pub fine_append : (pc : ℕ) (a b : List Instr) → FineAt pc a → FineAt (pc + length a) b → FineAt pc (a ++ b)
  fine_append pc [] b h k = let e : pc + 0 ≡ pc = omega arith in subst (λ n. FineAt n b) e k
  fine_append pc (i ∷ a) b h k = let e : pc + length (i ∷ a) ≡ pc + 1 + length a = omega arith in (h.0, fine_append (pc + 1) a b h.1 (subst (λ n. FineAt n b) e k))

  -- The code of a part stands in the function, and something behind it. Its temporaries lie in the frame.
  abbrev pub Stays : Codes → ℕ → Type 0
  Stays c size = (pc spare : ℕ) → HasAt draft.instrs pc (c pc spare) → f.first ≤ pc → pc + length (c pc spare) < end → spare + size ≤ f.weight → FineAt pc (c pc spare)

  -- instructions without a jump
  abbrev pub OpsStay : (ℕ → List Instr) → ℕ → Type 0
  OpsStay ops size = (pc spare : ℕ) → spare + size ≤ f.weight → FineAt pc (ops spare)

  pub none_stays : Stays no_code 0
  none_stays pc spare has from to room = tt

  pub looser_stays : (c : Codes) (za z : ℕ) → za ≤ z → Stays c za → Stays c z
  looser_stays c za z le s pc spare has from to room = s pc spare has from to (omega (arith, le, room))

  pub then_stays : (c : Codes) (ops : ℕ → List Instr) (za zb z : ℕ) → za ≤ z → zb ≤ z → Stays c za → OpsStay ops zb → Stays (then_ops c ops) z
  then_stays c ops za zb z la lb s o pc spare has from to room =
      let a = c pc spare in
      let b = ops spare in
      let len = length-append a b in
      fine_append pc a b (s pc spare (has_front draft.instrs pc a b has) from (omega (arith, to, len)) (omega (arith, room, la))) (o (pc + length a) spare (omega (arith, room, lb)))

  -- one part behind another, from the next slot on
  pub two_stay : (ca cb : Codes) (za zb : ℕ) → 1 ≤ za → Stays ca za → Stays cb zb → Stays (two_code ca cb) (za + zb)
  two_stay ca cb za zb some sa sb pc spare has from to room =
      let a = ca pc spare in
      let b = cb (pc + length a) (spare + 1) in
      let len = length-append a b in
      fine_append pc a b (sa pc spare (has_front draft.instrs pc a b has) from (omega (arith, to, len)) (omega (arith, room)))
      (sb (pc + length a) (spare + 1) (has_back draft.instrs pc a b has) (omega (arith, from)) (omega (arith, to, len)) (omega (arith, room, some)))

  -- from the same slot on
  pub same_slots : (ca cb : Codes) (za zb : ℕ) → Stays ca za → Stays cb zb → Stays (λ pc spare. ca pc spare ++ cb (pc + length (ca pc spare)) spare) (za + zb)
  same_slots ca cb za zb sa sb pc spare has from to room =
      let a = ca pc spare in
      let b = cb (pc + length a) spare in
      let len = length-append a b in
      fine_append pc a b (sa pc spare (has_front draft.instrs pc a b has) from (omega (arith, to, len)) (omega (arith, room)))
      (sb (pc + length a) spare (has_back draft.instrs pc a b has) (omega (arith, from)) (omega (arith, to, len)) (omega (arith, room)))

  -- ---- instructions

  constant_stays : (place : Place) (c : Const) → OpsStay (constant_ops place c) 5
  constant_stays place c pc spare room = (record { fits = record { jumps = tt; numbers = omega (arith, room); addresses = tt; blocks = tt; calls = tt; returns = tt; names = tt }; simple = tt }, tt)

  local_stays : (place : Place) (slot : ℕ) → slot < f.weight → OpsStay (local_ops place slot) 5
  local_stays place slot lt pc spare room = (record { fits = record { jumps = tt; numbers = (omega (arith, room), omega (arith, lt)); addresses = tt; blocks = tt; calls = tt; returns = tt; names = tt }; simple = tt }, tt)

  pub assign_stays : (place : Place) (slot : ℕ) → slot < f.weight → OpsStay (assign_ops place slot) 5
  assign_stays place slot lt pc spare room = (record { fits = record { jumps = tt; numbers = (omega (arith, lt), omega (arith, room)); addresses = tt; blocks = tt; calls = tt; returns = tt; names = tt }; simple = tt }, tt)

  binary_stays : (place : Place) (o : BinOp) (k : Kind) → OpsStay (binary_ops place o k) 5
  binary_stays place o k pc spare room =
      (record { fits = record { jumps = tt; numbers = (omega (arith, room), omega (arith, room), omega (arith, room)); addresses = tt; blocks = tt; calls = tt; returns = tt; names = tt }; simple = tt }, tt)

  compare_stays : (place : Place) (o : CmpOp) (k : Kind) → OpsStay (compare_ops place o k) 5
  compare_stays place o k pc spare room =
      (record { fits = record { jumps = tt; numbers = (omega (arith, room), omega (arith, room), omega (arith, room)); addresses = tt; blocks = tt; calls = tt; returns = tt; names = tt }; simple = tt }, tt)

  put_stays : (place : Place) (tys : List Ty) → OpsStay (put_ops place tys) (length tys)
  put_stays place [] pc spare room = tt
  put_stays place (ty ∷ tys) pc spare room =
      (record { fits = record { jumps = tt; numbers = omega (arith, room); addresses = tt; blocks = tt; calls = tt; returns = tt; names = tt }; simple = tt }, put_stays place tys (pc + 1) (spare + 1) (omega (arith, room)))

  line_stays : (place : Place) (line : Bool) → OpsStay (line_ops place line) 5
  line_stays place true pc spare room =
      (record { fits = record { jumps = tt; numbers = omega (arith, room); addresses = tt; blocks = tt; calls = tt; returns = tt; names = tt }; simple = tt }, (record { fits = record { jumps = tt; numbers = omega (arith, room); addresses = tt; blocks = tt; calls = tt; returns = tt; names = tt }; simple = tt }, tt))
  line_stays place false pc spare room = tt

  flush_stays : (place : Place) (tys : List Ty) (line : Bool) → OpsStay (print_ops place tys line) (5 + length tys)
  flush_stays place tys line pc spare room =
      let b = put_ops place tys spare in
      let l = line_ops place line spare in
      fine_append pc b _ (put_stays place tys pc spare (omega (arith, room))) (fine_append (pc + length b) l _ (line_stays place line (pc + length b) spare (omega (arith, room)))
      (record { fits = record { jumps = tt; numbers = tt; addresses = tt; blocks = tt; calls = tt; returns = tt; names = tt }; simple = tt }, tt))

  call_stays : (place : Place) (n : ℕ) (b : Body) (z : ℕ) → 5 ≤ z → length b.params ≤ z → IsThere (slice_get draft.functions n) (IsCallee b) → OpsStay (call_ops place n) z
  call_stays place n b z some few there pc spare room =
      let calls = there_as (IsCallee b) (CalleeFits f.weight spare spare) (slice_get draft.functions n)
      (λ g is. record { params = is.params_fit; result = is.result_fits; params_here = omega (arith, is.params, few, room); result_here = omega (arith, is.few, some, room) }) there in
      (record { fits = record { jumps = tt; numbers = tt; addresses = tt; blocks = tt; calls = calls; returns = tt; names = tt }; simple = tt }, tt)

  -- ---- trees

  module _ (bodies : List Body) (vars : List Variable) (names : Names) (slots : (place : Place) (ty : Ty) → type_at place vars ≡ Some ty → names.slot place < f.weight) (callees : (place : Place) (b : Body) → body_at bodies place ≡ Some b → IsThere (slice_get draft.functions (names.function place)) (IsCallee b)) where
    abbrev Holds : Tree → Type 0
    Holds e = (ty : Ty) → type_of bodies vars e ≡ Some ty → Stays (tree_code names e) (tree_weight e)

    abbrev Layer : Tree-F Tree → Type 0
    Layer x = (ty : Ty) → type_step bodies vars (map-Tree Tree (Option Ty) (type_of bodies vars) x) ≡ Some ty → Stays (tree_code_step names (map-Tree Tree Codes (tree_code names) x)) (tree_weight_step (map-Tree Tree ℕ tree_weight x))

    rolled : (x : Tree-F Tree) → Layer x → Holds (roll-Tree x)
    rolled x g ty t =
        subst (λ c. Stays c (tree_weight (roll-Tree x))) (sym (fold-roll-Tree Codes (tree_code_step names) x))
        (subst (λ z. Stays (tree_code_step names (map-Tree Tree Codes (tree_code names) x)) z) (sym (fold-roll-Tree ℕ tree_weight_step x))
        (g ty (sym (fold-roll-Tree (Option Ty) (type_step bodies vars) x) ∙ t)))

    among_stays : (v : Variable) → IsTrue (is_among v vars) → names.slot v.place < f.weight
    among_stays v t = slots v.place v.ty (of_is v.ty (type_at v.place vars) t)

    module _ {Y : Type 0} (p : Y → Tree) (q : (y : Y) → Holds (p y)) where
      abbrev C : Y → Codes
      C y = tree_code names (p y)

      abbrev Z : Y → ℕ
      Z y = tree_weight (p y)

      abbrev T : Y → Option Ty
      T y = type_of bodies vars (p y)

      part : (y : Y) (ty : Ty) → IsTrue (is_of ty (T y)) → Stays (C y) (Z y)
      part y ty t = q y ty (of_is ty (T y) t)

      abbrev all_codes : List Y → List Codes
      all_codes ys = map (tree_code names) (map p ys)

      abbrev all_weights : List Y → List ℕ
      all_weights ys = map tree_weight (map p ys)

      each_stay : (tys : List Ty) (ys : List Y) → IsTrue (are_of tys (map (type_of bodies vars) (map p ys))) → Stays (each_code (all_codes ys)) (sum (all_weights ys)) × (length tys ≤ sum (all_weights ys))
      each_stay [] [] t = (none_stays, omega arith)
      each_stay [] (y ∷ ys) t = absurd (true≢false (sym t))
      each_stay (ty ∷ tys) [] t = absurd (true≢false (sym t))
      each_stay (ty ∷ tys) (y ∷ ys) t =
          let ts = both_true (is_of ty (T y)) (are_of tys (map (type_of bodies vars) (map p ys))) t in
          let rest = each_stay tys ys ts.1 in
          (two_stay (C y) (each_code (all_codes ys)) (Z y) (sum (all_weights ys)) (omega (arith, some_weight (p y))) (part y ty ts.0) rest.0, omega (arith, some_weight (p y), rest.1))

      abbrev codes : List (Operation Y) → List (Operation Codes)
      codes os = map (operation_with (tree_code names)) (map (operation_with p) os)

      abbrev weights : List (Operation Y) → List (Operation ℕ)
      weights os = map (operation_with tree_weight) (map (operation_with p) os)

      abbrev types : List (Operation Y) → List (Operation (Option Ty))
      types os = map (operation_with (type_of bodies vars)) (map (operation_with p) os)

      operation_stays : (place : Place) (k : Kind) (o : BinOp) (y : Y) → Stays (C y) (Z y) → Stays (operation_code place k (record { operator = o; operand = C y })) (5 + Z y)
      operation_stays place k o y s =
          then_stays (λ pc spare. C y pc (spare + 1)) (binary_ops place o k) (1 + Z y) 5 (5 + Z y) (omega arith) (omega arith) (λ pc spare has from to room. s pc (spare + 1) has from to (omega (arith, room))) (binary_stays place o k)

      operations_stay : (place : Place) (k : Kind) (os : List (Operation Y)) → IsTrue (operands_fit k (types os)) → Stays (operations_code place k (codes os)) (operations_weight (weights os))
      operations_stay place k [] t = none_stays
      operations_stay place k (o ∷ os) t =
          let y = o.operand in
          let ts = both_true (is_of (int (right_kind o.operator k)) (T y)) (operands_fit k (types os)) t in
          same_slots (operation_code place k (record { operator = o.operator; operand = C y })) (operations_code place k (codes os)) (5 + Z y) (operations_weight (weights os)) (operation_stays place k o.operator y (part y (int (right_kind o.operator k)) ts.0)) (operations_stay place k os ts.1)

      called : (place g : Place) (found : Ty) (ys : List Y) (o : Option Body) → body_at bodies g ≡ o → IsTrue (takes o found (map (type_of bodies vars) (map p ys))) → Stays (then_ops (each_code (all_codes ys)) (call_ops place (names.function g))) (5 + sum (all_weights ys))
      called place g found ys None is t = absurd (true≢false (sym t))
      called place g found ys (Some b) is t =
          let args = map (type_of bodies vars) (map p ys) in
          let ts = both_true (same.ty b.result found) (are_of (types_of b.params) args) t in
          let all = each_stay (types_of b.params) ys ts.1 in
          let count : length (types_of b.params) ≡ length b.params = length-map b.params in
          let z = 5 + sum (all_weights ys) in
          then_stays (each_code (all_codes ys)) (call_ops place (names.function g)) (sum (all_weights ys)) z z (omega arith) (omega arith) all.0
          (call_stays place (names.function g) b z (omega arith) (omega (arith, all.1, count)) (callees g b is))

      layer : (y : Tree-F Y) → Layer (map-Tree Y Tree p y)
      layer (Tree-F.Constant place c) ty t = then_stays no_code (constant_ops place c) 0 5 5 (omega arith) (omega arith) none_stays (constant_stays place c)
      layer (Tree-F.Local place v) ty t =
          let ts = typed_is (is_among v vars) v.ty ty t in
          then_stays no_code (local_ops place (names.slot v.place)) 0 5 5 (omega arith) (omega arith) none_stays (local_stays place (names.slot v.place) (among_stays v ts.0))
      layer (Tree-F.Assign place v e) ty t =
          let ts = typed_is (is_among v vars && is_of v.ty (T e)) v.ty ty t in
          let us = both_true (is_among v vars) (is_of v.ty (T e)) ts.0 in
          then_stays (C e) (assign_ops place (names.slot v.place)) (Z e) 5 (10 + Z e) (omega arith) (omega arith) (part e v.ty us.1) (assign_stays place (names.slot v.place) (among_stays v us.0))
      layer (Tree-F.Chain place k first rest) ty t =
          let ts = typed_is (is_of (int k) (T first) && operands_fit k (types rest)) (int k) ty t in
          let us = both_true (is_of (int k) (T first)) (operands_fit k (types rest)) ts.0 in
          same_slots (C first) (operations_code place k (codes rest)) (Z first) (operations_weight (weights rest)) (part first (int k) us.0) (operations_stay place k rest us.1)
      layer (Tree-F.Compare place o k a b) ty t =
          let ts = typed_is (is_of (int k) (T a) && is_of (int k) (T b)) (int kind.Bool) ty t in
          let us = both_true (is_of (int k) (T a)) (is_of (int k) (T b)) ts.0 in
          then_stays (two_code (C a) (C b)) (compare_ops place o k) (Z a + Z b) 5 (5 + (Z a + Z b)) (omega arith) (omega arith)
          (two_stay (C a) (C b) (Z a) (Z b) (omega (arith, some_weight (p a))) (part a (int k) us.0) (part b (int k) us.1)) (compare_stays place o k)
      layer (Tree-F.Call place g found args) ty t =
          let ts = typed_is (takes (body_at bodies g) found (map (type_of bodies vars) (map p args))) found ty t in
          called place g found args (body_at bodies g) refl ts.0
      layer (Tree-F.Print place tys args line) ty t =
          let ts = typed_is (are_of tys (map (type_of bodies vars) (map p args)) && are_numbers tys) void ty t in
          let us = both_true (are_of tys (map (type_of bodies vars) (map p args))) (are_numbers tys) ts.0 in
          let all = each_stay tys args us.0 in
          then_stays (each_code (all_codes args)) (print_ops place tys line) (sum (all_weights args)) (5 + length tys) (5 + sum (all_weights args)) (omega arith) (omega (arith, all.1)) all.0 (flush_stays place tys line)

    pub tree_stays : (e : Tree) → Holds e
    tree_stays = ind-Tree Holds (λ x y is. subst (λ z. Holds (roll-Tree z)) is (rolled _ (layer (λ e. e.0) (λ e. e.1) y)))
