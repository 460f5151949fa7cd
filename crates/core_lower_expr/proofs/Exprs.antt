-- The machine follows each typed expression.
use Rattle.std.proofs.Common.{◌≡◌, ℕ, ◌+◌, ◌≤◌, Bool, true, false, ◌&&◌, List, [], ◌∷◌, map, Option, Some, None, refl, sym, ap, ◌∙◌, subst, arith, IsTrue, true≢false, ℤ, ◌≤ℤ◌}
use Rattle.std.specs.Prelude.{int_le, if◌then◌else◌}
use Rattle.std.proofs.lemmas.Int.{ints}
use Rattle.dc_types.specs.declared.kind.Kind.{Kind}
use Rattle.dc_types.specs.declared.kind.Kind.TheVariants as kind
use Rattle.dc_types.specs.declared.kind.BinOp.{BinOp}
use Rattle.dc_types.specs.declared.kind.CmpOp.{CmpOp}
use Rattle.dc_types.specs.declared.place.Place.{Place}
use Rattle.dc_types.specs.declared.ty.Ty.{Ty}
use Rattle.dc_types.specs.declared.ty.Ty.TheOpen.{Ty-F}
use Rattle.dc_types.specs.declared.ty.Ty.TheViews.{out-Ty, out-roll-Ty}
use Rattle.dc_types.specs.declared.constant.Const.{Const}
use Rattle.dc_types.specs.declared.constant.CTree.TheOpen.{CTree-F}
use Rattle.dc_types.specs.declared.constant.CTree.TheViews.{out-CTree}
use Rattle.dc_value.specs.declared.value.Value.{Value}
use Rattle.dc_types.specs.declared.event.Limits.{Limits}
use Rattle.dc_types.specs.Integers.{InKind, least, greatest, compare}
use Rattle.dc_types.specs.Exact.{ty-Decides}
use Rattle.dc_types.specs.Same as same
use Rattle.dc_code.specs.declared.run.Nest.{Nest}
use Rattle.dc_code.specs.declared.code.Draft.{Draft}
use Rattle.core_tree.specs.Values.{int, void, num, number_in, number_of_tree, constant_by, truth_number}
use Rattle.core_tree.specs.Weight.{sum, operations_weight, tree_weight_step, tree_weight}
use Rattle.core_tree.specs.Nodes.{operation_with}
use Rattle.core_tree.specs.Meaning.{Part, Goes, value_at, and_then, assigned, operated, chained, printed, both, each, Calls, body_at, tree_step, tree_meaning}
use Rattle.core_tree.specs.Typed.{is_of, are_of, are_numbers, is_number, is_number_by, type_at, is_among, types_of, takes, constant_fits_by, constant_fits, right_kind, operands_fit, typed_as, type_step, type_of}
use Rattle.core_tree.specs.declared.tree.Variable.{Variable}
use Rattle.core_tree.specs.declared.tree.Operation.{Operation}
use Rattle.core_tree.specs.declared.tree.Tree.{Tree}
use Rattle.core_tree.specs.declared.tree.Tree.TheOpen.{Tree-F}
use Rattle.core_tree.specs.declared.tree.Tree.TheViews.{roll-Tree}
use Rattle.core_tree.specs.declared.tree.Tree.TheFolds.{map-Tree, fold-roll-Tree, ind-Tree}
use Rattle.core_tree.specs.declared.body.Body.{Body}
use Rattle.core_lower_expr.specs.Lowered.{Names, Codes, no_code, two_code, each_code, constant_ops, local_ops, assign_ops, binary_ops, chain_code, compare_ops, print_ops, call_ops, tree_code_step, tree_code}
use Rattle.core_lower_expr.specs.Frames.{Slotted}
use Rattle.core_lower_expr.specs.Follows.{Lowers}
pub use Rattle.core_lower_expr.specs.Follows.{CallsFollow}
use Rattle.core_lower_expr.proofs.Locals.{some_is, none_some}
use Rattle.core_lower_expr.proofs.Follow.{Here, Form, value, pair, unit, Follows, as_follows, then_follows, with_follows, two_follows, none_follows}
use Rattle.core_lower_expr.proofs.Chains.{binary_code, binary_part, nested_code, nested_part, nested_code_is, nested_part_is}
use Rattle.core_lower_expr.proofs.Ops.{number, constant_op, local_op, assign_op, binary_op, compare_op}
use Rattle.core_lower_expr.proofs.Prints.{values, print_op}

le_true : (a b : ℤ) → int_le a b ≡ true → a ≤ℤ b
le_true a b h = grind (arith, ints)

pub both_true : (a b : Bool) → IsTrue (a && b) → IsTrue a × IsTrue b
both_true true b h = (refl, h)
both_true false b h = absurd (true≢false (sym h))

-- ---- what a node's type says

pub typed_is : (b : Bool) (ty found : Ty) → typed_as b ty ≡ Some found → IsTrue b × (ty ≡ found)
typed_is true ty found e = (refl, some_is ty found e)
typed_is false ty found e = absurd (none_some found e)

pub of_is : (ty : Ty) (o : Option Ty) → IsTrue (is_of ty o) → o ≡ Some ty
of_is ty None h = absurd (true≢false (sym h))
of_is ty (Some found) h = ap Some (sym ((ty-Decides ty found).0 h))

number_by_is : (ty : Ty) (x : Ty-F Ty) → out-Ty ty ≡ x → IsTrue (is_number_by x) → (k : Kind) × (out-Ty ty ≡ Ty-F.Int k)
number_by_is ty (Ty-F.Int k) e h = (k, e)
number_by_is ty Ty-F.Void e h = absurd (true≢false (sym h))
number_by_is ty (Ty-F.Fixed a n) e h = absurd (true≢false (sym h))
number_by_is ty (Ty-F.Slice a) e h = absurd (true≢false (sym h))
number_by_is ty Ty-F.Str e h = absurd (true≢false (sym h))
number_by_is ty (Ty-F.Struct p) e h = absurd (true≢false (sym h))
number_by_is ty (Ty-F.Enum p a) e h = absurd (true≢false (sym h))
number_by_is ty Ty-F.NullLit e h = absurd (true≢false (sym h))
number_by_is ty Ty-F.EmptyLit e h = absurd (true≢false (sym h))

pub number_is : (ty : Ty) → IsTrue (is_number ty) → (k : Kind) × (out-Ty ty ≡ Ty-F.Int k)
number_is ty h = number_by_is ty (out-Ty ty) refl h

among_is : (v : Variable) (vars : List Variable) → IsTrue (is_among v vars) → type_at v.place vars ≡ Some v.ty
among_is v vars h = of_is v.ty (type_at v.place vars) h

pub type_is_number : (place : Place) (ty : Ty) (vs : List Variable) → IsTrue (are_numbers (types_of vs)) → type_at place vs ≡ Some ty → IsTrue (is_number ty)
type_is_number place ty [] h t = absurd (none_some ty t)
type_is_number place ty (v ∷ vs) h t = by_test (λ t. type_is_number place ty vs (both_true (is_number v.ty) (are_numbers (types_of vs)) h).1 t) (same.place v.place place) refl where
  by_test : (type_at place vs ≡ Some ty → IsTrue (is_number ty)) → (b : Bool) → same.place v.place place ≡ b → IsTrue (is_number ty)
  by_test next true e =
      subst (λ t. IsTrue (is_number t)) (some_is v.ty ty (sym (ap (λ b. if b then Some v.ty else type_at place vs) e) ∙ t)) (both_true (is_number v.ty) (are_numbers (types_of vs)) h).0
  by_test next false e = next (sym (ap (λ b. if b then Some v.ty else type_at place vs) e) ∙ t)

-- a constant is a number of its kind
pub record IsConstant (c : Const) : Type 0 where
  pub kind : Kind
  pub is : out-Ty c.ty ≡ Ty-F.Int kind
  pub fine : InKind kind (number_of_tree c.tree)

constant_by_is : (c : Const) (x : Ty-F Ty) (y : CTree-F _) → out-Ty c.ty ≡ x → out-CTree c.tree ≡ y → IsTrue (constant_fits_by x y) → IsConstant c
constant_by_is c (Ty-F.Int k) (CTree-F.Num z) e f h =
    let b = both_true (int_le (least k) z) (int_le z (greatest k)) h in
    record { kind = k; is = e; fine = subst (InKind k) (sym (ap constant_by f)) (record { at_least = le_true (least k) z b.0; at_most = le_true z (greatest k) b.1 }) }
constant_by_is c (Ty-F.Int k) (CTree-F.List ts) e f h = absurd (true≢false (sym h))
constant_by_is c Ty-F.Void y e f h = absurd (true≢false (sym h))
constant_by_is c (Ty-F.Fixed a n) y e f h = absurd (true≢false (sym h))
constant_by_is c (Ty-F.Slice a) y e f h = absurd (true≢false (sym h))
constant_by_is c Ty-F.Str y e f h = absurd (true≢false (sym h))
constant_by_is c (Ty-F.Struct p) y e f h = absurd (true≢false (sym h))
constant_by_is c (Ty-F.Enum p a) y e f h = absurd (true≢false (sym h))
constant_by_is c Ty-F.NullLit y e f h = absurd (true≢false (sym h))
constant_by_is c Ty-F.EmptyLit y e f h = absurd (true≢false (sym h))

-- ---- weights

some_layer : {Y : Type 0} (p : Y → Tree) (h : (y : Y) → 5 ≤ tree_weight (p y)) (y : Tree-F Y) → 5 ≤ tree_weight_step (map-Tree Tree ℕ tree_weight (map-Tree Y Tree p y))
some_layer p h (Tree-F.Constant place c) = omega arith
some_layer p h (Tree-F.Local place v) = omega arith
some_layer p h (Tree-F.Assign place v e) = omega arith
some_layer p h (Tree-F.Chain place k first rest) = omega (arith, h first)
some_layer p h (Tree-F.Compare place op k a b) = omega arith
some_layer p h (Tree-F.Call place f ty args) = omega arith
some_layer p h (Tree-F.Print place tys args line) = omega arith

some_rolled : (x : Tree-F Tree) → 5 ≤ tree_weight_step (map-Tree Tree ℕ tree_weight x) → 5 ≤ tree_weight (roll-Tree x)
some_rolled x h = subst (λ n. 5 ≤ n) (sym (fold-roll-Tree ℕ tree_weight_step x)) h

pub some_weight : (e : Tree) → 5 ≤ tree_weight e
some_weight = ind-Tree (λ e. 5 ≤ tree_weight e) (λ x y is. subst (λ z. 5 ≤ tree_weight (roll-Tree z)) is (some_rolled _ (some_layer (λ e. e.0) (λ e. e.1) y)))

module _ (code : Draft) (limits : Limits) (nest : Nest) (h : Here) (vars : List Variable) (fuel : ℕ) (bodies : List Body) (names : Names) (calls : Calls) (numbers : IsTrue (are_numbers (types_of vars))) (slotted : Slotted vars names.slot) (params : (f : Place) (b : Body) → body_at bodies f ≡ Some b → IsTrue (are_numbers (types_of b.params))) (cf : CallsFollow code limits nest bodies fuel names.function calls) where
  abbrev F : (F : Form) → Codes → ℕ → Part F.A → Type 0
  F = Follows code limits nest h vars fuel

  looser : (G : Form) (c : Codes) (size more : ℕ) (m : Part G.A) → size ≤ more → F G c size m → F G c more m
  looser G c size n m le f pc spare taken temps more s has e good room ticks = f pc spare taken temps more s has e good (omega (arith, le, room)) ticks

  -- one lemma a form: codes, weights and parts stand in the place of the subtrees
  abbrev FF : Ty-F Ty → Tree-F Codes → Tree-F ℕ → Tree-F (Part Value) → Type 0
  FF t x y z = F (value t) (tree_code_step names x) (tree_weight_step y) (tree_step calls z)

  constant_follows : (place : Place) (c : Const) (k : Kind) → InKind k (number_of_tree c.tree) → FF (Ty-F.Int k) (Tree-F.Constant place c) (Tree-F.Constant place c) (Tree-F.Constant place c)
  constant_follows place c k fine =
      then_follows code limits nest h vars fuel unit (number k) no_code (constant_ops place c) 0 (λ s. Goes tt s) (λ a s. Goes (num (number_of_tree c.tree)) s) (none_follows code limits nest h vars fuel) (constant_op code limits nest h vars fuel place c k fine)

  local_follows : (place : Place) (v : Variable) (k : Kind) → type_at v.place vars ≡ Some v.ty → out-Ty v.ty ≡ Ty-F.Int k → FF (Ty-F.Int k) (Tree-F.Local place v) (Tree-F.Local place v) (Tree-F.Local place v)
  local_follows place v k there is =
      then_follows code limits nest h vars fuel unit (number k) no_code (local_ops place (names.slot v.place)) 0 (λ s. Goes tt s) (λ a s. Goes (value_at v.place s.locals) s) (none_follows code limits nest h vars fuel) (local_op code limits nest h vars fuel place v v.ty k (names.slot v.place) (slotted v.place v.ty there) there is)

  module _ (ca cb : Codes) (za zb : ℕ) (ma mb : Part Value) (some : 5 ≤ za) where
    assign_follows : (place : Place) (v : Variable) (k : Kind) → type_at v.place vars ≡ Some v.ty → out-Ty v.ty ≡ Ty-F.Int k → F (number k) ca za ma → FF (Ty-F.Int k) (Tree-F.Assign place v ca) (Tree-F.Assign place v za) (Tree-F.Assign place v ma)
    assign_follows place v k there is fa =
        looser (number k) (tree_code_step names (Tree-F.Assign place v ca)) (5 + za) (10 + za) (tree_step calls (Tree-F.Assign place v ma)) (omega arith)
        (then_follows code limits nest h vars fuel (number k) (number k) ca (assign_ops place (names.slot v.place)) za ma (assigned v.place) fa (assign_op code limits nest h vars fuel place v v.ty k (names.slot v.place) (slotted v.place v.ty there) there is))

    binary_follows : (place : Place) (o : BinOp) (k : Kind) → F (number k) ca za ma → F (number (right_kind o k)) cb zb mb → F (number k) (binary_code place k ca (record { operator = o; operand = cb })) (5 + (za + zb)) (binary_part place k ma (record { operator = o; operand = mb }))
    binary_follows place o k fa fb =
        then_follows code limits nest h vars fuel (pair (number k) (number (right_kind o k))) (number k) (two_code ca cb) (binary_ops place o k) (za + zb) (both ma mb) (operated place o k)
        (two_follows code limits nest h vars fuel (number k) (number (right_kind o k)) ca cb za zb ma mb (λ a f. refl) (omega (arith, some)) fa fb) (binary_op code limits nest h vars fuel place o k)

    compare_follows : (place : Place) (o : CmpOp) (k : Kind) → F (number k) ca za ma → F (number k) cb zb mb → FF (Ty-F.Int kind.Bool) (Tree-F.Compare place o k ca cb) (Tree-F.Compare place o k za zb) (Tree-F.Compare place o k ma mb)
    compare_follows place o k fa fb =
        then_follows code limits nest h vars fuel (pair (number k) (number k)) (number kind.Bool) (two_code ca cb) (compare_ops place o k) (za + zb) (both ma mb) (λ xy s. Goes (num (truth_number (compare o (number_in xy.0) (number_in xy.1)))) s)
        (two_follows code limits nest h vars fuel (number k) (number k) ca cb za zb ma mb (λ a f. refl) (omega (arith, some)) fa fb) (compare_op code limits nest h vars fuel place o k)

  print_follows : (place : Place) (tys : List Ty) (line : Bool) (cs : List Codes) (zs : List ℕ) (ms : List (Part Value)) → F (values tys) (each_code cs) (sum zs) (each ms) → FF Ty-F.Void (Tree-F.Print place tys cs line) (Tree-F.Print place tys zs line) (Tree-F.Print place tys ms line)
  print_follows place tys line cs zs ms f =
      then_follows code limits nest h vars fuel (values tys) (value Ty-F.Void) (each_code cs) (print_ops place tys line) (sum zs) (each ms) (printed tys line) f (print_op code limits nest h vars fuel place tys line)

  call_follows : (place f : Place) (ty : Ty) (b : Body) (cs : List Codes) (zs : List ℕ) (ms : List (Part Value)) → body_at bodies f ≡ Some b → F (values (types_of b.params)) (each_code cs) (sum zs) (each ms) → FF (out-Ty b.result) (Tree-F.Call place f ty cs) (Tree-F.Call place f ty zs) (Tree-F.Call place f ty ms)
  call_follows place f ty b cs zs ms is g =
      then_follows code limits nest h vars fuel (values (types_of b.params)) (value (out-Ty b.result)) (each_code cs) (call_ops place (names.function f)) (sum zs) (each ms) (calls place f) g (cf h vars place f b is)

  none : F (values []) (each_code []) 0 (each [])
  none pc spare taken temps more s has e good room ticks =
      let g = none_follows code limits nest h vars fuel pc spare taken temps more s has e good room ticks in
      record { rest = g.rest; taken = g.taken; fine = tt; good = g.good; fills = g.fills; ticks = g.ticks; by = g.by }

  more : (ty : Ty) (tys : List Ty) (k : Kind) (c : Codes) (cs : List Codes) (z : ℕ) (zs : List ℕ) (m : Part Value) (ms : List (Part Value)) → out-Ty ty ≡ Ty-F.Int k → 5 ≤ z → F (number k) c z m → F (values tys) (each_code cs) (sum zs) (each ms) → F (values (ty ∷ tys)) (each_code (c ∷ cs)) (sum (z ∷ zs)) (each (m ∷ ms))
  more ty tys k c cs z zs m ms is some f g =
      with_follows code limits nest h vars fuel (number k) (values tys) (values (ty ∷ tys)) (λ v vs. v ∷ vs) c (each_code cs) z (sum zs) m (each ms)
      (λ a f. refl) (λ a b. refl) (λ v vs a b. (record { kind = k; is = is; fine = a }, b)) (omega (arith, some)) f g

  abbrev Holds : Tree → Type 0
  Holds e = (ty : Ty) → type_of bodies vars e ≡ Some ty → F (value (out-Ty ty)) (tree_code names e) (tree_weight e) (tree_meaning calls e)

  -- one layer over expressions that are followed
  abbrev Layer : Tree-F Tree → Type 0
  Layer x = (ty : Ty) → type_step bodies vars (map-Tree Tree (Option Ty) (type_of bodies vars) x) ≡ Some ty →
      FF (out-Ty ty) (map-Tree Tree Codes (tree_code names) x) (map-Tree Tree ℕ tree_weight x) (map-Tree Tree (Part Value) (tree_meaning calls) x)

  rolled : (x : Tree-F Tree) → Layer x → Holds (roll-Tree x)
  rolled x g ty t =
      subst (λ c. F (value (out-Ty ty)) c (tree_weight (roll-Tree x)) (tree_meaning calls (roll-Tree x))) (sym (fold-roll-Tree Codes (tree_code_step names) x))
      (subst (λ z. F (value (out-Ty ty)) (tree_code_step names (map-Tree Tree Codes (tree_code names) x)) z (tree_meaning calls (roll-Tree x))) (sym (fold-roll-Tree ℕ tree_weight_step x))
      (subst (λ m. F (value (out-Ty ty)) (tree_code_step names (map-Tree Tree Codes (tree_code names) x)) (tree_weight_step (map-Tree Tree ℕ tree_weight x)) m) (sym (fold-roll-Tree (Part Value) (tree_step calls) x))
      (g ty (sym (fold-roll-Tree (Option Ty) (type_step bodies vars) x) ∙ t))))

  module _ {Y : Type 0} (p : Y → Tree) (q : (y : Y) → Holds (p y)) where
    abbrev C : Y → Codes
    C y = tree_code names (p y)

    abbrev Z : Y → ℕ
    Z y = tree_weight (p y)

    abbrev P : Y → Part Value
    P y = tree_meaning calls (p y)

    abbrev T : Y → Option Ty
    T y = type_of bodies vars (p y)

    -- a part that is a number of a kind
    part : (y : Y) (k : Kind) → IsTrue (is_of (int k) (T y)) → F (number k) (C y) (Z y) (P y)
    part y k t = subst (λ x. F (value x) (C y) (Z y) (P y)) (out-roll-Ty (Ty-F.Int k)) (q y (int k) (of_is (int k) (T y) t))

    abbrev codes : List (Operation Y) → List (Operation Codes)
    codes os = map (operation_with (tree_code names)) (map (operation_with p) os)

    abbrev weights : List (Operation Y) → List (Operation ℕ)
    weights os = map (operation_with tree_weight) (map (operation_with p) os)

    abbrev parts : List (Operation Y) → List (Operation (Part Value))
    parts os = map (operation_with (tree_meaning calls)) (map (operation_with p) os)

    abbrev types : List (Operation Y) → List (Operation (Option Ty))
    types os = map (operation_with (type_of bodies vars)) (map (operation_with p) os)

    nested_holds : (place : Place) (k : Kind) (os : List (Operation Y)) → IsTrue (operands_fit k (types os)) → (c : Codes) (z : ℕ) (m : Part Value) → 5 ≤ z → F (number k) c z m →
        F (number k) (nested_code place k c (codes os)) (z + operations_weight (weights os)) (nested_part place k m (parts os))
    nested_holds place k [] t c z m some f = looser (number k) c z (z + 0) m (omega arith) f
    nested_holds place k (o ∷ os) t c z m some f =
        let y = o.operand in
        let ts = both_true (is_of (int (right_kind o.operator k)) (T y)) (operands_fit k (types os)) t in
        let c' = binary_code place k c (record { operator = o.operator; operand = C y }) in
        let m' = binary_part place k m (record { operator = o.operator; operand = P y }) in
        looser (number k) (nested_code place k c' (codes os)) (5 + (z + Z y) + operations_weight (weights os)) (z + operations_weight (weights (o ∷ os))) (nested_part place k m' (parts os)) (omega arith)
        (nested_holds place k os ts.1 c' (5 + (z + Z y)) m' (omega arith) (binary_follows c (C y) z (Z y) m (P y) some place o.operator k f (part y (right_kind o.operator k) ts.0)))

    chain_holds : (place : Place) (k : Kind) (first : Y) (os : List (Operation Y)) → IsTrue (is_of (int k) (T first)) → IsTrue (operands_fit k (types os)) →
        FF (Ty-F.Int k) (Tree-F.Chain place k (C first) (codes os)) (Tree-F.Chain place k (Z first) (weights os)) (Tree-F.Chain place k (P first) (parts os))
    chain_holds place k first os t ts =
        let z = Z first + operations_weight (weights os) in
        as_follows code limits nest h vars fuel (number k) (nested_code place k (C first) (codes os)) (chain_code place k (C first) (codes os)) z z (nested_part place k (P first) (parts os)) (λ s. and_then (P first s) (chained place k (parts os)))
        (nested_code_is place k (codes os) (C first)) (nested_part_is place k (parts os) (P first)) (omega arith) (nested_holds place k os ts (C first) (Z first) (P first) (some_weight (p first)) (part first k t))

    each_holds : (tys : List Ty) (ys : List Y) → IsTrue (are_of tys (map (type_of bodies vars) (map p ys))) → IsTrue (are_numbers tys) →
        F (values tys) (each_code (map (tree_code names) (map p ys))) (sum (map tree_weight (map p ys))) (each (map (tree_meaning calls) (map p ys)))
    each_holds [] [] t n = none
    each_holds [] (y ∷ ys) t n = absurd (true≢false (sym t))
    each_holds (ty ∷ tys) [] t n = absurd (true≢false (sym t))
    each_holds (ty ∷ tys) (y ∷ ys) t n =
        let ts = both_true (is_of ty (T y)) (are_of tys (map (type_of bodies vars) (map p ys))) t in
        let ns = both_true (is_number ty) (are_numbers tys) n in
        let k = number_is ty ns.0 in
        more ty tys k.0 (C y) (map (tree_code names) (map p ys)) (Z y) (map tree_weight (map p ys)) (P y) (map (tree_meaning calls) (map p ys)) k.1 (some_weight (p y))
        (subst (λ x. F (value x) (C y) (Z y) (P y)) k.1 (q y ty (of_is ty (T y) ts.0))) (each_holds tys ys ts.1 ns.1)

    as_type : (t : Ty-F Ty) (ty found : Ty) (x : Tree-F Codes) (y : Tree-F ℕ) (z : Tree-F (Part Value)) → found ≡ ty → out-Ty found ≡ t → FF t x y z → FF (out-Ty ty) x y z
    as_type t ty found x y z e f g = subst (λ t. FF t x y z) (sym f ∙ ap out-Ty e) g

    called : (place f : Place) (ty found : Ty) (ys : List Y) (o : Option Body) → body_at bodies f ≡ o → IsTrue (takes o found (map (type_of bodies vars) (map p ys))) → found ≡ ty →
        FF (out-Ty ty) (Tree-F.Call place f found (map (tree_code names) (map p ys))) (Tree-F.Call place f found (map tree_weight (map p ys))) (Tree-F.Call place f found (map (tree_meaning calls) (map p ys)))
    called place f ty found ys None is t e = absurd (true≢false (sym t))
    called place f ty found ys (Some b) is t e =
        let args = map (type_of bodies vars) (map p ys) in
        let ts = both_true (same.ty b.result found) (are_of (types_of b.params) args) t in
        let cs = map (tree_code names) (map p ys) in
        let zs = map tree_weight (map p ys) in
        let ms = map (tree_meaning calls) (map p ys) in
        as_type (out-Ty b.result) ty b.result (Tree-F.Call place f found cs) (Tree-F.Call place f found zs) (Tree-F.Call place f found ms) ((ty-Decides b.result found).0 ts.0 ∙ e) refl
        (call_follows place f found b cs zs ms is (each_holds (types_of b.params) ys ts.1 (params f b is)))

    layer : (y : Tree-F Y) → Layer (map-Tree Y Tree p y)
    layer (Tree-F.Constant place c) ty t =
        let ts = typed_is (constant_fits c) c.ty ty t in
        let k = constant_by_is c (out-Ty c.ty) (out-CTree c.tree) refl refl ts.0 in
        as_type (Ty-F.Int k.kind) ty c.ty (Tree-F.Constant place c) (Tree-F.Constant place c) (Tree-F.Constant place c) ts.1 k.is (constant_follows place c k.kind k.fine)
    layer (Tree-F.Local place v) ty t =
        let ts = typed_is (is_among v vars) v.ty ty t in
        let there = among_is v vars ts.0 in
        let k = number_is v.ty (type_is_number v.place v.ty vars numbers there) in
        as_type (Ty-F.Int k.0) ty v.ty (Tree-F.Local place v) (Tree-F.Local place v) (Tree-F.Local place v) ts.1 k.1 (local_follows place v k.0 there k.1)
    layer (Tree-F.Assign place v e) ty t =
        let ts = typed_is (is_among v vars && is_of v.ty (T e)) v.ty ty t in
        let us = both_true (is_among v vars) (is_of v.ty (T e)) ts.0 in
        let there = among_is v vars us.0 in
        let k = number_is v.ty (type_is_number v.place v.ty vars numbers there) in
        as_type (Ty-F.Int k.0) ty v.ty (Tree-F.Assign place v (C e)) (Tree-F.Assign place v (Z e)) (Tree-F.Assign place v (P e)) ts.1 k.1
        (assign_follows (C e) (C e) (Z e) (Z e) (P e) (P e) (some_weight (p e)) place v k.0 there k.1 (subst (λ x. F (value x) (C e) (Z e) (P e)) k.1 (q e v.ty (of_is v.ty (T e) us.1))))
    layer (Tree-F.Chain place k first rest) ty t =
        let ts = typed_is (is_of (int k) (T first) && operands_fit k (types rest)) (int k) ty t in
        let us = both_true (is_of (int k) (T first)) (operands_fit k (types rest)) ts.0 in
        as_type (Ty-F.Int k) ty (int k) (Tree-F.Chain place k (C first) (codes rest)) (Tree-F.Chain place k (Z first) (weights rest)) (Tree-F.Chain place k (P first) (parts rest)) ts.1 (out-roll-Ty (Ty-F.Int k))
        (chain_holds place k first rest us.0 us.1)
    layer (Tree-F.Compare place o k a b) ty t =
        let ts = typed_is (is_of (int k) (T a) && is_of (int k) (T b)) (int kind.Bool) ty t in
        let us = both_true (is_of (int k) (T a)) (is_of (int k) (T b)) ts.0 in
        as_type (Ty-F.Int kind.Bool) ty (int kind.Bool) (Tree-F.Compare place o k (C a) (C b)) (Tree-F.Compare place o k (Z a) (Z b)) (Tree-F.Compare place o k (P a) (P b)) ts.1 (out-roll-Ty (Ty-F.Int kind.Bool))
        (compare_follows (C a) (C b) (Z a) (Z b) (P a) (P b) (some_weight (p a)) place o k (part a k us.0) (part b k us.1))
    layer (Tree-F.Call place f found args) ty t =
        let ts = typed_is (takes (body_at bodies f) found (map (type_of bodies vars) (map p args))) found ty t in
        called place f ty found args (body_at bodies f) refl ts.0 ts.1
    layer (Tree-F.Print place tys args line) ty t =
        let ts = typed_is (are_of tys (map (type_of bodies vars) (map p args)) && are_numbers tys) void ty t in
        let us = both_true (are_of tys (map (type_of bodies vars) (map p args))) (are_numbers tys) ts.0 in
        let cs = map (tree_code names) (map p args) in
        let zs = map tree_weight (map p args) in
        let ms = map (tree_meaning calls) (map p args) in
        as_type Ty-F.Void ty void (Tree-F.Print place tys cs line) (Tree-F.Print place tys zs line) (Tree-F.Print place tys ms line) ts.1 (out-roll-Ty Ty-F.Void)
        (print_follows place tys line cs zs ms (each_holds tys args us.0 us.1))

  pub tree_follows : (e : Tree) → Holds e
  tree_follows = ind-Tree Holds (λ x y is. subst (λ z. Holds (roll-Tree z)) is (rolled _ (layer (λ e. e.0) (λ e. e.1) y)))

pub lowers : Lowers
lowers = tree_follows
