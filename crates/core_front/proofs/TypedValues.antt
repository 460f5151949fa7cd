-- What values and conditions are resolved to is typed.
use Rattle.std.proofs.Common.{◌≡◌, refl, sym, ap, subst, ◌∙◌, ℕ, suc, Bool, true, false, cond, ◌&&◌, List, [], ◌∷◌, ◌++◌, map, length, ℤ, pos, Option, Some, None, Ok, Err}
use Rattle.std.specs.Prelude.{option_map, int_le, nat_eq}
use Rattle.std.specs.Str.{bytes_eq}
use Rattle.std.proofs.lemmas.Bool.{eqb-true}
use Rattle.dc_types.specs.declared.kind.Kind.TheVariants as kind
use Rattle.dc_types.specs.declared.kind.CmpOp.{CmpOp}
use Rattle.dc_types.specs.declared.place.Place.{Place}
use Rattle.dc_types.specs.declared.refusal.Refusal.{Refusal}
use Rattle.dc_types.specs.declared.ty.Ty.{Ty}
use Rattle.dc_types.specs.declared.ty.Ty.TheOpen.{Ty-F}
use Rattle.dc_types.specs.declared.ty.Ty.TheViews.{out-roll-Ty}
use Rattle.dc_types.specs.declared.constant.Const.{Const}
use Rattle.dc_types.specs.declared.constant.CTree.TheOpen.{CTree-F}
use Rattle.dc_types.specs.declared.constant.CTree.TheViews.{out-CTree, out-roll-CTree}
use Rattle.dc_types.specs.declared.constant.CTree.TheVariants as ctree
use Rattle.dc_types.specs.Exact.{ty-Decides}
use Rattle.dc_types.specs.Integers.{least, greatest}
use Rattle.dc_types.specs.Same as same
use Rattle.core_tree.specs.Values.{int, void}
use Rattle.core_tree.specs.Nodes.{operation_with}
use Rattle.core_tree.specs.Meaning.{body_at}
use Rattle.core_tree.specs.Typed.{Each, is_of, are_of, is_number, are_numbers, is_among, is_condition, takes, constant_fits, constant_fits_by, operands_fit, right_kind, typed_as, type_step, type_of}
use Rattle.core_tree.specs.declared.tree.Variable.{Variable}
use Rattle.core_tree.specs.declared.tree.Operation.{Operation}
use Rattle.core_tree.specs.declared.tree.Tree.{Tree}
use Rattle.core_tree.specs.declared.tree.Tree.TheVariants as tree
use Rattle.core_tree.specs.declared.tree.Tree.TheOpen.{Tree-F}
use Rattle.core_tree.specs.declared.tree.Tree.TheFolds.{fold-roll-Tree}
use Rattle.core_tree.specs.declared.body.Body.{Body}
use Rattle.dc_ast.specs.declared.name.Name.{Name}
use Rattle.core_front.specs.Operators.{resolved}
use Rattle.core_front.specs.Building.{is_some}
use Rattle.core_front.specs.Naming.{find, name_of_local, visible, named}
use Rattle.core_front.specs.Judging.{Judged, go_on, refuse, place_in, number_in, truth, variable_in, result_of, print_of, no_such, no_value, variable_by, variable_of, print_by, callee_by, callee_of, Part, Linked, each_argument, each_operand, no_arguments, no_operands, function_call, print_call, called, chain_of, chained, local_of, constant_of, literal_of, value_step, part, linked, typed_of, arguments_of, int_by, begins_at, int_of, compared, condition_of}
use Rattle.core_front.specs.declared.built.Arithmetic.{Arithmetic}
use Rattle.core_front.specs.declared.built.Arithmetic.TheVariants as arithmetic
use Rattle.core_front.specs.declared.built.Function.{Function}
use Rattle.core_front.specs.declared.built.Link.{Link, roll-Link}
use Rattle.core_front.specs.declared.built.Test.{Test}
use Rattle.core_front.specs.declared.built.Test.TheVariants as test
use Rattle.core_front.specs.declared.built.Value.{Value}
use Rattle.core_front.specs.declared.built.Value.TheOpen.{Value-F, Link-F}
use Rattle.core_front.specs.declared.built.Value.TheViews.{roll-Value}
use Rattle.core_front.specs.declared.built.Value.TheFolds.{map-Value, map-Link, fold-roll-Value, fold-roll-Link, ind-Value}
use Rattle.core_front.specs.declared.judged.Arguments.{Arguments}
use Rattle.core_front.specs.declared.judged.Callee.{Callee}
use Rattle.core_front.specs.declared.judged.Callee.TheVariants as callee
use Rattle.core_front.specs.declared.judged.Known.{Known}
use Rattle.core_front.specs.declared.judged.Operands.{Operands}
use Rattle.core_front.specs.declared.judged.Typed.{Typed}
use Rattle.core_front.specs.declared.scope.Local.{Local}

-- ---- what is judged

abbrev pub yes : {A : Type 0} → A → Judged A
yes x = Ok x

abbrev pub no : {A : Type 0} → Refusal → Judged A
no r = Err r

abbrev nothing : {A : Type 0} → Option A
nothing = None

pub ok_is : {A : Type 0} (x y : A) → yes x ≡ yes y → x ≡ y
ok_is x y e = cc

pub no_ok : {A C : Type 0} (r : Refusal) (y : A) → no {A = A} r ≡ yes y → C
no_ok r y e = absurd (cc)

pub some_is : {A : Type 0} (x y : A) → Some x ≡ Some y → x ≡ y
some_is x y e = cc

pub no_some : {A C : Type 0} (y : A) → nothing {A = A} ≡ Some y → C
no_some y e = absurd (cc)

pub goes : {A B : Type 0} (j : Judged A) (f : A → Judged B) (y : B) → go_on j f ≡ Ok y → (x : A) × (j ≡ Ok x) × (f x ≡ Ok y)
goes (Ok x) f y e = (x, refl, e)
goes (Err r) f y e = no_ok r y e

pub chosen : {A : Type 0} (b : Bool) (x y : A) (r : Refusal) → cond b (yes x) (no r) ≡ yes y → (b ≡ true) × (x ≡ y)
chosen true x y r e = (refl, ok_is x y e)
chosen false x y r e = no_ok r y e

pub other : {A : Type 0} (b : Bool) (j : Judged A) (y : A) (r : Refusal) → cond b (no r) j ≡ yes y → (b ≡ false) × (j ≡ Ok y)
other true j y r e = no_ok r y e
other false j y r e = (refl, e)

pub both : (a b : Bool) → (a && b) ≡ true → (a ≡ true) × (b ≡ true)
both true b e = (refl, e)
both false b e = absurd (cc)

pub and_true : (a b : Bool) → a ≡ true → b ≡ true → (a && b) ≡ true
and_true true b e f = f
and_true false b e f = e

-- ---- types

pub same_ty : (ty : Ty) → same.ty ty ty ≡ true
same_ty ty = (ty-Decides ty ty).1 refl

abbrev pub Int : Option Ty → Type 0
Int o = o ≡ Some (int kind.I32)

pub is_int : (o : Option Ty) → Int o → is_of (int kind.I32) o ≡ true
is_int o e = ap (is_of (int kind.I32)) e ∙ same_ty (int kind.I32)

pub int_is_number : is_number (int kind.I32) ≡ true
int_is_number = ap (λ t. Rattle.core_tree.specs.Typed.is_number_by t) (out-roll-Ty (Ty-F.Int kind.I32))

typed_when : (b : Bool) (ty : Ty) → b ≡ true → typed_as b ty ≡ Some ty
typed_when b ty e = ap (λ b. typed_as b ty) e

pub result_int : (b : Bool) → b ≡ true → result_of b ≡ int kind.I32
result_int b e = ap result_of e

right_same : (o : Arithmetic) → right_kind (resolved o) kind.I32 ≡ kind.I32
right_same arithmetic.Multiply = refl
right_same arithmetic.Divide = refl
right_same arithmetic.Remainder = refl
right_same arithmetic.Add = refl
right_same arithmetic.Subtract = refl

abbrev int_layer : Ty-F Ty
int_layer = Ty-F.Int kind.I32

abbrev bool_layer : Ty-F Ty
bool_layer = Ty-F.Int kind.Bool

constant_is : (n : ℤ) → constant_fits (record { ty = int kind.I32; tree = ctree.Num n }) ≡ (int_le (least kind.I32) n && int_le n (greatest kind.I32))
constant_is n =
    ap (λ t. constant_fits_by t (out-CTree (ctree.Num n))) (out-roll-Ty (Ty-F.Int kind.I32)) ∙
    ap (λ c. constant_fits_by int_layer c) (ap out-CTree (sym (ctree.rolls-Num n)) ∙ out-roll-CTree (CTree-F.Num n))

truth_small : (int_le (least kind.Bool) (pos 1) && int_le (pos 1) (greatest kind.Bool)) ≡ true
unfolding least greatest
truth_small = refl

truth_fits : constant_fits truth ≡ true
unfolding truth
truth_fits =
    ap (λ t. constant_fits_by t (out-CTree (ctree.Num (pos 1)))) (out-roll-Ty (Ty-F.Int kind.Bool)) ∙
    ap (λ c. constant_fits_by bool_layer c) (ap out-CTree (sym (ctree.rolls-Num (pos 1))) ∙ out-roll-CTree (CTree-F.Num (pos 1))) ∙ truth_small

pub each_more : {X : Type 0} (P : X → Type 0) (xs : List X) (y : X) → Each P xs → P y → Each P (xs ++ y ∷ [])
each_more P [] y h p = (p, tt)
each_more P (x ∷ xs) y h p = (h.0, each_more P xs y h.1 p)

-- ---- in a function with these variables, among these bodies

module _ (k : Known) (bodies : List Body) (vars : List Variable) where
  abbrev T : Tree → Option Ty
  T = type_of bodies vars

  -- each open variable is one of the function's
  abbrev pub Held : List Local → Type 0
  Held locals = Each (λ l. is_among (variable_in k l.at) vars ≡ true) locals

  -- a call of a function by its name, with as many numbers as it has parameters, fits its body
  abbrev pub CallsFit : Type 0
  CallsFit = (q : List ℕ) (f : Function) → named q k.functions ≡ Some f → (tys : List (Option Ty)) → Each Int tys → length tys ≡ length f.parameters → takes (body_at bodies (place_in k f.at)) (result_of f.gives_int) tys ≡ true

  held_at : (q : List ℕ) (locals : List Local) (at : ℕ) → Held locals → visible q locals ≡ Some at → is_among (variable_in k at) vars ≡ true
  held_at q [] at h e = no_some at e
  held_at q (l ∷ ls) at h e = by_test (λ e. held_at q ls at h.1 e) (bytes_eq l.name q) refl where
    by_test : (visible q ls ≡ Some at → is_among (variable_in k at) vars ≡ true) → (b : Bool) → bytes_eq l.name q ≡ b → is_among (variable_in k at) vars ≡ true
    by_test next true is =
        let e' : Some l.at ≡ Some at = sym (ap (λ b. option_map (λ x. x.at) (cond b (Some l) (find bytes_eq name_of_local q ls))) is) ∙ e in
        subst (λ n. is_among (variable_in k n) vars ≡ true) (some_is l.at at e') h.0
    by_test next false is = next (sym (ap (λ b. option_map (λ x. x.at) (cond b (Some l) (find bytes_eq name_of_local q ls))) is) ∙ e)

  -- ---- nodes

  t_constant : (p : Place) (c : Const) → T (tree.Constant p c) ≡ typed_as (constant_fits c) c.ty
  t_constant p c = ap T (sym (tree.rolls-Constant p c)) ∙ fold-roll-Tree (Option Ty) (type_step bodies vars) (Tree-F.Constant p c)

  t_local : (p : Place) (v : Variable) → T (tree.Local p v) ≡ typed_as (is_among v vars) v.ty
  t_local p v = ap T (sym (tree.rolls-Local p v)) ∙ fold-roll-Tree (Option Ty) (type_step bodies vars) (Tree-F.Local p v)

  pub t_assign : (p : Place) (v : Variable) (e : Tree) → T (tree.Assign p v e) ≡ typed_as (is_among v vars && is_of v.ty (T e)) v.ty
  t_assign p v e = ap T (sym (tree.rolls-Assign p v e)) ∙ fold-roll-Tree (Option Ty) (type_step bodies vars) (Tree-F.Assign p v e)

  t_chain : (p : Place) (first : Tree) (rest : List (Operation Tree)) → T (tree.Chain p kind.I32 first rest) ≡ typed_as (is_of (int kind.I32) (T first) && operands_fit kind.I32 (map (operation_with T) rest)) (int kind.I32)
  t_chain p first rest = ap T (sym (tree.rolls-Chain p kind.I32 first rest)) ∙ fold-roll-Tree (Option Ty) (type_step bodies vars) (Tree-F.Chain p kind.I32 first rest)

  t_compare : (p : Place) (o : CmpOp) (a b : Tree) → T (tree.Compare p o kind.I32 a b) ≡ typed_as (is_of (int kind.I32) (T a) && is_of (int kind.I32) (T b)) (int kind.Bool)
  t_compare p o a b = ap T (sym (tree.rolls-Compare p o kind.I32 a b)) ∙ fold-roll-Tree (Option Ty) (type_step bodies vars) (Tree-F.Compare p o kind.I32 a b)

  pub t_call : (p f : Place) (ty : Ty) (args : List Tree) → T (tree.Call p f ty args) ≡ typed_as (takes (body_at bodies f) ty (map T args)) ty
  t_call p f ty args = ap T (sym (tree.rolls-Call p f ty args)) ∙ fold-roll-Tree (Option Ty) (type_step bodies vars) (Tree-F.Call p f ty args)

  t_print : (p : Place) (tys : List Ty) (args : List Tree) (line : Bool) → T (tree.Print p tys args line) ≡ typed_as (are_of tys (map T args) && are_numbers tys) void
  t_print p tys args line = ap T (sym (tree.rolls-Print p tys args line)) ∙ fold-roll-Tree (Option Ty) (type_step bodies vars) (Tree-F.Print p tys args line)

  -- ---- arguments and operands

  abbrev Ints : List Tree → Type 0
  Ints ts = Each (λ t. Int (T t)) ts

  abbrev FineArguments : Arguments → Type 0
  FineArguments a = a.are_int ≡ true → Ints a.trees

  abbrev FineOperands : Operands → Type 0
  FineOperands a = a.are_int ≡ true → Each (λ o. (right_kind o.operator kind.I32 ≡ kind.I32) × Int (T o.operand)) a.operations

  abbrev pub Fine : Typed → Type 0
  Fine x = T x.tree ≡ Some (result_of x.gives_int)

  fine_int : (x : Typed) → Fine x → x.gives_int ≡ true → Int (T x.tree)
  fine_int x f e = f ∙ ap Some (result_int x.gives_int e)

  ints_types : (ts : List Tree) → Ints ts → Each Int (map T ts)
  ints_types [] h = tt
  ints_types (t ∷ ts) h = (h.0, ints_types ts h.1)

  types_length : (ts : List Tree) → length (map T ts) ≡ length ts
  types_length [] = refl
  types_length (t ∷ ts) = ap suc (types_length ts)

  ints_fit : (ts : List Tree) → Ints ts → are_of (map (λ t. int kind.I32) ts) (map T ts) ≡ true
  ints_fit [] h = refl
  ints_fit (t ∷ ts) h = and_true (is_of (int kind.I32) (T t)) (are_of (map (λ t. int kind.I32) ts) (map T ts)) (is_int (T t) h.0) (ints_fit ts h.1)

  ints_are_numbers : (ts : List Tree) → are_numbers (map (λ t. int kind.I32) ts) ≡ true
  ints_are_numbers [] = refl
  ints_are_numbers (t ∷ ts) = and_true (is_number (int kind.I32)) (are_numbers (map (λ t. int kind.I32) ts)) int_is_number (ints_are_numbers ts)

  operations_fit : (os : List (Operation Tree)) → Each (λ o. (right_kind o.operator kind.I32 ≡ kind.I32) × Int (T o.operand)) os → operands_fit kind.I32 (map (operation_with T) os) ≡ true
  operations_fit [] h = refl
  operations_fit (o ∷ os) h =
      and_true (is_of (int (right_kind o.operator kind.I32)) (T o.operand)) (operands_fit kind.I32 (map (operation_with T) os))
      (ap (λ n. is_of (int n) (T o.operand)) h.0.0 ∙ is_int (T o.operand) h.0.1) (operations_fit os h.1)

  -- ---- values

  module _ (calls : CallsFit) where
    -- what it is resolved to, where the open variables are held, is typed
    abbrev Good : Part → Type 0
    Good p = (locals : List Local) → Held locals → (x : Typed) → p.typed k locals ≡ Ok x → Fine x

    literal_fine : (at : ℕ) (n : ℤ) (x : Typed) → literal_of k at n ≡ Ok x → Fine x
    unfolding literal_of constant_of number_in
    literal_fine at n x e =
        let c = chosen (int_le (least kind.I32) n && int_le n (greatest kind.I32)) (constant_of k at n) x (refuse k 10 at []) e in
        subst Fine c.1 (t_constant (place_in k at) (number_in n) ∙ typed_when (constant_fits (number_in n)) (int kind.I32) (constant_is n ∙ c.0))

    variable_found : (name : Name) (at : ℕ) (o : Option ℕ) → variable_by k name o ≡ Ok at → o ≡ Some at
    variable_found name at None e = no_ok (no_value k name) at e
    variable_found name at (Some n) e = ap Some (ok_is n at e)

    variable_seen : (locals : List Local) (name : Name) (at : ℕ) → variable_of k locals name ≡ Ok at → visible name.spelling locals ≡ Some at
    unfolding variable_of
    variable_seen locals name at e = variable_found name at (visible name.spelling locals) e

    pub variable_int : (at : ℕ) → (variable_in k at).ty ≡ int kind.I32
    unfolding variable_in
    variable_int at = refl

    pub variable_held : (locals : List Local) → Held locals → (name : Name) (at : ℕ) → variable_of k locals name ≡ Ok at → is_among (variable_in k at) vars ≡ true
    variable_held locals h name at e = held_at name.spelling locals at h (variable_seen locals name at e)

    local_fine : (locals : List Local) → Held locals → (name : Name) (at : ℕ) → variable_of k locals name ≡ Ok at → Fine (local_of k name at)
    unfolding local_of
    local_fine locals h name at e =
        t_local (place_in k name.at) (variable_in k at) ∙
        (typed_when (is_among (variable_in k at) vars) (variable_in k at).ty (variable_held locals h name at e) ∙ ap Some (variable_int at))

    -- what a call may call: a function that its name stands for, or a print
    abbrev Calls : Callee → Type 0
    Calls (callee.Declared at arity gives_int) = (q : List ℕ) × (f : Function) × (named q k.functions ≡ Some f) × (at ≡ f.at) × (arity ≡ length f.parameters) × (gives_int ≡ f.gives_int)
    Calls (callee.Print line) = Unit {0}

    callee_calls : (locals : List Local) (name : Name) (c : Callee) → callee_of k locals name ≡ Ok c → Calls c
    unfolding callee_of
    callee_calls locals name c e =
        let o = other (is_some (visible name.spelling locals)) (callee_by k name (named name.spelling k.functions)) c (refuse k 10 name.at []) e in
        by_name (named name.spelling k.functions) refl o.1 where
          by_print : (p : Option Bool) → print_by k name p ≡ Ok c → Calls c
          by_print None e = no_ok (no_such k name) c e
          by_print (Some line) e = subst Calls (ok_is (callee.Print line) c e) tt

          by_name : (o : Option Function) → named name.spelling k.functions ≡ o → callee_by k name o ≡ Ok c → Calls c
          by_name None is e = by_print (print_of k name.spelling) e
          by_name (Some f) is e = subst Calls (ok_is (callee.Declared f.at (length f.parameters) f.gives_int) c e) (name.spelling, f, is, refl, refl, refl)

    called_fine : (name : Name) (args : Arguments) (c : Callee) → FineArguments args → Calls c → (x : Typed) → called k name args c ≡ Ok x → Fine x
    unfolding called function_call print_call
    called_fine name args (callee.Declared at arity gives_int) fine (q, f, is, at_is, arity_is, gives_is) x e =
        let c = chosen (args.are_int && nat_eq (length args.trees) arity) (function_call k name at gives_int args.trees) x (refuse k 11 name.at name.spelling) e in
        let b = both args.are_int (nat_eq (length args.trees) arity) c.0 in
        let count : length args.trees ≡ length f.parameters = eqb-true (length args.trees) arity b.1 ∙ arity_is in
        let fits = calls q f is (map T args.trees) (ints_types args.trees (fine b.0)) (types_length args.trees ∙ count) in
        let fits' : takes (body_at bodies (place_in k at)) (result_of gives_int) (map T args.trees) ≡ true = ap (λ n. takes (body_at bodies (place_in k n)) (result_of gives_int) (map T args.trees)) at_is ∙ (ap (λ g. takes (body_at bodies (place_in k f.at)) (result_of g) (map T args.trees)) gives_is ∙ fits) in
        subst Fine c.1 (t_call (place_in k name.at) (place_in k at) (result_of gives_int) args.trees ∙ typed_when (takes (body_at bodies (place_in k at)) (result_of gives_int) (map T args.trees)) (result_of gives_int) fits')
    called_fine name args (callee.Print line) fine _ x e =
        let c = chosen args.are_int (print_call k name line args.trees) x (refuse k 11 name.at name.spelling) e in
        subst Fine c.1 (
        t_print (place_in k name.at) (map (λ t. int kind.I32) args.trees) args.trees line ∙
        typed_when (are_of (map (λ t. int kind.I32) args.trees) (map T args.trees) && are_numbers (map (λ t. int kind.I32) args.trees)) void
        (and_true (are_of (map (λ t. int kind.I32) args.trees) (map T args.trees)) (are_numbers (map (λ t. int kind.I32) args.trees)) (ints_fit args.trees (fine c.0)) (ints_are_numbers args.trees))
        )

    chained_fine : (at : ℕ) (first : Typed) (rest : Operands) → Fine first → FineOperands rest → (x : Typed) → chained k at first rest ≡ Ok x → Fine x
    unfolding chained chain_of
    chained_fine at first rest f g x e =
        let c = chosen (first.gives_int && rest.are_int) (chain_of k at first.tree rest.operations) x (refuse k 10 at []) e in
        let b = both first.gives_int rest.are_int c.0 in
        subst Fine c.1 (
        t_chain (place_in k at) first.tree rest.operations ∙
        typed_when (is_of (int kind.I32) (T first.tree) && operands_fit kind.I32 (map (operation_with T) rest.operations)) (int kind.I32)
        (and_true (is_of (int kind.I32) (T first.tree)) (operands_fit kind.I32 (map (operation_with T) rest.operations)) (is_int (T first.tree) (fine_int first f b.0)) (operations_fit rest.operations (g b.1)))
        )

    arguments_fine : (all : Arguments) (ps : List Part) → Each Good ps → FineArguments all → (locals : List Local) → Held locals → (xs : Arguments) → each_argument all ps k locals ≡ Ok xs → FineArguments xs
    arguments_fine all [] goods fine locals h xs e = subst FineArguments (ok_is all xs e) fine
    arguments_fine all (p ∷ ps) goods fine locals h xs e =
        let g = goes (p.typed k locals) (λ x. each_argument (record { trees = all.trees ++ x.tree ∷ []; are_int = all.are_int && x.gives_int }) ps k locals) xs e in
        let x = g.0 in
        let is = goods.0 locals h x g.1 in
        arguments_fine (record { trees = all.trees ++ x.tree ∷ []; are_int = all.are_int && x.gives_int }) ps goods.1
        (λ b. let c = both all.are_int x.gives_int b in each_more (λ t. Int (T t)) all.trees x.tree (fine c.0) (fine_int x is c.1)) locals h xs g.2

    module _ {Y Z : Type 0} (p : Y → Value) (q : (y : Y) → Good (part (p y))) (pl : Z → Link) (ql : (z : Z) → Good (linked (pl z)).operand) where
      goods : (ys : List Y) → Each Good (map part (map p ys))
      goods [] = tt
      goods (y ∷ ys) = (q y, goods ys)

      operands_fine : (all : Operands) (zs : List Z) → FineOperands all → (locals : List Local) → Held locals → (xs : Operands) → each_operand all (map linked (map pl zs)) k locals ≡ Ok xs → FineOperands xs
      operands_fine all [] fine locals h xs e = subst FineOperands (ok_is all xs e) fine
      operands_fine all (z ∷ zs) fine locals h xs e =
          let l = linked (pl z) in
          let g = goes (l.operand.typed k locals) (λ x. each_operand (record { operations = all.operations ++ record { operator = resolved l.operator; operand = x.tree } ∷ []; are_int = all.are_int && x.gives_int }) (map linked (map pl zs)) k locals) xs e in
          let x = g.0 in
          let is = ql z locals h x g.1 in
          operands_fine (record { operations = all.operations ++ record { operator = resolved l.operator; operand = x.tree } ∷ []; are_int = all.are_int && x.gives_int }) zs
          (λ b. let c = both all.are_int x.gives_int b in each_more (λ o. (right_kind o.operator kind.I32 ≡ kind.I32) × Int (T o.operand)) all.operations (record { operator = resolved l.operator; operand = x.tree }) (fine c.0) (right_same l.operator, fine_int x is c.1)) locals h xs g.2

      layer : (y : Value-F Y Z) → Good (value_step (map-Value Value Link Part Linked part linked (map-Value Y Z Value Link p pl y)))
      layer (Value-F.Number at n) locals h x e = literal_fine at n x e
      layer (Value-F.Name name) locals h x e =
          let g = goes (variable_of k locals name) (λ at. Ok (local_of k name at)) x e in
          subst Fine (ok_is (local_of k name g.0) x g.2) (local_fine locals h name g.0 g.1)
      layer (Value-F.Call name args) locals h x e =
          let g = goes (callee_of k locals name) (λ c. go_on (each_argument no_arguments (map part (map p args)) k locals) (λ xs. called k name xs c)) x e in
          let a = goes (each_argument no_arguments (map part (map p args)) k locals) (λ xs. called k name xs g.0) x g.2 in
          called_fine name a.0 g.0 (arguments_fine no_arguments (map part (map p args)) (goods args) (λ _. tt) locals h a.0 a.1) (callee_calls locals name g.0 g.1) x a.2
      layer (Value-F.Chain at first rest) locals h x e =
          let g = goes ((part (p first)).typed k locals) (λ x. go_on (each_operand no_operands (map linked (map pl rest)) k locals) (λ os. chained k at x os)) x e in
          let a = goes (each_operand no_operands (map linked (map pl rest)) k locals) (λ os. chained k at g.0 os) x g.2 in
          chained_fine at g.0 a.0 (q first locals h g.0 g.1) (operands_fine no_operands rest (λ _. tt) locals h a.0 a.1) x a.2

      link_layer : (z : Link-F Y Z) → Good (linked (roll-Link (map-Link Y Z Value Link p pl z))).operand
      link_layer z = subst (λ l. Good l.operand) (sym (fold-roll-Link Part Linked value_step (λ l. record { operator = l.operator; operand = l.operand }) (map-Link Y Z Value Link p pl z))) (q z.operand)

    abbrev Claim : Value → Type 0
    Claim v = Good (part v)

    rolled : (x : Value-F Value Link) → Good (value_step (map-Value Value Link Part Linked part linked x)) → Claim (roll-Value x)
    rolled x g = subst Good (sym (fold-roll-Value Part Linked value_step (λ l. record { operator = l.operator; operand = l.operand }) x)) g

    pub good : (v : Value) → Good (part v)
    good = ind-Value (λ v. Good (part v)) (λ l. Good (linked l).operand)
        (λ x y is. subst (λ z. Good (part (roll-Value z))) is (rolled _ (layer (λ e. e.0) (λ e. e.1) (λ e. e.0) (λ e. e.1) y)))
        (λ x y is. subst (λ z. Good (linked (roll-Link z)).operand) is (link_layer (λ e. e.0) (λ e. e.1) (λ e. e.0) (λ e. e.1) y))

    pub typed_fine : (locals : List Local) → Held locals → (v : Value) (x : Typed) → typed_of k locals v ≡ Ok x → Fine x
    unfolding typed_of
    typed_fine locals h v x e = good v locals h x e

    pub int_fine : (locals : List Local) → Held locals → (v : Value) (t : Tree) → int_of k locals v ≡ Ok t → Int (T t)
    unfolding int_of
    int_fine locals h v t e =
        let g = goes (typed_of k locals v) (int_by k (begins_at v)) t e in
        let c = chosen g.0.gives_int g.0.tree t (refuse k 10 (begins_at v) []) g.2 in
        subst (λ t. Int (T t)) c.1 (fine_int g.0 (typed_fine locals h v g.0 g.1) c.0)

    all_good : (vs : List Value) → Each Good (map part vs)
    all_good [] = tt
    all_good (v ∷ vs) = (good v, all_good vs)

    -- a call, as a statement
    pub call_fine : (locals : List Local) → Held locals → (name : Name) (vs : List Value) (c : Callee) (xs : Arguments) (x : Typed) → callee_of k locals name ≡ Ok c → arguments_of k locals vs ≡ Ok xs → called k name xs c ≡ Ok x → Fine x
    unfolding arguments_of
    call_fine locals h name vs c xs x callee args e =
        called_fine name xs c (arguments_fine no_arguments (map part vs) (all_good vs) (λ _. tt) locals h xs args) (callee_calls locals name c callee) x e

    bool_is_number : is_number (int kind.Bool) ≡ true
    bool_is_number = ap (λ t. Rattle.core_tree.specs.Typed.is_number_by t) (out-roll-Ty (Ty-F.Int kind.Bool))

    is_bool : (o : Option Ty) → o ≡ Some (int kind.Bool) → is_condition o ≡ true
    is_bool o e = ap is_condition e ∙ bool_is_number

    always_fine : (at : ℕ) → is_condition (T (tree.Constant (place_in k at) truth)) ≡ true
    unfolding truth
    always_fine at = is_bool (T (tree.Constant (place_in k at) truth)) (t_constant (place_in k at) truth ∙ typed_when (constant_fits truth) (int kind.Bool) truth_fits)

    compared_fine : (at : ℕ) (o : CmpOp) (a b : Typed) → Fine a → Fine b → (t : Tree) → compared k at o a b ≡ Ok t → is_condition (T t) ≡ true
    unfolding compared
    compared_fine at o a b fa fb t e =
        let c = chosen (a.gives_int && b.gives_int) (tree.Compare (place_in k at) o kind.I32 a.tree b.tree) t (refuse k 10 at []) e in
        let ints = both a.gives_int b.gives_int c.0 in
        subst (λ t. is_condition (T t) ≡ true) c.1 (is_bool (T (tree.Compare (place_in k at) o kind.I32 a.tree b.tree)) (
        t_compare (place_in k at) o a.tree b.tree ∙
        typed_when (is_of (int kind.I32) (T a.tree) && is_of (int kind.I32) (T b.tree)) (int kind.Bool)
        (and_true (is_of (int kind.I32) (T a.tree)) (is_of (int kind.I32) (T b.tree)) (is_int (T a.tree) (fine_int a fa ints.0)) (is_int (T b.tree) (fine_int b fb ints.1)))
        ))

    -- a condition
    pub condition_fine : (locals : List Local) → Held locals → (c : Test) (t : Tree) → condition_of k locals c ≡ Ok t → is_condition (T t) ≡ true
    unfolding condition_of
    condition_fine locals h (test.Always at) t e = subst (λ t. is_condition (T t) ≡ true) (ok_is (tree.Constant (place_in k at) truth) t e) (always_fine at)
    condition_fine locals h (test.Compare at o a b) t e =
        let g = goes (typed_of k locals a) (λ x. go_on (typed_of k locals b) (compared k at o x)) t e in
        let f = goes (typed_of k locals b) (compared k at o g.0) t g.2 in
        compared_fine at o g.0 f.0 (typed_fine locals h a g.0 g.1) (typed_fine locals h b f.0 f.1) t f.2
