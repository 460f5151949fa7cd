-- What is known of resolved trees: each node has the type that its form has, each name is a variable of the function,
-- and each call fits a function that has a body.
use Rattle.std.specs.Prelude.{◌≤◌, Bool, true, false, not, ◌&&◌, ◌||◌, List, [], ◌∷◌, ◌++◌, map, Option, Some, None, pos, int_le, if◌then◌else◌, IsTrue}
use Rattle.std.specs.Ordering.{int_eq}
use Rattle.dc_types.specs.declared.kind.Kind.{Kind}
use Rattle.dc_types.specs.declared.kind.Kind.TheVariants as kind
use Rattle.dc_types.specs.declared.kind.BinOp.{BinOp}
use Rattle.dc_types.specs.declared.kind.BinOp.TheVariants as binop
use Rattle.dc_types.specs.declared.place.Place.{Place}
use Rattle.dc_types.specs.declared.ty.Ty.{Ty}
use Rattle.dc_types.specs.declared.ty.Ty.TheOpen.{Ty-F}
use Rattle.dc_types.specs.declared.ty.Ty.TheViews.{out-Ty}
use Rattle.dc_types.specs.declared.constant.Const.{Const}
use Rattle.dc_types.specs.declared.constant.CTree.TheOpen.{CTree-F}
use Rattle.dc_types.specs.declared.constant.CTree.TheViews.{out-CTree}
use Rattle.dc_types.specs.Integers.{least, greatest}
use Rattle.dc_types.specs.Same as same
use Rattle.core_tree.specs.Values.{int, void, number_of_tree}
use Rattle.core_tree.specs.Weight.{tree_weight, body_weight}
use Rattle.core_tree.specs.Meaning.{body_at}
use Rattle.core_tree.specs.declared.tree.Variable.{Variable}
use Rattle.core_tree.specs.declared.tree.Operation.{Operation}
use Rattle.core_tree.specs.declared.tree.Tree.{Tree}
use Rattle.core_tree.specs.declared.tree.Tree.TheOpen.{Tree-F}
use Rattle.core_tree.specs.declared.tree.Tree.TheViews.{out-Tree}
use Rattle.core_tree.specs.declared.tree.Tree.TheFolds.{fold-Tree}
use Rattle.core_tree.specs.declared.stmt.Branch.{Branch}
use Rattle.core_tree.specs.declared.stmt.Stmt.{Stmt}
use Rattle.core_tree.specs.declared.stmt.Stmt.TheOpen.{Stmt-F}
use Rattle.core_tree.specs.declared.stmt.Stmt.TheFolds.{fold-Stmt}
use Rattle.core_tree.specs.declared.body.Body.{Body}

-- ---- types

abbrev pub is_number_by : {A : Type 0} → Ty-F A → Bool
is_number_by (Ty-F.Int k) = true
is_number_by _ = false

abbrev pub is_number : Ty → Bool
is_number ty = is_number_by (out-Ty ty)

abbrev pub are_numbers : List Ty → Bool
are_numbers [] = true
are_numbers (ty ∷ tys) = is_number ty && are_numbers tys

abbrev pub is_void : Ty → Bool
is_void ty = same.ty void ty

abbrev pub is_of : Ty → Option Ty → Bool
is_of ty None = false
is_of ty (Some found) = same.ty ty found

abbrev pub are_of : List Ty → List (Option Ty) → Bool
are_of [] [] = true
are_of (ty ∷ tys) (found ∷ more) = is_of ty found && are_of tys more
are_of _ _ = false

abbrev pub all_of : List Bool → Bool
all_of [] = true
all_of (b ∷ bs) = b && all_of bs

-- ---- names

abbrev pub type_at : Place → List Variable → Option Ty
type_at place [] = None
type_at place (v ∷ vs) = if same.place v.place place then Some v.ty else type_at place vs

-- the variable is one of these
abbrev pub is_among : Variable → List Variable → Bool
is_among v vs = is_of v.ty (type_at v.place vs)

abbrev pub types_of : List Variable → List Ty
types_of vs = map (λ v. v.ty) vs

-- a call with arguments of these types, and with a result of this type, fits the function
abbrev pub takes : Option Body → Ty → List (Option Ty) → Bool
takes None ty args = false
takes (Some f) ty args = same.ty f.result ty && are_of (types_of f.params) args

-- ---- expressions

-- a number of its kind
abbrev pub constant_fits_by : {A B : Type 0} → Ty-F A → CTree-F B → Bool
constant_fits_by (Ty-F.Int k) (CTree-F.Num z) = int_le (least k) z && int_le z (greatest k)
constant_fits_by _ _ = false

abbrev pub constant_fits : Const → Bool
constant_fits c = constant_fits_by (out-Ty c.ty) (out-CTree c.tree)

-- the kind of an operator's second operand: the count of a shift is a `long`
abbrev pub right_kind : BinOp → Kind → Kind
right_kind binop.Shl k = kind.I64
right_kind binop.Shr k = kind.I64
right_kind binop.Ushr k = kind.I64
right_kind _ k = k

-- the operands of a chain on numbers of a kind
abbrev pub operands_fit : Kind → List (Operation (Option Ty)) → Bool
operands_fit k [] = true
operands_fit k (o ∷ os) = is_of (int (right_kind o.operator k)) o.operand && operands_fit k os

abbrev pub typed_as : Bool → Ty → Option Ty
typed_as b ty = if b then Some ty else None

-- The type of a node among these functions and variables, by the types of its parts; none where they don't fit.
abbrev pub type_step : List Body → List Variable → Tree-F (Option Ty) → Option Ty
type_step bodies vars (Tree-F.Constant place c) = typed_as (constant_fits c) c.ty
type_step bodies vars (Tree-F.Local place v) = typed_as (is_among v vars) v.ty
type_step bodies vars (Tree-F.Assign place v e) = typed_as (is_among v vars && is_of v.ty e) v.ty
type_step bodies vars (Tree-F.Chain place k first rest) = typed_as (is_of (int k) first && operands_fit k rest) (int k)
type_step bodies vars (Tree-F.Compare place op k a b) = typed_as (is_of (int k) a && is_of (int k) b) (int kind.Bool)
type_step bodies vars (Tree-F.Call place f ty args) = typed_as (takes (body_at bodies f) ty args) ty
type_step bodies vars (Tree-F.Print place tys args line) = typed_as (are_of tys args && are_numbers tys) void

abbrev pub type_of : List Body → List Variable → Tree → Option Ty
type_of bodies vars = fold-Tree (Option Ty) (type_step bodies vars)

-- ---- statements

abbrev pub is_typed : Option Ty → Bool
is_typed None = false
is_typed (Some ty) = true

-- a condition is a number
abbrev pub is_condition : Option Ty → Bool
is_condition None = false
is_condition (Some ty) = is_number ty

-- what a function with a result of this type may return
abbrev pub returns : List Body → List Variable → Ty → Option Tree → Bool
returns bodies vars result None = is_void result
returns bodies vars result (Some e) = is_number result && is_of result (type_of bodies vars e)

abbrev pub branches_typed : List Body → List Variable → List (Branch Bool) → Bool
branches_typed bodies vars [] = true
branches_typed bodies vars (b ∷ bs) = is_condition (type_of bodies vars b.condition) && (all_of b.body && branches_typed bodies vars bs)

abbrev pub stmt_typed_step : List Body → List Variable → Ty → Stmt-F Bool → Bool
stmt_typed_step bodies vars result (Stmt-F.Eval e) = is_typed (type_of bodies vars e)
stmt_typed_step bodies vars result (Stmt-F.Declare v e) = is_among v vars && is_of v.ty (type_of bodies vars e)
stmt_typed_step bodies vars result (Stmt-F.Block stmts) = all_of stmts
stmt_typed_step bodies vars result (Stmt-F.If place branches last) = branches_typed bodies vars branches && all_of last
stmt_typed_step bodies vars result (Stmt-F.While place e body) = is_condition (type_of bodies vars e) && all_of body
stmt_typed_step bodies vars result (Stmt-F.Return place e) = returns bodies vars result e

abbrev pub stmt_typed : List Body → List Variable → Ty → Stmt → Bool
stmt_typed bodies vars result = fold-Stmt Bool (stmt_typed_step bodies vars result)

abbrev pub stmts_typed : List Body → List Variable → Ty → List Stmt → Bool
stmts_typed bodies vars result stmts = all_of (map (stmt_typed bodies vars result) stmts)

-- A constant other than 0, as `true`, is a condition that always holds.
abbrev pub always_by : {A : Type 0} → Tree-F A → Bool
always_by (Tree-F.Constant place c) = not (int_eq (number_of_tree c.tree) (pos 0))
always_by _ = false

abbrev pub always_holds : Tree → Bool
always_holds e = always_by (out-Tree e)

-- a branch may come to its end
abbrev pub any_completes : List (Branch Bool) → Bool
any_completes [] = false
any_completes (b ∷ bs) = all_of b.body || any_completes bs

-- Whether a statement may come to its end. An `if` without `else` has no statements there, which come to their end.
abbrev pub completes_step : Stmt-F Bool → Bool
completes_step (Stmt-F.Eval e) = true
completes_step (Stmt-F.Declare v e) = true
completes_step (Stmt-F.Block stmts) = all_of stmts
completes_step (Stmt-F.If place branches last) = any_completes branches || all_of last
completes_step (Stmt-F.While place e body) = not (always_holds e)
completes_step (Stmt-F.Return place e) = false

abbrev pub completes : Stmt → Bool
completes = fold-Stmt Bool completes_step

-- ---- functions

abbrev pub variables_of : Body → List Variable
variables_of f = f.params ++ f.locals

-- A body is typed and closed over these bodies: its variables are numbers, its statements fit, and it doesn't come to its
-- end where a number is to be returned.
pub record IsTyped (bodies : List Body) (f : Body) : Type 0 where
  pub variables : IsTrue (are_numbers (types_of (variables_of f)))
  pub result : IsTrue (is_void f.result || is_number f.result)
  pub stmts : IsTrue (stmts_typed bodies (variables_of f) f.result f.stmts)
  pub flow : IsTrue (is_void f.result || not (all_of (map completes f.stmts)))
  pub weight : body_weight f ≤ 4194304

-- an expression with which a run begins
pub record IsTypedStart (bodies : List Body) (e : Tree) : Type 0 where
  pub typed : IsTrue (is_typed (type_of bodies [] e))
  pub weight : tree_weight e ≤ 4194304

abbrev pub Each : {X : Type 0} → (X → Type 0) → List X → Type 0
Each P [] = Unit {0}
Each P (x ∷ xs) = P x × Each P xs

-- The bodies and starts are typed, closed, and within the limit on weights.
pub record AreTyped (bodies : List Body) (starts : List Tree) : Type 0 where
  pub bodies_fit : Each (IsTyped bodies) bodies
  pub starts_fit : Each (IsTypedStart bodies) starts
