-- What values and conditions are resolved to, or the first rule that they break (D specification, "Expressions",
-- "Functions"). Each is judged from left to right.
use Rattle.std.specs.Prelude.{◌≡◌, ℕ, Bool, true, false, ◌&&◌, ◌||◌, nat_eq, List, [], ◌∷◌, ◌++◌, map, length, ℤ, pos, int_le, Option, Some, None, Result, Ok, Err, if◌then◌else◌, codes}
use Rattle.std.specs.Str.{bytes_eq}
use Rattle.dc_types.specs.declared.kind.Kind.TheVariants as kind
use Rattle.dc_types.specs.declared.kind.CmpOp.{CmpOp}
use Rattle.dc_types.specs.declared.place.Place.{Place}
use Rattle.dc_types.specs.declared.place.Step.TheVariants.{At}
use Rattle.dc_types.specs.declared.refusal.Refusal.{Refusal}
use Rattle.dc_types.specs.declared.refusal.Fail.{Fail}
use Rattle.dc_types.specs.declared.refusal.Fail.TheVariants as fail
use Rattle.dc_types.specs.declared.ty.Ty.{Ty}
use Rattle.dc_types.specs.Integers.{least, greatest}
use Rattle.dc_types.specs.declared.constant.Const.{Const}
use Rattle.dc_types.specs.declared.constant.CTree.TheVariants as ctree
use Rattle.core_tree.specs.Values.{int, void}
use Rattle.core_tree.specs.declared.tree.Variable.{Variable}
use Rattle.core_tree.specs.declared.tree.Operation.{Operation}
use Rattle.core_tree.specs.declared.tree.Tree.{Tree}
use Rattle.core_tree.specs.declared.tree.Tree.TheVariants as tree
use Rattle.dc_ast.specs.declared.name.Name.{Name}
use Rattle.core_front.specs.Operators.{resolved}
use Rattle.core_front.specs.declared.built.Arithmetic.{Arithmetic}
use Rattle.core_front.specs.declared.built.Value.{Value}
use Rattle.core_front.specs.declared.built.Value.TheOpen.{Value-F}
use Rattle.core_front.specs.declared.built.Value.TheFolds.{fold-Value, fold-Link}
use Rattle.core_front.specs.declared.built.Link.{Link}
use Rattle.core_front.specs.declared.built.Test.{Test}
use Rattle.core_front.specs.declared.built.Test.TheVariants as test
use Rattle.core_front.specs.declared.built.Function.{Function}
use Rattle.core_front.specs.declared.scope.Local.{Local}
use Rattle.core_front.specs.declared.judged.Known.{Known}
use Rattle.core_front.specs.declared.judged.Typed.{Typed}
use Rattle.core_front.specs.declared.judged.Arguments.{Arguments}
use Rattle.core_front.specs.declared.judged.Operands.{Operands}
use Rattle.core_front.specs.declared.judged.Callee.{Callee}
use Rattle.core_front.specs.declared.judged.Callee.TheVariants as callee
use Rattle.core_front.specs.Building.{is_some}
use Rattle.core_front.specs.Naming.{visible, named}

-- what is resolved, or the first rule that is broken
abbrev pub Judged : Type 0 → Type 0
Judged A = Result A Refusal

abbrev pub go_on : {A B : Type 0} → Judged A → (A → Judged B) → Judged B
go_on (Ok x) f = f x
go_on (Err r) f = Err r

-- how code answers what is judged
abbrev pub Answers : {A : Type 0} → Judged A → Result A Fail → Type 0
Answers j (Ok x) = j ≡ Ok x
Answers j (Err (fail.Refused r)) = j ≡ Err r
Answers j (Err fail.NoMemory) = Unit {0}

-- ---- places, types and refusals

unfoldable pub place_in : Known → ℕ → Place
place_in k at = record { «module» = k.home; steps = At at ∷ [] }

unfoldable pub refuse : Known → ℕ → ℕ → List ℕ → Refusal
refuse k rule at detail = record { rule = rule; place = place_in k at; detail = detail }

unfoldable pub number_in : ℤ → Const
number_in n = record { ty = int kind.I32; tree = ctree.Num n }

unfoldable pub truth : Const
truth = record { ty = int kind.Bool; tree = ctree.Num (pos 1) }

unfoldable pub variable_in : Known → ℕ → Variable
variable_in k at = record { place = place_in k at; ty = int kind.I32 }

abbrev pub result_of : Bool → Ty
result_of true = int kind.I32
result_of false = void

-- ---- names

-- whether a name is a function of `std.stdio` that prints, and whether it ends the line
unfoldable pub print_of : Known → List ℕ → Option Bool
print_of k q =
    if k.prints && bytes_eq q (codes "writeln") then Some true
    else if k.prints && bytes_eq q (codes "write") then Some false
    else None

-- whether a name stands for a type of the language, or begins the name of the module that is imported
unfoldable pub is_other : Known → List ℕ → Bool
is_other k q = bytes_eq q (codes "string") || (bytes_eq q (codes "size_t") || (k.prints && bytes_eq q (codes "std")))

-- a name that stands for something else than what is wanted, or for nothing
unfoldable pub no_such : Known → Name → Refusal
no_such k name = if is_other k name.spelling then refuse k 10 name.at [] else refuse k 5 name.at name.spelling

-- the name of a function, which is no value, or of none
unfoldable pub no_value : Known → Name → Refusal
no_value k name = if is_some (named name.spelling k.functions) || is_some (print_of k name.spelling) then refuse k 10 name.at [] else no_such k name

abbrev pub variable_by : Known → Name → Option ℕ → Judged ℕ
variable_by k name (Some at) = Ok at
variable_by k name None = Err (no_value k name)

-- the variable that a name stands for
unfoldable pub variable_of : Known → List Local → Name → Judged ℕ
variable_of k locals name = variable_by k name (visible name.spelling locals)

abbrev pub print_by : Known → Name → Option Bool → Judged Callee
print_by k name (Some line) = Ok (callee.Print line)
print_by k name None = Err (no_such k name)

abbrev pub callee_by : Known → Name → Option Function → Judged Callee
callee_by k name (Some f) = Ok (callee.Declared f.at (length f.parameters) f.gives_int)
callee_by k name None = print_by k name (print_of k name.spelling)

-- what a call calls
unfoldable pub callee_of : Known → List Local → Name → Judged Callee
callee_of k locals name = if is_some (visible name.spelling locals) then Err (refuse k 10 name.at []) else callee_by k name (named name.spelling k.functions)

-- ---- values

-- a value: where it begins, and what it is resolved to
pub record Part : Type 0 where
  pub begins : ℕ
  pub typed : Known → List Local → Judged Typed

pub record Linked : Type 0 where
  pub operator : Arithmetic
  pub operand : Part

abbrev pub each_argument : Arguments → List Part → Known → List Local → Judged Arguments
each_argument all [] k locals = Ok all
each_argument all (p ∷ ps) k locals =
    go_on (p.typed k locals) (λ x. each_argument (record { trees = all.trees ++ x.tree ∷ []; are_int = all.are_int && x.gives_int }) ps k locals)

abbrev pub each_operand : Operands → List Linked → Known → List Local → Judged Operands
each_operand all [] k locals = Ok all
each_operand all (l ∷ ls) k locals =
    go_on (l.operand.typed k locals) (λ x. each_operand (record { operations = all.operations ++ record { operator = resolved l.operator; operand = x.tree } ∷ []; are_int = all.are_int && x.gives_int }) ls k locals)

abbrev pub no_arguments : Arguments
no_arguments = record { trees = []; are_int = true }

abbrev pub no_operands : Operands
no_operands = record { operations = []; are_int = true }

unfoldable pub function_call : Known → Name → ℕ → Bool → List Tree → Typed
function_call k name at gives_int args = record { tree = tree.Call (place_in k name.at) (place_in k at) (result_of gives_int) args; gives_int = gives_int }

unfoldable pub print_call : Known → Name → Bool → List Tree → Typed
print_call k name line args = record { tree = tree.Print (place_in k name.at) (map (λ t. int kind.I32) args) args line; gives_int = false }

-- a call of a function has as many arguments as that has parameters, and all are numbers
unfoldable pub called : Known → Name → Arguments → Callee → Judged Typed
called k name args (callee.Declared at arity gives_int) =
    if args.are_int && nat_eq (length args.trees) arity then Ok (function_call k name at gives_int args.trees) else Err (refuse k 11 name.at name.spelling)
called k name args (callee.Print line) = if args.are_int then Ok (print_call k name line args.trees) else Err (refuse k 11 name.at name.spelling)

unfoldable pub chain_of : Known → ℕ → Tree → List (Operation Tree) → Typed
chain_of k at first rest = record { tree = tree.Chain (place_in k at) kind.I32 first rest; gives_int = true }

unfoldable pub chained : Known → ℕ → Typed → Operands → Judged Typed
chained k at first rest = if first.gives_int && rest.are_int then Ok (chain_of k at first.tree rest.operations) else Err (refuse k 10 at [])

unfoldable pub local_of : Known → Name → ℕ → Typed
local_of k name at = record { tree = (tree.Local (place_in k name.at) (variable_in k at)); gives_int = true }

unfoldable pub constant_of : Known → ℕ → ℤ → Typed
constant_of k at n = record { tree = (tree.Constant (place_in k at) (number_in n)); gives_int = true }

-- A literal is a number of `int`. What is built is one, so that this is never refused.
unfoldable pub literal_of : Known → ℕ → ℤ → Judged Typed
literal_of k at n = if int_le (least kind.I32) n && int_le n (greatest kind.I32) then Ok (constant_of k at n) else Err (refuse k 10 at [])

abbrev pub value_step : Value-F Part Linked → Part
value_step (Value-F.Number at n) = record { begins = at; typed = λ k locals. literal_of k at n }
value_step (Value-F.Name name) = record { begins = name.at; typed = λ k locals. go_on (variable_of k locals name) (λ at. Ok (local_of k name at)) }
value_step (Value-F.Call name args) = record { begins = name.at; typed = λ k locals. go_on (callee_of k locals name) (λ c. go_on (each_argument no_arguments args k locals) (λ xs. called k name xs c)) }
value_step (Value-F.Chain at first rest) = record { begins = at; typed = λ k locals. go_on (first.typed k locals) (λ x. go_on (each_operand no_operands rest k locals) (λ os. chained k at x os)) }

abbrev pub part : Value → Part
part = fold-Value Part Linked value_step (λ l. record { operator = l.operator; operand = l.operand })

abbrev pub linked : Link → Linked
linked = fold-Link Part Linked value_step (λ l. record { operator = l.operator; operand = l.operand })

-- what a value is resolved to
unfoldable pub typed_of : Known → List Local → Value → Judged Typed
typed_of k locals v = (part v).typed k locals

unfoldable pub arguments_of : Known → List Local → List Value → Judged Arguments
arguments_of k locals vs = each_argument no_arguments (map part vs) k locals

unfoldable pub operands_of : Known → List Local → List Link → Judged Operands
operands_of k locals ls = each_operand no_operands (map linked ls) k locals

abbrev pub int_by : Known → ℕ → Typed → Judged Tree
int_by k at x = if x.gives_int then Ok x.tree else Err (refuse k 10 at [])

unfoldable pub begins_at : Value → ℕ
begins_at v = (part v).begins

-- a value that has to be a number
unfoldable pub int_of : Known → List Local → Value → Judged Tree
int_of k locals v = go_on (typed_of k locals v) (int_by k (begins_at v))

unfoldable pub compared : Known → ℕ → CmpOp → Typed → Typed → Judged Tree
compared k at o a b =
    if a.gives_int && b.gives_int then Ok ((tree.Compare (place_in k at) o kind.I32 a.tree b.tree)) else Err (refuse k 10 at [])

-- a condition
unfoldable pub condition_of : Known → List Local → Test → Judged Tree
condition_of k locals (test.Always at) = Ok ((tree.Constant (place_in k at) truth))
condition_of k locals (test.Compare at o a b) = go_on (typed_of k locals a) (λ x. go_on (typed_of k locals b) (compared k at o x))
