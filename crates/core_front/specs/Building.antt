-- Which forms are built so far (D specification, "Expressions", "Statements", "Functions"): the trees of calls, arithmetic and
-- comparisons of numbers of type `int`, of variables, branches and loops.
use Rattle.std.specs.Prelude.{◌≡◌, ℕ, ◌+◌, ◌-◌, ◌*◌, ◌&&◌, nat_le, Bool, true, false, List, [], ◌∷◌, ◌++◌, map, pos, Option, Some, None, Result, Ok, Err, if◌then◌else◌}
use Rattle.std.specs.Char.{is_ascii_digit}
use Rattle.dc_types.specs.declared.kind.CmpOp.{CmpOp}
use Rattle.dc_types.specs.declared.kind.CmpOp.TheVariants as cmp
use Rattle.dc_ast.specs.declared.name.Name.{Name}
use Rattle.dc_ast.specs.declared.word.BasicType.{BasicType}
use Rattle.dc_ast.specs.declared.word.BinaryOperator.{BinaryOperator}
use Rattle.dc_ast.specs.declared.word.BinaryOperator.TheVariants as binary
use Rattle.dc_ast.specs.declared.word.AssignOperator.{AssignOperator}
use Rattle.dc_ast.specs.declared.word.AssignOperator.TheVariants as assign
use Rattle.dc_ast.specs.declared.expression.Expr.{Expr}
use Rattle.dc_ast.specs.declared.expression.ExprKind.{ExprKind}
use Rattle.dc_ast.specs.declared.expression.Step.{Step}
use Rattle.dc_ast.specs.declared.expression.Suffix.{Suffix}
use Rattle.dc_ast.specs.declared.types.Base.{Base}
use Rattle.dc_ast.specs.declared.types.TypeTree.{TypeTree}
use Rattle.dc_ast.specs.declared.expression.Argument.TheOpen.{ExprKind-F, Suffix-F, Base-F}
use Rattle.dc_ast.specs.declared.expression.Argument.TheFolds.{fold-Expr, fold-ExprKind, fold-Step, fold-Suffix, fold-Base, fold-TypeTree}
use Rattle.core_front.specs.declared.miss.Miss.{Miss}
use Rattle.core_front.specs.declared.miss.Miss.TheVariants as miss
use Rattle.core_front.specs.declared.built.Arithmetic.{Arithmetic}
use Rattle.core_front.specs.declared.built.Arithmetic.TheVariants as op
use Rattle.core_front.specs.declared.built.Value.{Value}
use Rattle.core_front.specs.declared.built.Value.TheOpen.{Value-F}
use Rattle.core_front.specs.declared.built.Value.TheViews.{roll-Value}
use Rattle.core_front.specs.declared.built.Link.{Link, roll-Link}
use Rattle.core_front.specs.declared.built.Test.{Test}
use Rattle.core_front.specs.declared.built.Test.TheVariants as test
use Rattle.core_front.specs.declared.built.Action.{Action}
use Rattle.core_front.specs.declared.built.Action.TheOpen.{Action-F}
use Rattle.core_front.specs.declared.built.Action.TheViews.{roll-Action}

-- what is made of a tree, or the offset of the first form in it that isn't built
abbrev pub Built : Type 0 → Type 0
Built A = Result A ℕ

abbrev pub and_then : {A B : Type 0} → Built A → (A → Built B) → Built B
and_then (Ok x) f = f x
and_then (Err at) f = Err at

-- ---- words

-- the operators of chains of numbers
abbrev pub arithmetic : BinaryOperator → Option Arithmetic
arithmetic binary.Multiply = Some op.Multiply
arithmetic binary.Divide = Some op.Divide
arithmetic binary.Remainder = Some op.Remainder
arithmetic binary.Add = Some op.Add
arithmetic binary.Subtract = Some op.Subtract
arithmetic _ = None

abbrev pub comparison : BinaryOperator → Option CmpOp
comparison binary.Equal = Some cmp.Equal
comparison binary.NotEqual = Some cmp.Differs
comparison binary.Less = Some cmp.Less
comparison binary.LessOrEqual = Some cmp.LessEq
comparison binary.Greater = Some cmp.Greater
comparison binary.GreaterOrEqual = Some cmp.GreaterEq
comparison _ = None

-- the digits that go on behind a value
abbrev pub digits_from : ℕ → List ℕ → Option ℕ
digits_from value [] = Some value
digits_from value (b ∷ bs) =
    if is_ascii_digit b && nat_le (value * 10 + (b - 48)) 2147483647 then digits_from (value * 10 + (b - 48)) bs else None

-- ---- expressions

-- What an expression is as each part that it may stand for: a bare name, a value, a condition, or a statement.
pub record Seen : Type 0 where
  pub begins : ℕ
  pub name : Option Name
  pub value : Built Value
  pub test : Built Test
  pub action : Built Action

abbrev pub unbuilt : ℕ → Seen
unbuilt at = record { begins = at; name = None; value = Err at; test = Err at; action = Err at }

-- an operator of a chain, and what is built of the operand behind it
pub record Linked : Type 0 where
  pub operator : Option Arithmetic
  pub operand : Built Value

-- the arguments of what follows an operand, where it is a call
abbrev pub Called : Type 0
Called = Option (List Seen)

abbrev pub is_value : ℕ → Built Value → Seen
is_value at v = record { begins = at; name = None; value = v; test = Err at; action = Err at }

abbrev pub number : ℕ → Option ℕ → Built Value
number at None = Err at
number at (Some n) = Ok (roll-Value (Value-F.Number at (pos n)))

abbrev pub named : ℕ → Option Name → Built Value
named at None = Err at
named at (Some name) = Ok (roll-Value (Value-F.Name name))

abbrev pub is_some : {A : Type 0} → Option A → Bool
is_some None = false
is_some (Some x) = true

abbrev pub are_arithmetic : List Linked → Bool
are_arithmetic [] = true
are_arithmetic (l ∷ ls) = is_some l.operator && are_arithmetic ls

abbrev pub link_by : Option Arithmetic → Built Value → Built Link
link_by None v = Err 0
link_by (Some o) v = and_then v (λ x. Ok (roll-Link (record { operator = o; operand = x })))

-- the links of a chain, behind those before
abbrev pub each_link : List Link → List Linked → Built (List Link)
each_link all [] = Ok all
each_link all (l ∷ ls) = and_then (link_by l.operator l.operand) (λ x. each_link (all ++ x ∷ []) ls)

-- the values of several expressions, behind those before
abbrev pub each_value : List Value → List Seen → Built (List Value)
each_value all [] = Ok all
each_value all (e ∷ es) = and_then e.value (λ x. each_value (all ++ x ∷ []) es)

abbrev pub chain : ℕ → Seen → List Linked → Built Value
chain at first links =
    if are_arithmetic links then and_then first.value (λ x. and_then (each_link [] links) (λ ls. Ok (roll-Value (Value-F.Chain at x ls)))) else Err at

abbrev pub compared : ℕ → Option CmpOp → Seen → Seen → Built Test
compared at None a b = Err at
compared at (Some o) a b = and_then a.value (λ x. and_then b.value (λ y. Ok (test.Compare at o x y)))

abbrev pub assigned : ℕ → AssignOperator → Option Name → Seen → Built Action
assigned at assign.Assign (Some name) e = and_then e.value (λ x. Ok (roll-Action (Action-F.Assign at name x)))
assigned at _ _ e = Err at

abbrev pub all_called : Called → Built (Option (List Value))
all_called None = Ok None
all_called (Some args) = and_then (each_value [] args) (λ xs. Ok (Some xs))

abbrev pub only : ℕ → Name → Option (List Value) → Built (Name × List Value)
only at name None = Err at
only at name (Some xs) = Ok (name, xs)

-- a call by name, with the values of its arguments
abbrev pub called : ℕ → Option Name → List Called → Built (Name × List Value)
called at None cs = Err at
called at (Some name) [] = Err at
called at (Some name) (c ∷ []) = and_then (all_called c) (only at name)
called at (Some name) (c ∷ d ∷ cs) = Err at

abbrev pub call_value : Built (Name × List Value) → Built Value
call_value call = and_then call (λ c. Ok (roll-Value (Value-F.Call c.0 c.1)))

abbrev pub call_action : Built (Name × List Value) → Built Action
call_action call = and_then call (λ c. Ok (roll-Action (Action-F.Call c.0 c.1)))

abbrev pub kind_step : ExprKind-F ℕ (ℕ → Seen) ℕ Called (Option BasicType) ℕ Seen ℕ ℕ Linked (Option Name) (Option BasicType) → ℕ → Seen
kind_step (ExprKind-F.Integer spelling) at = is_value at (number at (digits_from 0 spelling))
kind_step ExprKind-F.True at = record { begins = at; name = None; value = Err at; test = Ok (test.Always at); action = Err at }
kind_step (ExprKind-F.Symbol symbol) at = record { begins = at; name = symbol; value = named at symbol; test = Err at; action = Err at }
kind_step (ExprKind-F.Paren e) at = is_value at e.value
kind_step (ExprKind-F.Chain first steps) at = is_value at (chain at first steps)
kind_step (ExprKind-F.Compare a o b) at = record { begins = at; name = None; value = Err at; test = compared at (comparison o) a b; action = Err at }
kind_step (ExprKind-F.Assign a o b) at = record { begins = at; name = None; value = Err at; test = Err at; action = assigned at o a.name b }
kind_step (ExprKind-F.Postfix callee suffixes) at = record {
  begins = at;
  name = None;
  value = call_value (called at callee.name suffixes);
  test = Err at;
  action = call_action (called at callee.name suffixes);
}
kind_step _ at = unbuilt at

abbrev pub suffix_step : Suffix-F ℕ (ℕ → Seen) ℕ Called (Option BasicType) ℕ Seen ℕ ℕ Linked (Option Name) (Option BasicType) → Called
suffix_step (Suffix-F.Call args) = Some args
suffix_step _ = None

abbrev pub base_step : Base-F ℕ (ℕ → Seen) ℕ Called (Option BasicType) ℕ Seen ℕ ℕ Linked (Option Name) (Option BasicType) → Option BasicType
base_step (Base-F.Basic basic) = Some basic
base_step _ = None

abbrev pub symbol_name : Name → Option (List ℕ) → Option Name
symbol_name name None = Some name
symbol_name name (Some arguments) = None

abbrev pub basic_of : Option BasicType → List ℕ → Option BasicType
basic_of base [] = base
basic_of base (bracket ∷ brackets) = None

abbrev pub linked_by : BinaryOperator → Seen → Linked
linked_by o e = record { operator = arithmetic o; operand = e.value }

abbrev pub seen : Expr → Seen
seen = fold-Expr ℕ (ℕ → Seen) ℕ Called (Option BasicType) ℕ Seen ℕ ℕ Linked (Option Name) (Option BasicType)
    (λ _. 0) kind_step (λ _. 0) suffix_step base_step (λ _. 0) (λ e. e.kind e.at) (λ _. 0) (λ _. 0)
    (λ s. linked_by s.operator s.operand) (λ s. symbol_name s.name s.arguments) (λ t. basic_of t.base t.brackets)

abbrev pub kind_seen : ExprKind → ℕ → Seen
kind_seen = fold-ExprKind ℕ (ℕ → Seen) ℕ Called (Option BasicType) ℕ Seen ℕ ℕ Linked (Option Name) (Option BasicType)
    (λ _. 0) kind_step (λ _. 0) suffix_step base_step (λ _. 0) (λ e. e.kind e.at) (λ _. 0) (λ _. 0)
    (λ s. linked_by s.operator s.operand) (λ s. symbol_name s.name s.arguments) (λ t. basic_of t.base t.brackets)

abbrev pub linked : Step → Linked
linked = fold-Step ℕ (ℕ → Seen) ℕ Called (Option BasicType) ℕ Seen ℕ ℕ Linked (Option Name) (Option BasicType)
    (λ _. 0) kind_step (λ _. 0) suffix_step base_step (λ _. 0) (λ e. e.kind e.at) (λ _. 0) (λ _. 0)
    (λ s. linked_by s.operator s.operand) (λ s. symbol_name s.name s.arguments) (λ t. basic_of t.base t.brackets)

abbrev pub called_with : Suffix → Called
called_with = fold-Suffix ℕ (ℕ → Seen) ℕ Called (Option BasicType) ℕ Seen ℕ ℕ Linked (Option Name) (Option BasicType)
    (λ _. 0) kind_step (λ _. 0) suffix_step base_step (λ _. 0) (λ e. e.kind e.at) (λ _. 0) (λ _. 0)
    (λ s. linked_by s.operator s.operand) (λ s. symbol_name s.name s.arguments) (λ t. basic_of t.base t.brackets)

abbrev pub base_word : Base → Option BasicType
base_word = fold-Base ℕ (ℕ → Seen) ℕ Called (Option BasicType) ℕ Seen ℕ ℕ Linked (Option Name) (Option BasicType)
    (λ _. 0) kind_step (λ _. 0) suffix_step base_step (λ _. 0) (λ e. e.kind e.at) (λ _. 0) (λ _. 0)
    (λ s. linked_by s.operator s.operand) (λ s. symbol_name s.name s.arguments) (λ t. basic_of t.base t.brackets)

abbrev pub basic_type : TypeTree → Option BasicType
basic_type = fold-TypeTree ℕ (ℕ → Seen) ℕ Called (Option BasicType) ℕ Seen ℕ ℕ Linked (Option Name) (Option BasicType)
    (λ _. 0) kind_step (λ _. 0) suffix_step base_step (λ _. 0) (λ e. e.kind e.at) (λ _. 0) (λ _. 0)
    (λ s. linked_by s.operator s.operand) (λ s. symbol_name s.name s.arguments) (λ t. basic_of t.base t.brackets)

-- the bare name that an expression is
unfoldable pub name_of : Expr → Option Name
name_of e = (seen e).name

-- the value that an expression is built as
unfoldable pub value_of : Expr → Built Value
value_of e = (seen e).value

unfoldable pub values_of : List Expr → Built (List Value)
values_of es = each_value [] (map seen es)

unfoldable pub links_of : List Step → Built (List Link)
links_of steps = each_link [] (map linked steps)

unfoldable pub steps_are_arithmetic : List Step → Bool
steps_are_arithmetic steps = are_arithmetic (map linked steps)

unfoldable pub call_values_of : Suffix → Built (Option (List Value))
call_values_of suffix = all_called (called_with suffix)

unfoldable pub call_of : ℕ → Expr → List Suffix → Built (Name × List Value)
call_of at callee suffixes = called at (seen callee).name (map called_with suffixes)

-- the condition that an expression is built as
unfoldable pub test_of : Expr → Built Test
test_of e = (seen e).test

unfoldable pub compare_of : ℕ → Option CmpOp → Expr → Expr → Built Test
compare_of at o a b = compared at o (seen a) (seen b)

-- the statement that an expression is built as
unfoldable pub action_of : Expr → Built Action
action_of e = (seen e).action

unfoldable pub assign_of : ℕ → AssignOperator → Option Name → Expr → Built Action
assign_of at o name e = assigned at o name (seen e)

-- how code answers what is built
abbrev pub Gives : {A : Type 0} → Built A → Result A Miss → Type 0
Gives b (Ok x) = b ≡ Ok x
Gives b (Err (miss.Unbuilt at)) = b ≡ Err at
Gives b (Err miss.NoMemory) = Unit {0}

-- the same of what is changed in place
abbrev pub GivesTo : {A : Type 0} → Built A → Result (Unit {0}) Miss → A → Type 0
GivesTo b (Ok done) x = b ≡ Ok x
GivesTo b (Err (miss.Unbuilt at)) x = b ≡ Err at
GivesTo b (Err miss.NoMemory) x = Unit {0}
