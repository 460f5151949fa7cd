-- Which statements are built so far.
use Rattle.std.specs.Prelude.{ℕ, Bool, true, false, List, [], ◌∷◌, ◌++◌, map, Option, Some, None, Ok, Err}
use Rattle.dc_ast.specs.declared.name.Name.{Name}
use Rattle.dc_ast.specs.declared.word.Storage.{Storage}
use Rattle.dc_ast.specs.declared.word.BasicType.{BasicType}
use Rattle.dc_ast.specs.declared.word.BasicType.TheVariants as basic
use Rattle.dc_ast.specs.declared.expression.Expr.{Expr}
use Rattle.dc_ast.specs.declared.types.TypeTree.{TypeTree}
use Rattle.dc_ast.specs.declared.statement.Stmt.{Stmt}
use Rattle.dc_ast.specs.declared.statement.StmtKind.{StmtKind}
use Rattle.dc_ast.specs.declared.statement.Branch.{Branch as Written}
use Rattle.dc_ast.specs.declared.statement.Variable.{Variable}
use Rattle.dc_ast.specs.declared.statement.VariableTree.{VariableTree}
use Rattle.dc_ast.specs.declared.statement.StaticStatement.TheOpen.{StmtKind-F}
use Rattle.dc_ast.specs.declared.statement.StaticStatement.TheFolds.{fold-Stmt, fold-StmtKind, fold-Branch}
use Rattle.core_front.specs.declared.built.Action.{Action}
use Rattle.core_front.specs.declared.built.Action.TheOpen.{Action-F}
use Rattle.core_front.specs.declared.built.Action.TheViews.{roll-Action}
use Rattle.core_front.specs.declared.built.Branch.{Branch, roll-Branch}
use Rattle.core_front.specs.Building.{Built, and_then, basic_type, value_of, test_of, action_of}

-- the type is `int`
abbrev pub is_int_word : Option BasicType → Bool
is_int_word (Some basic.Int) = true
is_int_word _ = false

unfoldable pub is_int : Option TypeTree → Bool
is_int None = false
is_int (Some t) = is_int_word (basic_type t)

-- `int name = value;`
abbrev pub declared_one : ℕ → Name → Option Expr → Built Action
declared_one at name None = Err at
declared_one at name (Some e) = and_then (value_of e) (λ x. Ok (roll-Action (Action-F.Declare at name x)))

abbrev pub declared : ℕ → Option Storage → Bool → List Variable → Built Action
declared at (Some storage) int vs = Err at
declared at None false vs = Err at
declared at None true [] = Err at
declared at None true (v ∷ []) = declared_one at v.name v.value
declared at None true (v ∷ w ∷ vs) = Err at

unfoldable pub declare_of : ℕ → VariableTree → Built Action
declare_of at v = declared at v.storage (is_int v.of) v.variables

unfoldable pub return_of : ℕ → Option Expr → Built Action
return_of at None = Ok (roll-Action (Action-F.Return at None))
return_of at (Some e) = and_then (value_of e) (λ x. Ok (roll-Action (Action-F.Return at (Some x))))

-- statements, behind those before
abbrev pub each_action : List Action → List (Built Action) → Built (List Action)
each_action all [] = Ok all
each_action all (x ∷ xs) = and_then x (λ y. each_action (all ++ y ∷ []) xs)

abbrev pub each_branch : List Branch → List (Built Branch) → Built (List Branch)
each_branch all [] = Ok all
each_branch all (x ∷ xs) = and_then x (λ y. each_branch (all ++ y ∷ []) xs)

abbrev pub last_of : Option (Built Action) → Built (List Action)
last_of None = Ok []
last_of (Some x) = and_then x (λ y. Ok (y ∷ []))

abbrev pub stmt_step : StmtKind-F ℕ ℕ (ℕ → Built Action) (Built Branch) ℕ (Built Action) ℕ → ℕ → Built Action
stmt_step (StmtKind-F.Block ss) at = and_then (each_action [] ss) (λ xs. Ok (roll-Action (Action-F.Block xs)))
stmt_step (StmtKind-F.Variable v) at = declare_of at v
stmt_step (StmtKind-F.Expr e) at = action_of e
stmt_step (StmtKind-F.If bs last) at = and_then (each_branch [] bs) (λ xs. and_then (last_of last) (λ ys. Ok (roll-Action (Action-F.If at xs ys))))
stmt_step (StmtKind-F.While e s) at = and_then (test_of e) (λ t. and_then s (λ x. Ok (roll-Action (Action-F.While at t x))))
stmt_step (StmtKind-F.Return e) at = return_of at e
stmt_step _ at = Err at

abbrev pub branch_step : Expr → Built Action → Built Branch
branch_step e s = and_then (test_of e) (λ t. and_then s (λ x. Ok (roll-Branch (record { test = t; body = x }))))

abbrev pub stmt_built : Stmt → Built Action
stmt_built = fold-Stmt ℕ ℕ (ℕ → Built Action) (Built Branch) ℕ (Built Action) ℕ
    (λ _. 0) (λ _. 0) stmt_step (λ b. branch_step b.condition b.body) (λ _. 0) (λ s. s.kind s.at) (λ _. 0)

abbrev pub kind_built : StmtKind → ℕ → Built Action
kind_built = fold-StmtKind ℕ ℕ (ℕ → Built Action) (Built Branch) ℕ (Built Action) ℕ
    (λ _. 0) (λ _. 0) stmt_step (λ b. branch_step b.condition b.body) (λ _. 0) (λ s. s.kind s.at) (λ _. 0)

abbrev pub branch_built : Written → Built Branch
branch_built = fold-Branch ℕ ℕ (ℕ → Built Action) (Built Branch) ℕ (Built Action) ℕ
    (λ _. 0) (λ _. 0) stmt_step (λ b. branch_step b.condition b.body) (λ _. 0) (λ s. s.kind s.at) (λ _. 0)

-- what a statement is built as
unfoldable pub stmt_of : Stmt → Built Action
stmt_of s = stmt_built s

unfoldable pub stmts_of : List Stmt → Built (List Action)
stmts_of ss = each_action [] (map stmt_built ss)

unfoldable pub branch_of : Written → Built Branch
branch_of b = branch_built b

unfoldable pub branches_of : List Written → Built (List Branch)
branches_of bs = each_branch [] (map branch_built bs)
