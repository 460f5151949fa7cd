-- How much a function weighs, which the limit on open calls counts. A parameter, another variable and a node of an
-- expression weigh the cells of their type and 4 more, a statement 8. Each type of these trees has one cell.
use Rattle.std.specs.Prelude.{ℕ, ◌+◌, ◌*◌, List, [], ◌∷◌, length, map, Option, Some, None}
use Rattle.core_tree.specs.declared.tree.Operation.{Operation}
use Rattle.core_tree.specs.declared.tree.Tree.{Tree}
use Rattle.core_tree.specs.declared.tree.Tree.TheOpen.{Tree-F}
use Rattle.core_tree.specs.declared.tree.Tree.TheFolds.{fold-Tree}
use Rattle.core_tree.specs.declared.stmt.Branch.{Branch}
use Rattle.core_tree.specs.declared.stmt.Stmt.{Stmt}
use Rattle.core_tree.specs.declared.stmt.Stmt.TheOpen.{Stmt-F}
use Rattle.core_tree.specs.declared.stmt.Stmt.TheFolds.{fold-Stmt}
use Rattle.core_tree.specs.declared.body.Body.{Body}

abbrev pub sum : List ℕ → ℕ
sum [] = 0
sum (n ∷ ns) = n + sum ns

-- each operator of a chain is a node
abbrev pub operations_weight : List (Operation ℕ) → ℕ
operations_weight [] = 0
operations_weight (o ∷ os) = 5 + o.operand + operations_weight os

-- An assignment has two nodes of its own: itself, and the variable that it names.
abbrev pub tree_weight_step : Tree-F ℕ → ℕ
tree_weight_step (Tree-F.Constant place c) = 5
tree_weight_step (Tree-F.Local place v) = 5
tree_weight_step (Tree-F.Assign place v e) = 10 + e
tree_weight_step (Tree-F.Chain place k first rest) = first + operations_weight rest
tree_weight_step (Tree-F.Compare place op k a b) = 5 + (a + b)
tree_weight_step (Tree-F.Call place f ty args) = 5 + sum args
tree_weight_step (Tree-F.Print place tys args line) = 5 + sum args

abbrev pub tree_weight : Tree → ℕ
tree_weight = fold-Tree ℕ tree_weight_step

abbrev pub operation_weight : Operation Tree → ℕ
operation_weight o = 5 + tree_weight o.operand

abbrev pub option_weight : Option Tree → ℕ
option_weight None = 0
option_weight (Some e) = tree_weight e

-- Each branch of an `if` is a statement: an `else if` is an `else` with an `if` as its statement.
abbrev pub branches_weight : List (Branch ℕ) → ℕ
branches_weight [] = 0
branches_weight (b ∷ bs) = 8 + (tree_weight b.condition + sum b.body) + branches_weight bs

abbrev pub stmt_weight_step : Stmt-F ℕ → ℕ
stmt_weight_step (Stmt-F.Eval e) = 8 + tree_weight e
stmt_weight_step (Stmt-F.Declare v e) = 8 + tree_weight e
stmt_weight_step (Stmt-F.Block stmts) = 8 + sum stmts
stmt_weight_step (Stmt-F.If place branches last) = branches_weight branches + sum last
stmt_weight_step (Stmt-F.While place e body) = 8 + (tree_weight e + sum body)
stmt_weight_step (Stmt-F.Return place e) = 8 + option_weight e

abbrev pub stmt_weight : Stmt → ℕ
stmt_weight = fold-Stmt ℕ stmt_weight_step

abbrev pub stmts_weight : List Stmt → ℕ
stmts_weight stmts = sum (map stmt_weight stmts)

abbrev pub branch_weight : Branch Stmt → ℕ
branch_weight b = 8 + (tree_weight b.condition + stmts_weight b.body)

abbrev pub body_weight : Body → ℕ
body_weight f = 5 * (length f.params + length f.locals) + stmts_weight f.stmts
