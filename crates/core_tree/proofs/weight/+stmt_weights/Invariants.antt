use Rattle.std.proofs.Common.{◌≡◌, ◌+◌, ◌*◌, ◌≤◌, min, map, take}
use Rattle.core_tree.specs.Weight.{sum, stmt_weight, branch_weight}
use Rattle.core_tree.specs.declared.stmt.Stmt.{Stmt}
use Rattle.core_tree.specs.declared.stmt.Stmt.TheShapes.{weighed-Stmt-If-1-at-3}
use Rattle.core_tree.proofs.stmt.Stmt.TheLaws.{the_size}
use denote.Param.Weighed.{most}
use Rattle.core_tree.proofs.weight.+stmt_weights.Given as goal

abbrev pub invariant-stmts_weight-loop-t : goal.invariant-stmts_weight-loop-t
invariant-stmts_weight-loop-t l = (l.weight ≡ min (sum (map stmt_weight (take l.t-index l.stmts))) 4194305) × (l.weight ≤ 4194305)

abbrev pub invariant-branches_weight-loop-b : goal.invariant-branches_weight-loop-b
invariant-branches_weight-loop-b l = (l.weight ≡ min (sum (map branch_weight (take l.b-index l.branches))) 4194305) × (l.weight ≤ 4194305)

abbrev pub decreases-stmt_weight : goal.decreases-stmt_weight
decreases-stmt_weight l = 3 * the_size l.t.now

abbrev pub decreases-stmts_weight : goal.decreases-stmts_weight
decreases-stmts_weight l = 3 * most the_size l.stmts.now + 1

abbrev pub decreases-branches_weight : goal.decreases-branches_weight
decreases-branches_weight l = 3 * most (weighed-Stmt-If-1-at-3.weight Stmt the_size) l.branches.now + 2
