use Rattle.std.proofs.Common.{◌≡◌, ◌+◌, ◌*◌, map, drop}
use Rattle.core_tree.specs.Nodes.{branch_with}
use Rattle.core_tree.specs.Typed.{all_of, any_completes, completes}
use Rattle.core_tree.specs.declared.stmt.Stmt.{Stmt}
use Rattle.core_tree.specs.declared.stmt.Stmt.TheShapes.{weighed-Stmt-If-1-at-3}
use Rattle.core_tree.proofs.stmt.Stmt.TheLaws.{the_size}
use denote.Param.Weighed.{most}
use Rattle.core_tree.proofs.flow.+completing.Given as goal

abbrev pub invariant-complete-loop-stmt : goal.invariant-complete-loop-stmt
invariant-complete-loop-stmt l = all_of (map completes (drop l.stmt-index l.stmts)) ≡ all_of (map completes l.stmts)

abbrev pub invariant-one_completes-loop-branch : goal.invariant-one_completes-loop-branch
invariant-one_completes-loop-branch l = any_completes (map (branch_with completes) (drop l.branch-index l.branches)) ≡ any_completes (map (branch_with completes) l.branches)

abbrev pub decreases-completes : goal.decreases-completes
decreases-completes l = 3 * the_size l.stmt.now

abbrev pub decreases-complete : goal.decreases-complete
decreases-complete l = 3 * most the_size l.stmts.now + 1

abbrev pub decreases-one_completes : goal.decreases-one_completes
decreases-one_completes l = 3 * most (weighed-Stmt-If-1-at-3.weight Stmt the_size) l.branches.now + 2
