use Rattle.std.proofs.Common.{take, ◌≡◌, ◌+◌, ◌*◌, ◌++◌, length, map}
use Rattle.core_lower_expr.specs.Slots.{names_of}
use Rattle.core_tree.specs.Nodes.{branch_with}
use Rattle.core_lower.specs.Lowered.{branches_code, branch_jumps, stmt_code, stmts_code}
use denote.Param.Weighed.{most}
use Rattle.core_tree.specs.declared.stmt.Stmt.{Stmt}
use Rattle.core_tree.specs.declared.stmt.Stmt.TheShapes.{weighed-Stmt-If-1-at-3}
use Rattle.core_tree.proofs.stmt.Stmt.TheLaws.{the_size}
use Rattle.core_lower.proofs.stmt.+lower_stmt.Given as goal

abbrev pub invariant-lower_block-loop-t : goal.invariant-lower_block-loop-t
invariant-lower_block-loop-t l = l.instrs ≡ l.fn.instrs ++ stmts_code (names_of l.at) (take l.t-index l.stmts) (length l.fn.instrs) l.at.spare

abbrev pub invariant-lower_branches-loop-b : goal.invariant-lower_branches-loop-b
invariant-lower_branches-loop-b l =
    let done = map (branch_with (stmt_code (names_of l.at))) (take l.b-index l.branches) in
    (l.instrs ≡ l.fn.instrs ++ branches_code (names_of l.at) l.place 0 done (length l.fn.instrs) l.at.spare) × (l.jumps ≡ branch_jumps (names_of l.at) l.place done (length l.fn.instrs) l.at.spare)

abbrev pub decreases-lower_stmt : goal.decreases-lower_stmt
decreases-lower_stmt l = 4 * the_size l.t.now

abbrev pub decreases-lower_block : goal.decreases-lower_block
decreases-lower_block l = 4 * most the_size l.stmts.now + 1

abbrev pub decreases-lower_branch : goal.decreases-lower_branch
decreases-lower_branch l = 4 * weighed-Stmt-If-1-at-3.weight Stmt the_size l.b.now + 2

abbrev pub decreases-lower_branches : goal.decreases-lower_branches
decreases-lower_branches l = 4 * most (weighed-Stmt-If-1-at-3.weight Stmt the_size) l.branches.now + 3
