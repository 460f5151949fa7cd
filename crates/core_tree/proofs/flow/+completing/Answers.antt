use Rattle.std.proofs.Common.{rules, ◌≡◌, ap}
use denote.Param.Weighed.{most, at_most}
use Rattle.core_tree.specs.declared.stmt.Stmt.{Stmt}
use Rattle.core_tree.specs.declared.stmt.Stmt.TheShapes.{weighed-Stmt-If-1-at-3}
use Rattle.core_tree.proofs.stmt.Stmt.TheLaws.{the_size}
use Rattle.core_tree.proofs.flow.+completing.Goals as goal

pub one_completes-complete-requires : goal.one_completes-complete-requires
one_completes-complete-requires t c =
    let x = c.branch-item.result in
    let deep = at_most ((weighed-Stmt-If-1-at-3).weight Stmt the_size) c.args.branches.now c.loop-branch.branch-index x c.loop-branch-test.true in
    let same = ap ((weighed-Stmt-If-1-at-3).weight Stmt the_size) c.branch-item.is in
    let whole = ap (most the_size) c.as_slice.ensures in
    search (rules, deep, same, whole)
