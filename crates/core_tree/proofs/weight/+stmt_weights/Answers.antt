use Rattle.std.proofs.Common.{rules, ◌≡◌, ℕ, ◌+◌, map, min, sym, ap, ◌∙◌, arith}
use denote.Param.Weighed.{most, at_most}
use Rattle.core_tree.specs.Weight.{sum, stmt_weight_step, stmt_weight, stmts_weight, branch_weight}
use Rattle.core_tree.specs.declared.stmt.Branch.{Branch}
use Rattle.core_tree.specs.declared.stmt.Stmt.{Stmt}
use Rattle.core_tree.specs.declared.stmt.Stmt.TheVariants.{rolls-If}
use Rattle.core_tree.specs.declared.stmt.Stmt.TheOpen.{Stmt-F}
use Rattle.core_tree.specs.declared.stmt.Stmt.TheFolds.{fold-roll-Stmt}
use Rattle.core_tree.specs.declared.stmt.Stmt.TheShapes.{weighed-Stmt-If-1-at-3}
use Rattle.core_tree.proofs.stmt.Stmt.TheLaws.{the_size}
use Rattle.core_tree.proofs.Adding.{sum_step, branches_sum}
use Rattle.core_tree.proofs.weight.+stmt_weights.Goals as goal

pub stmts_weight-loop-t-preserved : goal.stmts_weight-loop-t-preserved
stmts_weight-loop-t-preserved t c = (
  sum_step Stmt stmt_weight c.args.stmts.now c.loop-t.t-index c.loop-t.weight c.stmt_weight.result c.plus-weight.result 4194305 c.t-item.result c.loop-t.invariant.0 c.loop-t-test.true c.t-item.is c.stmt_weight.ensures.value c.plus-weight.ensures.value,
  c.plus-weight.ensures.bound,
)

pub branches_weight-stmts_weight-requires : goal.branches_weight-stmts_weight-requires
branches_weight-stmts_weight-requires t c =
    let x = c.b-item.result in
    let deep = at_most ((weighed-Stmt-If-1-at-3).weight Stmt the_size) c.args.branches.now c.loop-b.b-index x c.loop-b-test.true in
    let same = ap ((weighed-Stmt-If-1-at-3).weight Stmt the_size) c.b-item.is in
    let whole = ap (most the_size) c.as_slice.ensures in
    search (rules, deep, same, whole)

pub branches_weight-loop-b-preserved : goal.branches_weight-loop-b-preserved
branches_weight-loop-b-preserved t c =
    let inside = ap (λ l. min (stmts_weight l) 4194305) c.as_slice.ensures in
    let more : c.plus.result ≡ min (branch_weight c.b-item.result) 4194305 = omega (arith, inside, c.stmts_weight.ensures.value, c.tree_weight.ensures.value, c.plus-inside.ensures.value, c.plus.ensures.value) in (
      sum_step (Branch Stmt) branch_weight c.args.branches.now c.loop-b.b-index c.loop-b.weight c.plus.result c.plus-weight.result 4194305 c.b-item.result c.loop-b.invariant.0 c.loop-b-test.true c.b-item.is more c.plus-weight.ensures.value,
      c.plus-weight.ensures.bound,
    )

pub stmt_weight-returns-in-If-clause-value : goal.stmt_weight-returns-in-If-clause-value
stmt_weight-returns-in-If-clause-value t c =
    let place = c.in-If.field-0 in
    let branches = c.in-If.branches in
    let last = c.in-If.last in
    let is : stmt_weight c.args.t.now ≡ sum (map branch_weight branches) + stmts_weight last =
    ap stmt_weight (c.in-If.is ∙ sym (rolls-If place branches last)) ∙ fold-roll-Stmt ℕ stmt_weight_step (Stmt-F.If place branches last) ∙ ap (λ n. n + stmts_weight last) (branches_sum branches) in
    let one = c.branches_weight.ensures.value ∙ ap (λ bs. min (sum (map branch_weight bs)) 4194305) c.as_slice-in-If.ensures in
    let more = c.stmts_weight-in-If.ensures.value ∙ ap (λ es. min (stmts_weight es) 4194305) c.as_slice-in-If-2.ensures in
    omega (arith, is, one, more, c.plus-in-If.ensures.value)
