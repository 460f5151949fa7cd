use Rattle.std.proofs.Common.{rules, map, ◌≡◌, ◌+◌, ◌<◌, ◌≤◌, ◌++◌, length, ap, ap₂, sym, ◌∙◌, subst, arith, length-append}
use Rattle.std.proofs.lemmas.Result.{on_ok_weaker}
use Rattle.dc_code.specs.declared.instr.Op.TheVariants as op
use Rattle.core_tree.specs.Nodes.{branch_with}
use Rattle.core_tree.specs.Typed.{Each}
use Rattle.core_tree.specs.Weight.{tree_weight, stmt_weight, stmts_weight, branch_weight}
use Rattle.core_tree.specs.declared.stmt.Stmt.{Stmt}
use Rattle.core_tree.specs.declared.stmt.Stmt.TheVariants.{rolls-If, rolls-While}
use Rattle.core_tree.specs.declared.stmt.Stmt.TheOpen.{Stmt-F}
use Rattle.core_tree.specs.declared.stmt.Stmt.TheFolds.{fold-roll-Stmt}
use Rattle.core_tree.specs.declared.stmt.Stmt.TheShapes.{weighed-Stmt-If-1-at-3}
use denote.Param.Weighed.{at_most}
use Rattle.core_tree.proofs.stmt.Stmt.TheLaws.{the_size}
use Rattle.core_lower_expr.specs.Lowered.{Codes, instr, block_code, tree_code}
use Rattle.core_lower_expr.specs.Slots.{names_of}
use Rattle.core_lower.specs.Lowered.{while_code, branched_code, branches_code, stmt_code_step, stmt_code, stmts_code}
use Rattle.core_lower_expr.proofs.Lists.{weight_below, block_step}
use Rattle.core_lower.proofs.Loops.{patch_while}
use Rattle.core_lower.proofs.Branches.{branch_patched, branch_step, jump_step, branch_at, jumps_below, patched}
use Rattle.core_lower.proofs.stmt.+lower_stmt.Goals as goal

pub lower_block-lower_stmt-requires : goal.lower_block-lower_stmt-requires
lower_block-lower_stmt-requires t c =
    let x = c.t-item.result in
    let size = weight_below stmt_weight c.args.stmts.now c.loop-t.t-index x c.loop-t-test.true in
    let room : c.args.at.now.spare + stmt_weight x ≤ 4194304 = omega (arith, size, ap stmt_weight c.t-item.is, c.requires) in
    let deep = at_most the_size c.args.stmts.now c.loop-t.t-index x c.loop-t-test.true in
    let same = ap the_size c.t-item.is in
    search (rules, room, deep, same)

pub lower_block-loop-t-preserved : goal.lower_block-loop-t-preserved
lower_block-loop-t-preserved t c =
    block_step Stmt (stmt_code (names_of c.args.at.now)) c.args.instrs.now c.loop-t.instrs c.lower_stmt.new.instrs c.args.stmts.now c.loop-t.t-index c.args.at.now.spare c.t-item.result c.loop-t.invariant c.loop-t-test.true c.t-item.is c.in_ok-lower_stmt.ensures

pub lower_stmt-returns-in_ok-put_op-in-While-3 : goal.lower_stmt-returns-in_ok-put_op-in-While-3
lower_stmt-returns-in_ok-put_op-in-While-3 t c =
    let names = names_of c.args.at.now in
    let old = c.args.instrs.now in
    let spare = c.args.at.now.spare in
    let place = c.in-While.place in
    let e = c.in-While.e in
    let code = tree_code names e in
    let body = c.as_slice-in-While.result.now in
    let b = block_code (map (stmt_code names) body) in
    let q : stmt_code names c.args.t.now ≡ while_code place code b =
    ap (stmt_code names) (c.in-While.is ∙ sym (rolls-While place e c.in-While.body)) ∙ fold-roll-Stmt Codes (stmt_code_step names) (Stmt-F.While place e c.in-While.body)
    ∙ ap (λ x. stmt_code_step names (Stmt-F.While place e (map (stmt_code names) x))) (sym c.as_slice-in-While.ensures) in
    on_ok_weaker c.set_op.result (λ s1. patch_while place code b old _ _ _ _ _ _ _ _ _ _ spare
    c.in_ok-start-in-While.ensures c.in_ok-put_op-in-While.ensures c.in_ok-turn-in-While.ensures c.in_ok-put_op-in-While-2.ensures c.in_ok-lower_block-in-While.ensures c.in_ok-test-in-While.ensures c.in_ok-lower_at-in-While.ensures c.in_ok-put_op-in-While-3.ensures s1
    ∙ ap (λ f. old ++ f (length old) spare) (sym q)) c.set_op.ensures

pub lower_branch-returns-clause-code : goal.lower_branch-returns-clause-code
lower_branch-returns-clause-code t c =
    let names = names_of c.args.at.now in
    let place = c.args.place.now in
    let spare = c.args.at.now.spare in
    let body = ap (λ stmts. c.put_op.new.instrs ++ stmts_code names stmts (length c.put_op.new.instrs) spare) c.as_slice.ensures in
    (branch_patched names place spare (branch_with (stmt_code names) c.args.b.now) c.args.instrs.now c.lower_at.new.instrs c.put_op.new.instrs c.lower_block.new.instrs c.put_op-2.new.instrs c.set_op.new.instrs (instr place (op.JumpZero spare 0)) c.in_ok-test_end.test_end c.in_ok-second.second
    c.in_ok-lower_at.ensures c.in_ok-test_end.ensures c.in_ok-put_op.ensures (c.in_ok-lower_block.ensures ∙ body) c.in_ok-put_op-2.ensures c.in_ok-second.ensures c.in_ok-set_op.ensures).0

pub lower_branches-lower_branch-requires : goal.lower_branches-lower_branch-requires
lower_branches-lower_branch-requires t c =
    let x = c.b-item.result in
    let size = branch_at c.args.branches.now c.loop-b.b-index x c.loop-b-test.true in
    let room : c.args.at.now.spare + (tree_weight x.condition + stmts_weight x.body) ≤ 4194304 = omega (arith, size, ap branch_weight c.b-item.is, c.requires) in
    let deep = at_most (weighed-Stmt-If-1-at-3.weight Stmt the_size) c.args.branches.now c.loop-b.b-index x c.loop-b-test.true in
    let same = ap (weighed-Stmt-If-1-at-3.weight Stmt the_size) c.b-item.is in
    search (rules, room, deep, same)

pub lower_branches-loop-b-preserved : goal.lower_branches-loop-b-preserved
lower_branches-loop-b-preserved t c =
    let names = names_of c.args.at.now in
    let place = c.args.place.now in
    let spare = c.args.at.now.spare in
    let old = c.args.instrs.now in
    let code = c.loop-b.instrs in
    let new = c.lower_branch.new.instrs in
    let bs = c.args.branches.now in
    let b = c.b-item.result in (
      branch_step names place spare old code new bs c.loop-b.b-index b c.loop-b.invariant.0 c.loop-b-test.true c.b-item.is c.in_ok-jump.ensures.code,
      jump_step names place spare old code new bs c.loop-b.b-index c.in_ok-jump.jump b c.loop-b.jumps c.push.new.self c.loop-b.invariant.0 c.loop-b-test.true c.b-item.is c.in_ok-jump.ensures.code c.in_ok-jump.ensures.jump c.loop-b.invariant.1 c.in_ok-push.ensures.ok,
    )

pub lower_stmt-set_jumps-requires : goal.lower_stmt-set_jumps-requires
lower_stmt-set_jumps-requires t c =
    let names = names_of c.args.at.now in
    let place = c.in-If.place in
    let spare = c.args.at.now.spare in
    let old = c.args.instrs.now in
    let bs = map (branch_with (stmt_code names)) c.as_slice-in-If.result.now in
    let all = branches_code names place 0 bs (length old) spare in
    let c1 = c.lower_branches.new.instrs in
    let c2 = c.lower_block-in-If.new.instrs in
    let one = ap length c.in_ok-jumps-in-If.ensures.code ∙ length-append old all in
    let two = ap length c.in_ok-lower_block-in-If.ensures ∙ length-append c1 (stmts_code names c.as_slice-in-If-2.result.now (length c1) spare) in
    subst (Each (λ n. n < length c2)) (sym (c.as_slice-in-If-3.ensures ∙ c.in_ok-jumps-in-If.ensures.jumps)) (jumps_below names place spare bs (length old) (length c2) (omega (arith, one, two)))

pub lower_stmt-returns-in_ok-lower_block-in-If : goal.lower_stmt-returns-in_ok-lower_block-in-If
lower_stmt-returns-in_ok-lower_block-in-If t c =
    let names = names_of c.args.at.now in
    let old = c.args.instrs.now in
    let spare = c.args.at.now.spare in
    let place = c.in-If.place in
    let branches = c.as_slice-in-If.result.now in
    let last = c.as_slice-in-If-2.result.now in
    let bs = map (branch_with (stmt_code names)) branches in
    let l = block_code (map (stmt_code names) last) in
    let q : stmt_code names c.args.t.now ≡ branched_code names place bs l =
    ap (stmt_code names) (c.in-If.is ∙ sym (rolls-If place c.in-If.branches c.in-If.last)) ∙ fold-roll-Stmt Codes (stmt_code_step names) (Stmt-F.If place c.in-If.branches c.in-If.last)
    ∙ ap₂ (λ x y. branched_code names place (map (branch_with (stmt_code names)) x) (block_code (map (stmt_code names) y))) (sym c.as_slice-in-If.ensures) (sym c.as_slice-in-If-2.ensures) in
    on_ok_weaker c.set_jumps.result (λ n. patched names place spare bs l old c.lower_branches.new.instrs c.lower_block-in-If.new.instrs c.set_jumps.new.instrs c.as_slice-in-If-3.result.now
    c.in_ok-jumps-in-If.ensures.code (c.as_slice-in-If-3.ensures ∙ c.in_ok-jumps-in-If.ensures.jumps) c.in_ok-lower_block-in-If.ensures n
    ∙ ap (λ f. old ++ f (length old) spare) (sym q)) c.set_jumps.ensures
