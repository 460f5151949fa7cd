use Rattle.std.proofs.Common.{rules, ◌≡◌, ◌+◌, ◌≤◌, ◌∷◌, [], ◌++◌, length, map, ap, sym, ◌∙◌, arith}
use Rattle.std.proofs.lemmas.Result.{on_ok_weaker}
use Rattle.dc_code.specs.declared.instr.Op.TheVariants as op
use Rattle.core_tree.specs.Weight.{tree_weight, operation_weight}
use Rattle.core_tree.specs.declared.tree.Tree.{Tree}
use Rattle.core_tree.specs.declared.tree.Tree.TheVariants.{rolls-Local, rolls-Assign, rolls-Print, rolls-Call}
use Rattle.core_tree.specs.declared.tree.Tree.TheOpen.{Tree-F}
use Rattle.core_tree.specs.declared.tree.Tree.TheFolds.{fold-roll-Tree}
use denote.Param.Weighed.{at_most}
use Rattle.core_tree.specs.declared.tree.Tree.TheShapes.{weighed-Tree-Chain-3-at-2}
use Rattle.core_tree.proofs.tree.Tree.TheLaws.{the_size}
use Rattle.core_lower_expr.specs.Lowered.{Codes, instr, each_code, put_ops, tree_code_step, tree_code}
use Rattle.core_lower_expr.specs.Slots.{names_of}
use Rattle.core_lower_expr.proofs.Lists.{weight_at, operand_weight, each_step, operation_step, behind, printed}
use Rattle.core_lower_expr.proofs.Exprs.{some_weight}
use Rattle.core_lower_expr.proofs.lower.+lower.Goals as goal

pub lower_at-returns-in-Local : goal.lower_at-returns-in-Local
lower_at-returns-in-Local t c =
    let place = c.in-Local.place in
    let v = c.in-Local.v in
    let names = names_of c.args.at.now in
    let e : c.slot.result ≡ names.slot v.place = c.slot.ensures in
    let q : tree_code names c.args.t.now ≡ tree_code_step names (Tree-F.Local place v) = ap (tree_code names) (c.in-Local.is ∙ sym (rolls-Local place v)) ∙ fold-roll-Tree Codes (tree_code_step names) (Tree-F.Local place v) in
    let old = c.args.instrs.now in
    let spare = c.args.spare in
    on_ok_weaker c.put_op-in-Local.result (λ n. n ∙ ap (λ s. old ++ instr place (op.Copy spare s 1) ∷ []) e ∙ ap (λ f. old ++ f (length old) spare) (sym q)) c.put_op-in-Local.ensures

pub lower_at-returns-in_ok-lower_at-in-Assign : goal.lower_at-returns-in_ok-lower_at-in-Assign
lower_at-returns-in_ok-lower_at-in-Assign t c =
    let place = c.in-Assign.place in
    let v = c.in-Assign.v in
    let part = c.in-Assign.e in
    let is : c.get.result.now ≡ part = c.get.ensures in
    let names = names_of c.args.at.now in
    let e : c.slot-in-Assign.result ≡ names.slot v.place = c.slot-in-Assign.ensures in
    let q : tree_code names c.args.t.now ≡ tree_code_step names (Tree-F.Assign place v (tree_code names part)) = ap (tree_code names) (c.in-Assign.is ∙ sym (rolls-Assign place v part)) ∙ fold-roll-Tree Codes (tree_code_step names) (Tree-F.Assign place v part) in
    let old = c.args.instrs.now in
    let spare = c.args.spare in
    on_ok_weaker c.put_op-in-Assign.result (λ n. n ∙ ap (λ s. c.lower_at.new.instrs ++ instr place (op.Copy s spare 1) ∷ []) e ∙ behind old (tree_code names part (length old) spare) _ (instr place (op.Copy (names.slot v.place) spare 1) ∷ []) (c.in_ok-lower_at-in-Assign.ensures ∙ ap (λ x. old ++ tree_code names x (length old) spare) is) ∙ ap (λ f. old ++ f (length old) spare) (sym q)) c.put_op-in-Assign.ensures

pub lower_at-returns-in_ok-lower_each-in-Call : goal.lower_at-returns-in_ok-lower_each-in-Call
lower_at-returns-in_ok-lower_each-in-Call t c =
    let place = c.in-Call.place in
    let f = c.in-Call.f in
    let ty = c.in-Call.field-2 in
    let args = c.in-Call.args in
    let names = names_of c.args.at.now in
    let e : c.function.result ≡ names.function f = c.function.ensures in
    let q : tree_code names c.args.t.now ≡ tree_code_step names (Tree-F.Call place f ty (map (tree_code names) args)) = ap (tree_code names) (c.in-Call.is ∙ sym (rolls-Call place f ty args)) ∙ fold-roll-Tree Codes (tree_code_step names) (Tree-F.Call place f ty args) in
    let old = c.args.instrs.now in
    let spare = c.args.spare in
    let a = each_code (map (tree_code names) args) (length old) spare in
    let one : c.lower_each.new.instrs ≡ old ++ a = c.in_ok-lower_each-in-Call.ensures ∙ ap (λ l. old ++ each_code (map (tree_code names) l) (length old) spare) c.as_slice-in-Call.ensures in
    on_ok_weaker c.put_op-in-Call.result (λ n. n ∙ ap (λ s. c.lower_each.new.instrs ++ instr place (op.Call s spare spare) ∷ []) e ∙ behind old a _ (instr place (op.Call (names.function f) spare spare) ∷ []) one ∙ ap (λ f. old ++ f (length old) spare) (sym q)) c.put_op-in-Call.ensures

pub lower_at-returns-in_ok-put_line-in-Print : goal.lower_at-returns-in_ok-put_line-in-Print
lower_at-returns-in_ok-put_line-in-Print t c =
    let place = c.in-Print.place in
    let tys = c.in-Print.types in
    let args = c.in-Print.args in
    let line = c.in-Print.line in
    let names = names_of c.args.at.now in
    let old = c.args.instrs.now in
    let spare = c.args.spare in
    let q : tree_code names c.args.t.now ≡ tree_code_step names (Tree-F.Print place tys (map (tree_code names) args) line) = ap (tree_code names) (c.in-Print.is ∙ sym (rolls-Print place tys args line)) ∙ fold-roll-Tree Codes (tree_code_step names) (Tree-F.Print place tys args line) in
    let a = each_code (map (tree_code names) args) (length old) spare in
    let one : c.lower_each-in-Print.new.instrs ≡ old ++ a = c.in_ok-lower_each-in-Print.ensures ∙ ap (λ l. old ++ each_code (map (tree_code names) l) (length old) spare) c.as_slice-in-Print.ensures in
    let two : c.put_numbers.new.instrs ≡ c.lower_each-in-Print.new.instrs ++ put_ops place tys spare = c.in_ok-put_numbers-in-Print.ensures ∙ ap (λ l. c.lower_each-in-Print.new.instrs ++ put_ops place l spare) c.as_slice-in-Print-2.ensures in
    on_ok_weaker c.put_op-in-Print.result (λ n. n ∙ printed place tys line old a _ _ _ spare one two c.in_ok-put_line-in-Print.ensures ∙ ap (λ f. old ++ f (length old) spare) (sym q)) c.put_op-in-Print.ensures

pub lower_each-lower_at-requires : goal.lower_each-lower_at-requires
lower_each-lower_at-requires t c =
    let x = c.e-item.result in
    let size = weight_at tree_weight some_weight c.args.args.now c.loop-e.e-index x c.loop-e-test.true in
    let room : c.loop-e.slot + tree_weight x ≤ 4194304 = omega (arith, size, ap tree_weight c.e-item.is, c.loop-e.invariant.1, c.requires) in
    let deep = at_most the_size c.args.args.now c.loop-e.e-index x c.loop-e-test.true in
    let same = ap the_size c.e-item.is in
    search (rules, room, deep, same)

pub lower_each-overflow_add-slot : goal.lower_each-overflow_add-slot
lower_each-overflow_add-slot t c =
    let x = c.e-item.result in
    let size = weight_at tree_weight some_weight c.args.args.now c.loop-e.e-index x c.loop-e-test.true in
    let room : c.loop-e.slot + 1 ≤ 4194305 = omega (arith, size, c.loop-e.invariant.1, c.requires) in
    search (rules, room)

pub lower_each-loop-e-preserved : goal.lower_each-loop-e-preserved
lower_each-loop-e-preserved t c = (
  each_step (tree_code (names_of c.args.at.now)) c.args.instrs.now c.loop-e.instrs c.lower_at.new.instrs c.args.args.now c.loop-e.e-index c.args.spare c.loop-e.slot c.e-item.result c.loop-e.invariant.0 c.loop-e.invariant.1 c.loop-e-test.true c.e-item.is c.in_ok-lower_at.ensures,
  omega (arith, c.loop-e.invariant.1),
)

pub lower_operations-lower_at-requires : goal.lower_operations-lower_at-requires
lower_operations-lower_at-requires t c =
    let x = c.o-item.result in
    let size = operand_weight c.args.operations.now c.loop-o.o-index x c.loop-o-test.true in
    let room : c.args.spare + 1 + tree_weight x.operand ≤ 4194304 = omega (arith, size, ap operation_weight c.o-item.is, c.requires) in
    let deep = at_most (weighed-Tree-Chain-3-at-2.weight Tree the_size) c.args.operations.now c.loop-o.o-index x c.loop-o-test.true in
    let same = ap (weighed-Tree-Chain-3-at-2.weight Tree the_size) c.o-item.is in
    search (rules, room, deep, same)

pub lower_operations-loop-o-preserved : goal.lower_operations-loop-o-preserved
lower_operations-loop-o-preserved t c =
    operation_step (names_of c.args.at.now) c.args.place.now c.args.kind c.args.instrs.now c.loop-o.instrs c.lower_at.new.instrs c.put_op.new.instrs c.args.operations.now c.loop-o.o-index c.args.spare c.o-item.result c.loop-o.invariant c.loop-o-test.true c.o-item.is c.in_ok-lower_at.ensures c.in_ok-put_op.ensures
