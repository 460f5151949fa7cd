use Rattle.std.proofs.Common.{◌≡◌, ℕ, ◌+◌, map, min, sym, ap, ◌∙◌, arith}
use Rattle.core_tree.specs.Weight.{sum, tree_weight_step, tree_weight, operation_weight}
use Rattle.core_tree.specs.declared.tree.Operation.{Operation}
use Rattle.core_tree.specs.declared.tree.Tree.{Tree}
use Rattle.core_tree.specs.declared.tree.Tree.TheVariants.{rolls-Chain}
use Rattle.core_tree.specs.declared.tree.Tree.TheOpen.{Tree-F}
use Rattle.core_tree.specs.declared.tree.Tree.TheFolds.{fold-roll-Tree}
use Rattle.core_tree.proofs.Adding.{sum_step, operations_sum}
use Rattle.core_tree.proofs.weight.+tree_weights.Goals as goal

pub trees_weight-loop-t-preserved : goal.trees_weight-loop-t-preserved
trees_weight-loop-t-preserved t c = (
  sum_step Tree tree_weight c.args.trees.now c.loop-t.t-index c.loop-t.weight c.tree_weight.result c.plus-weight.result 4194305 c.t-item.result c.loop-t.invariant.0 c.loop-t-test.true c.t-item.is c.tree_weight.ensures.value c.plus-weight.ensures.value,
  c.plus-weight.ensures.bound,
)

pub operations_weight-loop-o-preserved : goal.operations_weight-loop-o-preserved
operations_weight-loop-o-preserved t c =
    let more : c.plus.result ≡ min (operation_weight c.o-item.result) 4194305 = omega (arith, c.plus.ensures.value, c.tree_weight.ensures.value) in (
      sum_step (Operation Tree) operation_weight c.args.operations.now c.loop-o.o-index c.loop-o.weight c.plus.result c.plus-weight.result 4194305 c.o-item.result c.loop-o.invariant.0 c.loop-o-test.true c.o-item.is more c.plus-weight.ensures.value,
      c.plus-weight.ensures.bound,
    )

pub tree_weight-returns-in-Chain-clause-value : goal.tree_weight-returns-in-Chain-clause-value
tree_weight-returns-in-Chain-clause-value t c =
    let place = c.in-Chain.field-0 in
    let k = c.in-Chain.field-1 in
    let first = c.in-Chain.first in
    let rest = c.in-Chain.rest in
    let is : tree_weight c.args.t.now ≡ tree_weight first + sum (map operation_weight rest) =
    ap tree_weight (c.in-Chain.is ∙ sym (rolls-Chain place k first rest)) ∙ fold-roll-Tree ℕ tree_weight_step (Tree-F.Chain place k first rest) ∙ ap (λ n. tree_weight first + n) (operations_sum rest) in
    let one = c.tree_weight-in-Chain.ensures.value ∙ ap (λ e. min (tree_weight e) 4194305) c.get-in-Chain.ensures in
    let more = c.operations_weight.ensures.value ∙ ap (λ os. min (sum (map operation_weight os)) 4194305) c.as_slice.ensures in
    omega (arith, is, one, more, c.plus-in-Chain.ensures.value)
