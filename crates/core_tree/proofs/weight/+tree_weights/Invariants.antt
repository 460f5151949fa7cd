use Rattle.std.proofs.Common.{◌≡◌, ◌≤◌, min, map, take}
use Rattle.core_tree.specs.Weight.{sum, tree_weight, operation_weight}
use Rattle.core_tree.proofs.weight.+tree_weights.Given as goal

abbrev pub invariant-trees_weight-loop-t : goal.invariant-trees_weight-loop-t
invariant-trees_weight-loop-t l = (l.weight ≡ min (sum (map tree_weight (take l.t-index l.trees))) 4194305) × (l.weight ≤ 4194305)

abbrev pub invariant-operations_weight-loop-o : goal.invariant-operations_weight-loop-o
invariant-operations_weight-loop-o l = (l.weight ≡ min (sum (map operation_weight (take l.o-index l.operations))) 4194305) × (l.weight ≤ 4194305)
