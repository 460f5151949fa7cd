use Rattle.std.proofs.Common.{◌≡◌, ◌+◌, ◌++◌, length, map, take}
use Rattle.core_tree.specs.Nodes.{operation_with}
use Rattle.core_lower_expr.specs.Lowered.{each_code, operations_code, tree_code}
use Rattle.core_lower_expr.specs.Slots.{names_of}
use Rattle.core_lower_expr.proofs.lower.+lower.Given as goal

abbrev pub invariant-lower_each-loop-e : goal.invariant-lower_each-loop-e
invariant-lower_each-loop-e l = (l.instrs ≡ l.fn.instrs ++ each_code (map (tree_code (names_of l.at)) (take l.e-index l.args)) (length l.fn.instrs) l.spare) × (l.slot ≡ l.spare + l.e-index)

abbrev pub invariant-lower_operations-loop-o : goal.invariant-lower_operations-loop-o
invariant-lower_operations-loop-o l = l.instrs ≡ l.fn.instrs ++ operations_code l.place l.kind (map (operation_with (tree_code (names_of l.at))) (take l.o-index l.operations)) (length l.fn.instrs) l.spare
