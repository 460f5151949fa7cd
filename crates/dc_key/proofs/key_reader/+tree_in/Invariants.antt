use Rattle.std.proofs.Common.{◌≡◌, ◌+◌, ◌*◌, ◌-◌, length}
use Rattle.dc_key.specs.KeyReading.{turns, has_item, next_item, items_in, tree_in}
use Rattle.dc_key.proofs.key_reader.+tree_in.Given as goal

abbrev pub decreases-items_in : goal.decreases-items_in
decreases-items_in l = 2 * l.depth + 1

abbrev pub decreases-tree_in : goal.decreases-tree_in
decreases-tree_in l = 2 * l.depth

abbrev pub invariant-items_in-loop : goal.invariant-items_in-loop
invariant-items_in-loop l = turns has_item (next_item (tree_in l.depth)) (length l.initial.from - l.counter) (l.items, l.from) ≡ items_in (tree_in l.depth) l.initial.from
