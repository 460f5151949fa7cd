use Rattle.std.proofs.Common.{[], ◌∷◌}
use Rattle.dc_key.specs.KeyTexts.{tree_text}
use Rattle.dc_key.proofs.Joining.{behind_more}
use Rattle.dc_key.proofs.key.+put_tree.Goals as goal

pub put_trees-loop-tree-preserved : goal.put_trees-loop-tree-preserved
put_trees-loop-tree-preserved t c =
    behind_more (44 ∷ []) tree_text _ c.loop-tree.tree-index c.tree-item.result _ c.loop-tree.out c.push.new.self c.put_tree-in-loop-tree.new.out c.loop-tree-test.true c.tree-item.is c.loop-tree.invariant c.in_ok-push.ensures.ok c.in_ok-put_tree-2.ensures
