use Rattle.std.proofs.Common.{◌≡◌, ◌++◌, ◌∷◌, [], take, map}
use Rattle.dc_key.specs.KeyTexts.{behind, tree_text}
use Rattle.dc_key.proofs.key.+put_tree.Given as goal

abbrev pub invariant-put_trees-loop-tree : goal.invariant-put_trees-loop-tree
invariant-put_trees-loop-tree l = l.out ≡ l.initial.out ++ behind (44 ∷ []) (map tree_text (take l.tree-index l.rest))
