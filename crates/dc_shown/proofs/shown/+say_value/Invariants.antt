use Rattle.std.proofs.Common.{◌≡◌, ◌++◌, take, drop, map}
use Rattle.dc_shown.specs.Shown.{behind, by_fields, part, of_tree}
use Rattle.dc_shown.proofs.shown.+say_value.Given as goal

abbrev pub invariant-say_joined-loop-tree : goal.invariant-say_joined-loop-tree
invariant-say_joined-loop-tree g l = l.out ≡ l.initial.out ++ behind (map (of_tree (g.N.Naming.told l.names) l.of) (take l.tree-index l.rest))

-- what is said so far and what is left make the whole
abbrev pub invariant-say_fields-loop-tree : goal.invariant-say_fields-loop-tree
invariant-say_fields-loop-tree g l =
    l.out ++ behind (by_fields l.left (map (part (g.N.Naming.told l.names)) (drop l.tree-index l.rest)))
    ≡ l.initial.out ++ behind (by_fields l.initial.left (map (part (g.N.Naming.told l.names)) l.rest))
