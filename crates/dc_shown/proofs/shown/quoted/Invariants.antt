use Rattle.std.proofs.Common.{◌≡◌, ◌++◌, take, map}
use Rattle.std.specs.List.{flat_map}
use Rattle.dc_key.specs.KeyTexts.{byte}
use Rattle.dc_shown.specs.Shown.{byte_text}
use Rattle.dc_shown.proofs.shown.quoted.Given as goal

abbrev pub invariant-loop-tree : goal.invariant-loop-tree
invariant-loop-tree l = l.out ≡ l.initial.out ++ flat_map byte_text (map byte (take l.tree-index l.trees))
