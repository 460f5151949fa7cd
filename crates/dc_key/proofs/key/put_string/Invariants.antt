use Rattle.std.proofs.Common.{◌≡◌, ◌++◌, take, map}
use Rattle.dc_key.specs.KeyTexts.{byte}
use Rattle.dc_key.proofs.key.put_string.Given as goal

abbrev pub invariant-loop-tree : goal.invariant-loop-tree
invariant-loop-tree l = l.out ≡ l.initial.out ++ map byte (take l.tree-index l.bytes)
