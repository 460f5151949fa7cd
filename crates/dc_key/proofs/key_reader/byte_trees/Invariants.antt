use Rattle.std.proofs.Common.{◌≡◌, map, take}
use Rattle.dc_key.specs.KeyReading.{byte_tree}
use Rattle.dc_key.proofs.key_reader.byte_trees.Given as goal

abbrev pub invariant-loop-b : goal.invariant-loop-b
invariant-loop-b l = l.trees ≡ map byte_tree (take l.b-index l.bytes)
