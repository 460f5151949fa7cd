use Rattle.std.proofs.Common.{◌+◌, ◌*◌}
use Rattle.dc_key.proofs.key_reader.+type_in.Given as goal

abbrev pub decreases-leaf_in : goal.decreases-leaf_in
decreases-leaf_in l = 2 * l.depth + 1

abbrev pub decreases-type_in : goal.decreases-type_in
decreases-type_in l = 2 * l.depth
