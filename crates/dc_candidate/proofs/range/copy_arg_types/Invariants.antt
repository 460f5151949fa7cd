use Rattle.std.proofs.Common.{◌≡◌, take}
use Rattle.dc_candidate.proofs.range.copy_arg_types.Given as goal

abbrev pub invariant-loop-source : goal.invariant-loop-source
invariant-loop-source l = l.copy ≡ take l.source-index l.source-items
