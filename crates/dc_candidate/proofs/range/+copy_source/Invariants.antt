use Rattle.std.proofs.Common.{◌≡◌, take}
use Rattle.dc_candidate.proofs.range.+copy_source.Given as goal

abbrev pub invariant-copy_sources-loop-source : goal.invariant-copy_sources-loop-source
invariant-copy_sources-loop-source l = l.copy ≡ take l.source-index l.source-items
