use Rattle.std.proofs.Common.{◌≡◌, ◌≤◌, drop}
use Rattle.dc_top.specs.Names.{behind_last}
use Rattle.dc_top.proofs.LastByte.{last_of}
use Rattle.dc_top.proofs.names.behind_last.Given as goal

abbrev pub invariant-loop-at : goal.invariant-loop-at
invariant-loop-at l = (behind_last l.mark l.bytes ≡ last_of l.mark (drop l.from l.bytes) (drop l.at l.bytes)) × (l.from ≤ l.at)
