use Rattle.std.proofs.Common.{◌≡◌, ◌+◌, ◌≤◌, drop}
use Rattle.dc_key.specs.KeyReading.{key_len, outside}
use Rattle.dc_key.proofs.key_scan.key_len.Given as goal

abbrev pub invariant-loop-at : goal.invariant-loop-at
invariant-loop-at l = (l.at + key_len l.scan (drop l.at l.bytes) ≡ key_len (outside 0) l.bytes) × (l.scan.depth ≤ l.at)
