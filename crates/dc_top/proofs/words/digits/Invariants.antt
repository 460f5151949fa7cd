use Rattle.std.proofs.Common.{◌≡◌, ◌≤◌, drop}
use Rattle.dc_top.specs.Words.{count_from}
use Rattle.dc_top.proofs.words.digits.Given as goal

abbrev pub invariant-loop-byte : goal.invariant-loop-byte
invariant-loop-byte l = (count_from l.value (drop l.byte-index l.word) ≡ count_from 0 l.word) × (l.value ≤ 1000000000000000000)
