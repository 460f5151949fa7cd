use Rattle.std.proofs.Common.{◌≡◌, ◌+◌, drop}
use Rattle.dc_key.specs.KeyReading.{front}
use Rattle.dc_key.specs.KeyTexts.{is_name_byte}
use Rattle.dc_key.proofs.key_scan.name.Given as goal

abbrev pub invariant-loop-at : goal.invariant-loop-at
invariant-loop-at l = l.at + front is_name_byte (drop l.at l.bytes) ≡ front is_name_byte l.bytes
