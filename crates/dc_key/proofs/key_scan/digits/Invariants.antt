use Rattle.std.proofs.Common.{◌≡◌, ◌+◌, drop}
use Rattle.dc_key.specs.KeyReading.{front}
use Rattle.dc_key.specs.KeyReading.{is_digit}
use Rattle.dc_key.proofs.key_scan.digits.Given as goal

abbrev pub invariant-loop-at : goal.invariant-loop-at
invariant-loop-at l = l.at + front is_digit (drop l.at l.bytes) ≡ front is_digit l.bytes
