use Rattle.std.proofs.Common.{◌≡◌, drop}
use Rattle.dc_key.specs.KeyReading.{number_from}
use Rattle.dc_key.proofs.key_scan.number_of.Given as goal

abbrev pub invariant-loop-b : goal.invariant-loop-b
invariant-loop-b l = number_from l.value (drop l.b-index l.digits) ≡ number_from 0 l.digits
