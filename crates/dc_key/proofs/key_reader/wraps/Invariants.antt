use Rattle.std.proofs.Common.{◌≡◌, ◌-◌, length}
use Rattle.dc_key.specs.KeyReading.{turns, has_wrap, next_wrap, wraps}
use Rattle.dc_key.proofs.key_reader.wraps.Given as goal

abbrev pub invariant-loop : goal.invariant-loop
invariant-loop l = turns has_wrap next_wrap (length l.initial.from - l.counter) (l.ty, l.from) ≡ wraps (l.initial.ty, l.initial.from)
