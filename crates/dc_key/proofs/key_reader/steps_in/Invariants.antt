use Rattle.std.proofs.Common.{◌≡◌, ◌-◌, length}
use Rattle.dc_key.specs.KeyReading.{turns, has_step, next_step, steps_in}
use Rattle.dc_key.proofs.key_reader.steps_in.Given as goal

abbrev pub invariant-loop : goal.invariant-loop
invariant-loop l = turns has_step next_step (length l.initial.from - l.counter) (l.steps, l.from) ≡ steps_in l.initial.from
