use Rattle.std.proofs.Common.{◌≡◌, ◌-◌, length}
use Rattle.dc_key.specs.KeyReading.{turns, has_arg, next_arg, args_in}
use Rattle.dc_key.proofs.key_reader.args_in.Given as goal

abbrev pub invariant-loop : goal.invariant-loop
invariant-loop l = turns has_arg next_arg (length l.initial.from - l.counter) (l.args, l.from) ≡ args_in l.initial.from
