-- The word of a number that was computed, or the trap that it met.
use Rattle.std.specs.Prelude.{ℕ, ℤ, Result, Ok, Err}
use Rattle.dc_types.specs.declared.event.TrapKind.{TrapKind}
use Rattle.dc_code.specs.Numbers.{word_of}

abbrev pub option_word : Result ℤ TrapKind → Result ℕ TrapKind
option_word (Ok z) = Ok (word_of z)
option_word (Err trap) = Err trap
