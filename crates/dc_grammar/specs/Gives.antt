-- What a function that reads ensures.
use Rattle.std.specs.Prelude.{◌≡◌, Some, None, Result, Ok, Err}
use Rattle.dc_grammar.specs.declared.miss.Miss.{Miss}
use Rattle.dc_grammar.specs.declared.miss.Miss.TheVariants as miss
use Rattle.dc_grammar.specs.Terminals.{Tokens}
use Rattle.dc_grammar.specs.Reading.{Outcome}

-- it gives what the reader on lists gives, unless memory runs out
abbrev pub Gives : {X A : Type 0} → (X → A × Tokens) → Result X Miss → Outcome A → Type 0
Gives view (Ok x) read = read ≡ Some (view x)
Gives view (Err miss.Memory) read = Unit {0}
Gives view (Err miss.Nothing) read = read ≡ None
