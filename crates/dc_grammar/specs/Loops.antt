-- What a loop that reads items has still to give.
use Rattle.std.specs.Prelude.{List, ◌++◌, Some, None}
use Rattle.dc_grammar.specs.Reading.{Outcome}

abbrev pub with_front : {A : Type 0} → List A → Outcome (List A) → Outcome (List A)
with_front found (Some p) = Some (found ++ p.0, p.1)
with_front found None = None
