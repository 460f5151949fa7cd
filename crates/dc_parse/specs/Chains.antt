-- What a chain of branches is, once no further branch is read.
use Rattle.std.specs.Prelude.{Bool, true, List, [], ◌∷◌, Option, Some, None}
use Rattle.dc_grammar.specs.Terminals.{Tokens}
use Rattle.dc_grammar.specs.Reading.{Outcome}

-- the branches that were read up to a place, if there are any
abbrev pub ended : {B L : Type 0} → List B → Tokens → Outcome (Bool × (List B × Option L))
ended [] back = None
ended (b ∷ bs) back = Some ((true, (b ∷ bs, None)), back)

-- those branches and what is done else, where that was read
abbrev pub closing : {B L : Type 0} → List B → Tokens → Outcome (Bool × L) → Outcome (Bool × (List B × Option L))
closing found back (Some v) = Some ((v.0.0, (found, Some v.0.1)), v.1)
closing found back None = Some ((true, (found, None)), back)
