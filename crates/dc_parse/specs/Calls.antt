-- What functions that read answer, and function values that read.
use Rattle.std.specs.Prelude.{ℕ, Result}
use Rattle.dc_grammar.specs.declared.miss.Miss.{Miss}
use Rattle.dc_grammar.specs.Terminals.{Tokens}
use Rattle.dc_grammar.specs.Reading.{Reader}
use Rattle.dc_grammar.specs.Gives.{Gives}
use Rattle.dc_parse.specs.Left.{left}

-- what the reader on lists gives at a token, unless memory runs out
abbrev pub Reads : {A : Type 0} → Tokens → Reader A → ℕ → Result (A × ℕ) Miss → Type 0
Reads tokens p at result = Gives (λ x. (x.0, left tokens x.1)) result (p (left tokens at))

-- a function value does so at each token
pub record Calls {A : Type 0} (p : Reader A) (tokens : Tokens) (post : ℕ → Result (A × ℕ) Miss → Type 0) : Type 0 where
  pub reads : (at : ℕ) (r : Result (A × ℕ) Miss) → post at r → Reads tokens p at r
