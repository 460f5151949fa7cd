-- A function value that reads texts to a depth, and one that tests what is ahead.
use Rattle.std.specs.Prelude.{◌≡◌, ℕ, Bool, Result}
use Rattle.dc_grammar.specs.declared.miss.Miss.{Miss}
use Rattle.dc_grammar.specs.Terminals.{Tokens}
use Rattle.dc_grammar.specs.Reading.{Reader}
use Rattle.dc_parse.specs.Left.{left}
use Rattle.dc_parse.specs.Calls.{Reads}

-- it gives what the reader on lists gives at this depth
pub record Nests {A : Type 0} (to : ℕ → Reader A) (tokens : Tokens) (depth : ℕ) (pre : ℕ → ℕ → Type 0) (post : ℕ → ℕ → Result (A × ℕ) Miss → Type 0) : Type 0 where
  pub callable : (at : ℕ) → pre at depth
  pub reads : (at : ℕ) (r : Result (A × ℕ) Miss) → post at depth r → Reads tokens (to depth) at r

pub record Tests (test : Tokens → Bool) (tokens : Tokens) (post : ℕ → Bool → Type 0) : Type 0 where
  pub tells : (at : ℕ) (b : Bool) → post at b → b ≡ test (left tokens at)
