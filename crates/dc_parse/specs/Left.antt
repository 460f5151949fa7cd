-- The tokens that are left at a number of them.
use Rattle.std.specs.Prelude.{ℕ, drop}
use Rattle.dc_grammar.specs.Terminals.{Tokens}

unfoldable pub left : Tokens → ℕ → Tokens
left tokens at = drop at tokens
