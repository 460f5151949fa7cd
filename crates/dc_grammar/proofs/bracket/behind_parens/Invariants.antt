use Rattle.std.proofs.Common.{◌≡◌, ◌+◌, ◌≤◌, length, ℕ}
use Rattle.dc_grammar.specs.Brackets.{behind, behind_parens}
use Rattle.dc_grammar.specs.Terminals.{Tokens}
use Rattle.dc_grammar.proofs.bracket.behind_parens.Given as goal

pub record Searched (depth : ℕ) (rest tokens : Tokens) : Type 0 where
  pub within : depth + length rest ≤ length tokens
  pub same : behind depth rest ≡ behind_parens tokens

abbrev pub invariant-loop-rest : goal.invariant-loop-rest
invariant-loop-rest l = Searched l.depth l.rest l.tokens

abbrev pub decreases-loop-rest : goal.decreases-loop-rest
decreases-loop-rest l = length l.rest
