use Rattle.std.proofs.Common.{◌≡◌, ℕ, List, length}
use Rattle.dc_grammar.specs.Nesting.{IsTable, stack, numbers, beside_large, first_past}
use Rattle.dc_grammar.specs.Terminals.{Tokens}
use Rattle.dc_grammar.specs.declared.terminal.Terminal.{Terminal}
use Rattle.dc_grammar.proofs.levels.first_past.Given as goal

pub record Passed (counts : List ℕ) (top number : ℕ) (before : Terminal) (rest tokens : Tokens) : Type 0 where
  pub table : IsTable counts top number
  pub same : beside_large 256 (numbers before (stack counts top) rest) rest ≡ first_past 256 tokens

abbrev pub invariant-loop-rest : goal.invariant-loop-rest
invariant-loop-rest l = Passed l.levels.counts l.levels.open l.levels.number l.before l.rest l.tokens

abbrev pub decreases-loop-rest : goal.decreases-loop-rest
decreases-loop-rest l = length l.rest
