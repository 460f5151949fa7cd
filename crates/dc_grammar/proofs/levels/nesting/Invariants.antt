use Rattle.std.proofs.Common.{◌≡◌, ℕ, List, length, max, ◌≤◌}
use Rattle.dc_grammar.specs.Nesting.{IsTable, stack, numbers, greatest, nesting}
use Rattle.dc_grammar.specs.Terminals.{Tokens}
use Rattle.dc_grammar.specs.declared.terminal.Terminal.{Terminal}
use Rattle.dc_grammar.proofs.levels.nesting.Given as goal

pub record Counted (counts : List ℕ) (top number most : ℕ) (before : Terminal) (rest tokens : Tokens) : Type 0 where
  pub table : IsTable counts top number
  pub small : most ≤ 256
  pub same : max most (greatest (numbers before (stack counts top) rest)) ≡ nesting tokens

abbrev pub invariant-loop-rest : goal.invariant-loop-rest
invariant-loop-rest l = Counted l.levels.counts l.levels.open l.levels.number l.most l.before l.rest l.tokens

abbrev pub decreases-loop-rest : goal.decreases-loop-rest
decreases-loop-rest l = length l.rest
