use Rattle.std.proofs.Common.{◌≡◌, length}
use Rattle.dc_grammar.specs.Nesting.{first_outside}
use Rattle.dc_grammar.proofs.levels.first_outside.Given as goal

abbrev pub invariant-loop-rest : goal.invariant-loop-rest
invariant-loop-rest l = first_outside l.rest ≡ first_outside l.tokens

abbrev pub decreases-loop-rest : goal.decreases-loop-rest
decreases-loop-rest l = length l.rest
