use Rattle.std.proofs.Common.{◌≡◌, length}
use Rattle.dc_token.specs.Literals.{holds_entity}
use Rattle.dc_token.proofs.literal.holds_entity.Given as goal

abbrev pub invariant-loop-rest : goal.invariant-loop-rest
invariant-loop-rest l = holds_entity l.rest ≡ holds_entity l.spelling

abbrev pub decreases-loop-rest : goal.decreases-loop-rest
decreases-loop-rest l = length l.rest
