use Rattle.std.proofs.Common.{length, ◌-◌, ◌≡◌, ◌++◌, drop}
use Rattle.dc_token.specs.Escapes.{unescaped}
use Rattle.dc_token.proofs.literal.unescaped.Given as goal

abbrev pub invariant-loop-at : goal.invariant-loop-at
invariant-loop-at l = unescaped 0 l.z ≡ l.bytes.items ++ unescaped 0 (drop l.at l.z)

abbrev pub decreases-loop-at : goal.decreases-loop-at
decreases-loop-at l = length l.z - l.at
