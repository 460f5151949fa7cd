use Rattle.std.proofs.Common.{◌≡◌, length, map}
use Rattle.dc_token.specs.Vocabulary.{among}
use Rattle.dc_token.proofs.words.is_among.Given as goal

abbrev pub invariant-loop-table : goal.invariant-loop-table
invariant-loop-table l = among (map (λ x. x.now) l.table) l.word ≡ among (map (λ x. x.now) l.initial.table) l.word

abbrev pub decreases-loop-table : goal.decreases-loop-table
decreases-loop-table l = length l.table
