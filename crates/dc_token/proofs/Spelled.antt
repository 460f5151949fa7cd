-- The tables of the code spell the words and signs of the definition.
use Rattle.std.proofs.Common.{◌≡◌, map, refl}
use Rattle.dc_token.specs.Vocabulary.{used_words, outside_words}
use Rattle.dc_token.specs.Signs.{outside_signs}
use Rattle.dc_token.specs.declared.vocabulary.TheConstants.{USED, OUTSIDE, OUTSIDE_SIGNS}

pub used_spelled : map (λ x. x.now) USED ≡ used_words
used_spelled = refl

pub outside_spelled : map (λ x. x.now) OUTSIDE ≡ outside_words
outside_spelled = refl

pub signs_spelled : map (λ x. x.now) OUTSIDE_SIGNS ≡ outside_signs
signs_spelled = refl
