-- The tables of the code spell the words and signs of the definition.
use Rattle.std.proofs.Common.{◌≡◌, map, refl}
use Rattle.dc_grammar.specs.Spellings.{words, signs, at_words}
use Rattle.dc_grammar.specs.declared.terminal.TheConstants.{WORDS, SIGNS}
use Rattle.dc_grammar.specs.declared.attribute.TheConstants.{AT_WORDS}

pub words_spelled : map (λ row. (row.0.now, row.1)) WORDS ≡ words
words_spelled = refl

pub signs_spelled : map (λ row. (row.0.now, row.1)) SIGNS ≡ signs
signs_spelled = refl

pub at_words_spelled : map (λ row. (row.0.now, row.1)) AT_WORDS ≡ at_words
at_words_spelled = refl
