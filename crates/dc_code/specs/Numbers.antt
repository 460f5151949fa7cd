-- Words of 64 bits as numbers.
use Rattle.std.specs.Prelude.{ℕ, ◌%◌, ◌^◌, Bool, List, [], ◌∷◌, ◌++◌, ℤ, pos, if◌then◌else◌, codes}
use Rattle.std.specs.Fmt.{signed_decimal}
use Rattle.std.specs.Ordering.{int_eq}
use Rattle.dc_types.specs.declared.kind.Kind.{Kind}
use Rattle.dc_types.specs.declared.kind.Kind.TheVariants as kind
use Rattle.dc_types.specs.Integers.{wrap, residue}

-- what a word is as a number of a kind
abbrev pub number_of : Kind → ℕ → ℤ
number_of k w = wrap k (pos w)

-- A number is stored modulo 2 ^ 64.
abbrev pub word_of : ℤ → ℕ
word_of z = residue 64 z

abbrev pub bit_of : Bool → ℕ
bit_of b = if b then 1 else 0

-- a word as a byte
abbrev pub byte_of : ℕ → ℕ
byte_of w = w % 2 ^ 8

-- what a word prints as a number of a kind: `bool` as a word, `char` as its byte, and all else in decimal
abbrev pub text_of : Kind → ℕ → List ℕ
text_of kind.Bool w = if int_eq (number_of kind.Bool w) (pos 0) then codes "false" else codes "true"
text_of kind.Char w = byte_of w ∷ []
text_of k w = signed_decimal (number_of k w)

-- the words behind the first, each after a comma
abbrev pub more_texts : Kind → List ℕ → List ℕ
more_texts k [] = []
more_texts k (w ∷ ws) = codes ", " ++ (text_of k w ++ more_texts k ws)

abbrev pub texts_of : Kind → List ℕ → List ℕ
texts_of k [] = []
texts_of k (w ∷ ws) = text_of k w ++ more_texts k ws

-- what a list of words prints, as `[1, 2]`
abbrev pub list_text : Kind → List ℕ → List ℕ
list_text k ws = codes "[" ++ (texts_of k ws ++ codes "]")
