-- Signs (D specification, "Lexical", "Tokens").
use Rattle.std.specs.Prelude.{Bool, ◌||◌, List, [], ◌∷◌, codes}
use Rattle.dc_token.specs.Balance.{Bytes}
use Rattle.dc_token.specs.Vocabulary.{among}

-- the signs that it reads
abbrev pub used_signs : List Bytes
used_signs =
    codes "(" ∷ codes ")" ∷ codes "[" ∷ codes "]" ∷ codes "{" ∷ codes "}" ∷ codes ";" ∷ codes "," ∷ codes "." ∷ codes ".." ∷ codes ":" ∷ codes "$" ∷
    codes "?" ∷ codes "!" ∷ codes "@" ∷ codes "=" ∷ codes "==" ∷ codes "!=" ∷ codes "<" ∷ codes "<=" ∷ codes ">" ∷ codes ">=" ∷ codes "+" ∷ codes "-" ∷
    codes "*" ∷ codes "/" ∷ codes "%" ∷ codes "&" ∷ codes "|" ∷ codes "^" ∷ codes "~" ∷ codes "<<" ∷ codes ">>" ∷ codes ">>>" ∷ codes "&&" ∷ codes "||" ∷
    codes "++" ∷ codes "--" ∷ codes "+=" ∷ codes "-=" ∷ codes "*=" ∷ codes "/=" ∷ codes "%=" ∷ codes "&=" ∷ codes "|=" ∷ codes "^=" ∷ codes "~=" ∷ codes "<<=" ∷
    codes ">>=" ∷ codes ">>>=" ∷ []

-- the signs of D that the compiler leaves out
abbrev pub outside_signs : List Bytes
outside_signs = codes "=>" ∷ codes "^^" ∷ codes "^^=" ∷ codes "..." ∷ []

unfoldable pub is_outside_sign : Bytes → Bool
is_outside_sign w = among outside_signs w

unfoldable pub is_sign : Bytes → Bool
is_sign w = among used_signs w || is_outside_sign w
