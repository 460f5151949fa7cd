-- Strings and characters (D specification, "Lexical", "String Literals" and "Character Literals"). Token strings hold tokens, and stand in Items.
use Rattle.std.specs.Prelude.{◌≡◌, ◌<◌, ◌+◌, ℕ, Bool, true, false, ◌&&◌, ◌||◌, ◌==◌, if◌then◌else◌, [], ◌∷◌, ◌++◌, ◌⊎◌, length, drop}
use Rattle.std.specs.List.{list_all}
use Rattle.std.specs.Char.{encode_utf8}
use lib.Utf8.{scalar}
use Rattle.dc_token.specs.Balance.{Bytes, Never, Enclosed}
use Rattle.dc_token.specs.Bytes.{is_not_quote}
use Rattle.dc_token.specs.Escapes.{escape}

-- how much of a string's text stands together: an escape, or a byte; 0 at the closing quote and where an escape is none
unfoldable pub unit : ℕ → Bool → Bytes → ℕ
unit quote escapes [] = 0
unit quote escapes (b ∷ t) = if b == quote then 0 else (if escapes && b == 92 then escape t else 1)

pub record Unit_of (f : Bytes → ℕ) (t u : Bytes) : Type 0 where
  pub some : 0 < f t
  pub rest : u ≡ drop (f t) t

-- a string without its suffix
abbrev pub IsBody : Bytes → ℕ → Bool → Bytes → Bytes → Type 0
IsBody opener quote escapes = Enclosed opener (quote ∷ []) Never (Unit_of (unit quote escapes))

-- `c`, and `w` and `d`, which make an outside token
abbrev pub is_suffix_byte : ℕ → Bool
is_suffix_byte b = b == 99 || b == 119 || b == 100

abbrev pub is_suffix : Bytes → Bool
is_suffix [] = true
is_suffix (b ∷ []) = is_suffix_byte b
is_suffix (b ∷ c ∷ w) = false

pub record Suffixed (P : Bytes → Bytes → Type 0) (w rest : Bytes) : Type 0 where
  pub body : Bytes
  pub suffix : Bytes
  pub parts : w ≡ body ++ suffix
  pub is : P body (suffix ++ rest)
  pub ends : is_suffix suffix ≡ true

abbrev pub IsQuoted : Bytes → Bytes → Type 0
IsQuoted = Suffixed (IsBody (34 ∷ []) 34 true)

abbrev pub IsBackquoted : Bytes → Bytes → Type 0
IsBackquoted = Suffixed (IsBody (96 ∷ []) 96 false)

abbrev pub IsRaw : Bytes → Bytes → Type 0
IsRaw = Suffixed (IsBody (114 ∷ 34 ∷ []) 34 false)

-- `q"` and `x"`: a letter, a quote, and all up to the next quote or the end of the text
pub record IsToQuote (letter : ℕ) (w rest : Bytes) : Type 0 where
  pub inside : Bytes
  pub closer : Bytes
  pub parts : w ≡ letter ∷ 34 ∷ (inside ++ closer)
  pub goes : list_all is_not_quote inside ≡ true
  pub closes : (closer ≡ 34 ∷ []) ⊎ ((closer ≡ []) × (rest ≡ []))

-- one character that is neither `'` nor a backslash
pub record IsOneCharacter (inside : Bytes) : Type 0 where
  pub char : ℕ
  pub scalar_value : scalar char ≡ true
  pub apart : (char == 39 || char == 92) ≡ false
  pub parts : inside ≡ encode_utf8 char

-- one whole escape, where rest follows
pub record IsOneEscape (inside rest : Bytes) : Type 0 where
  pub tail : Bytes
  pub parts : inside ≡ 92 ∷ tail
  pub whole : escape (tail ++ rest) ≡ 1 + length tail

-- `'`, one character or escape, and `'`
pub record IsCharacter (w rest : Bytes) : Type 0 where
  pub inside : Bytes
  pub parts : w ≡ 39 ∷ (inside ++ (39 ∷ []))
  pub one : IsOneCharacter inside ⊎ IsOneEscape inside (39 ∷ rest)
