-- Integers and floats (D specification, "Lexical", "Integer Literals" and "Floating Point Literals").
use Rattle.std.specs.Prelude.{◌≡◌, ℕ, Bool, true, false, ◌&&◌, ◌||◌, ◌==◌, nat_le, [], ◌∷◌, ◌++◌, ◌⊎◌, count_by}
use Rattle.std.specs.List.{list_all, list_any}
use Rattle.std.specs.Char.{encode_utf8, is_ascii_digit}
use lib.Utf8.{scalar}
use Rattle.dc_token.specs.Balance.{Bytes}
use Rattle.dc_token.specs.Bytes.{Run, is_digit_or_bar, is_hex, is_hex_or_bar, is_binary, is_binary_or_bar, is_word}
use Rattle.dc_token.specs.Vocabulary.{starts_name}

-- ---- integers

abbrev pub is_long : ℕ → Bool
is_long b = b == 76

abbrev pub is_unsigned : ℕ → Bool
is_unsigned b = b == 117 || b == 85

-- `L`, `u`, `U`, or `L` and one of the others in either order
abbrev pub is_number_suffix : Bytes → Bool
is_number_suffix [] = true
is_number_suffix (b ∷ []) = is_long b || is_unsigned b
is_number_suffix (b ∷ c ∷ []) = (is_long b && is_unsigned c) || (is_unsigned b && is_long c)
is_number_suffix (b ∷ c ∷ d ∷ w) = false

-- a decimal digit, more of them and `_`, and a suffix
pub record IsDecimal (w : Bytes) : Type 0 where
  pub digits : Bytes
  pub suffix : Bytes
  pub parts : w ≡ digits ++ suffix
  pub run : Run is_ascii_digit is_digit_or_bar digits
  pub ends : is_number_suffix suffix ≡ true

-- `0` and a letter, digits of a base and `_` with at least one digit, and a suffix
pub record IsPrefixed (letter : ℕ) (digit digit_or_bar : ℕ → Bool) (w : Bytes) : Type 0 where
  pub digits : Bytes
  pub suffix : Bytes
  pub parts : w ≡ 48 ∷ letter ∷ (digits ++ suffix)
  pub goes : list_all digit_or_bar digits ≡ true
  pub some : list_any digit digits ≡ true
  pub ends : is_number_suffix suffix ≡ true

abbrev pub IsHexadecimal : Bytes → Type 0
IsHexadecimal = IsPrefixed 120 is_hex is_hex_or_bar

abbrev pub IsBinary : Bytes → Type 0
IsBinary = IsPrefixed 98 is_binary is_binary_or_bar

-- ---- floats

-- e, E, f, F
abbrev pub is_exponent : ℕ → Bool
is_exponent b = b == 101 || b == 69 || b == 102 || b == 70

-- p, P
abbrev pub is_power : ℕ → Bool
is_power b = b == 112 || b == 80

-- neither `.` nor the start of a name stands there
pub record EndsPoint (t : Bytes) : Type 0 where
  pub no_point : (u : Bytes) → t ≡ 46 ∷ u → ⊥
  pub no_name : (c : ℕ) (u : Bytes) → scalar c ≡ true → starts_name c ≡ true → t ≡ encode_utf8 c ++ u → ⊥

-- Decimal digits; `e`, `E`, `f`, `F`, or a `.` that is not followed by `.` or the start of a name; and all digits, letters and `_` that follow.
pub record IsFloat (w rest : Bytes) : Type 0 where
  pub digits : Bytes
  pub mark : ℕ
  pub tail : Bytes
  pub parts : w ≡ digits ++ (mark ∷ tail)
  pub run : Run is_ascii_digit is_digit_or_bar digits
  pub marks : (is_exponent mark ≡ true) ⊎ ((mark ≡ 46) × EndsPoint (tail ++ rest))
  pub goes : list_all is_word tail ≡ true

-- `.`, a decimal digit, and all digits, letters and `_` that follow
pub record IsPointFloat (w : Bytes) : Type 0 where
  pub digit : ℕ
  pub tail : Bytes
  pub parts : w ≡ 46 ∷ digit ∷ tail
  pub begins : is_ascii_digit digit ≡ true
  pub goes : list_all is_word tail ≡ true

abbrev pub is_hex_or_point : ℕ → Bool
is_hex_or_point b = is_hex_or_bar b || b == 46

-- hexadecimal digits and `_`, at least one digit among them, with at most one `.` before, among or after them
pub record IsMantissa (digits : Bytes) : Type 0 where
  pub goes : list_all is_hex_or_point digits ≡ true
  pub some : list_any is_hex digits ≡ true
  pub points : nat_le (count_by (λ b. b == 46) digits) 1 ≡ true

-- `0x`, a mantissa, `p` or `P`, and all digits, letters and `_` that follow
pub record IsHexFloat (w : Bytes) : Type 0 where
  pub digits : Bytes
  pub mark : ℕ
  pub tail : Bytes
  pub parts : w ≡ 48 ∷ 120 ∷ (digits ++ (mark ∷ tail))
  pub mantissa : IsMantissa digits
  pub marks : is_power mark ≡ true
  pub goes : list_all is_word tail ≡ true
