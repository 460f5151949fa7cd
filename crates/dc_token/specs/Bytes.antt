-- Classes of bytes, and forms that several items share.
use Rattle.std.specs.Prelude.{◌≡◌, ℕ, Bool, true, false, not, ◌&&◌, ◌||◌, ◌==◌, nat_le, [], ◌∷◌}
use Rattle.std.specs.List.{list_all}
use Rattle.std.specs.Char.{is_ascii_digit, is_ascii_alphabetic, is_ascii_alphanumeric, is_ascii_hexdigit}
use Rattle.dc_token.specs.Balance.{Bytes}

-- space, and tab, LF, VT, FF, CR
abbrev pub is_blank : ℕ → Bool
is_blank b = b == 32 || (nat_le 9 b && nat_le b 13)

-- a first byte of a name: a letter, `_`, or a byte of a longer character
abbrev pub is_letter : ℕ → Bool
is_letter b = is_ascii_alphabetic b || b == 95 || nat_le 128 b

abbrev pub is_word : ℕ → Bool
is_word b = is_ascii_alphanumeric b || b == 95

abbrev pub is_not_line_feed : ℕ → Bool
is_not_line_feed b = not (b == 10)

abbrev pub is_not_quote : ℕ → Bool
is_not_quote b = not (b == 34)

abbrev pub is_hex : ℕ → Bool
is_hex = is_ascii_hexdigit

abbrev pub is_octal : ℕ → Bool
is_octal b = nat_le 48 b && nat_le b 55

abbrev pub is_binary : ℕ → Bool
is_binary b = b == 48 || b == 49

abbrev pub is_digit_or_bar : ℕ → Bool
is_digit_or_bar b = is_ascii_digit b || b == 95

abbrev pub is_hex_or_bar : ℕ → Bool
is_hex_or_bar b = is_hex b || b == 95

abbrev pub is_binary_or_bar : ℕ → Bool
is_binary_or_bar b = is_binary b || b == 95

-- the two bytes stand at the front
abbrev pub begins : ℕ → ℕ → Bytes → Bool
begins a b [] = false
begins a b (c ∷ []) = false
begins a b (c ∷ d ∷ t) = c == a && d == b

-- a first byte, and more of another class
pub record Run (first more : ℕ → Bool) (w : Bytes) : Type 0 where
  pub head : ℕ
  pub tail : Bytes
  pub parts : w ≡ head ∷ tail
  pub begins : first head ≡ true
  pub goes : list_all more tail ≡ true

-- two bytes, and what follows them
pub record Opened (a b : ℕ) (P : Bytes → Type 0) (w : Bytes) : Type 0 where
  pub tail : Bytes
  pub parts : w ≡ a ∷ b ∷ tail
  pub is : P tail
