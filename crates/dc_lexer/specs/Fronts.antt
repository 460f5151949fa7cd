-- The longest item of each kind at the front of a text, as a number of bytes; 0 where none begins.
use Rattle.std.specs.Prelude.{◌≡◌, ◌≤◌, ℕ, ◌+◌, ◌-◌, Bool, true, ◌&&◌, ◌||◌, if◌then◌else◌, ◌==◌, [], ◌∷◌, ◌++◌, ◌<◌, ◌⊎◌, length, take, drop, slice_index}
use Rattle.std.specs.List.{prefix_len}
use Rattle.std.specs.Char.{encode_utf8}
use lib.Utf8.{scalar}
use Rattle.dc_token.specs.Balance.{Bytes}
use Rattle.dc_token.specs.Bytes.{is_blank, is_word, is_digit_or_bar, is_hex_or_bar, is_binary_or_bar, is_not_line_feed, is_not_quote}
use Rattle.dc_token.specs.Numbers.{is_long, is_unsigned, is_exponent, is_power, is_hex_or_point, EndsPoint, IsMantissa}
use Rattle.dc_token.specs.Strings.{is_suffix_byte, IsOneCharacter, IsOneEscape}
use Rattle.dc_token.specs.Items.{IsItem, Next, allows}
use Rattle.dc_token.specs.declared.item.Item.{Item}
use Rattle.dc_lexer.specs.declared.set.Set.{Set}
use Rattle.dc_lexer.specs.declared.set.Set.TheVariants as set

-- how many bytes the longest item of one kind takes at the front of t; 0 where none begins
pub record Longest (P : Bytes → Bytes → Type 0) (t : Bytes) (n : ℕ) : Type 0 where
  pub within : n ≤ length t
  pub is : 0 < n → P (take n t) (drop n t)
  pub longest : (w u : Bytes) → t ≡ w ++ u → P w u → length w ≤ n

-- the same where all items of the kind at the front have one length
pub record Exact (P : Bytes → Bytes → Type 0) (t : Bytes) (n : ℕ) : Type 0 where
  pub within : n ≤ length t
  pub is : 0 < n → P (take n t) (drop n t)
  pub exact : (w u : Bytes) → t ≡ w ++ u → P w u → (0 < n) × (length w ≡ n)

-- every item at the front of t is of this kind, or shorter than n
abbrev pub Bounded : (Item → Bytes → Bytes → Type 0) → Bytes → Item → ℕ → Type 0
Bounded P t kind n = (other : Item) (w u : Bytes) → t ≡ w ++ u → IsItem P other w u → (other ≡ kind) ⊎ (length w < n)

-- the kind and the length of the longest item, be it readable or not; the length is 0 where none begins
pub record Best (P : Item → Bytes → Bytes → Type 0) (t : Bytes) (found : Item × ℕ) : Type 0 where
  pub longest : Longest (P found.0) t found.1
  pub allowed : allows t found.0 ≡ true
  pub bounded : Bounded P t found.0 found.1

-- the kind and the length of the next item; the length is 0 where no item begins
pub record Found (P : Item → Bytes → Bytes → Type 0) (t : Bytes) (found : Item × ℕ) : Type 0 where
  pub within : found.1 ≤ length t
  pub next : 0 < found.1 → Next P t found.0 (take found.1 t) (drop found.1 t)
  pub sole : 0 < found.1 → (kind : Item) (w rest : Bytes) → Next P t kind w rest → kind ≡ found.0
  pub none : found.1 ≡ 0 → (kind : Item) (w rest : Bytes) → Next P t kind w rest → ⊥

-- ---- runs

abbrev pub run : (ℕ → Bool) → (ℕ → Bool) → Bytes → ℕ
run first more [] = 0
run first more (b ∷ t) = if first b then 1 + prefix_len more t else 0

abbrev pub is_in : Set → ℕ → Bool
is_in set.Blank = is_blank
is_in set.Word = is_word
is_in set.DigitOrBar = is_digit_or_bar
is_in set.HexOrBar = is_hex_or_bar
is_in set.HexOrPoint = is_hex_or_point
is_in set.BinaryOrBar = is_binary_or_bar
is_in set.NotLineFeed = is_not_line_feed
is_in set.NotQuote = is_not_quote

-- the first place from `at` on whose byte is not of the set
abbrev pub past : Set → Bytes → ℕ → ℕ
past s z at = at + prefix_len (is_in s) (drop at z)

-- The character at the front of t passes the test and takes n bytes; or n is 0, and none that passes stands there.
pub record PassesFor (test : ℕ → Bool) (t : Bytes) (n : ℕ) : Type 0 where
  pub found : 0 < n → (c : ℕ) × (scalar c ≡ true) × (test c ≡ true) × (t ≡ encode_utf8 c ++ drop n t) × (length (encode_utf8 c) ≡ n)
  pub none : n ≡ 0 → (c : ℕ) (u : Bytes) → scalar c ≡ true → test c ≡ true → t ≡ encode_utf8 c ++ u → ⊥

-- ---- suffixes

-- the place after a suffix, if one follows
abbrev pub suffixed : Bytes → ℕ → ℕ
suffixed t end = if end == 0 then 0 else (if is_suffix_byte (slice_index t end) then end + 1 else end)

-- the length of the suffix of an integer
unfoldable pub number_suffix : Bytes → ℕ
number_suffix t =
    let b = slice_index t 0 in let c = slice_index t 1 in
    if (is_long b && is_unsigned c) || (is_unsigned b && is_long c) then 2 else (if is_long b || is_unsigned b then 1 else 0)

-- ---- floats

-- behind the first digits a float goes on
pub record IsMark (t : Bytes) (end : ℕ) : Type 0 where
  pub within : end < length t
  pub marks : (is_exponent (slice_index t end) ≡ true) ⊎ ((slice_index t end ≡ 46) × EndsPoint (drop (end + 1) t))

-- behind `0x` a mantissa ends, and `p` or `P` follows
pub record IsPowerMark (t : Bytes) (end : ℕ) : Type 0 where
  pub from : 2 ≤ end
  pub within : end < length t
  pub mantissa : IsMantissa (take (end - 2) (drop 2 t))
  pub marks : is_power (slice_index t end) ≡ true

-- ---- characters

-- an escape, or a character that is neither `'` nor a backslash, takes n bytes at the front of t; or n is 0, and none stands there
pub record CharacterBody (t : Bytes) (n : ℕ) : Type 0 where
  pub within : n ≤ length t
  pub found : 0 < n → IsOneCharacter (take n t) ⊎ IsOneEscape (take n t) (drop n t)
  pub only : (w u : Bytes) → t ≡ w ++ u → IsOneCharacter w ⊎ IsOneEscape w u → (0 < n) × (length w ≡ n)
