-- What literals stand for, by their spellings (D specification, "Lexical", "Integer Literals", "String Literals" and "Character Literals").
use Rattle.std.specs.Prelude.{ℕ, ◌+◌, ◌-◌, ◌*◌, ◌^◌, Bool, true, false, not, ◌&&◌, ◌||◌, ◌==◌, nat_lt, if◌then◌else◌, Option, Some, None, [], ◌∷◌, length, take, drop, slice_index, option_map}
use Rattle.std.specs.List.{list_any}
use Rattle.std.specs.Char.{is_ascii_digit}
use Rattle.dc_token.specs.Balance.{Bytes}
use Rattle.dc_token.specs.Bytes.{begins, is_hex}
use Rattle.dc_token.specs.Numbers.{is_long, is_unsigned}
use Rattle.dc_token.specs.Strings.{is_suffix_byte}
use Rattle.dc_token.specs.Escapes.{hex_digit, escape, escape_bytes, unescaped}
use Rattle.dc_token.specs.declared.literal_types.Integer.{Integer}
use Rattle.dc_token.specs.declared.literal_types.IntegerType.{IntegerType}
use Rattle.dc_token.specs.declared.literal_types.IntegerType.TheVariants as type_is

-- ---- integers

-- the number, where it is one of 64 bits
abbrev pub fitting : ℕ → Option ℕ
fitting n = if nat_lt n (2 ^ 64) then Some n else None

abbrev pub base_of : Bytes → ℕ
base_of w = if begins 48 120 w then 16 else (if begins 48 98 w then 2 else 10)

abbrev pub digits_of : Bytes → Bytes
digits_of w = if base_of w == 10 then w else drop 2 w

abbrev pub next_value : ℕ → ℕ → ℕ → ℕ
next_value base n b = if is_hex b then n * base + hex_digit b else n

-- the number of the digits in a base, behind a number that was read; `_` and the letters of a suffix count for nothing
abbrev pub value_from : ℕ → ℕ → Bytes → ℕ
value_from base n [] = n
value_from base n (b ∷ w) = value_from base (next_value base n b) w

unfoldable pub integer_value : Bytes → ℕ
integer_value w = value_from (base_of w) 0 (digits_of w)

-- the table of types: decimal or not, with L, with U
abbrev pub integer_type : Bool → Bool → Bool → ℕ → Option IntegerType
integer_type decimal true true n = if nat_lt n (2 ^ 64) then Some type_is.UnsignedLong else None
integer_type decimal false true n = if nat_lt n (2 ^ 32) then Some type_is.UnsignedInt else (if nat_lt n (2 ^ 64) then Some type_is.UnsignedLong else None)
integer_type true true false n = if nat_lt n (2 ^ 63) then Some type_is.Long else None
integer_type false true false n = if nat_lt n (2 ^ 63) then Some type_is.Long else (if nat_lt n (2 ^ 64) then Some type_is.UnsignedLong else None)
integer_type true false false n = if nat_lt n (2 ^ 31) then Some type_is.Int else (if nat_lt n (2 ^ 63) then Some type_is.Long else None)
integer_type false false false n =
    if nat_lt n (2 ^ 31) then Some type_is.Int
    else (if nat_lt n (2 ^ 32) then Some type_is.UnsignedInt
    else (if nat_lt n (2 ^ 63) then Some type_is.Long
    else (if nat_lt n (2 ^ 64) then Some type_is.UnsignedLong
    else None)))

-- a decimal of more than one digit that begins with 0
abbrev pub leading_zero : Bytes → Bool
leading_zero [] = false
leading_zero (b ∷ w) = b == 48 && list_any is_ascii_digit w

abbrev pub needless_zero : Bytes → Bool
needless_zero w = base_of w == 10 && leading_zero w

-- the number and type of an integer; none where the table refuses it, or a needless 0 begins it
unfoldable pub integer_of : Bytes → Option Integer
integer_of w =
    if needless_zero w then None
    else option_map (λ t. record { value = integer_value w; integer_type = t }) (integer_type (base_of w == 10) (list_any is_long w) (list_any is_unsigned w) (integer_value w))

-- ---- strings

abbrev pub last_byte : Bytes → ℕ
last_byte w = slice_index w (length w - 1)

abbrev pub opener_len : Bytes → ℕ
opener_len w = if begins 113 123 w || begins 114 34 w then 2 else 1

abbrev pub closer_len : Bytes → ℕ
closer_len w = if is_suffix_byte (last_byte w) then 2 else 1

-- what stands between the opener and the closer
abbrev pub inside_of : Bytes → Bytes
inside_of w = take (length w - opener_len w - closer_len w) (drop (opener_len w) w)

-- the bytes of a string: where `"` begins it, with the escapes done
unfoldable pub string_value : Bytes → Bytes
string_value w = if slice_index w 0 == 34 then unescaped 0 (inside_of w) else inside_of w

-- an escape that begins with a backslash and `&` stands in the text
abbrev pub holds_entity : Bytes → Bool
holds_entity [] = false
holds_entity (b ∷ []) = false
holds_entity (b ∷ c ∷ w) = if b == 92 then c == 38 || holds_entity w else holds_entity (c ∷ w)

-- ---- characters

-- an escape behind a backslash that writes one byte, as no `&` escape does
abbrev pub writes_one_byte : Bytes → Bool
writes_one_byte t = not (escape t == 0) && not (slice_index t 0 == 38) && length (escape_bytes t) == 1

-- the byte of a character, where it has one
unfoldable pub character_of : Bytes → Option ℕ
character_of w =
    if slice_index w 1 == 92 then (if writes_one_byte (drop 2 w) then Some (slice_index (escape_bytes (drop 2 w)) 0) else None)
    else (if nat_lt (slice_index w 1) 128 then Some (slice_index w 1) else None)
