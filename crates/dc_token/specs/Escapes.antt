-- Escapes in strings and characters (D specification, "Lexical", "Escape Sequences").
use Rattle.std.specs.Prelude.{ℕ, ◌+◌, ◌-◌, ◌*◌, Bool, not, ◌&&◌, ◌||◌, ◌==◌, nat_le, if◌then◌else◌, zero, suc, [], ◌∷◌, ◌++◌, slice_index}
use Rattle.std.specs.Char.{encode_utf8}
use lib.Utf8.{scalar}
use Rattle.dc_token.specs.Balance.{Bytes}
use Rattle.dc_token.specs.Bytes.{is_hex, is_octal}

-- ' " ? \ a b f n r t v, and &, which makes the string or character an outside token
abbrev pub is_simple : ℕ → Bool
is_simple b = b == 39 || b == 34 || b == 63 || b == 92 || b == 97 || b == 98 || b == 102 || b == 110 || b == 114 || b == 116 || b == 118 || b == 38

abbrev pub hex_digit : ℕ → ℕ
hex_digit b = if nat_le b 57 then b - 48 else (if nat_le b 70 then b - 55 else b - 87)

-- four hexadecimal digits from a place on, and their value
unfoldable pub four_hex : Bytes → ℕ → Bool
four_hex t at = is_hex (slice_index t at) && is_hex (slice_index t (at + 1)) && is_hex (slice_index t (at + 2)) && is_hex (slice_index t (at + 3))

unfoldable pub four_value : Bytes → ℕ → ℕ
four_value t at = ((hex_digit (slice_index t at) * 16 + hex_digit (slice_index t (at + 1))) * 16 + hex_digit (slice_index t (at + 2))) * 16 + hex_digit (slice_index t (at + 3))

-- ---- lengths, the backslash counted, where t follows it; 0 where t makes no escape

abbrev pub hex_len : Bytes → ℕ
hex_len t = if is_hex (slice_index t 1) && is_hex (slice_index t 2) then 4 else 0

abbrev pub short_len : Bytes → ℕ
short_len t = if four_hex t 1 && scalar (four_value t 1) then 6 else 0

unfoldable pub long_value : Bytes → ℕ
long_value t = four_value t 1 * 65536 + four_value t 5

abbrev pub long_len : Bytes → ℕ
long_len t = if four_hex t 1 && four_hex t 5 && scalar (long_value t) then 10 else 0

-- up to three octal digits, at most 255
abbrev pub octal_len : Bytes → ℕ
octal_len t = if is_octal (slice_index t 1) then (if is_octal (slice_index t 2) then (if nat_le (slice_index t 0) 51 then 4 else 0) else 3) else 2

unfoldable pub escape : Bytes → ℕ
escape t =
    let b = slice_index t 0 in
    if is_simple b then 2
    else (if b == 120 then hex_len t
    else (if b == 117 then short_len t
    else (if b == 85 then long_len t
    else (if is_octal b then octal_len t
    else 0))))

-- ---- what they write

-- BEL, BS, FF, LF, CR, HT, VT, and a byte for itself
abbrev pub simple_value : ℕ → ℕ
simple_value b =
    if b == 97 then 7
    else (if b == 98 then 8
    else (if b == 102 then 12
    else (if b == 110 then 10
    else (if b == 114 then 13
    else (if b == 116 then 9
    else (if b == 118 then 11
    else b))))))

abbrev pub hex_value : Bytes → ℕ
hex_value t = hex_digit (slice_index t 1) * 16 + hex_digit (slice_index t 2)

abbrev pub octal_value : Bytes → ℕ
octal_value t =
    let a = slice_index t 0 - 48 in let b = slice_index t 1 - 48 in let c = slice_index t 2 - 48 in
    if is_octal (slice_index t 1) then (if is_octal (slice_index t 2) then (a * 8 + b) * 8 + c else a * 8 + b) else a

-- The number of an escape: the byte, or for `\u` and `\U` the character.
unfoldable pub escape_value : Bytes → ℕ
escape_value t =
    let b = slice_index t 0 in
    if is_simple b then simple_value b
    else (if b == 120 then hex_value t
    else (if b == 117 then four_value t 1
    else (if b == 85 then long_value t
    else octal_value t)))

-- `\u` and `\U` write a character in UTF-8, all others a byte
abbrev pub is_character_escape : Bytes → Bool
is_character_escape t = slice_index t 0 == 117 || slice_index t 0 == 85

unfoldable pub escape_bytes : Bytes → Bytes
escape_bytes t = if is_character_escape t then encode_utf8 (escape_value t) else escape_value t ∷ []

-- The bytes that a text with escapes writes. The number counts the bytes of an escape that are still to be passed over.
abbrev pub unescaped : ℕ → Bytes → Bytes
unescaped skip [] = []
unescaped (suc skip) (b ∷ t) = unescaped skip t
unescaped zero (b ∷ t) = if b == 92 && not (escape t == 0) then escape_bytes t ++ unescaped (escape t - 1) t else b ∷ unescaped zero t
