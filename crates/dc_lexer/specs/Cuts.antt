-- White space between two items.
use Rattle.std.specs.Prelude.{◌≡◌, ◌<◌, ℕ, ◌+◌, Bool, true, false, not, ◌&&◌, ◌==◌, if◌then◌else◌, List, [], ◌∷◌, ◌++◌, length, take, drop, map}
use Rattle.std.specs.List.{list_all}
use Rattle.dc_token.specs.Balance.{Bytes}
use Rattle.dc_token.specs.Bytes.{is_blank, is_digit_or_bar, is_not_quote}
use Rattle.dc_token.specs.Text.{Piece, Cut, bytes_of, is_token, mark_len, ReadsAs}
use Rattle.dc_token.specs.declared.item.Item.{Item}
use Rattle.dc_token.specs.declared.item.Item.TheVariants as item
use Rattle.dc_token.specs.declared.token.Token.{Token}

-- `q"` or `x"` without a second quote runs to the end of the text, and takes up white space that is added there.
abbrev pub is_unfinished : Item → Bytes → Bool
is_unfinished item.Delimited w = list_all is_not_quote (drop 2 w)
is_unfinished item.HexString w = list_all is_not_quote (drop 2 w)
is_unfinished other w = false

abbrev pub is_point : Bytes → Bool
is_point [] = false
is_point (b ∷ []) = b == 46
is_point (b ∷ c ∷ w) = false

-- A decimal integer without a suffix and a `.` directly behind it, which are one float where white space follows: `1.x` is
-- three tokens, and `1. x` two.
abbrev pub is_float_apart : Piece → Piece → Bool
is_float_apart (item.Decimal, w) q = list_all is_digit_or_bar w && is_point q.1
is_float_apart p q = false

-- White space may be added behind these pieces: they end neither with an unfinished string nor with such a `.`.
abbrev pub has_room : List Piece → Bool
has_room [] = true
has_room (p ∷ []) = not (is_unfinished p.0 p.1)
has_room (p ∷ q ∷ []) = not (is_unfinished q.0 q.1) && not (is_float_apart p q)
has_room (p ∷ q ∷ r ∷ ps) = has_room (q ∷ r ∷ ps)

pub record IsSpace (s : Bytes) : Type 0 where
  pub some : 0 < length s
  pub blank : list_all is_blank s ≡ true

-- the same tokens, so many bytes later
abbrev pub moved : ℕ → List Token → List Token
moved n ts = map (λ t. record { kind = t.kind; spelling = t.spelling; start = t.start + n; end = t.end + n }) ts

-- a text whose front behind a first EF BB BF is cut into pieces, with white space added behind them
abbrev pub with_space : Bytes → List Piece → Bytes → Bytes → Bytes
with_space text ps s u = take (mark_len text) text ++ (bytes_of ps ++ (s ++ u))

-- how many tokens are among pieces
abbrev pub count : List Piece → ℕ
count [] = 0
count (p ∷ ps) = if is_token p.0 then 1 + count ps else count ps

-- White space that is added behind pieces of a text, where there is room for it, leaves the tokens before it as they are
-- and moves those behind it.
abbrev pub SpaceMoves : Type 0
SpaceMoves = (text : Bytes) (ts : List Token) (ps : List Piece) (u s : Bytes) → ReadsAs text ts → Cut (drop (mark_len text) text) ps u → has_room ps ≡ true → IsSpace s
    → ReadsAs (with_space text ps s u) (take (count ps) ts ++ moved (length s) (drop (count ps) ts))

-- Where there is no room, white space that is added doesn't leave the tokens so.
abbrev pub RoomNeeded : Type 0
RoomNeeded = (text : Bytes) (ts : List Token) (ps : List Piece) (u s : Bytes) → ReadsAs text ts → Cut (drop (mark_len text) text) ps u → has_room ps ≡ false → IsSpace s
    → ReadsAs (with_space text ps s u) (take (count ps) ts ++ moved (length s) (drop (count ps) ts)) → ⊥
