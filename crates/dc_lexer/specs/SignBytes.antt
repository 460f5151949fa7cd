-- Signs byte by byte.
use Rattle.std.specs.Prelude.{ℕ, Bool, false, ◌&&◌, ◌||◌, if◌then◌else◌, ◌==◌, List, [], ◌∷◌, slice_index}
use Rattle.std.specs.List.{list_any}
use Rattle.dc_token.specs.Balance.{Bytes}

abbrev pub singles : List ℕ
singles = 40 ∷ 41 ∷ 91 ∷ 93 ∷ 123 ∷ 125 ∷ 59 ∷ 44 ∷ 46 ∷ 58 ∷ 36 ∷ 63 ∷ 33 ∷ 64 ∷ 61 ∷ 60 ∷ 62 ∷ 43 ∷ 45 ∷ 42 ∷ 47 ∷ 37 ∷ 38 ∷ 124 ∷ 94 ∷ 126 ∷ []

abbrev pub single : ℕ → Bool
single b = list_any (λ k. b == k) singles

-- those that `=` makes a longer sign
abbrev pub before_equals : List ℕ
before_equals = 61 ∷ 33 ∷ 60 ∷ 62 ∷ 43 ∷ 45 ∷ 42 ∷ 47 ∷ 37 ∷ 38 ∷ 124 ∷ 94 ∷ 126 ∷ []

abbrev pub takes_equals : ℕ → Bool
takes_equals b = list_any (λ k. b == k) before_equals

-- those that are longer signs when they stand twice
abbrev pub doubled : List ℕ
doubled = 46 ∷ 60 ∷ 62 ∷ 38 ∷ 124 ∷ 43 ∷ 45 ∷ 94 ∷ []

abbrev pub doubles : ℕ → Bool
doubles b = list_any (λ k. b == k) doubled

abbrev pub double : ℕ → ℕ → Bool
double b c = (c == 61 && takes_equals b) || (c == 62 && b == 61) || (doubles c && c == b)

-- `...`, `>>>`, and `<<=`, `>>=`, `^^=`
abbrev pub triple : ℕ → ℕ → ℕ → Bool
triple b c d = ((d == 46 || d == 62) && c == d && b == d) || (d == 61 && c == b && (b == 60 || b == 62 || b == 94))

-- `>>>=`
abbrev pub quadruple : ℕ → ℕ → ℕ → ℕ → Bool
quadruple b c d e = e == 61 && b == 62 && c == 62 && d == 62

-- the same signs as the table
unfoldable pub is_sign_by_bytes : Bytes → Bool
is_sign_by_bytes [] = false
is_sign_by_bytes (b ∷ []) = single b
is_sign_by_bytes (b ∷ c ∷ []) = double b c
is_sign_by_bytes (b ∷ c ∷ d ∷ []) = triple b c d
is_sign_by_bytes (b ∷ c ∷ d ∷ e ∷ []) = quadruple b c d e
is_sign_by_bytes (b ∷ c ∷ d ∷ e ∷ f ∷ w) = false

unfoldable pub sign_len : Bytes → ℕ
sign_len t =
    if single (slice_index t 0)
    then (if double (slice_index t 0) (slice_index t 1)
    then (if triple (slice_index t 0) (slice_index t 1) (slice_index t 2)
    then (if quadruple (slice_index t 0) (slice_index t 1) (slice_index t 2) (slice_index t 3) then 4 else 3)
    else 2)
    else 1)
    else 0
