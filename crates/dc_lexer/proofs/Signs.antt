-- The longest sign.
use Rattle.std.proofs.Common.{◌≡◌, ℕ, ◌<◌, ◌≤◌, Bool, true, false, cond, [], ◌∷◌, ◌++◌, length, take, slice_index, refl, arith}
use Rattle.dc_token.specs.Balance.{Bytes}
use Rattle.dc_token.specs.Signs.{is_sign}
use Rattle.dc_lexer.specs.SignBytes.{is_sign_by_bytes, single, double, triple, quadruple, sign_len}
use Rattle.dc_lexer.specs.Fronts.{Longest}
use Rattle.dc_lexer.proofs.SignTable.{double_single, triple_double, quadruple_triple, by_bytes, in_table}

-- what the four tests have to do with a text
abbrev SignOf : Bytes → ℕ → Type 0
SignOf t n = (n ≤ length t) × (0 < n → is_sign_by_bytes (take n t) ≡ true)

four : (b c d e : ℕ) (t : Bytes) (x : Bool) → quadruple b c d e ≡ x → triple b c d ≡ true → SignOf (b ∷ c ∷ d ∷ e ∷ t) (cond x 4 3)
unfolding is_sign_by_bytes
four b c d e t true h g = (omega arith, λ _. h)
four b c d e t false h g = (omega arith, λ _. g)

three : (b c d : ℕ) (t : Bytes) (x : Bool) → triple b c d ≡ x → double b c ≡ true → SignOf (b ∷ c ∷ d ∷ t) (cond x (cond (quadruple b c d (slice_index t 0)) 4 3) 2)
unfolding is_sign_by_bytes
three b c d [] true h g = (omega arith, λ _. h)
three b c d (e ∷ t) true h g = four b c d e t (quadruple b c d e) refl h
three b c d t false h g = (omega arith, λ _. g)

two : (b c : ℕ) (t : Bytes) (x : Bool) → double b c ≡ x → single b ≡ true → SignOf (b ∷ c ∷ t) (cond x (cond (triple b c (slice_index t 0)) (cond (quadruple b c (slice_index t 0) (slice_index t 1)) 4 3) 2) 1)
unfolding is_sign_by_bytes
two b c [] true h g = (omega arith, λ _. h)
two b c (d ∷ t) true h g = three b c d t (triple b c d) refl h
two b c t false h g = (omega arith, λ _. g)

one : (b : ℕ) (t : Bytes) (x : Bool) → single b ≡ x → SignOf (b ∷ t) (cond x (cond (double b (slice_index t 0)) (cond (triple b (slice_index t 0) (slice_index t 1)) (cond (quadruple b (slice_index t 0) (slice_index t 1) (slice_index t 2)) 4 3) 2) 1) 0)
unfolding is_sign_by_bytes
one b [] true h = (omega arith, λ _. h)
one b (c ∷ t) true h = two b c t (double b c) refl h
one b t false h = (omega arith, λ p. absurd (omega arith))

is_one : (t : Bytes) → SignOf t (sign_len t)
unfolding sign_len
is_one [] = (omega arith, λ p. absurd (omega arith))
is_one (b ∷ t) = one b t (single b) refl

at_least : (w u : Bytes) → is_sign_by_bytes w ≡ true → length w ≤ sign_len (w ++ u)
unfolding sign_len is_sign_by_bytes
at_least [] u h = omega arith
at_least (b ∷ []) u h = rw h (go (double b (slice_index u 0)) (triple b (slice_index u 0) (slice_index u 1)) (quadruple b (slice_index u 0) (slice_index u 1) (slice_index u 2)))
  where
    go : (x y z : Bool) → 1 ≤ cond x (cond y (cond z 4 3) 2) 1
    go true true true = omega arith
    go true true false = omega arith
    go true false z = omega arith
    go false y z = omega arith
at_least (b ∷ c ∷ []) u h = rw (double_single b c h, h) (go (triple b c (slice_index u 0)) (quadruple b c (slice_index u 0) (slice_index u 1)))
  where
    go : (y z : Bool) → 2 ≤ cond y (cond z 4 3) 2
    go true true = omega arith
    go true false = omega arith
    go false z = omega arith
at_least (b ∷ c ∷ d ∷ []) u h = let g = triple_double b c d h in rw (double_single b c g, g, h) (go (quadruple b c d (slice_index u 0)))
  where
    go : (z : Bool) → 3 ≤ cond z 4 3
    go true = omega arith
    go false = omega arith
at_least (b ∷ c ∷ d ∷ e ∷ []) u h = let f = quadruple_triple b c d e h in let g = triple_double b c d f in rw (double_single b c g, g, f, h) (omega arith)
at_least (b ∷ c ∷ d ∷ e ∷ f ∷ w) u h = absurd (let k : false ≡ true = h in cc)

pub sign_longest : (t : Bytes) → Longest (λ w u. is_sign w ≡ true) t (sign_len t)
sign_longest t = record { within = (is_one t).0; is = λ some. in_table (take (sign_len t) t) ((is_one t).1 some); longest = λ w u parts h. rw parts (at_least w u (by_bytes w h)) }
