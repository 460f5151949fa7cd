-- Decimals are read as the numbers that they are.
use Rattle.std.proofs.Common.{◌≡◌, ◌∙◌, refl, sym, ap, ℕ, suc, ◌+◌, ◌-◌, ◌*◌, ◌/◌, ◌%◌, ◌^◌, ◌<◌, ◌≤◌, Bool, true, false, ◌&&◌, ◌==◌, ◌⊎◌, inl, inr, lit≤, true≢false, lt_of_lt_of_le, [], ◌∷◌, ◌++◌, length, take, drop, arith, if◌then◌else◌, nat_le, nat_lt, ℤ, pos, negsuc}
use Rattle.std.specs.List.{list_all}
use Rattle.std.specs.Fmt.{decimal, signed_decimal}
use Rattle.std.proofs.lemmas.Fmt.{decimal_by_steps_wide}
use Rattle.std.proofs.lemmas.Bool.{le-leb, leb-true, ltb-true, ne_eqb}
use Rattle.std.proofs.Math.Nat.{mod-eq_of_lt}
use Rattle.dc_key.specs.KeyTexts.{Bytes, number_fits}
use Rattle.dc_key.specs.KeyReading.{first, front, is_digit, wrapped, number_from, number, plus, minus, signed}

pub both : (x y : Bool) → x && y ≡ true → (x ≡ true) × (y ≡ true)
both true true e = (refl, refl)
both true false e = cc
both false y e = cc

pub together : (x y : Bool) → x ≡ true → y ≡ true → x && y ≡ true
together true true a b = refl
together true false a b = cc
together false y a b = cc

-- ---- what stands at the front

-- the bytes pass, and what follows begins with none that does
pub front_all : (p : ℕ → Bool) (w rest : Bytes) → list_all p w ≡ true → p (first rest) ≡ false → front p (w ++ rest) ≡ length w
front_all p [] [] all ends = refl
front_all p [] (b ∷ rest) all ends = ap (λ x. if x then suc (front p rest) else 0) ends
front_all p (b ∷ w) rest all ends =
    let h = both (p b) (list_all p w) all in
    ap (λ x. if x then suc (front p (w ++ rest)) else 0) h.0 ∙ ap suc (front_all p w rest h.1 ends)

pub take_front : (w rest : Bytes) → take (length w) (w ++ rest) ≡ w
take_front [] rest = refl
take_front (b ∷ w) rest = ap (λ l. b ∷ l) (take_front w rest)

pub drop_front : (w rest : Bytes) → drop (length w) (w ++ rest) ≡ rest
drop_front [] rest = refl
drop_front (b ∷ w) rest = drop_front w rest

all_push : (p : ℕ → Bool) (w : Bytes) (b : ℕ) → list_all p w ≡ true → p b ≡ true → list_all p (w ++ b ∷ []) ≡ true
all_push p [] b all h = together (p b) true h refl
all_push p (c ∷ w) b all h = let a = both (p c) (list_all p w) all in together (p c) (list_all p (w ++ b ∷ [])) a.0 (all_push p w b a.1 h)

-- ---- numbers

from_push : (v : ℕ) (w : Bytes) (b : ℕ) → number_from v (w ++ b ∷ []) ≡ wrapped (number_from v w) b
from_push v [] b = refl
from_push v (c ∷ w) b = from_push (wrapped v c) w b

digit_of : (d : ℕ) → d < 10 → is_digit (48 + d) ≡ true
unfolding is_digit
digit_of d h = together (nat_le 48 (48 + d)) (nat_le (48 + d) 57) (le-leb 48 (48 + d) (omega arith)) (le-leb (48 + d) 57 (omega arith))

record Decimal (n : ℕ) (ds : Bytes) : Type 0 where
  all : list_all is_digit ds ≡ true
  starts : is_digit (first ds) ≡ true
  value : n < 2 ^ 128 → number_from 0 ds ≡ n

one_digit : (n : ℕ) → n < 10 → Decimal n ((48 + n) ∷ [])
one_digit n h = record {
  all = together (is_digit (48 + n)) true (digit_of n h) refl;
  starts = digit_of n h;
  value = λ small. let e : 0 * 10 + (48 + n - 48) ≡ n = omega arith in ap (λ x. x % 2 ^ 128) e ∙ mod-eq_of_lt small;
}

first_push : (ds : Bytes) (b : ℕ) → is_digit (first ds) ≡ true → is_digit (first (ds ++ b ∷ [])) ≡ true
unfolding is_digit
first_push [] b h = cc
first_push (d ∷ ds) b h = h

more_digits : (n : ℕ) (ds : Bytes) → 10 ≤ n → Decimal (n / 10) ds → Decimal n (ds ++ ((48 + n % 10) ∷ []))
more_digits n ds h d = record {
  all = all_push is_digit ds (48 + n % 10) d.all (digit_of (n % 10) (omega arith));
  starts = first_push ds (48 + n % 10) d.starts;
  value = λ small. from_push 0 ds (48 + n % 10) ∙ ap (λ v. wrapped v (48 + n % 10)) (d.value (omega arith)) ∙ (let e : n / 10 * 10 + (48 + n % 10 - 48) ≡ n = omega arith in ap (λ x. x % 2 ^ 128) e ∙ mod-eq_of_lt small);
}

decimal_reads : (n : ℕ) → n < 10 ^ 64 → Decimal n (decimal n)
decimal_reads n h = decimal_by_steps_wide Decimal one_digit more_digits n h

pub decimal_all : (n : ℕ) → n < 10 ^ 64 → list_all is_digit (decimal n) ≡ true
decimal_all n h = (decimal_reads n h).all

pub decimal_starts : (n : ℕ) → n < 10 ^ 64 → is_digit (first (decimal n)) ≡ true
decimal_starts n h = (decimal_reads n h).starts

big : (n : ℕ) → n < 2 ^ 128 → n < 10 ^ 64
big n h = lt_of_lt_of_le h (lit≤ tt)

-- a decimal is read, up to what is no digit
pub number_reads : (n : ℕ) (rest : Bytes) → n < 2 ^ 128 → is_digit (first rest) ≡ false → ◌≡◌ {A = ℕ × Bytes} (number (decimal n ++ rest)) (n, rest)
number_reads n rest h ends =
    let d = decimal_reads n (big n h) in
    let len = front_all is_digit (decimal n) rest d.all ends in
    let cut : ℕ → ℕ × Bytes = λ m. (number_from 0 (take m (decimal n ++ rest)), drop m (decimal n ++ rest)) in
    let with_rest : Bytes → ℕ × Bytes = λ r. (number_from 0 (take (length (decimal n)) (decimal n ++ rest)), r) in
    let with_value : Bytes → ℕ × Bytes = λ w. (number_from 0 w, rest) in
    let of : ℕ → ℕ × Bytes = λ v. (v, rest) in
    ap cut len ∙ ap with_rest (drop_front (decimal n) rest) ∙ ap with_value (take_front (decimal n) rest) ∙ ap of (d.value h)

-- the first byte of a text in front of another one
pub first_of : (p : ℕ → Bool) (w rest : Bytes) → p 0 ≡ false → p (first w) ≡ true → p (first (w ++ rest)) ≡ true
first_of p [] rest none h = absurd (true≢false (sym h ∙ none))
first_of p (b ∷ w) rest none h = h

-- a digit is no other sign
pub no_sign : (b c : ℕ) → is_digit b ≡ true → (c < 48) ⊎ (57 < c) → (b == c) ≡ false
unfolding is_digit
no_sign b c h apart =
    let e = both (nat_le 48 b) (nat_le b 57) h in
    let low = leb-true 48 b e.0 in let high = leb-true b 57 e.1 in
    by apart low high
  where
    by : (c < 48) ⊎ (57 < c) → 48 ≤ b → b ≤ 57 → (b == c) ≡ false
    by (inl a) low high = ne_eqb b c (λ e. absurd (omega arith))
    by (inr a) low high = ne_eqb b c (λ e. absurd (omega arith))

pub no_digit_0 : is_digit 0 ≡ false
unfolding is_digit
no_digit_0 = refl

suc_lt : (n : ℕ) → n < 2 ^ 127 → suc n < 2 ^ 127 + 1
suc_lt n h = omega arith

minus_suc : (n : ℕ) → nat_lt n (2 ^ 127) ≡ true → minus (suc n) ≡ negsuc n
minus_suc n h =
    let e : suc n - 1 ≡ n = omega arith in
    ap (λ b. if b then pos 0 else (if nat_lt (suc n - 1) (2 ^ 127) then negsuc (suc n - 1) else pos 0)) (ne_eqb (suc n) 0 (λ z. absurd (omega arith)))
    ∙ ap (λ m. if nat_lt m (2 ^ 127) then negsuc m else pos 0) e ∙ ap (λ b. if b then negsuc n else pos 0) h

pub signed_reads : (z : ℤ) (rest : Bytes) → number_fits z ≡ true → is_digit (first rest) ≡ false → ◌≡◌ {A = ℤ × Bytes} (signed (signed_decimal z ++ rest)) (z, rest)
signed_reads (pos n) rest fits ends =
    let small = ltb-true n (2 ^ 127) fits in
    let starts = first_of is_digit (decimal n) rest no_digit_0 (decimal_starts n (big n (lt_of_lt_of_le small (lit≤ tt)))) in
    let reads = number_reads n rest (lt_of_lt_of_le small (lit≤ tt)) ends in
    let negative : ℤ × Bytes = (let r = number (drop 1 (decimal n ++ rest)) in (minus r.0, r.1)) in
    let positive : ℕ × Bytes → ℤ × Bytes = λ r. (plus r.0, r.1) in
    let as_z : Bool → ℤ × Bytes = λ b. ((if b then pos n else pos 0), rest) in
    ap (λ b. if b then negative else positive (number (decimal n ++ rest))) (no_sign (first (decimal n ++ rest)) 45 starts (inl (omega arith)))
    ∙ ap positive reads ∙ ap as_z fits
signed_reads (negsuc n) rest fits ends =
    let small = ltb-true n (2 ^ 127) fits in
    let reads = number_reads (suc n) rest (lt_of_lt_of_le (suc_lt n small) (lit≤ tt)) ends in
    let negative : ℕ × Bytes → ℤ × Bytes = λ r. (minus r.0, r.1) in
    let of : ℤ → ℤ × Bytes = λ x. (x, rest) in
    ap negative reads ∙ ap of (minus_suc n fits)

pub decimal_number : (n : ℕ) → n < 2 ^ 128 → number_from 0 (decimal n) ≡ n
decimal_number n h = (decimal_reads n (big n h)).value h
