-- What literals stand for, step by step.
use Rattle.std.proofs.Common.{◌≡◌, ◌≢◌, ℕ, zero, suc, ◌+◌, ◌-◌, ◌*◌, ◌<◌, ◌≤◌, ◌^◌, Bool, true, false, cond, not, ◌&&◌, ◌==◌, nat_lt, ◌⊎◌, inl, inr, Option, Some, None, [], ◌∷◌, ◌++◌, length, drop, get_or, refl, sym, ap, ◌∙◌, arith, ⊎_elim, option_map, mul-suc}
use Rattle.std.proofs.lemmas.Bool.Decides.{nat_tests}
use Rattle.std.proofs.lemmas.Bool.{cases_lt}
use Rattle.std.specs.List.{list_any}
use Rattle.dc_token.specs.Numbers.{is_long, is_unsigned}
use Rattle.std.proofs.lemmas.Str.{encode_ascii, length-encode}
use Rattle.std.specs.Char.{encode_utf8}
use Rattle.dc_token.specs.Balance.{Bytes}
use Rattle.dc_token.specs.Bytes.{is_hex}
use Rattle.dc_token.specs.Escapes.{hex_digit, escape, escape_value, escape_bytes, is_character_escape, unescaped}
use Rattle.dc_token.specs.Literals.{value_from, next_value, fitting, base_of, digits_of, integer_value, integer_type, integer_of, needless_zero, holds_entity, writes_one_byte, character_of}
use Rattle.dc_token.specs.declared.literal_types.Integer.{Integer}
use Rattle.dc_token.specs.declared.literal_types.IntegerType.{IntegerType}

-- ---- integers

larger : (n base d : ℕ) → 2 ≤ base → n ≤ n * base + d
larger n zero d h = absurd (omega arith)
larger n (suc base) d h = let e : n * suc base ≡ n * base + n = mul-suc n base in omega arith

pub grows : (base n : ℕ) (w : Bytes) → 2 ≤ base → n ≤ value_from base n w
grows base n [] h = omega arith
grows base n (b ∷ w) h = let g = grows base (next_value base n b) w h in let k = step (is_hex b) in omega arith
  where
    step : (x : Bool) → n ≤ cond x (n * base + hex_digit b) n
    step true = larger n base (hex_digit b) h
    step false = omega arith

pub no_fit : (n : ℕ) → 2 ^ 64 ≤ n → fitting n ≡ None
no_fit n h = let e : nat_lt n (2 ^ 64) ≡ false = grind (arith, nat_tests) in rw e refl

pub fits : (n : ℕ) → n < 2 ^ 64 → fitting n ≡ Some n
fits n h = let e : nat_lt n (2 ^ 64) ≡ true = grind (arith, nat_tests) in rw e refl

apart : (v : ℕ) → Some v ≡ None → ⊥
apart v h = cc

too_large : (n : ℕ) → fitting n ≡ None → 2 ^ 64 ≤ n
too_large n h = ⊎_elim (λ l. absurd (apart n (sym (fits n l) ∙ h))) (λ g. g) (cases_lt n (2 ^ 64))

-- a front that is too large makes the whole too large
pub front_too_large : (base n : ℕ) (w : Bytes) → 2 ≤ base → fitting n ≡ None → fitting (value_from base n w) ≡ None
front_too_large base n w h e = no_fit (value_from base n w) (let a = too_large n e in let b = grows base n w h in omega arith)

small_of : (n v : ℕ) → Some v ≡ fitting n → v ≡ n
small_of n v h = ⊎_elim (λ l. same v n (h ∙ fits n l)) (λ g. absurd (apart v (h ∙ no_fit n g))) (cases_lt n (2 ^ 64))
  where
    same : (v n : ℕ) → Some v ≡ Some n → v ≡ n
    same v n e = cc

pub value_is : (n v : ℕ) → Some v ≡ fitting n → v ≡ n
value_is n v h = small_of n v h

type_none : (decimal long unsigned : Bool) (n : ℕ) → 2 ^ 64 ≤ n → integer_type decimal long unsigned n ≡ None
type_none decimal long unsigned n h =
    let a : nat_lt n (2 ^ 64) ≡ false = grind (arith, nat_tests) in
    let b : nat_lt n (2 ^ 63) ≡ false = grind (arith, nat_tests) in
    let c : nat_lt n (2 ^ 32) ≡ false = grind (arith, nat_tests) in
    let d : nat_lt n (2 ^ 31) ≡ false = grind (arith, nat_tests) in
    go decimal long unsigned a b c d
  where
    go : (decimal long unsigned : Bool) → nat_lt n (2 ^ 64) ≡ false → nat_lt n (2 ^ 63) ≡ false → nat_lt n (2 ^ 32) ≡ false → nat_lt n (2 ^ 31) ≡ false → integer_type decimal long unsigned n ≡ None
    go true true true a b c d = rw a refl
    go false true true a b c d = rw a refl
    go true false true a b c d = rw (c, a) refl
    go false false true a b c d = rw (c, a) refl
    go true true false a b c d = rw b refl
    go false true false a b c d = rw (b, a) refl
    go true false false a b c d = rw (d, b) refl
    go false false false a b c d = rw (d, c, b, a) refl

pub zero_refused : (w : Bytes) → needless_zero w ≡ true → None ≡ integer_of w
unfolding integer_of
zero_refused w h = rw h refl

pub integer_typed : (w : Bytes) → needless_zero w ≡ false
    → option_map (λ t. record { value = integer_value w; integer_type = t }) (integer_type (base_of w == 10) (list_any is_long w) (list_any is_unsigned w) (integer_value w)) ≡ integer_of w
unfolding integer_of
integer_typed w h = rw h refl

pub large_refused : (w : Bytes) → needless_zero w ≡ false → fitting (value_from (base_of w) 0 (digits_of w)) ≡ None → None ≡ integer_of w
unfolding integer_value
large_refused w h e =
    let t = type_none (base_of w == 10) (list_any is_long w) (list_any is_unsigned w) (integer_value w) (too_large (integer_value w) e) in
    ap (λ o. option_map (λ t. record { value = integer_value w; integer_type = t }) o) (sym t) ∙ integer_typed w h

-- ---- strings

pub pass_over : (skip : ℕ) (t : Bytes) → unescaped skip t ≡ unescaped 0 (drop skip t)
pass_over zero t = refl
pass_over (suc skip) [] = refl
pass_over (suc skip) (b ∷ t) = pass_over skip t

pub plain_byte : (b : ℕ) (t : Bytes) → (b == 92 && not (escape t == 0)) ≡ false → unescaped 0 (b ∷ t) ≡ b ∷ unescaped 0 t
plain_byte b t h = rw h refl

pub escaped_bytes : (b : ℕ) (t : Bytes) → (b == 92 && not (escape t == 0)) ≡ true → unescaped 0 (b ∷ t) ≡ escape_bytes t ++ unescaped 0 (drop (escape t - 1) t)
escaped_bytes b t h = rw h (ap (λ (x : Bytes). escape_bytes t ++ x) (pass_over (escape t - 1) t))

pub other_byte : (b : ℕ) (t : Bytes) → (b == 92) ≡ false → holds_entity (b ∷ t) ≡ holds_entity t
other_byte b [] h = refl
other_byte b (c ∷ t) h = rw h refl

-- ---- characters

abbrev Behind : Bytes → Bytes
Behind w = drop 2 w

pub plain_character : (w : Bytes) (b : ℕ) → b ≡ get_or w 1 0 → b ≢ 92 → b < 128 → Some b ≡ character_of w
unfolding character_of
plain_character w b e n l =
    rw e (let t : (get_or w 1 0 == 92) ≡ false = grind (arith, nat_tests) in let u : nat_lt (get_or w 1 0) 128 ≡ true = grind (arith, nat_tests) in rw (t, u) refl)

pub wide_character : (w : Bytes) (b : ℕ) → b ≡ get_or w 1 0 → b ≢ 92 → 128 ≤ b → None ≡ character_of w
unfolding character_of
wide_character w b e n l =
    let t : (get_or w 1 0 == 92) ≡ false = grind (arith, nat_tests) in let u : nat_lt (get_or w 1 0) 128 ≡ false = grind (arith, nat_tests) in rw (t, u) refl

escaped : (w : Bytes) → get_or w 1 0 ≡ 92 → character_of w ≡ cond (writes_one_byte (drop 2 w)) (Some (get_or (escape_bytes (drop 2 w)) 0 0)) None
unfolding character_of
escaped w e = rw e refl

pub writes_none : (w : Bytes) → get_or w 1 0 ≡ 92 → writes_one_byte (drop 2 w) ≡ false → None ≡ character_of w
writes_none w e h = sym (escaped w e ∙ (rw h refl))

pub no_escape : (t : Bytes) → escape t ≡ 0 → writes_one_byte t ≡ false
no_escape t h = let e : (escape t == 0) ≡ true = grind (arith, nat_tests) in rw e refl

and_false : (x : Bool) → (x && false) ≡ false
and_false true = refl
and_false false = refl

pub an_entity : (t : Bytes) → get_or t 0 0 ≡ 38 → writes_one_byte t ≡ false
an_entity t h = rw h (rw (and_false (not (escape t == 0))) refl)

wide_size : (v : ℕ) → 128 ≤ v → (length (encode_utf8 v) == 1) ≡ false
wide_size v h = rw length-encode (grind (arith, nat_tests))

wide_bytes : (t : Bytes) → is_character_escape t ≡ true → 128 ≤ escape_value t → (length (escape_bytes t) == 1) ≡ false
unfolding escape_bytes
wide_bytes t c h = rw c (wide_size (escape_value t) h)

pub wide_escape : (t : Bytes) → is_character_escape t ≡ true → 128 ≤ escape_value t → writes_one_byte t ≡ false
wide_escape t c h = rw (wide_bytes t c h) (and_false (not (escape t == 0) && not (get_or t 0 0 == 38)))

one_byte : (t : Bytes) → (is_character_escape t ≡ false) ⊎ ((is_character_escape t ≡ true) × (escape_value t < 128)) → escape_bytes t ≡ escape_value t ∷ []
unfolding escape_bytes
one_byte t (inl h) = rw h refl
one_byte t (inr h) = rw h.0 (encode_ascii (escape_value t) h.1)

pub writes_one : (w : Bytes) (v : ℕ) → get_or w 1 0 ≡ 92 → (escape (drop 2 w) == 0) ≡ false → (get_or (drop 2 w) 0 0 == 38) ≡ false → v ≡ escape_value (drop 2 w)
    → (is_character_escape (drop 2 w) ≡ false) ⊎ ((is_character_escape (drop 2 w) ≡ true) × (escape_value (drop 2 w) < 128)) → Some v ≡ character_of w
writes_one w v e some entity is which =
    let b = one_byte (drop 2 w) which in
    sym (escaped w e ∙ (rw (some, entity, b) (ap (λ x. Some x) (sym is))))

abbrev pub with_value : ℕ → Option IntegerType → Option Integer
with_value n o = option_map (λ t. record { value = n; integer_type = t }) o

-- the integer that the code's parts make
pub integer_made : (w : Bytes) (base v : ℕ) (long unsigned : Bool) (digits : Bytes) (o : Option IntegerType) → needless_zero w ≡ false → base ≡ base_of w → digits ≡ digits_of w
    → Some v ≡ fitting (value_from base 0 digits) → long ≡ list_any is_long w → unsigned ≡ list_any is_unsigned w → o ≡ integer_type (base == 10) long unsigned v → with_value v o ≡ integer_of w
unfolding integer_value
integer_made w base v long unsigned digits o fine is_base is_digits fit is_long_one is_unsigned_one is =
    let n : v ≡ integer_value w = value_is (value_from base 0 digits) v fit ∙ ap (λ b. value_from b 0 digits) is_base ∙ ap (λ (x : Bytes). value_from (base_of w) 0 x) is_digits in
    let t : o ≡ integer_type (base_of w == 10) (list_any is_long w) (list_any is_unsigned w) (integer_value w) =
    is ∙ ap (λ b. integer_type (b == 10) long unsigned v) is_base ∙ ap (λ x. integer_type (base_of w == 10) x unsigned v) is_long_one ∙ ap (λ x. integer_type (base_of w == 10) (list_any is_long w) x v) is_unsigned_one ∙ ap (λ k. integer_type (base_of w == 10) (list_any is_long w) (list_any is_unsigned w) k) n in
    ap (λ k. with_value k o) n ∙ ap (λ x. with_value (integer_value w) x) t ∙ integer_typed w fine
