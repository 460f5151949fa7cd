-- The number that a word writes is the one whose decimal it is.
use Rattle.std.proofs.Common.{◌≡◌, ℕ, zero, suc, ◌+◌, ◌-◌, ◌*◌, ◌<◌, ◌≤◌, ◌^◌, ◌==◌, ◌&&◌, cond, Bool, true, false, nat_le, List, [], ◌∷◌, length, get_or, Option, Some, None, refl, sym, ap, ◌∙◌, subst, arith, rules, true≢false, lit≤}
use Rattle.std.specs.Fmt.{decimal}
use Rattle.std.specs.Char.{is_ascii_digit}
use Rattle.std.specs.Str.{all_ascii_digits}
use Rattle.std.proofs.lemmas.Bool.Decides.{nat_tests}
use Rattle.std.proofs.lemmas.Str.Parse.{IsNumeralModel, numerals_by_fold}
use Rattle.std.proofs.lemmas.Fmt.{decimal-digits_value, digits_value-decimal, digits_decimal, decimal_digit, first_decimal}
use Rattle.dc_top.specs.Words.{count_from, count_of}
use Rattle.dc_top.specs.Laws.{CountsAreDecimals}
use Rattle.dc_top.proofs.Endings.{some_same, none_some}

abbrev most : ℕ
most = 1000000000000000000

-- the number that digits write behind one, with no limit
abbrev value_from : ℕ → List ℕ → ℕ
value_from n [] = n
value_from n (c ∷ cs) = value_from (10 * n + (c - 48)) cs

own : IsNumeralModel (λ ds. all_ascii_digits ds ≡ true) (value_from 0)
own = numerals_by_fold _ (search rules) value_from (search rules)

-- ---- tests

both : (a b : Bool) → (a && b) ≡ true → (a ≡ true) × (b ≡ true)
both true b e = (refl, e)
both false b e = absurd (true≢false (sym e))

together : (a b : Bool) → a ≡ true → b ≡ true → (a && b) ≡ true
together true b a e = e
together false b a e = absurd (true≢false (sym a))

guarded : {A : Type 0} (b : Bool) (o : Option A) (y : A) → cond b o None ≡ Some y → (b ≡ true) × (o ≡ Some y)
guarded true o y e = (refl, e)
guarded false o y e = absurd (none_some y e)

unless : {A : Type 0} (b : Bool) (o : Option A) (y : A) → cond b None o ≡ Some y → (b ≡ false) × (o ≡ Some y)
unless true o y e = absurd (none_some y e)
unless false o y e = (refl, e)

-- ---- digits

step_same : (v b : ℕ) → v * 10 + (b - 48) ≡ 10 * v + (b - 48)
step_same v b = omega arith

grows : (v : ℕ) (ds : List ℕ) → v ≤ value_from v ds
grows v [] = omega arith
grows v (c ∷ cs) = let h = grows (10 * v + (c - 48)) cs in omega arith

record IsRead (v : ℕ) (ds : List ℕ) (n : ℕ) : Type 0 where
  all : all_ascii_digits ds ≡ true
  value : value_from v ds ≡ n
  within : n ≤ most

digits_read : (ds : List ℕ) (v n : ℕ) → v ≤ most → count_from v ds ≡ Some n → IsRead v ds n
digits_read [] v n small e = let same : v ≡ n = some_same v n e in record { all = refl; value = same; within = subst (λ x. x ≤ most) same small }
digits_read (b ∷ bs) v n small e =
    let next = v * 10 + (b - 48) in
    let g = guarded (is_ascii_digit b && nat_le next most) (count_from next bs) n e in
    let t = both (is_ascii_digit b) (nat_le next most) g.0 in
    let le : next ≤ most = grind (arith, nat_tests, t.1) in
    let more = digits_read bs next n le g.1 in
    record {
      all = together (is_ascii_digit b) (all_ascii_digits bs) t.0 more.all;
      value = ap (λ x. value_from x bs) (sym (step_same v b)) ∙ more.value;
      within = more.within;
    }

digits_written : (ds : List ℕ) (v : ℕ) → all_ascii_digits ds ≡ true → value_from v ds ≤ most → count_from v ds ≡ Some (value_from v ds)
digits_written [] v all le = refl
digits_written (b ∷ bs) v all le =
    let next = v * 10 + (b - 48) in
    let t = both (is_ascii_digit b) (all_ascii_digits bs) all in
    let same : value_from next bs ≡ value_from (10 * v + (b - 48)) bs = ap (λ x. value_from x bs) (step_same v b) in
    let up : value_from next bs ≤ most = subst (λ x. x ≤ most) (sym same) le in
    let grown = grows next bs in
    let small : nat_le next most ≡ true = grind (arith, nat_tests) in
    ap (λ x. cond x (count_from next bs) None) (together (is_ascii_digit b) (nat_le next most) t.0 small) ∙ digits_written bs next t.1 up ∙ ap Some same

-- ---- words

spelled : (word : List ℕ) (n : ℕ) → 0 < length word → (get_or word 0 0 ≡ 48 → length word ≡ 1) → IsRead 0 word n → word ≡ decimal n
spelled word n some lead r =
    let small : value_from 0 word < 2 ^ 64 = omega (arith, r.value, r.within) in
    sym (decimal-digits_value own word r.all some lead small) ∙ ap decimal r.value

zero_small : 0 ≤ most
zero_small = lit≤ tt

is_read : (word : List ℕ) (n : ℕ) → count_of word ≡ Some n → (word ≡ decimal n) × (n ≤ most)
unfolding count_of
is_read [] n e = absurd (none_some n e)
is_read (b ∷ []) n e =
    let r = digits_read (b ∷ []) 0 n zero_small e in
    (spelled (b ∷ []) n (omega arith) (λ h. refl) r, r.within)
is_read (b ∷ c ∷ bs) n e =
    let u = unless (b == 48) (count_from 0 (b ∷ c ∷ bs)) n e in
    let r = digits_read (b ∷ c ∷ bs) 0 n zero_small u.1 in
    (spelled (b ∷ c ∷ bs) n (omega arith) (λ h. absurd (let k : b ≡ 48 = h in let t : (b == 48) ≡ true = grind (arith, nat_tests) in true≢false (sym t ∙ u.0))) r, r.within)

one_digit : (b : ℕ) → all_ascii_digits (b ∷ []) ≡ true → value_from 0 (b ∷ []) ≤ most → count_of (b ∷ []) ≡ Some (value_from 0 (b ∷ []))
unfolding count_of
one_digit b all le = digits_written (b ∷ []) 0 all le

led : (word : List ℕ) → all_ascii_digits word ≡ true → value_from 0 word ≤ most → 48 < get_or word 0 0 → count_of word ≡ Some (value_from 0 word)
unfolding count_of
led [] all le h = absurd (omega arith)
led (b ∷ []) all le h = digits_written (b ∷ []) 0 all le
led (b ∷ c ∷ bs) all le h =
    let lt : 48 < b = h in
    let other : (b == 48) ≡ false = grind (arith, nat_tests) in
    ap (λ x. cond x None (count_from 0 (b ∷ c ∷ bs))) other ∙ digits_written (b ∷ c ∷ bs) 0 all le

written : (n : ℕ) → n ≤ most → count_of (decimal n) ≡ Some n
written zero le = ap count_of (decimal_digit 0 (omega arith)) ∙ one_digit 48 refl (lit≤ tt)
written (suc n) le =
    let small : suc n < 2 ^ 64 = omega arith in
    let value = digits_value-decimal own (suc n) small in
    led (decimal (suc n)) (digits_decimal own (suc n) small) (subst (λ x. x ≤ most) (sym value) le) (first_decimal (suc n) (omega arith) small) ∙ ap Some value

pub counts_are_decimals : CountsAreDecimals
counts_are_decimals word n = record {
  spelled = λ e. (is_read word n e).0;
  within = λ e. (is_read word n e).1;
  read = λ e le. ap count_of e ∙ written n le;
}
