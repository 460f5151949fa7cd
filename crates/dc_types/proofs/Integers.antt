-- Laws of the whole numbers of a kind.
use Rattle.std.proofs.Common.{◌≡◌, ℕ, zero, suc, ◌+◌, ◌-◌, ◌*◌, ◌/◌, ◌%◌, ◌^◌, ◌<◌, ◌≤◌, Bool, true, false, cond, ℤ, pos, negsuc, neg_ℤ, ◌+ℤ◌, ◌-ℤ◌, ◌≤ℤ◌, ◌<ℤ◌, unsigned_abs, refl, sym, ap, ◌∙◌, arith, subst, nat_lt, ltb-true, ltb-false, lt-ltb, le-ltb, lit≤}
use Rattle.std.specs.Int.{int_wrap, cast_unsigned, w8, w16, w32, w64, w128, Width}
use Rattle.std.specs.Int.RustNames.{FitsSigned}
use mir.Val.{bits as width_bits, hbits}
use Rattle.std.proofs.lemmas.Int.{ints, int_rem_euclid_is, of_z-to_z, SFits-int_wrap, int_wrap_fits}
use Rattle.std.proofs.lemmas.Bool.Decides.{Decides-int_eq, not_from_Decides}
use Rattle.std.specs.Bool.{Decides}
use Rattle.std.specs.Ordering.{int_eq}
use Rattle.std.proofs.Math.Pow.{pow_pos}
use Rattle.std.proofs.Math.Nat.{mod-lt, mod-eq_of_lt, mul_comm, mul_assoc, mul-le-mul_left, div-add-mod'}
use Rattle.std.proofs.lemmas.Nat.{pow-add}
use borrow.Author.Differences.{up, down}
use Rattle.dc_types.specs.Integers.{bits_of, least, greatest, InKind, residue, signed_residue, truth, wrap}
use Rattle.dc_types.specs.declared.kind.Kind.{Kind}
use Rattle.dc_types.specs.declared.kind.Kind.TheVariants as kind

pub residue_below : (bits : ℕ) (z : ℤ) → residue bits z < 2 ^ bits
unfolding residue
residue_below bits (pos n) = mod-lt n (pow_pos bits)
residue_below bits (negsuc n) = let some = pow_pos bits in omega arith

residue_pos : (bits n : ℕ) → residue bits (pos n) ≡ n % 2 ^ bits
unfolding residue
residue_pos bits n = refl

-- a number from 0 up that has no more bits is its own residue
pub residue_small : (bits n : ℕ) → n < 2 ^ bits → residue bits (pos n) ≡ n
unfolding residue
residue_small bits n h = mod-eq_of_lt h

signed_residue_is : (bits : ℕ) (z : ℤ) (n : ℕ) → residue bits z ≡ n → n < 2 ^ bits → cond (nat_lt n (2 ^ (bits - 1))) (pos n) (negsuc (2 ^ bits - suc n)) ≡ signed_residue bits z
unfolding signed_residue
signed_residue_is bits z n e h = subst (λ m. cond (nat_lt n (2 ^ (bits - 1))) (pos n) (negsuc (2 ^ bits - suc n)) ≡ cond (nat_lt m (2 ^ (bits - 1))) (pos m) (pos m -ℤ pos (2 ^ bits))) (sym e) (ap (cond (nat_lt n (2 ^ (bits - 1))) (pos n)) (omega (arith, ints)))

-- the reduction of std at 8 bits, as `i8` does it
pub wrap-I8 : (z : ℤ) → wrap kind.I8 z ≡ int_wrap w8 z
unfolding wrap int_wrap residue
wrap-I8 z = sym (signed_residue_is 8 z _ refl (residue_below 8 z))

-- the reduction of std at 16 bits, as `i16` does it
pub wrap-I16 : (z : ℤ) → wrap kind.I16 z ≡ int_wrap w16 z
unfolding wrap int_wrap residue
wrap-I16 z = sym (signed_residue_is 16 z _ refl (residue_below 16 z))

-- the reduction of std at 32 bits, as `i32` does it
pub wrap-I32 : (z : ℤ) → wrap kind.I32 z ≡ int_wrap w32 z
unfolding wrap int_wrap residue
wrap-I32 z = sym (signed_residue_is 32 z _ refl (residue_below 32 z))

-- the reduction of std at 64 bits, as `i64` does it
pub wrap-I64 : (z : ℤ) → wrap kind.I64 z ≡ int_wrap w64 z
unfolding wrap int_wrap residue
wrap-I64 z = sym (signed_residue_is 64 z _ refl (residue_below 64 z))

pub wrap-U8 : (z : ℤ) → wrap kind.U8 z ≡ pos (residue 8 z)
unfolding wrap
wrap-U8 z = refl

pub wrap-U16 : (z : ℤ) → wrap kind.U16 z ≡ pos (residue 16 z)
unfolding wrap
wrap-U16 z = refl

pub wrap-U32 : (z : ℤ) → wrap kind.U32 z ≡ pos (residue 32 z)
unfolding wrap
wrap-U32 z = refl

pub wrap-U64 : (z : ℤ) → wrap kind.U64 z ≡ pos (residue 64 z)
unfolding wrap
wrap-U64 z = refl

pub wrap-Char : (z : ℤ) → wrap kind.Char z ≡ pos (residue 8 z)
unfolding wrap
wrap-Char z = refl

pub wrap-Bool : (z : ℤ) → wrap kind.Bool z ≡ truth z
unfolding wrap
wrap-Bool z = refl

pub truth_within : (z : ℤ) → (pos 0 ≤ℤ truth z) × (truth z ≤ℤ pos 1)
unfolding truth
truth_within z = by (int_eq z (pos 0))
  where
    by : (t : Bool) → (pos 0 ≤ℤ cond t (pos 0) (pos 1)) × (cond t (pos 0) (pos 1) ≤ℤ pos 1)
    by true = (omega (arith, ints), omega (arith, ints))
    by false = (omega (arith, ints), omega (arith, ints))

-- a number from -half to half - 1, where half is 2 ^ (bits - 1)
pub signed_residue_within : (bits half : ℕ) → 2 ^ (bits - 1) ≡ half → 2 ^ bits ≡ half + half → (z : ℤ) → (neg_ℤ (pos half) ≤ℤ signed_residue bits z) × (signed_residue bits z <ℤ pos half)
unfolding signed_residue
signed_residue_within bits half e d z =
    by (nat_lt (residue bits z) (2 ^ (bits - 1))) refl
  where
    by : (t : Bool) → nat_lt (residue bits z) (2 ^ (bits - 1)) ≡ t → (neg_ℤ (pos half) ≤ℤ cond t (pos (residue bits z)) (pos (residue bits z) -ℤ pos (2 ^ bits))) × (cond t (pos (residue bits z)) (pos (residue bits z) -ℤ pos (2 ^ bits)) <ℤ pos half)
    by true h = let b = ltb-true _ _ h in (omega (arith, ints), omega (arith, ints))
    by false h = let b = ltb-false _ _ h in let c = residue_below bits z in (omega (arith, ints), omega (arith, ints))

pub signed_residue_small : (bits half : ℕ) → 2 ^ (bits - 1) ≡ half → 2 ^ bits ≡ half + half → (z : ℤ) → neg_ℤ (pos half) ≤ℤ z → z <ℤ pos half → signed_residue bits z ≡ z
unfolding signed_residue residue
signed_residue_small bits half e d (pos n) low high =
    let small : n < half = omega (arith, ints) in
    let is : n % 2 ^ bits ≡ n = mod-eq_of_lt (omega arith) in
    ap (λ r. cond (nat_lt r (2 ^ (bits - 1))) (pos r) (pos r -ℤ pos (2 ^ bits))) is ∙ ap (λ t. cond t (pos n) (pos n -ℤ pos (2 ^ bits))) (lt-ltb _ _ (omega arith))
signed_residue_small bits half e d (negsuc n) low high =
    let small : n < half = omega (arith, ints) in
    let is : n % 2 ^ bits ≡ n = mod-eq_of_lt (omega arith) in
    ap (λ m. let r = 2 ^ bits - 1 - m in cond (nat_lt r (2 ^ (bits - 1))) (pos r) (pos r -ℤ pos (2 ^ bits))) is ∙ ap (λ t. cond t (pos (2 ^ bits - 1 - n)) (pos (2 ^ bits - 1 - n) -ℤ pos (2 ^ bits))) (le-ltb _ _ (omega arith)) ∙ omega (arith, ints)

-- What wrap leaves is a number of the kind.
pub InKind-wrap : (k : Kind) (z : ℤ) → InKind k (wrap k z)
unfolding wrap least greatest
InKind-wrap kind.Bool z = let t = truth_within z in record { at_least = t.0; at_most = t.1 }
InKind-wrap kind.I8 z = let t = signed_residue_within 8 (2 ^ 7) refl refl z in record { at_least = t.0; at_most = omega (arith, ints) }
InKind-wrap kind.I16 z = let t = signed_residue_within 16 (2 ^ 15) refl refl z in record { at_least = t.0; at_most = omega (arith, ints) }
InKind-wrap kind.I32 z = let t = signed_residue_within 32 (2 ^ 31) refl refl z in record { at_least = t.0; at_most = omega (arith, ints) }
InKind-wrap kind.I64 z = let t = signed_residue_within 64 (2 ^ 63) refl refl z in record { at_least = t.0; at_most = omega (arith, ints) }
InKind-wrap kind.U8 z = let t = residue_below 8 z in record { at_least = omega (arith, ints); at_most = omega (arith, ints) }
InKind-wrap kind.U16 z = let t = residue_below 16 z in record { at_least = omega (arith, ints); at_most = omega (arith, ints) }
InKind-wrap kind.U32 z = let t = residue_below 32 z in record { at_least = omega (arith, ints); at_most = omega (arith, ints) }
InKind-wrap kind.U64 z = let t = residue_below 64 z in record { at_least = omega (arith, ints); at_most = omega (arith, ints) }
InKind-wrap kind.Char z = let t = residue_below 8 z in record { at_least = omega (arith, ints); at_most = omega (arith, ints) }

truth_small : (z : ℤ) → pos 0 ≤ℤ z → z ≤ℤ pos 1 → truth z ≡ z
unfolding truth
truth_small z low high = by (int_eq z (pos 0)) (Decides-int_eq z (pos 0))
  where
    by : (t : Bool) → Decides t (z ≡ pos 0) → cond t (pos 0) (pos 1) ≡ z
    by true d = sym (d.0 refl)
    by false d = one z low high (not_from_Decides false d refl)
      where
        one : (z : ℤ) → pos 0 ≤ℤ z → z ≤ℤ pos 1 → ¬ z ≡ pos 0 → pos 1 ≡ z
        one (pos n) low high ne = ap pos (omega (arith, ints, λ (e : n ≡ 0). ne (ap pos e)))
        one (negsuc n) low high ne = absurd (omega (arith, ints))

unsigned_small : (bits : ℕ) (z : ℤ) → pos 0 ≤ℤ z → z <ℤ pos (2 ^ bits) → pos (residue bits z) ≡ z
unsigned_small bits (pos n) low high = ap pos (residue_small bits n (omega (arith, ints)))
unsigned_small bits (negsuc n) low high = absurd (omega (arith, ints))

-- Wrap leaves a number of the kind as it is.
pub wrap_in_kind : (k : Kind) (z : ℤ) → InKind k z → wrap k z ≡ z
unfolding wrap least greatest
wrap_in_kind kind.Bool z h = truth_small z h.at_least h.at_most
wrap_in_kind kind.I8 z h = signed_residue_small 8 (2 ^ 7) refl refl z h.at_least (omega (arith, ints, h.at_most))
wrap_in_kind kind.I16 z h = signed_residue_small 16 (2 ^ 15) refl refl z h.at_least (omega (arith, ints, h.at_most))
wrap_in_kind kind.I32 z h = signed_residue_small 32 (2 ^ 31) refl refl z h.at_least (omega (arith, ints, h.at_most))
wrap_in_kind kind.I64 z h = signed_residue_small 64 (2 ^ 63) refl refl z h.at_least (omega (arith, ints, h.at_most))
wrap_in_kind kind.U8 z h = unsigned_small 8 z h.at_least (omega (arith, ints, h.at_most))
wrap_in_kind kind.U16 z h = unsigned_small 16 z h.at_least (omega (arith, ints, h.at_most))
wrap_in_kind kind.U32 z h = unsigned_small 32 z h.at_least (omega (arith, ints, h.at_most))
wrap_in_kind kind.U64 z h = unsigned_small 64 z h.at_least (omega (arith, ints, h.at_most))
wrap_in_kind kind.Char z h = unsigned_small 8 z h.at_least (omega (arith, ints, h.at_most))

-- Every number of a kind lies from -2 ^ 63 to 2 ^ 64 - 1.
pub in_kind_wide : (k : Kind) (z : ℤ) → InKind k z → (neg_ℤ (pos (2 ^ 63)) ≤ℤ z) × (z <ℤ pos (2 ^ 64))
unfolding least greatest
in_kind_wide kind.Bool z h = (omega (arith, ints, h.at_least), omega (arith, ints, h.at_most))
in_kind_wide kind.I8 z h = (omega (arith, ints, h.at_least), omega (arith, ints, h.at_most))
in_kind_wide kind.I16 z h = (omega (arith, ints, h.at_least), omega (arith, ints, h.at_most))
in_kind_wide kind.I32 z h = (omega (arith, ints, h.at_least), omega (arith, ints, h.at_most))
in_kind_wide kind.I64 z h = (omega (arith, ints, h.at_least), omega (arith, ints, h.at_most))
in_kind_wide kind.U8 z h = (omega (arith, ints, h.at_least), omega (arith, ints, h.at_most))
in_kind_wide kind.U16 z h = (omega (arith, ints, h.at_least), omega (arith, ints, h.at_most))
in_kind_wide kind.U32 z h = (omega (arith, ints, h.at_least), omega (arith, ints, h.at_most))
in_kind_wide kind.U64 z h = (omega (arith, ints, h.at_least), omega (arith, ints, h.at_most))
in_kind_wide kind.Char z h = (omega (arith, ints, h.at_least), omega (arith, ints, h.at_most))

half_within : (w : Width) → 2 ^ hbits w ≤ 2 ^ width_bits w
half_within w8 = lit≤ tt
half_within w16 = lit≤ tt
half_within w32 = lit≤ tt
half_within w64 = lit≤ tt
half_within w128 = lit≤ tt

-- a and b differ by a multiple of 2 ^ bits
pub residue_same : (bits : ℕ) (a b : ℤ) (j k : ℕ) → a +ℤ pos (j * 2 ^ bits) ≡ b +ℤ pos (k * 2 ^ bits) → residue bits a ≡ residue bits b
unfolding residue
residue_same bits a b j k e =
    let m = 2 ^ bits in
    let some = pow_pos bits in
    let t = down a + down b in
    let far : t * 1 ≤ t * m = mul-le-mul_left t some in
    let n = up a + (j + t) * m - down a in
    let from : (z : ℤ) (i : ℕ) → z +ℤ pos ((i + t) * m) ≡ pos n → residue bits z ≡ n % m = λ z i h. ap unsigned_abs (int_rem_euclid_is z (pos m) m (i + t) n some refl h) in
    from a j (omega (arith, ints)) ∙ sym (from b k (omega (arith, ints)))

-- a number and its residue differ by a multiple of 2 ^ bits
pub residue_left : (bits : ℕ) (z : ℤ) → (j : ℕ) × (k : ℕ) × (pos (residue bits z) +ℤ pos (j * 2 ^ bits) ≡ z +ℤ pos (k * 2 ^ bits))
unfolding residue
residue_left bits (pos n) = (n / 2 ^ bits, 0, omega (arith, ints, div-add-mod' n (2 ^ bits)))
residue_left bits (negsuc n) =
    let small = mod-lt n (pow_pos bits) in
    (0, n / 2 ^ bits + 1, omega (arith, ints, div-add-mod' n (2 ^ bits)))

multiple : (bits more j : ℕ) → j * 2 ^ (bits + more) ≡ (j * 2 ^ more) * 2 ^ bits
multiple bits more j = ap (λ n. j * n) (pow-add 2 bits more ∙ mul_comm (2 ^ bits) (2 ^ more)) ∙ sym (mul_assoc j (2 ^ more) (2 ^ bits))

-- to reduce to more bits first changes nothing
pub residue-residue : (bits more : ℕ) (z : ℤ) → residue bits (pos (residue (bits + more) z)) ≡ residue bits z
residue-residue bits more z =
    let l = residue_left (bits + more) z in
    residue_same bits (pos (residue (bits + more) z)) z (l.0 * 2 ^ more) (l.1 * 2 ^ more) (ap (λ n. pos (residue (bits + more) z) +ℤ pos n) (sym (multiple bits more l.0)) ∙ l.2 ∙ ap (λ n. z +ℤ pos n) (multiple bits more l.1))

-- Two's complement in the bits of a signed type: of a number that it holds, the lowest bits are the residue.
pub mod-cast_unsigned : (w : Width) (bits more : ℕ) → bits + more ≡ width_bits w → (z : ℤ) → FitsSigned w z → cast_unsigned w z % 2 ^ bits ≡ residue bits z
mod-cast_unsigned w bits more e (pos n) h = sym (residue_pos bits n)
mod-cast_unsigned w bits more e (negsuc n) h =
    let m = 2 ^ width_bits w in
    let whole : m ≡ 2 ^ more * 2 ^ bits = ap (λ k. 2 ^ k) (sym e) ∙ pow-add 2 bits more ∙ mul_comm (2 ^ bits) (2 ^ more) in
    let within : suc n ≤ m = omega (arith, h.sfits, half_within w) in
    sym (residue_pos bits (m - suc n)) ∙ residue_same bits (pos (m - suc n)) (negsuc n) 0 (2 ^ more) (omega (arith, ints))

-- to reduce to a signed type with as many bits or more changes nothing
pub residue-int_wrap : (w : Width) (bits more : ℕ) → bits + more ≡ width_bits w → (z : ℤ) → residue bits (int_wrap w z) ≡ residue bits z
unfolding int_wrap residue
residue-int_wrap w bits more e z =
    let whole : residue (bits + more) z ≡ residue (width_bits w) z = ap (λ n. residue n z) e in
    sym (mod-cast_unsigned w bits more e (int_wrap w z) (SFits-int_wrap w z))
    ∙ ap (λ n. n % 2 ^ bits) (of_z-to_z w (residue (width_bits w) z) (residue_below (width_bits w) z) ∙ sym whole)
    ∙ residue-residue bits more z

signed_residue_same : (bits : ℕ) (a b : ℤ) → residue bits a ≡ residue bits b → signed_residue bits a ≡ signed_residue bits b
unfolding signed_residue
signed_residue_same bits a b e = ap (λ r. cond (nat_lt r (2 ^ (bits - 1))) (pos r) (pos r -ℤ pos (2 ^ bits))) e

-- in each kind but `bool`, what a number becomes goes by its residue alone
pub wrap_same : (k : Kind) → (k ≡ kind.Bool → ⊥) → (a b : ℤ) → residue (bits_of k) a ≡ residue (bits_of k) b → wrap k a ≡ wrap k b
unfolding wrap bits_of
wrap_same kind.Bool ne a b e = absurd (ne refl)
wrap_same kind.I8 ne a b e = signed_residue_same 8 a b e
wrap_same kind.I16 ne a b e = signed_residue_same 16 a b e
wrap_same kind.I32 ne a b e = signed_residue_same 32 a b e
wrap_same kind.I64 ne a b e = signed_residue_same 64 a b e
wrap_same kind.U8 ne a b e = ap pos e
wrap_same kind.U16 ne a b e = ap pos e
wrap_same kind.U32 ne a b e = ap pos e
wrap_same kind.U64 ne a b e = ap pos e
wrap_same kind.Char ne a b e = ap pos e

pub bits_of_at_most : (k : Kind) → bits_of k ≤ 64
unfolding bits_of
bits_of_at_most kind.Bool = lit≤ tt
bits_of_at_most kind.I8 = lit≤ tt
bits_of_at_most kind.I16 = lit≤ tt
bits_of_at_most kind.I32 = lit≤ tt
bits_of_at_most kind.I64 = lit≤ tt
bits_of_at_most kind.U8 = lit≤ tt
bits_of_at_most kind.U16 = lit≤ tt
bits_of_at_most kind.U32 = lit≤ tt
bits_of_at_most kind.U64 = lit≤ tt
bits_of_at_most kind.Char = lit≤ tt

-- `bool`, or another kind
pub by_bool : {P : Type 0} (k : Kind) → (k ≡ kind.Bool → P) → ((k ≡ kind.Bool → ⊥) → P) → P
by_bool kind.Bool f g = f refl
by_bool kind.I8 f g = g (λ e. cc)
by_bool kind.I16 f g = g (λ e. cc)
by_bool kind.I32 f g = g (λ e. cc)
by_bool kind.I64 f g = g (λ e. cc)
by_bool kind.U8 f g = g (λ e. cc)
by_bool kind.U16 f g = g (λ e. cc)
by_bool kind.U32 f g = g (λ e. cc)
by_bool kind.U64 f g = g (λ e. cc)
by_bool kind.Char f g = g (λ e. cc)

-- a result may be reduced to 128 bits first, if it isn't one of `bool` that needs more
pub wrap-int_wrap : (k : Kind) (z : ℤ) → (k ≡ kind.Bool → FitsSigned w128 z) → wrap k (int_wrap w128 z) ≡ wrap k z
wrap-int_wrap k z fits = by_bool k (λ e. ap (wrap k) (int_wrap_fits w128 z (fits e))) (λ ne. let small = bits_of_at_most k in wrap_same k ne (int_wrap w128 z) z (residue-int_wrap w128 (bits_of k) (128 - bits_of k) (omega arith) z))

-- a number of `bool` is 0 or 1
pub by_digit : (P : ℤ → Type 0) (a : ℤ) → InKind kind.Bool a → P (pos 0) → P (pos 1) → P a
unfolding least greatest
by_digit P (pos zero) h p q = p
by_digit P (pos (suc zero)) h p q = q
by_digit P (pos (suc (suc n))) h p q = absurd (omega (arith, ints, h.at_most))
by_digit P (negsuc n) h p q = absurd (omega (arith, ints, h.at_least))

flip_bool : (a : ℤ) → InKind kind.Bool a → wrap kind.Bool (pos (2 ^ 8 - 1 - residue 8 a)) ≡ wrap kind.Bool (neg_ℤ a -ℤ pos 1)
unfolding wrap truth residue
flip_bool a h = by_digit (λ a. wrap kind.Bool (pos (2 ^ 8 - 1 - residue 8 a)) ≡ wrap kind.Bool (neg_ℤ a -ℤ pos 1)) a h refl refl

-- `~a` is -a - 1
pub wrap-flip : (k : Kind) (a : ℤ) → InKind k a → wrap k (pos (2 ^ bits_of k - 1 - residue (bits_of k) a)) ≡ wrap k (neg_ℤ a -ℤ pos 1)
unfolding bits_of
wrap-flip k a h = by_bool k
    (λ e. subst (λ j. wrap j (pos (2 ^ bits_of j - 1 - residue (bits_of j) a)) ≡ wrap j (neg_ℤ a -ℤ pos 1)) (sym e) (flip_bool a (subst (λ j. InKind j a) e h)))
    (λ ne. wrap_same k ne (pos (2 ^ bits_of k - 1 - residue (bits_of k) a)) (neg_ℤ a -ℤ pos 1) (other (bits_of k)))
  where
    other : (bits : ℕ) → residue bits (pos (2 ^ bits - 1 - residue bits a)) ≡ residue bits (neg_ℤ a -ℤ pos 1)
    other bits =
        let l = residue_left bits a in
        let below = residue_below bits a in
        residue_same bits (pos (2 ^ bits - 1 - residue bits a)) (neg_ℤ a -ℤ pos 1) l.1 (suc l.0) (omega (arith, ints, l.2))

residue_again : (bits : ℕ) (z : ℤ) → residue bits (pos (residue bits z)) ≡ residue bits z
residue_again bits z = residue_small bits (residue bits z) (residue_below bits z)

-- the signed number has the same residue
pub residue-signed_residue : (bits : ℕ) (z : ℤ) → residue bits (signed_residue bits z) ≡ residue bits z
unfolding signed_residue
residue-signed_residue bits z = by (nat_lt (residue bits z) (2 ^ (bits - 1)))
  where
    by : (t : Bool) → residue bits (cond t (pos (residue bits z)) (pos (residue bits z) -ℤ pos (2 ^ bits))) ≡ residue bits z
    by true = residue_again bits z
    by false = residue_same bits (pos (residue bits z) -ℤ pos (2 ^ bits)) (pos (residue bits z)) 1 0 (omega (arith, ints)) ∙ residue_again bits z

-- Reduced to a kind other than `bool`, a number differs from what it was by a multiple of 2 ^ bits.
pub residue-wrap : (k : Kind) → (k ≡ kind.Bool → ⊥) → (z : ℤ) → residue (bits_of k) (wrap k z) ≡ residue (bits_of k) z
unfolding wrap bits_of
residue-wrap kind.Bool ne z = absurd (ne refl)
residue-wrap kind.I8 ne z = residue-signed_residue 8 z
residue-wrap kind.I16 ne z = residue-signed_residue 16 z
residue-wrap kind.I32 ne z = residue-signed_residue 32 z
residue-wrap kind.I64 ne z = residue-signed_residue 64 z
residue-wrap kind.U8 ne z = residue_again 8 z
residue-wrap kind.U16 ne z = residue_again 16 z
residue-wrap kind.U32 ne z = residue_again 32 z
residue-wrap kind.U64 ne z = residue_again 64 z
residue-wrap kind.Char ne z = residue_again 8 z
