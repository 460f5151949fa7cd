-- What the operators of 128 bits give, reduced, is what the definition says.
use Rattle.std.proofs.Common.{◌≡◌, ℕ, zero, suc, ◌-◌, ◌*◌, ◌/◌, ◌%◌, ◌^◌, ◌<◌, ◌≤◌, Bool, true, false, cond, Option, Some, None, Result, Ok, Err, ℤ, pos, negsuc, neg_ℤ, ◌+ℤ◌, ◌-ℤ◌, ◌*ℤ◌, ◌≤ℤ◌, ◌<ℤ◌, unsigned_abs, refl, sym, ap, ◌∙◌, arith, subst, true≢false, lit≤, lit<, ◌⊎◌, inl, inr, ⊎_elim}
use Rattle.std.specs.Int.{cast_unsigned, cast_signed, int_div_euclid, int_wrap, int_wrapping_neg, w128}
use Rattle.std.specs.Int.RustNames.{FitsSigned, int_div, int_rem}
use Rattle.std.proofs.lemmas.Int.{ints, to_z-of_z, to_z_pos, wrapping_mul_is, wrapping_neg_is, SFits-int_wrap, int_wrap_fits, fits_signed_from_abs, fits_signed_mul, rem_is}
use Rattle.std.proofs.lemmas.Bool.{cases_lt}
use Rattle.std.proofs.Math.Nat.{div-le_self}
use Rattle.std.proofs.Math.Pow.{pow_mono}
use Rattle.std.proofs.Math.Facts.{to_z-neg}
use borrow.Author.Differences.{fits_in}
use lib.Signed.{shr_z, mag_shr}
use Rattle.dc_types.specs.declared.kind.Kind.{Kind}
use Rattle.dc_types.specs.declared.kind.Kind.TheVariants as kind
use Rattle.dc_types.specs.declared.kind.BinOp.TheVariants as binop
use Rattle.dc_types.specs.declared.kind.BinOp.{BinOp}
use Rattle.dc_types.specs.declared.kind.UnOp.TheVariants as unop
use Rattle.dc_types.specs.declared.kind.UnOp.{UnOp}
use Rattle.dc_types.specs.declared.event.TrapKind.{TrapKind}
use Rattle.dc_types.specs.declared.event.TrapKind.TheVariants as trap
use Rattle.dc_types.specs.Integers.{bits_of, InKind, residue, truth, wrap, can_divide, can_shift, binary, unary, pattern}
use Rattle.dc_types.proofs.Integers.{InKind-wrap, in_kind_wide, wrap-int_wrap, by_bool, by_digit, residue_below, residue_left, residue_same, residue_small, bits_of_at_most}

-- a number as it goes through 128 bits
abbrev pub through : ℤ → ℤ
through z = cast_signed w128 (cast_unsigned w128 z)

wide_fits : (z : ℤ) → (neg_ℤ (pos (2 ^ 63)) ≤ℤ z) × (z <ℤ pos (2 ^ 64)) → FitsSigned w128 z
wide_fits z h = let low = h.0 in let high = h.1 in omega (arith, fits_in, ints)

pub wrapped : (k : Kind) (z y r : ℤ) → r ≡ wrap k y → wrap k y ≡ wrap k z → through r ≡ wrap k z
wrapped k z y r e d = ap through (e ∙ d) ∙ to_z-of_z w128 (wrap k z) (wide_fits (wrap k z) (in_kind_wide k (wrap k z) (InKind-wrap k z)))

pub in_kind : (k : Kind) (z r : ℤ) → r ≡ wrap k z → InKind k (through r)
in_kind k z r e = subst (InKind k) (sym (wrapped k z z r e refl)) (InKind-wrap k z)

abs_neg : (n : ℕ) → unsigned_abs (neg_ℤ (pos n)) ≡ n
abs_neg zero = refl
abs_neg (suc n) = refl

digit : (a : ℤ) → InKind kind.Bool a → unsigned_abs a ≤ 1
digit a h = by_digit (λ a. unsigned_abs a ≤ 1) a h (lit≤ tt) (lit≤ tt)

-- ---- sums, differences and products

module _ (k : Kind) (a b : ℤ) (f : FitsSigned w128 a) (g : FitsSigned w128 b) (h : InKind k a) (i : InKind k b) where
  sum_fits : FitsSigned w128 (a +ℤ b)
  sum_fits = let l = in_kind_wide k a h in let m = in_kind_wide k b i in let p = l.0 in let q = l.1 in let r = m.0 in let s = m.1 in omega (arith, fits_in, ints)

  difference_fits : FitsSigned w128 (a -ℤ b)
  difference_fits = let l = in_kind_wide k a h in let m = in_kind_wide k b i in let p = l.0 in let q = l.1 in let r = m.0 in let s = m.1 in omega (arith, fits_in, ints)

  pub sum_goal : FitsSigned w128 (through a +ℤ through b)
  sum_goal = subst (λ x. FitsSigned w128 (x +ℤ through b)) (sym (to_z-of_z w128 a f)) (subst (λ y. FitsSigned w128 (a +ℤ y)) (sym (to_z-of_z w128 b g)) sum_fits)

  pub difference_goal : FitsSigned w128 (through a -ℤ through b)
  difference_goal = subst (λ x. FitsSigned w128 (x -ℤ through b)) (sym (to_z-of_z w128 a f)) (subst (λ y. FitsSigned w128 (a -ℤ y)) (sym (to_z-of_z w128 b g)) difference_fits)

  pub sum_is : (r : ℤ) → r ≡ wrap k (through (through a +ℤ through b)) → Ok (through r) ≡ binary binop.Add k a b
  unfolding binary
  sum_is r e = ap Ok (wrapped k (a +ℤ b) _ r e ((λ i. wrap k (through (to_z-of_z w128 a f i +ℤ to_z-of_z w128 b g i))) ∙ ap (wrap k) (to_z-of_z w128 (a +ℤ b) sum_fits)))

  pub difference_is : (r : ℤ) → r ≡ wrap k (through (through a -ℤ through b)) → Ok (through r) ≡ binary binop.Sub k a b
  unfolding binary
  difference_is r e = ap Ok (wrapped k (a -ℤ b) _ r e ((λ i. wrap k (through (to_z-of_z w128 a f i -ℤ to_z-of_z w128 b g i))) ∙ ap (wrap k) (to_z-of_z w128 (a -ℤ b) difference_fits)))

  product_fits : k ≡ kind.Bool → FitsSigned w128 (a *ℤ b)
  product_fits e = fits_signed_mul w128 a b 1 1 (digit a (subst (λ k. InKind k a) e h)) (digit b (subst (λ k. InKind k b) e i)) (lit< tt)

  pub product_is : (r : ℤ) → r ≡ wrap k (cast_signed w128 ((cast_unsigned w128 a * cast_unsigned w128 b) % 2 ^ 128)) → Ok (through r) ≡ binary binop.Mul k a b
  unfolding binary
  product_is r e = ap Ok (wrapped k (a *ℤ b) _ r e (ap (wrap k) (wrapping_mul_is w128 a b f g) ∙ wrap-int_wrap k (a *ℤ b) product_fits))

-- ---- quotients and remainders

quotient_size : (a b : ℤ) → unsigned_abs (int_div a b) ≤ unsigned_abs a
quotient_size (pos m) (pos n) = div-le_self m n
quotient_size (pos m) (negsuc n) = omega (arith, abs_neg (m / suc n), div-le_self m (suc n))
quotient_size (negsuc m) (pos n) = omega (arith, abs_neg (suc m / n), div-le_self (suc m) n)
quotient_size (negsuc m) (negsuc n) = div-le_self (suc m) (suc n)

abs_small : (z : ℤ) → (neg_ℤ (pos (2 ^ 63)) ≤ℤ z) × (z <ℤ pos (2 ^ 64)) → unsigned_abs z < 2 ^ 64
abs_small (pos n) h = let high = h.1 in omega (arith, ints)
abs_small (negsuc n) h = let low = h.0 in omega (arith, ints)

quotient_fits : (k : Kind) (a b : ℤ) → InKind k a → FitsSigned w128 (int_div a b)
quotient_fits k a b h = fits_signed_from_abs w128 (int_div a b) (omega (arith, quotient_size a b, abs_small a (in_kind_wide k a h)))

not_zero : (k : Kind) (a b : ℤ) → can_divide k a b ≡ true → b ≡ pos 0 → ⊥
unfolding can_divide
not_zero k a b t e = true≢false (sym t ∙ ap (can_divide k a) e)

some_bits : (b : ℤ) → FitsSigned w128 b → (b ≡ pos 0 → ⊥) → 0 < cast_unsigned w128 b
some_bits (pos zero) f ne = absurd (ne refl)
some_bits (pos (suc n)) f ne = omega arith
some_bits (negsuc n) f ne = omega (arith, f.sfits)

module _ (k : Kind) (a b : ℤ) (f : FitsSigned w128 a) (g : FitsSigned w128 b) (h : InKind k a) (t : Bool) (d : t ≡ can_divide k (through a) (through b)) where
  test_is : t ≡ can_divide k a b
  test_is = d ∙ (λ i. can_divide k (to_z-of_z w128 a f i) (to_z-of_z w128 b g i))

  pub divides : t ≡ true → (0 < cast_unsigned w128 b) × FitsSigned w128 (int_div (through a) (through b))
  divides holds = (some_bits b g (not_zero k a b (sym test_is ∙ holds)), subst (λ x. FitsSigned w128 (int_div x (through b))) (sym (to_z-of_z w128 a f)) (subst (λ y. FitsSigned w128 (int_div a y)) (sym (to_z-of_z w128 b g)) (quotient_fits k a b h)))

  pub quotient_is : t ≡ true → (r : ℤ) → r ≡ wrap k (through (int_div (through a) (through b))) → Ok (through r) ≡ binary binop.Div k a b
  unfolding binary
  quotient_is holds r e =
      ap Ok (wrapped k (int_div a b) _ r e ((λ i. wrap k (through (int_div (to_z-of_z w128 a f i) (to_z-of_z w128 b g i)))) ∙ ap (wrap k) (to_z-of_z w128 (int_div a b) (quotient_fits k a b h))))
      ∙ sym (ap (λ t. cond t (Ok (wrap k (int_div a b))) (Err trap.Divide)) (sym test_is ∙ holds))

  pub remainder_is : t ≡ true → (r : ℤ) → r ≡ wrap k (through (int_rem (through a) (through b))) → Ok (through r) ≡ binary binop.Rem k a b
  unfolding binary
  remainder_is holds r e =
      ap Ok (wrapped k (int_rem a b) _ r e (ap (wrap k) (rem_is w128 a b f g)))
      ∙ sym (ap (λ t. cond t (Ok (wrap k (int_rem a b))) (Err trap.Divide)) (sym test_is ∙ holds))

  pub no_quotient : t ≡ false → Err trap.Divide ≡ binary binop.Div k a b
  unfolding binary
  no_quotient fails = sym (ap (λ t. cond t (Ok (wrap k (int_div a b))) (Err trap.Divide)) (sym test_is ∙ fails))

  pub no_remainder : t ≡ false → Err trap.Divide ≡ binary binop.Rem k a b
  unfolding binary
  no_remainder fails = sym (ap (λ t. cond t (Ok (wrap k (int_rem a b))) (Err trap.Divide)) (sym test_is ∙ fails))

-- ---- shifts

given : (t : Bool) (m n : ℕ) (o : Option ℕ) → o ≡ cond t (Some m) None → o ≡ Some n → (t ≡ true) × (m ≡ n)
given true m n o e s = (refl, cc)
given false m n o e s = absurd (cc)

missing : (t : Bool) (m : ℕ) (o : Option ℕ) → o ≡ cond t (Some m) None → o ≡ None → t ≡ false
missing true m o e s = absurd (cc)
missing false m o e s = refl

shifted_right : (a : ℤ) (m : ℕ) → shr_z a m ≡ int_div_euclid a (pos m)
shifted_right (pos a) m = refl
shifted_right (negsuc a) m = refl

module _ (k : Kind) (a count : ℤ) (f : FitsSigned w128 a) (g : FitsSigned w128 count) (o : Option ℕ) (d : o ≡ cond (can_shift k (through count)) (Some (unsigned_abs (through count))) None) where
  option_is : o ≡ cond (can_shift k count) (Some (unsigned_abs count)) None
  option_is = d ∙ (λ i. cond (can_shift k (to_z-of_z w128 count g i)) (Some (unsigned_abs (to_z-of_z w128 count g i))) None)

  found : (n : ℕ) → o ≡ Some n → (value : ℕ → ℤ) (r : ℤ) → through r ≡ wrap k (value n) → Ok (through r) ≡ cond (can_shift k count) (Ok (wrap k (value (unsigned_abs count)))) (Err trap.Shift)
  found n s value r e =
      let p = given (can_shift k count) (unsigned_abs count) n o option_is s in
      ap Ok (e ∙ ap (λ m. wrap k (value m)) (sym p.1)) ∙ sym (ap (λ t. cond t (Ok (wrap k (value (unsigned_abs count)))) (Err trap.Shift)) p.0)

  lost : o ≡ None → (value : ℤ) → Err trap.Shift ≡ cond (can_shift k count) (Ok value) (Err trap.Shift)
  lost s value = sym (ap (λ t. cond t (Ok value) (Err trap.Shift)) (missing (can_shift k count) (unsigned_abs count) o option_is s))

  pub no_shift_left : o ≡ None → Err trap.Shift ≡ binary binop.Shl k a count
  unfolding binary
  no_shift_left s = lost s _

  pub no_shift_right : o ≡ None → Err trap.Shift ≡ binary binop.Shr k a count
  unfolding binary
  no_shift_right s = lost s _

  pub no_shift_right_zeros : o ≡ None → Err trap.Shift ≡ binary binop.Ushr k a count
  unfolding binary
  no_shift_right_zeros s = lost s _

  pub shift_left_is : (n : ℕ) → o ≡ Some n → InKind k a → n < 64 → (r : ℤ) → r ≡ wrap k (cast_signed w128 ((cast_unsigned w128 a * 2 ^ n) % 2 ^ 128)) → Ok (through r) ≡ binary binop.Shl k a count
  unfolding binary
  shift_left_is n s h within r e =
      let small = abs_small a (in_kind_wide k a h) in
      let below : n ≤ 63 = omega arith in
      let power : 2 ^ n ≤ 2 ^ 63 = pow_mono below in
      let fits : FitsSigned w128 (pos (2 ^ n)) = fits_signed_from_abs w128 (pos (2 ^ n)) (omega arith) in
      let all : FitsSigned w128 (a *ℤ pos (2 ^ n)) = fits_signed_mul w128 a (pos (2 ^ n)) (2 ^ 64 - 1) (2 ^ 63) (omega arith) power (lit< tt) in
      found n s (λ n. a *ℤ pos (2 ^ n)) r (wrapped k (a *ℤ pos (2 ^ n)) _ r e (ap (wrap k) (wrapping_mul_is w128 a (pos (2 ^ n)) f fits ∙ int_wrap_fits w128 (a *ℤ pos (2 ^ n)) all)))

  pub shift_right_is : (n : ℕ) → o ≡ Some n → (r : ℤ) → r ≡ wrap k (through (shr_z (through a) (2 ^ n))) → Ok (through r) ≡ binary binop.Shr k a count
  unfolding binary
  shift_right_is n s r e =
      let fits : FitsSigned w128 (shr_z a (2 ^ n)) = record { sfits = omega (arith, mag_shr a (2 ^ n), f.sfits) } in
      found n s (λ n. int_div_euclid a (pos (2 ^ n))) r (wrapped k (int_div_euclid a (pos (2 ^ n))) _ r e (ap (wrap k) (ap (λ a. through (shr_z a (2 ^ n))) (to_z-of_z w128 a f) ∙ to_z-of_z w128 (shr_z a (2 ^ n)) fits ∙ shifted_right a (2 ^ n))))

  pub shift_right_zeros_is : (n : ℕ) → o ≡ Some n → (p : ℕ) → p ≡ pattern k (through a) → (z : ℤ) → z ≡ pos (p / 2 ^ n) → (r : ℤ) → r ≡ wrap k (through z) → Ok (through r) ≡ binary binop.Ushr k a count
  unfolding binary
  shift_right_zeros_is n s p q z y r e =
      let bits : pattern k (through a) ≡ pattern k a = ap (pattern k) (to_z-of_z w128 a f) in
      let shifted : z ≡ pos (pattern k a / 2 ^ n) = y ∙ ap (λ p. pos (p / 2 ^ n)) (q ∙ bits) in
      let below = residue_below (bits_of k) a in
      let most : 2 ^ bits_of k ≤ 2 ^ 64 = pow_mono (bits_of_at_most k) in
      let size : pattern k a / 2 ^ n < 2 ^ 127 = omega (arith, div-le_self (pattern k a) (2 ^ n)) in
      found n s (λ n. pos (pattern k a / 2 ^ n)) r (wrapped k (pos (pattern k a / 2 ^ n)) _ r e (ap (wrap k) (ap through shifted ∙ to_z_pos w128 (pattern k a / 2 ^ n) size)))

-- ---- one operand

-- each number of 128 bits has a negative there, but the least one
fits_or_least : (a : ℤ) → FitsSigned w128 a → FitsSigned w128 (neg_ℤ a) ⊎ (a ≡ negsuc (2 ^ 127 - 1))
fits_or_least (pos n) f = inl (let s = f.sfits in omega (arith, fits_in, ints))
fits_or_least (negsuc n) f = ⊎_elim (λ lt. inl (omega (arith, fits_in, ints))) (λ le. inr (let s = f.sfits in let is : n ≡ 2 ^ 127 - 1 = omega (arith, s, le) in ap negsuc is)) (cases_lt n (2 ^ 127 - 1))

least_negative : wrap kind.Bool (int_wrap w128 (neg_ℤ (negsuc (2 ^ 127 - 1)))) ≡ wrap kind.Bool (neg_ℤ (negsuc (2 ^ 127 - 1)))
unfolding wrap truth int_wrap
least_negative = refl

negative : (k : Kind) (a : ℤ) → FitsSigned w128 a → wrap k (int_wrap w128 (neg_ℤ a)) ≡ wrap k (neg_ℤ a)
negative k a f = by_bool k
    (λ e. ⊎_elim
    (λ fits. wrap-int_wrap k (neg_ℤ a) (λ e. fits))
    (λ is. subst (λ k. wrap k (int_wrap w128 (neg_ℤ a)) ≡ wrap k (neg_ℤ a)) (sym e) (subst (λ a. wrap kind.Bool (int_wrap w128 (neg_ℤ a)) ≡ wrap kind.Bool (neg_ℤ a)) (sym is) least_negative))
    (fits_or_least a f))
    (λ ne. wrap-int_wrap k (neg_ℤ a) (λ e. absurd (ne e)))

pub negated_is : (o : UnOp) (k : Kind) (a : ℤ) → FitsSigned w128 a → o ≡ unop.Negate → (n r : ℤ) → n ≡ int_wrapping_neg w128 (through a) → r ≡ wrap k (through n) → through r ≡ unary o k a
unfolding unary
negated_is o k a f e n r d q =
    let is : n ≡ int_wrap w128 (neg_ℤ a) = d ∙ ap (int_wrapping_neg w128) (to_z-of_z w128 a f) ∙ wrapping_neg_is w128 a f in
    wrapped k (neg_ℤ a) (through n) r q (ap (λ n. wrap k (through n)) is ∙ ap (wrap k) (to_z-of_z w128 (int_wrap w128 (neg_ℤ a)) (SFits-int_wrap w128 (neg_ℤ a))) ∙ negative k a f)
    ∙ sym (ap (λ o. unary o k a) e)

flipped : (a : ℤ) → FitsSigned w128 a → cast_signed w128 (2 ^ 128 - 1 - cast_unsigned w128 a) ≡ neg_ℤ a -ℤ pos 1
flipped (pos n) f =
    let low : 2 ^ 128 - 1 - n ≡ 2 ^ 128 - suc n = omega arith in
    ap (cast_signed w128) low ∙ to_z-neg w128 n f.sfits ∙ omega (arith, ints)
flipped (negsuc n) f = let s = f.sfits in omega (arith, ints)

-- the two's complement of -a - 1 has each bit of that of a turned
turned : (bits : ℕ) (a : ℤ) → residue bits (neg_ℤ a -ℤ pos 1) ≡ 2 ^ bits - 1 - residue bits a
turned bits a =
    let l = residue_left bits a in
    let below = residue_below bits a in
    sym (residue_same bits (pos (2 ^ bits - 1 - residue bits a)) (neg_ℤ a -ℤ pos 1) l.1 (suc l.0) (omega (arith, ints, l.2)))
    ∙ residue_small bits (2 ^ bits - 1 - residue bits a) (omega arith)

pub flip_is : (o : UnOp) (k : Kind) (a : ℤ) → FitsSigned w128 a → o ≡ unop.Flip → (p : ℕ) → p ≡ pattern k (cast_signed w128 (2 ^ 128 - 1 - cast_unsigned w128 a)) → (z : ℤ) → z ≡ pos p → (r : ℤ) → r ≡ wrap k (through z) → through r ≡ unary o k a
unfolding unary
flip_is o k a f d p q z y r e =
    let n = 2 ^ bits_of k - 1 - pattern k a in
    let is : z ≡ pos n = y ∙ ap pos (q ∙ ap (pattern k) (flipped a f) ∙ turned (bits_of k) a) in
    let most : 2 ^ bits_of k ≤ 2 ^ 64 = pow_mono (bits_of_at_most k) in
    let size : n < 2 ^ 127 = omega (arith, most) in
    wrapped k (pos n) (through z) r e (ap (wrap k) (ap through is ∙ to_z_pos w128 n size)) ∙ sym (ap (λ o. unary o k a) d)

-- ---- by the operator
pub of_op : (o p : BinOp) (k : Kind) (a b : ℤ) (r : Result ℤ TrapKind) → o ≡ p → r ≡ binary p k a b → r ≡ binary o k a b
of_op o p k a b r e h = h ∙ sym (ap (λ o. binary o k a b) e)
