-- Each result of an operation lies in its range.
use Rattle.std.proofs.Common.{◌≡◌, ◌∙◌, refl, sym, ap, subst, ℕ, suc, ◌-◌, ◌*◌, ◌/◌, ◌%◌, ◌^◌, ◌<◌, ◌≤◌, Bool, true, false, cond, ◌&&◌, ℤ, pos, negsuc, neg_ℤ, ◌+ℤ◌, ◌-ℤ◌, ◌*ℤ◌, ◌≤ℤ◌, ◌<ℤ◌, unsigned_abs, ◌⊎◌, inl, inr, Result, Ok, Err, bit_and, bit_or, arith}
use Rattle.std.specs.Prelude.{int_div, int_rem}
use Rattle.std.specs.Int.{int_min, int_max, int_div_euclid, leading_zeros, w64}
use Rattle.std.specs.Ordering.{int_eq}
use Rattle.std.proofs.lemmas.Int.{ints, clamps}
use Rattle.std.proofs.lemmas.Bool.Decides.{Decides-int_eq}
use Rattle.std.proofs.lemmas.Nat.{le-div, and_le_l, and_le_r, le_or_l, le_or_r, or_lt, leading_length}
use Rattle.std.proofs.Math.Nat.{div-mul-le_self, mul-le-mul_left, mul-le-mul_right, mod-lt, mod-le}
use Rattle.std.proofs.Math.Pow.{pow_pos}
use Rattle.dc_types.specs.declared.kind.Kind.{Kind}
use Rattle.dc_types.specs.declared.kind.Kind.TheVariants as kinds
use Rattle.dc_types.specs.declared.kind.BinOp.{BinOp}
use Rattle.dc_types.specs.declared.kind.BinOp.TheVariants as binop
use Rattle.dc_types.specs.declared.event.TrapKind.{TrapKind}
use Rattle.dc_candidate.specs.declared.range.Range.{Range}
use Rattle.dc_types.specs.Integers.{greatest, InKind, FitsRight, wrap, bits_of, binary, can_divide, can_shift, pattern}
use Rattle.dc_types.proofs.Integers.{InKind-wrap, wrap_in_kind, residue_small}
use Rattle.dc_types.proofs.Values.{InKind-binary}
use Rattle.dc_convert.specs.Ranges.{Within, IsWide, whole, lies, fitted, spanned, above_zero, from_zero, has_quotient, sum, difference, product, quotient, remainder, conjunction, disjunction, ones, shifted, range_of}
use Rattle.dc_convert.proofs.Ends.{lies_is, le_true, lt_true, and_left}

within_whole : (k : Kind) (z : ℤ) → InKind k z → Within (whole k) z
unfolding whole
within_whole k z h = record { at_least = h.at_least; at_most = h.at_most }

-- what becomes of a result in the kind lies in the fitted range
pub within_fitted : (k : Kind) (r : Range) (z : ℤ) → Within r z → Within (fitted k r) (wrap k z)
unfolding fitted
within_fitted k r z h = by (lies r k) refl
  where
    by : (t : Bool) → lies r k ≡ t → Within (cond t r (whole k)) (wrap k z)
    by true e =
        let d = (lies_is r k).0 e in
        let low = d.0 in let high = d.1 in
        let inside : InKind k z = record { at_least = omega (arith, ints, low, h.at_least); at_most = omega (arith, ints, high, h.at_most) } in
        subst (Within r) (sym (wrap_in_kind k z inside)) h
    by false e = within_whole k (wrap k z) (InKind-wrap k z)

-- ---- four numbers

pub least_of_two : (x y : ℤ) → (int_min x y ≤ℤ x) × (int_min x y ≤ℤ y)
least_of_two x y = (omega (arith, ints, clamps), omega (arith, ints, clamps))

pub most_of_two : (x y : ℤ) → (x ≤ℤ int_max x y) × (y ≤ℤ int_max x y)
most_of_two x y = (omega (arith, ints, clamps), omega (arith, ints, clamps))

record Spans (r : Range) (z : ℤ) : Type 0 where
  lo : r.lo ≤ℤ z
  hi : z ≤ℤ r.hi

spans : (w x y z : ℤ) → Spans (spanned w x y z) w × Spans (spanned w x y z) x × Spans (spanned w x y z) y × Spans (spanned w x y z) z
unfolding spanned
spans w x y z =
    let l = least_of_two (int_min w x) (int_min y z) in let p = least_of_two w x in let q = least_of_two y z in
    let m = most_of_two (int_max w x) (int_max y z) in let u = most_of_two w x in let v = most_of_two y z in (
      record { lo = omega (arith, ints, l.0, p.0); hi = omega (arith, ints, m.0, u.0) },
      record { lo = omega (arith, ints, l.0, p.1); hi = omega (arith, ints, m.0, u.1) },
      record { lo = omega (arith, ints, l.1, q.0); hi = omega (arith, ints, m.1, v.0) },
      record { lo = omega (arith, ints, l.1, q.1); hi = omega (arith, ints, m.1, v.1) },
    )

-- ---- products

up_to : {a b c : ℤ} → a ≤ℤ b → b ≤ℤ c → a ≤ℤ c
up_to h i = omega (arith, ints, h, i)

turned : (a b : ℤ) → a *ℤ b ≡ b *ℤ a
turned a b = omega (arith, ints)

turn_both : (x a b : ℤ) → (a *ℤ x) ≤ℤ (b *ℤ x) → (x *ℤ a) ≤ℤ (x *ℤ b)
turn_both x a b h = subst (λ v. v ≤ℤ (x *ℤ b)) (turned a x) (subst (λ v. (a *ℤ x) ≤ℤ v) (turned b x) h)

times : (n : ℕ) (a b : ℤ) → a ≤ℤ b → (a *ℤ pos n) ≤ℤ (b *ℤ pos n)
times n (pos a) (pos b) h = let m : a * n ≤ b * n = mul-le-mul_right n (omega (arith, ints, h)) in omega (arith, ints)
times n (pos a) (negsuc b) h = absurd (omega (arith, ints))
times n (negsuc a) (pos b) h = omega (arith, ints)
times n (negsuc a) (negsuc b) h = let m : suc b * n ≤ suc a * n = mul-le-mul_right n (omega (arith, ints, h)) in omega (arith, ints)

times_below : (n : ℕ) (a b : ℤ) → a ≤ℤ b → (b *ℤ negsuc n) ≤ℤ (a *ℤ negsuc n)
times_below n (pos a) (pos b) h = let m : a * suc n ≤ b * suc n = mul-le-mul_right (suc n) (omega (arith, ints, h)) in omega (arith, ints)
times_below n (pos a) (negsuc b) h = absurd (omega (arith, ints))
times_below n (negsuc a) (pos b) h = omega (arith, ints)
times_below n (negsuc a) (negsuc b) h = let m : suc b * suc n ≤ suc a * suc n = mul-le-mul_right (suc n) (omega (arith, ints, h)) in omega (arith, ints)

-- times one number, what lies between two numbers lies between their products
between_times : (l h x c : ℤ) → l ≤ℤ x → x ≤ℤ h → (((l *ℤ c) ≤ℤ (x *ℤ c)) × ((x *ℤ c) ≤ℤ (h *ℤ c))) ⊎ (((h *ℤ c) ≤ℤ (x *ℤ c)) × ((x *ℤ c) ≤ℤ (l *ℤ c)))
between_times l h x (pos n) low high = inl (times n l x low, times n x h high)
between_times l h x (negsuc n) low high = inr (times_below n x h high, times_below n l x low)

in_span : (al ah bl bh : ℤ) (x c : ℤ) → al ≤ℤ x → x ≤ℤ ah → (c ≡ bl) ⊎ (c ≡ bh) → ((spanned (al *ℤ bl) (al *ℤ bh) (ah *ℤ bl) (ah *ℤ bh)).lo ≤ℤ (x *ℤ c)) × ((x *ℤ c) ≤ℤ (spanned (al *ℤ bl) (al *ℤ bh) (ah *ℤ bl) (ah *ℤ bh)).hi)
in_span al ah bl bh x c low high (inl e) = subst (λ c. ((spanned (al *ℤ bl) (al *ℤ bh) (ah *ℤ bl) (ah *ℤ bh)).lo ≤ℤ (x *ℤ c)) × ((x *ℤ c) ≤ℤ (spanned (al *ℤ bl) (al *ℤ bh) (ah *ℤ bl) (ah *ℤ bh)).hi)) (sym e) (by (between_times al ah x bl low high))
  where
    by : (((al *ℤ bl) ≤ℤ (x *ℤ bl)) × ((x *ℤ bl) ≤ℤ (ah *ℤ bl))) ⊎ (((ah *ℤ bl) ≤ℤ (x *ℤ bl)) × ((x *ℤ bl) ≤ℤ (al *ℤ bl))) → ((spanned (al *ℤ bl) (al *ℤ bh) (ah *ℤ bl) (ah *ℤ bh)).lo ≤ℤ (x *ℤ bl)) × ((x *ℤ bl) ≤ℤ (spanned (al *ℤ bl) (al *ℤ bh) (ah *ℤ bl) (ah *ℤ bh)).hi)
    by (inl d) = let s = spans (al *ℤ bl) (al *ℤ bh) (ah *ℤ bl) (ah *ℤ bh) in (up_to (s.0.lo) d.0, up_to d.1 (s.2.hi))
    by (inr d) = let s = spans (al *ℤ bl) (al *ℤ bh) (ah *ℤ bl) (ah *ℤ bh) in (up_to (s.2.lo) d.0, up_to d.1 (s.0.hi))
in_span al ah bl bh x c low high (inr e) = subst (λ c. ((spanned (al *ℤ bl) (al *ℤ bh) (ah *ℤ bl) (ah *ℤ bh)).lo ≤ℤ (x *ℤ c)) × ((x *ℤ c) ≤ℤ (spanned (al *ℤ bl) (al *ℤ bh) (ah *ℤ bl) (ah *ℤ bh)).hi)) (sym e) (by (between_times al ah x bh low high))
  where
    by : (((al *ℤ bh) ≤ℤ (x *ℤ bh)) × ((x *ℤ bh) ≤ℤ (ah *ℤ bh))) ⊎ (((ah *ℤ bh) ≤ℤ (x *ℤ bh)) × ((x *ℤ bh) ≤ℤ (al *ℤ bh))) → ((spanned (al *ℤ bl) (al *ℤ bh) (ah *ℤ bl) (ah *ℤ bh)).lo ≤ℤ (x *ℤ bh)) × ((x *ℤ bh) ≤ℤ (spanned (al *ℤ bl) (al *ℤ bh) (ah *ℤ bl) (ah *ℤ bh)).hi)
    by (inl d) = let s = spans (al *ℤ bl) (al *ℤ bh) (ah *ℤ bl) (ah *ℤ bh) in (up_to (s.1.lo) d.0, up_to d.1 (s.3.hi))
    by (inr d) = let s = spans (al *ℤ bl) (al *ℤ bh) (ah *ℤ bl) (ah *ℤ bh) in (up_to (s.3.lo) d.0, up_to d.1 (s.1.hi))

product_within : (a b : Range) (x y : ℤ) → Within a x → Within b y → Within (product a b) (x *ℤ y)
unfolding product
product_within a b x y h i =
    let l = in_span a.lo a.hi b.lo b.hi x b.lo h.at_least h.at_most (inl refl) in
    let u = in_span a.lo a.hi b.lo b.hi x b.hi h.at_least h.at_most (inr refl) in
    by (between_times b.lo b.hi y x i.at_least i.at_most) l u
  where
    by : (((b.lo *ℤ x) ≤ℤ (y *ℤ x)) × ((y *ℤ x) ≤ℤ (b.hi *ℤ x))) ⊎ (((b.hi *ℤ x) ≤ℤ (y *ℤ x)) × ((y *ℤ x) ≤ℤ (b.lo *ℤ x))) → ((spanned (a.lo *ℤ b.lo) (a.lo *ℤ b.hi) (a.hi *ℤ b.lo) (a.hi *ℤ b.hi)).lo ≤ℤ (x *ℤ b.lo)) × ((x *ℤ b.lo) ≤ℤ (spanned (a.lo *ℤ b.lo) (a.lo *ℤ b.hi) (a.hi *ℤ b.lo) (a.hi *ℤ b.hi)).hi) → ((spanned (a.lo *ℤ b.lo) (a.lo *ℤ b.hi) (a.hi *ℤ b.lo) (a.hi *ℤ b.hi)).lo ≤ℤ (x *ℤ b.hi)) × ((x *ℤ b.hi) ≤ℤ (spanned (a.lo *ℤ b.lo) (a.lo *ℤ b.hi) (a.hi *ℤ b.lo) (a.hi *ℤ b.hi)).hi) → Within (spanned (a.lo *ℤ b.lo) (a.lo *ℤ b.hi) (a.hi *ℤ b.lo) (a.hi *ℤ b.hi)) (x *ℤ y)
    by (inl d) l u = record { at_least = up_to l.0 (turn_both x b.lo y d.0); at_most = up_to (turn_both x y b.hi d.1) u.1 }
    by (inr d) l u = record { at_least = up_to u.0 (turn_both x b.hi y d.0); at_most = up_to (turn_both x y b.lo d.1) l.1 }

-- ---- quotients

div_up : (a b n : ℕ) → 0 < n → a ≤ b → a / n ≤ b / n
div_up a b n some h = let s = div-mul-le_self a n in le-div (a / n) b n some (omega arith)

div_down : (a m n : ℕ) → 0 < m → m ≤ n → a / n ≤ a / m
div_down a m n some h =
    let s = div-mul-le_self a n in
    let t : a / n * m ≤ a / n * n = mul-le-mul_left (a / n) h in
    le-div (a / n) a m some (omega arith)

quotient_up : (a b : ℤ) (n : ℕ) → 0 < n → a ≤ℤ b → int_div a (pos n) ≤ℤ int_div b (pos n)
quotient_up (pos a) (pos b) n some h = let d = div_up a b n some (omega (arith, ints)) in omega (arith, ints)
quotient_up (pos a) (negsuc b) n some h = absurd (omega (arith, ints))
quotient_up (negsuc a) (pos b) n some h = omega (arith, ints)
quotient_up (negsuc a) (negsuc b) n some h = let d = div_up (suc b) (suc a) n some (omega (arith, ints)) in omega (arith, ints)

quotient_within : (al ah x : ℤ) (l h n : ℕ) → 0 < l → l ≤ n → n ≤ h → al ≤ℤ x → x ≤ℤ ah → Within (spanned (int_div al (pos l)) (int_div al (pos h)) (int_div ah (pos l)) (int_div ah (pos h))) (int_div x (pos n))
quotient_within al ah (pos x) l h n some e f low high =
    let s = spans (int_div al (pos l)) (int_div al (pos h)) (int_div ah (pos l)) (int_div ah (pos h)) in
    let p = quotient_up al (pos x) h (omega arith) low in
    let q = div_down x n h (omega arith) f in
    let r = quotient_up (pos x) ah l some high in
    let t = div_down x l n some e in
    record { at_least = omega (arith, ints, s.1.lo); at_most = omega (arith, ints, s.2.hi) }
quotient_within al ah (negsuc x) l h n some e f low high =
    let s = spans (int_div al (pos l)) (int_div al (pos h)) (int_div ah (pos l)) (int_div ah (pos h)) in
    let p = quotient_up al (negsuc x) l some low in
    let q = div_down (suc x) l n some e in
    let r = quotient_up (negsuc x) ah h (omega arith) high in
    let t = div_down (suc x) n h (omega arith) f in
    record { at_least = omega (arith, ints, s.0.lo); at_most = omega (arith, ints, s.3.hi) }

-- a number that isn't below 0
natural : (z : ℤ) → pos 0 ≤ℤ z → z ≡ pos (unsigned_abs z)
natural (pos n) h = refl
natural (negsuc n) h = absurd (omega (arith, ints))

quotient_of : (a b : Range) (x y : ℤ) → Within a x → Within b y → pos 0 <ℤ b.lo → Within (spanned (int_div a.lo b.lo) (int_div a.lo b.hi) (int_div a.hi b.lo) (int_div a.hi b.hi)) (int_div x y)
quotient_of a b x y h i some =
    let l = natural b.lo (omega (arith, ints)) in
    let n = natural y (omega (arith, ints, i.at_least)) in
    let u = natural b.hi (omega (arith, ints, i.at_least, i.at_most)) in
    let w = quotient_within a.lo a.hi x (unsigned_abs b.lo) (unsigned_abs b.hi) (unsigned_abs y) (omega (arith, ints)) (omega (arith, ints, i.at_least)) (omega (arith, ints, i.at_most)) h.at_least h.at_most in
    subst (λ v. Within (spanned (int_div a.lo v) (int_div a.lo b.hi) (int_div a.hi v) (int_div a.hi b.hi)) (int_div x y)) (sym l)
    (subst (λ v. Within (spanned (int_div a.lo (pos (unsigned_abs b.lo))) (int_div a.lo v) (int_div a.hi (pos (unsigned_abs b.lo))) (int_div a.hi v)) (int_div x y)) (sym u)
    (subst (λ v. Within (spanned (int_div a.lo (pos (unsigned_abs b.lo))) (int_div a.lo (pos (unsigned_abs b.hi))) (int_div a.hi (pos (unsigned_abs b.lo))) (int_div a.hi (pos (unsigned_abs b.hi)))) (int_div x v)) (sym n) w))

-- ---- remainders

remainder_low : (x n : ℕ) (h m : ℤ) → pos n ≤ℤ m → 0 < n → pos x ≤ℤ h → Within (record { lo = pos 0; hi = int_min h (m -ℤ pos 1) }) (pos (x % n))
remainder_low x n h m f some e =
    let p = mod-lt x some in let q = mod-le x n in
    record { at_least = omega (arith, ints); at_most = omega (arith, ints, clamps) }

negated : (x n : ℕ) → 0 < n → neg_ℤ (pos (x % n)) ≤ℤ pos 0
negated x n some = let p = mod-lt x some in omega (arith, ints)

remainder_both : (x : ℤ) (n : ℕ) (m : ℤ) → pos n ≤ℤ m → 0 < n → Within (record { lo = pos 1 -ℤ m; hi = m -ℤ pos 1 }) (int_rem x (pos n))
remainder_both (pos x) n m f some = let p = mod-lt x some in record { at_least = omega (arith, ints); at_most = omega (arith, ints) }
remainder_both (negsuc x) n m f some = let p = mod-lt (suc x) some in record { at_least = omega (arith, ints); at_most = omega (arith, ints) }

-- ---- shifts

shift_up : (a b : ℤ) (n : ℕ) → 0 < n → a ≤ℤ b → int_div_euclid a (pos n) ≤ℤ int_div_euclid b (pos n)
shift_up (pos a) (pos b) n some h = let d = div_up a b n some (omega (arith, ints)) in omega (arith, ints)
shift_up (pos a) (negsuc b) n some h = absurd (omega (arith, ints))
shift_up (negsuc a) (pos b) n some h = omega (arith, ints)
shift_up (negsuc a) (negsuc b) n some h = let d = div_up b a n some (omega (arith, ints)) in omega (arith, ints)

-- ---- bits

pub greatest_below : (k : Kind) → greatest k <ℤ pos (2 ^ bits_of k)
unfolding greatest bits_of
greatest_below kinds.Bool = omega (arith, ints)
greatest_below kinds.I8 = omega (arith, ints)
greatest_below kinds.U8 = omega (arith, ints)
greatest_below kinds.I16 = omega (arith, ints)
greatest_below kinds.U16 = omega (arith, ints)
greatest_below kinds.I32 = omega (arith, ints)
greatest_below kinds.U32 = omega (arith, ints)
greatest_below kinds.I64 = omega (arith, ints)
greatest_below kinds.U64 = omega (arith, ints)
greatest_below kinds.Char = omega (arith, ints)

-- the two's complement of a number of the kind that isn't below 0 is the number
pattern_is : (k : Kind) (z : ℤ) → pos 0 ≤ℤ z → InKind k z → pattern k z ≡ unsigned_abs z
pattern_is k (pos n) low h = let g = greatest_below k in residue_small (bits_of k) n (omega (arith, ints, h.at_most))
pattern_is k (negsuc n) low h = absurd (omega (arith, ints))

and_first : (k : Kind) (x : ℤ) (q : ℕ) → pos 0 ≤ℤ x → InKind k x → pos (bit_and (pattern k x) q) ≤ℤ x
and_first k x q low h = let l = and_le_l (pattern k x) q in let e = pattern_is k x low h in let n = natural x low in omega (arith, ints, l, e, n)

and_second : (k : Kind) (y : ℤ) (p : ℕ) → pos 0 ≤ℤ y → InKind k y → pos (bit_and p (pattern k y)) ≤ℤ y
and_second k y p low h = let l = and_le_r p (pattern k y) in let e = pattern_is k y low h in let n = natural y low in omega (arith, ints, l, e, n)

-- a number that isn't above m has no more bits than `ones m`
or_below : (m p q : ℕ) → m < 2 ^ 64 → p ≤ m → q ≤ m → bit_or p q ≤ ones m
unfolding ones
or_below m p q small e f =
    let l = leading_length 64 m small in
    let bits : 64 - leading_zeros w64 m ≡ l.0 = omega (arith, l.1) in
    let b = or_lt l.0 p q (omega (arith, l.2)) (omega (arith, l.2)) in
    subst (λ n. bit_or p q ≤ 2 ^ n - 1) (sym bits) (omega (arith, b))

or_within : (k : Kind) (a b : Range) (x y : ℤ) → IsWide a → IsWide b → pos 0 ≤ℤ a.lo → pos 0 ≤ℤ b.lo → Within a x → Within b y → InKind k x → InKind k y → Within (record { lo = int_max a.lo b.lo; hi = pos (ones (unsigned_abs (int_max a.hi b.hi))) }) (pos (bit_or (pattern k x) (pattern k y)))
or_within k a b x y wa wb za zb h i kx ky =
    let xl : pos 0 ≤ℤ x = up_to za h.at_least in let yl : pos 0 ≤ℤ y = up_to zb i.at_least in
    let e = pattern_is k x xl kx in let f = pattern_is k y yl ky in
    let n = natural x xl in let m = natural y yl in
    let l = le_or_l (pattern k x) (pattern k y) in let r = le_or_r (pattern k x) (pattern k y) in
    let u = most_of_two a.hi b.hi in
    let t = natural (int_max a.hi b.hi) (omega (arith, ints, u.0, h.at_most, xl)) in
    let small : unsigned_abs (int_max a.hi b.hi) < 2 ^ 64 = omega (arith, ints, clamps, t, wa.to, wb.to) in
    let o = or_below (unsigned_abs (int_max a.hi b.hi)) (pattern k x) (pattern k y) small (omega (arith, ints, e, n, t, u.0, h.at_most)) (omega (arith, ints, f, m, t, u.1, i.at_most)) in
    record { at_least = omega (arith, ints, clamps, e, f, n, m, l, r, h.at_least, i.at_least); at_most = omega (arith, ints, o) }

-- ---- all operators

same_ok : {y z : ℤ} {r : Result ℤ TrapKind} → r ≡ Ok y → r ≡ Ok z → y ≡ z
same_ok e f = cc

when_ok : (t : Bool) (y z : ℤ) (trap : TrapKind) → cond t (Ok y) (Err trap) ≡ Ok z → y ≡ z
when_ok true y z trap e = cc
when_ok false y z trap e = absurd (cc)

abbrev Sound : BinOp → Type 0
Sound op = (k : Kind) (a b : Range) (x y z : ℤ) → IsWide a → IsWide b → Within a x → Within b y → InKind k x → FitsRight op k y → binary op k x y ≡ Ok z → Within (range_of op k a b) z

fits : (k : Kind) (r : Range) (v z : ℤ) → Within r v → wrap k v ≡ z → Within (fitted k r) z
fits k r v z h e = subst (Within (fitted k r)) e (within_fitted k r v h)

of_sum : Sound binop.Add
unfolding binary range_of sum
of_sum k a b x y z wa wb h i kx ky e = fits k (sum a b) (x +ℤ y) z (record { at_least = omega (arith, ints, h.at_least, i.at_least); at_most = omega (arith, ints, h.at_most, i.at_most) }) (same_ok refl e)

of_difference : Sound binop.Sub
unfolding binary range_of difference
of_difference k a b x y z wa wb h i kx ky e = fits k (difference a b) (x -ℤ y) z (record { at_least = omega (arith, ints, h.at_least, i.at_most); at_most = omega (arith, ints, h.at_most, i.at_least) }) (same_ok refl e)

of_product : Sound binop.Mul
unfolding binary range_of
of_product k a b x y z wa wb h i kx ky e = fits k (product a b) (x *ℤ y) z (product_within a b x y h i) (same_ok refl e)

of_quotient : Sound binop.Div
unfolding range_of binary quotient
of_quotient k a b x y z wa wb h i kx ky e = by (has_quotient k a b) refl
  where
    value : wrap k (int_div x y) ≡ z
    value = when_ok (can_divide k x y) (wrap k (int_div x y)) z _ e

    by : (t : Bool) → has_quotient k a b ≡ t → Within (cond t (fitted k (spanned (int_div a.lo b.lo) (int_div a.lo b.hi) (int_div a.hi b.lo) (int_div a.hi b.hi))) (whole k)) z
    by true t = fits k _ (int_div x y) z (quotient_of a b x y h i (lt_true (pos 0) b.lo (and_left _ _ t))) value
    by false t = within_whole k z (InKind-binary binop.Div k x y z e)

of_remainder : Sound binop.Rem
unfolding range_of binary remainder
of_remainder k a b x y z wa wb h i kx ky e = by (above_zero b) refl (from_zero a) refl
  where
    value : wrap k (int_rem x y) ≡ z
    value = when_ok (can_divide k x y) (wrap k (int_rem x y)) z _ e

    low : pos 0 <ℤ b.lo → pos 0 ≤ℤ a.lo → Within (record { lo = pos 0; hi = int_min a.hi (b.hi -ℤ pos 1) }) (int_rem x y)
    low some zr =
        let m = natural x (up_to zr h.at_least) in let n = natural y (omega (arith, ints, some, i.at_least)) in
        subst (λ v. Within (record { lo = pos 0; hi = int_min a.hi (b.hi -ℤ pos 1) }) (int_rem v y)) (sym m)
        (subst (λ v. Within (record { lo = pos 0; hi = int_min a.hi (b.hi -ℤ pos 1) }) (int_rem (pos (unsigned_abs x)) v)) (sym n)
        (remainder_low (unsigned_abs x) (unsigned_abs y) a.hi b.hi (omega (arith, ints, n, i.at_most)) (omega (arith, ints, n, some, i.at_least)) (omega (arith, ints, m, h.at_most))))

    both : pos 0 <ℤ b.lo → Within (record { lo = pos 1 -ℤ b.hi; hi = b.hi -ℤ pos 1 }) (int_rem x y)
    both some =
        let n = natural y (omega (arith, ints, some, i.at_least)) in
        subst (λ v. Within (record { lo = pos 1 -ℤ b.hi; hi = b.hi -ℤ pos 1 }) (int_rem x v)) (sym n)
        (remainder_both x (unsigned_abs y) b.hi (omega (arith, ints, n, i.at_most)) (omega (arith, ints, n, some, i.at_least)))

    by : (t : Bool) → above_zero b ≡ t → (u : Bool) → from_zero a ≡ u → Within (cond t (fitted k (cond u (record { lo = pos 0; hi = int_min a.hi (b.hi -ℤ pos 1) }) (record { lo = pos 1 -ℤ b.hi; hi = b.hi -ℤ pos 1 }))) (whole k)) z
    by true t true u = fits k _ (int_rem x y) z (low (lt_true (pos 0) b.lo t) (le_true (pos 0) a.lo u)) value
    by true t false u = fits k _ (int_rem x y) z (both (lt_true (pos 0) b.lo t)) value
    by false t u f = within_whole k z (InKind-binary binop.Rem k x y z e)

of_conjunction : Sound binop.BitAnd
unfolding range_of binary conjunction
of_conjunction k a b x y z wa wb h i kx ky e = by (from_zero a) refl (from_zero b) refl
  where
    value : wrap k (pos (bit_and (pattern k x) (pattern k y))) ≡ z
    value = same_ok refl e

    by : (t : Bool) → from_zero a ≡ t → (u : Bool) → from_zero b ≡ u → Within (cond t (fitted k (record { lo = pos 0; hi = cond u (int_min a.hi b.hi) a.hi })) (cond u (fitted k (record { lo = pos 0; hi = b.hi })) (whole k))) z
    by true t true u =
        let f = and_first k x (pattern k y) (up_to (le_true _ _ t) h.at_least) kx in
        let g = and_second k y (pattern k x) (up_to (le_true _ _ u) i.at_least) ky in
        fits k _ _ z (record { at_least = omega (arith, ints); at_most = omega (arith, ints, clamps, f, g, h.at_most, i.at_most) }) value
    by true t false u =
        let f = and_first k x (pattern k y) (up_to (le_true _ _ t) h.at_least) kx in
        fits k _ _ z (record { at_least = omega (arith, ints); at_most = up_to f h.at_most }) value
    by false t true u =
        let g = and_second k y (pattern k x) (up_to (le_true _ _ u) i.at_least) ky in
        fits k _ _ z (record { at_least = omega (arith, ints); at_most = up_to g i.at_most }) value
    by false t false u = within_whole k z (InKind-binary binop.BitAnd k x y z e)

of_disjunction : Sound binop.BitOr
unfolding range_of binary disjunction
of_disjunction k a b x y z wa wb h i kx ky e = by (from_zero a) refl (from_zero b) refl
  where
    value : wrap k (pos (bit_or (pattern k x) (pattern k y))) ≡ z
    value = same_ok refl e

    by : (t : Bool) → from_zero a ≡ t → (u : Bool) → from_zero b ≡ u → Within (cond (t && u) (fitted k (record { lo = int_max a.lo b.lo; hi = pos (ones (unsigned_abs (int_max a.hi b.hi))) })) (whole k)) z
    by true t true u = fits k _ _ z (or_within k a b x y wa wb (le_true _ _ t) (le_true _ _ u) h i kx ky) value
    by true t false u = within_whole k z (InKind-binary binop.BitOr k x y z e)
    by false t u f = within_whole k z (InKind-binary binop.BitOr k x y z e)

pub and_right : (s t : Bool) → (s && t) ≡ true → t ≡ true
and_right true t e = e
and_right false t e = absurd (cc)

of_shift : Sound binop.Shr
unfolding range_of binary shifted
of_shift k a b x y z wa wb h i kx ky e = by (int_eq b.lo b.hi && can_shift k b.lo) refl
  where
    value : wrap k (int_div_euclid x (pos (2 ^ unsigned_abs y))) ≡ z
    value = when_ok (can_shift k y) (wrap k (int_div_euclid x (pos (2 ^ unsigned_abs y)))) z _ e

    by : (t : Bool) → (int_eq b.lo b.hi && can_shift k b.lo) ≡ t → Within (cond t (fitted k (record { lo = int_div_euclid a.lo (pos (2 ^ unsigned_abs b.lo)); hi = int_div_euclid a.hi (pos (2 ^ unsigned_abs b.lo)) })) (whole k)) z
    by true t =
        let one : b.lo ≡ b.hi = (Decides-int_eq b.lo b.hi).0 (and_left _ _ t) in
        let count : y ≡ b.lo = omega (arith, ints, one, i.at_least, i.at_most) in
        fits k _ (int_div_euclid x (pos (2 ^ unsigned_abs b.lo))) z
        (record { at_least = shift_up a.lo x (2 ^ unsigned_abs b.lo) (pow_pos (unsigned_abs b.lo)) h.at_least; at_most = shift_up x a.hi (2 ^ unsigned_abs b.lo) (pow_pos (unsigned_abs b.lo)) h.at_most })
        (ap (λ v. wrap k (int_div_euclid x (pos (2 ^ unsigned_abs v)))) (sym count) ∙ value)
    by false t = within_whole k z (InKind-binary binop.Shr k x y z e)

-- Each result of an operation on numbers of the ranges lies in the range of the operation.
pub range_of_sound : (op : BinOp) → Sound op
unfolding range_of
range_of_sound binop.Add = of_sum
range_of_sound binop.Sub = of_difference
range_of_sound binop.Mul = of_product
range_of_sound binop.Div = of_quotient
range_of_sound binop.Rem = of_remainder
range_of_sound binop.BitAnd = of_conjunction
range_of_sound binop.BitOr = of_disjunction
range_of_sound binop.BitXor = λ k a b x y z wa wb h i kx ky e. within_whole k z (InKind-binary binop.BitXor k x y z e)
range_of_sound binop.Shl = λ k a b x y z wa wb h i kx ky e. within_whole k z (InKind-binary binop.Shl k x y z e)
range_of_sound binop.Shr = of_shift
range_of_sound binop.Ushr = λ k a b x y z wa wb h i kx ky e. within_whole k z (InKind-binary binop.Ushr k x y z e)
