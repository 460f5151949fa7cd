-- The ends of ranges in 128 bits.
use Rattle.std.proofs.Common.{◌≡◌, ◌∙◌, refl, sym, ap, subst, ◌^◌, Bool, true, false, cond, ◌&&◌, ℤ, pos, negsuc, neg_ℤ, ◌*ℤ◌, ◌≤ℤ◌, ◌<ℤ◌, arith, FitsSigned, Fits, to_z, of_z, rules}
use Rattle.std.specs.Prelude.{int_le, int_lt, int_div}
use lib.Dec.{T}
use lib.Signed.{non_neg}
use lib.IntN.{nat_abs}
use Rattle.std.specs.Int.{saturate_to_bits, int_min, int_max, w64, w128}
use Rattle.std.specs.Bool.{Decides}
use Rattle.std.proofs.lemmas.Bool.Decides.{Decides-and}
use Rattle.std.proofs.lemmas.Int.{ints, clamps, to_z-of_z, quot_fits}
use Rattle.dc_types.specs.Integers.{least, greatest}
use Rattle.dc_types.specs.declared.kind.Kind.{Kind}
use Rattle.dc_types.specs.declared.kind.Kind.TheVariants as kinds
use Rattle.dc_candidate.specs.declared.range.Range.{Range}
use Rattle.dc_convert.specs.Ranges.{IsRange, IsWide, whole, lies, fitted, spanned, above_zero, from_zero}

abbrev pub of_ends : ℤ → ℤ → Range
of_ends l h = record { lo = l; hi = h }

pub same_ends : (l h m n : ℤ) → l ≡ m → h ≡ n → of_ends l h ≡ of_ends m n
same_ends l h m n e f = ap (λ z. of_ends z h) e ∙ ap (λ z. of_ends m z) f

least_wide : (k : Kind) → neg_ℤ (pos (2 ^ 63)) ≤ℤ least k
unfolding least
least_wide kinds.Bool = omega (arith, ints)
least_wide kinds.I8 = omega (arith, ints)
least_wide kinds.U8 = omega (arith, ints)
least_wide kinds.I16 = omega (arith, ints)
least_wide kinds.U16 = omega (arith, ints)
least_wide kinds.I32 = omega (arith, ints)
least_wide kinds.U32 = omega (arith, ints)
least_wide kinds.I64 = omega (arith, ints)
least_wide kinds.U64 = omega (arith, ints)
least_wide kinds.Char = omega (arith, ints)

greatest_wide : (k : Kind) → greatest k <ℤ pos (2 ^ 64)
unfolding greatest
greatest_wide kinds.Bool = omega (arith, ints)
greatest_wide kinds.I8 = omega (arith, ints)
greatest_wide kinds.U8 = omega (arith, ints)
greatest_wide kinds.I16 = omega (arith, ints)
greatest_wide kinds.U16 = omega (arith, ints)
greatest_wide kinds.I32 = omega (arith, ints)
greatest_wide kinds.U32 = omega (arith, ints)
greatest_wide kinds.I64 = omega (arith, ints)
greatest_wide kinds.U64 = omega (arith, ints)
greatest_wide kinds.Char = omega (arith, ints)

-- a range of a kind is one of at most 64 bits
pub wide : (r : Range) → IsRange r → IsWide r
wide r h = let l = least_wide h.kind in let g = greatest_wide h.kind in record {
  from = omega (arith, ints, h.from);
  some = h.some;
  to = omega (arith, ints, h.to);
}

abbrev pub through : ℤ → ℤ
through z = to_z w128 (of_z w128 z)

pub min_fits : (x y : ℤ) → FitsSigned w128 x → FitsSigned w128 y → FitsSigned w128 (int_min x y)
min_fits x y f g = elim (int_lt y x) as (λ t. FitsSigned w128 (cond t y x)) [ true ↦ g | false ↦ f ]

pub max_fits : (x y : ℤ) → FitsSigned w128 x → FitsSigned w128 y → FitsSigned w128 (int_max x y)
max_fits x y f g = elim (int_lt y x) as (λ t. FitsSigned w128 (cond t x y)) [ true ↦ f | false ↦ g ]

pub min_is : (x y r : ℤ) → FitsSigned w128 x → FitsSigned w128 y → r ≡ int_min (through x) (through y) → through r ≡ int_min x y
min_is x y r f g e =
    let is : r ≡ int_min x y = e ∙ ap (λ z. int_min z (through y)) (to_z-of_z w128 x f) ∙ ap (int_min x) (to_z-of_z w128 y g) in
    ap through is ∙ to_z-of_z w128 (int_min x y) (min_fits x y f g)

pub max_is : (x y r : ℤ) → FitsSigned w128 x → FitsSigned w128 y → r ≡ int_max (through x) (through y) → through r ≡ int_max x y
max_is x y r f g e =
    let is : r ≡ int_max x y = e ∙ ap (λ z. int_max z (through y)) (to_z-of_z w128 x f) ∙ ap (int_max x) (to_z-of_z w128 y g) in
    ap through is ∙ to_z-of_z w128 (int_max x y) (max_fits x y f g)

pub four_least : (w x y z p q r : ℤ) → FitsSigned w128 w → FitsSigned w128 x → FitsSigned w128 y → FitsSigned w128 z → p ≡ int_min (through w) (through x) → q ≡ int_min (through y) (through z) → r ≡ int_min (through p) (through q) → through r ≡ int_min (int_min w x) (int_min y z)
four_least w x y z p q r fw fx fy fz e f g =
    let is : r ≡ int_min (int_min w x) (int_min y z) = g ∙ ap (λ v. int_min v (through q)) (min_is w x p fw fx e) ∙ ap (int_min (int_min w x)) (min_is y z q fy fz f) in
    ap through is ∙ to_z-of_z w128 _ (min_fits (int_min w x) (int_min y z) (min_fits w x fw fx) (min_fits y z fy fz))

pub four_most : (w x y z p q r : ℤ) → FitsSigned w128 w → FitsSigned w128 x → FitsSigned w128 y → FitsSigned w128 z → p ≡ int_max (through w) (through x) → q ≡ int_max (through y) (through z) → r ≡ int_max (through p) (through q) → through r ≡ int_max (int_max w x) (int_max y z)
four_most w x y z p q r fw fx fy fz e f g =
    let is : r ≡ int_max (int_max w x) (int_max y z) = g ∙ ap (λ v. int_max v (through q)) (max_is w x p fw fx e) ∙ ap (int_max (int_max w x)) (max_is y z q fy fz f) in
    ap through is ∙ to_z-of_z w128 _ (max_fits (int_max w x) (int_max y z) (max_fits w x fw fx) (max_fits y z fy fz))

-- a number from 0 to 2 ^ 64 - 1 goes to 64 bits
pub top_fits : (t : ℤ) → pos 0 ≤ℤ t → t <ℤ pos (2 ^ 64) → T (non_neg (through t)) × Fits w64 (nat_abs (through t))
top_fits t low high =
    subst (λ z. T (non_neg z) × Fits w64 (nat_abs z)) (sym (to_z-of_z w128 t (omega (arith, ints)))) (here t low high)
  where
    here : (t : ℤ) → pos 0 ≤ℤ t → t <ℤ pos (2 ^ 64) → T (non_neg t) × Fits w64 (nat_abs t)
    here (pos n) low high = (tt, search (rules, arith, ints))
    here (negsuc n) low high = absurd (omega (arith, ints))

abbrev pub saturate : ℤ → ℤ
saturate z = saturate_to_bits 127 z

saturated : (z : ℤ) → neg_ℤ (pos (2 ^ 63)) ≤ℤ saturate z → saturate z <ℤ pos (2 ^ 64) → saturate z ≡ z
saturated (pos n) low high = ap pos (omega (arith, ints))
saturated (negsuc n) low high = ap negsuc (omega (arith, ints))

unsaturated : (z : ℤ) → neg_ℤ (pos (2 ^ 63)) ≤ℤ z → z <ℤ pos (2 ^ 64) → saturate z ≡ z
unsaturated (pos n) low high = ap pos (omega (arith, ints))
unsaturated (negsuc n) low high = ap negsuc (omega (arith, ints))

pub le_true : (a b : ℤ) → int_le a b ≡ true → a ≤ℤ b
le_true a b h = grind (arith, ints)

pub true_le : (a b : ℤ) → a ≤ℤ b → int_le a b ≡ true
true_le a b h = grind (arith, ints)

pub lt_true : (a b : ℤ) → int_lt a b ≡ true → a <ℤ b
lt_true a b h = grind (arith, ints)

pub lies_is : (r : Range) (k : Kind) → Decides (lies r k) ((least k ≤ℤ r.lo) × (r.hi ≤ℤ greatest k))
unfolding lies
lies_is r k = Decides-and (int_le (least k) r.lo) (int_le r.hi (greatest k)) (le_true _ _, true_le _ _) (le_true _ _, true_le _ _)

min_low : (l x y : ℤ) → l ≤ℤ int_min x y → (l ≤ℤ x) × (l ≤ℤ y)
min_low l x y h = (omega (arith, ints, clamps), omega (arith, ints, clamps))

max_high : (h x y : ℤ) → int_max x y ≤ℤ h → (x ≤ℤ h) × (y ≤ℤ h)
max_high h x y e = (omega (arith, ints, clamps), omega (arith, ints, clamps))

-- what is at most the least of four numbers, or at least the greatest
pub span_low : (w x y z l : ℤ) → l ≤ℤ (spanned w x y z).lo → (l ≤ℤ w) × (l ≤ℤ x) × (l ≤ℤ y) × (l ≤ℤ z)
unfolding spanned
span_low w x y z l h =
    let m = min_low l (int_min w x) (int_min y z) h in
    let p = min_low l w x m.0 in let q = min_low l y z m.1 in
    (p.0, p.1, q.0, q.1)

pub span_high : (w x y z h : ℤ) → (spanned w x y z).hi ≤ℤ h → (w ≤ℤ h) × (x ≤ℤ h) × (y ≤ℤ h) × (z ≤ℤ h)
unfolding spanned
span_high w x y z h e =
    let m = max_high h (int_max w x) (int_max y z) e in
    let p = max_high h w x m.0 in let q = max_high h y z m.1 in
    (p.0, p.1, q.0, q.1)

pub same_span : (w x y z p q r s : ℤ) → w ≡ p → x ≡ q → y ≡ r → z ≡ s → spanned w x y z ≡ spanned p q r s
same_span w x y z p q r s e f g h = ap (λ v. spanned v x y z) e ∙ ap (λ v. spanned p v y z) f ∙ ap (λ v. spanned p q v z) g ∙ ap (spanned p q r) h

-- to saturate four numbers in 128 bits first changes no fitted range
pub saturated_same : (k : Kind) (w x y z : ℤ) → fitted k (spanned (saturate w) (saturate x) (saturate y) (saturate z)) ≡ fitted k (spanned w x y z)
unfolding fitted
saturated_same k w x y z = by (lies (spanned (saturate w) (saturate x) (saturate y) (saturate z)) k) refl (lies (spanned w x y z) k) refl
  where
    inner : (v : ℤ) → least k ≤ℤ saturate v → saturate v ≤ℤ greatest k → saturate v ≡ v
    inner v low high = let l = least_wide k in let g = greatest_wide k in saturated v (omega (arith, ints)) (omega (arith, ints))

    outer : (v : ℤ) → least k ≤ℤ v → v ≤ℤ greatest k → saturate v ≡ v
    outer v low high = let l = least_wide k in let g = greatest_wide k in unsaturated v (omega (arith, ints)) (omega (arith, ints))

    by : (t : Bool) → lies (spanned (saturate w) (saturate x) (saturate y) (saturate z)) k ≡ t → (u : Bool) → lies (spanned w x y z) k ≡ u → fitted k (spanned (saturate w) (saturate x) (saturate y) (saturate z)) ≡ fitted k (spanned w x y z)
    by true e u f =
        let d = (lies_is (spanned (saturate w) (saturate x) (saturate y) (saturate z)) k).0 e in
        let l = span_low (saturate w) (saturate x) (saturate y) (saturate z) (least k) d.0 in
        let h = span_high (saturate w) (saturate x) (saturate y) (saturate z) (greatest k) d.1 in
        ap (fitted k) (same_span _ _ _ _ _ _ _ _ (inner w l.0 h.0) (inner x l.1 h.1) (inner y l.2 h.2) (inner z l.3 h.3))
    by false e true f =
        let d = (lies_is (spanned w x y z) k).0 f in
        let l = span_low w x y z (least k) d.0 in
        let h = span_high w x y z (greatest k) d.1 in
        ap (fitted k) (same_span _ _ _ _ _ _ _ _ (outer w l.0 h.0) (outer x l.1 h.1) (outer y l.2 h.2) (outer z l.3 h.3))
    by false e false f = ap (λ t. cond t (spanned (saturate w) (saturate x) (saturate y) (saturate z)) (whole k)) e ∙ sym (ap (λ t. cond t (spanned w x y z) (whole k)) f)

pub low_fits : (r : Range) → IsWide r → FitsSigned w128 r.lo
low_fits r h = omega (arith, ints, h.from, h.some, h.to)

pub high_fits : (r : Range) → IsWide r → FitsSigned w128 r.hi
high_fits r h = omega (arith, ints, h.from, h.some, h.to)

-- the first of two, where the test holds
pub taken : (t : Bool) (a b : Range) → t ≡ true → a ≡ cond t a b
taken t a b e = ap (λ v. cond v a b) (sym e)

-- a quotient by a number above 0 needs no more bits
pub quotient_through : (a b : ℤ) → FitsSigned w128 a → FitsSigned w128 b → pos 0 <ℤ b → through (int_div (through a) (through b)) ≡ int_div a b
quotient_through a b f g some =
    ap (λ v. through (int_div v (through b))) (to_z-of_z w128 a f)
    ∙ ap (λ v. through (int_div a v)) (to_z-of_z w128 b g)
    ∙ to_z-of_z w128 (int_div a b) (quot_fits w128 a b f some)

pub is_above : (r : Range) → IsWide r → above_zero r ≡ true → (pos 0 <ℤ r.lo) × (pos 0 <ℤ r.hi)
is_above r h e = let l : pos 0 <ℤ r.lo = lt_true (pos 0) r.lo e in (l, omega (arith, ints, h.some))

pub product_through : (r a b : ℤ) → FitsSigned w128 r → FitsSigned w128 a → FitsSigned w128 b → r ≡ saturate (through a *ℤ through b) → through r ≡ saturate (a *ℤ b)
product_through r a b h f g e = to_z-of_z w128 r h ∙ e ∙ ap (λ v. saturate (v *ℤ through b)) (to_z-of_z w128 a f) ∙ ap (λ v. saturate (a *ℤ v)) (to_z-of_z w128 b g)

-- the greater of two upper ends, of ranges from 0 up
pub top_between : (a b : Range) (t : ℤ) → IsWide a → IsWide b → from_zero a ≡ true → t ≡ int_max (through a.hi) (through b.hi) → (pos 0 ≤ℤ t) × (t <ℤ pos (2 ^ 64)) × (through t ≡ int_max a.hi b.hi)
top_between a b t g h e is =
    let same = max_is a.hi b.hi t (high_fits a g) (high_fits b h) is in
    let z : pos 0 ≤ℤ a.lo = le_true (pos 0) a.lo e in
    let plain : t ≡ int_max a.hi b.hi = is ∙ ap (λ v. int_max v (through b.hi)) (to_z-of_z w128 a.hi (high_fits a g)) ∙ ap (int_max a.hi) (to_z-of_z w128 b.hi (high_fits b h)) in
    (omega (arith, ints, clamps, g.some, g.to, h.to), omega (arith, ints, clamps, g.some, g.to, h.to), same)

pub not_taken : (t : Bool) (a b : Range) → t ≡ false → b ≡ cond t a b
not_taken t a b e = ap (λ v. cond v a b) (sym e)

pub and_left : (s t : Bool) → (s && t) ≡ true → s ≡ true
and_left true t e = refl
and_left false t e = e
