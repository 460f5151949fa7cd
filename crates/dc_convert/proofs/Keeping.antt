-- What is left of a number that goes to another kind.
use Rattle.std.proofs.Common.{◌≡◌, ◌∙◌, refl, sym, ap, subst, ℕ, ◌-◌, ◌^◌, ◌<◌, ◌≤◌, Bool, true, false, not, ◌&&◌, ◌||◌, ℤ, pos, negsuc, neg_ℤ, ◌+ℤ◌, ◌-ℤ◌, ◌≤ℤ◌, ◌<ℤ◌, inl, inr, arith, nat_lt, IsTrue}
use Rattle.std.specs.Prelude.{nat_le}
use Rattle.std.proofs.lemmas.Int.{ints}
use Rattle.std.proofs.lemmas.Bool.Decides.{nat_tests}
use Rattle.std.proofs.Math.Pow.{pow_mono}
use Rattle.dc_types.specs.declared.kind.Kind.{Kind}
use Rattle.dc_types.specs.declared.kind.Kind.TheVariants as kinds
use Rattle.dc_candidate.specs.declared.range.Range.{Range}
use Rattle.dc_types.specs.Integers.{bits_of, is_signed, least, greatest, wrap, InKind}
use Rattle.dc_types.specs.declared.ty.Ty.{Ty}
use Rattle.dc_types.specs.Exact.{ty-Decides}
use Rattle.dc_types.specs.Same as same
use Rattle.dc_types.proofs.Integers.{wrap_in_kind, InKind-wrap}
use Rattle.dc_convert.specs.Ranges.{Within, IsRange, whole, lies}
use Rattle.dc_convert.specs.Levels.{widens, number_goes, Keeps, LosesThere}
use Rattle.dc_convert.proofs.Ends.{lies_is, and_left}
use Rattle.dc_convert.proofs.Sound.{greatest_below, and_right}

least_above : (k : Kind) → neg_ℤ (pos (2 ^ bits_of k)) ≤ℤ least k
unfolding least bits_of
least_above kinds.Bool = omega (arith, ints)
least_above kinds.I8 = omega (arith, ints)
least_above kinds.U8 = omega (arith, ints)
least_above kinds.I16 = omega (arith, ints)
least_above kinds.U16 = omega (arith, ints)
least_above kinds.I32 = omega (arith, ints)
least_above kinds.U32 = omega (arith, ints)
least_above kinds.I64 = omega (arith, ints)
least_above kinds.U64 = omega (arith, ints)
least_above kinds.Char = omega (arith, ints)

signed_room : (j : Kind) → is_signed j ≡ true → (least j ≤ℤ neg_ℤ (pos (2 ^ (bits_of j - 1)))) × (pos (2 ^ (bits_of j - 1)) ≤ℤ (greatest j +ℤ pos 1))
unfolding is_signed least greatest bits_of
signed_room kinds.I8 e = (omega (arith, ints), omega (arith, ints))
signed_room kinds.I16 e = (omega (arith, ints), omega (arith, ints))
signed_room kinds.I32 e = (omega (arith, ints), omega (arith, ints))
signed_room kinds.I64 e = (omega (arith, ints), omega (arith, ints))
signed_room kinds.Bool e = absurd (cc)
signed_room kinds.U8 e = absurd (cc)
signed_room kinds.U16 e = absurd (cc)
signed_room kinds.U32 e = absurd (cc)
signed_room kinds.U64 e = absurd (cc)
signed_room kinds.Char e = absurd (cc)

unsigned_room : (j : Kind) → is_signed j ≡ false → not (same.kind j kinds.Bool) ≡ true → (least j ≤ℤ pos 0) × (pos (2 ^ bits_of j) ≤ℤ (greatest j +ℤ pos 1))
unfolding is_signed least greatest bits_of
unsigned_room kinds.I8 e n = absurd (cc)
unsigned_room kinds.I16 e n = absurd (cc)
unsigned_room kinds.I32 e n = absurd (cc)
unsigned_room kinds.I64 e n = absurd (cc)
unsigned_room kinds.Bool e n = absurd (cc)
unsigned_room kinds.U8 e n = (omega (arith, ints), omega (arith, ints))
unsigned_room kinds.U16 e n = (omega (arith, ints), omega (arith, ints))
unsigned_room kinds.U32 e n = (omega (arith, ints), omega (arith, ints))
unsigned_room kinds.U64 e n = (omega (arith, ints), omega (arith, ints))
unsigned_room kinds.Char e n = (omega (arith, ints), omega (arith, ints))

by_sign : {P : Type 0} (z : ℤ) → (pos 0 ≤ℤ z → P) → (z <ℤ pos 0 → P) → P
by_sign (pos n) f g = f (omega (arith, ints))
by_sign (negsuc n) f g = g (omega (arith, ints))

below_or_same : {P : Type 0} (m n : ℕ) → m ≤ n → (m ≡ n → P) → (m < n → P) → P
below_or_same {P = P} m n h f g = by (nat_lt m n) refl
  where
    by : (t : Bool) → nat_lt m n ≡ t → P
    by true e = g (grind (arith, nat_tests))
    by false e = f (grind (arith, nat_tests))

-- the ends of a signed kind, and the lower one of a kind without sign
signed_ends : (k : Kind) → is_signed k ≡ true → (neg_ℤ (pos (2 ^ (bits_of k - 1))) ≤ℤ least k) × ((greatest k +ℤ pos 1) ≤ℤ pos (2 ^ (bits_of k - 1)))
unfolding is_signed least greatest bits_of
signed_ends kinds.I8 e = (omega (arith, ints), omega (arith, ints))
signed_ends kinds.I16 e = (omega (arith, ints), omega (arith, ints))
signed_ends kinds.I32 e = (omega (arith, ints), omega (arith, ints))
signed_ends kinds.I64 e = (omega (arith, ints), omega (arith, ints))
signed_ends kinds.Bool e = absurd (cc)
signed_ends kinds.U8 e = absurd (cc)
signed_ends kinds.U16 e = absurd (cc)
signed_ends kinds.U32 e = absurd (cc)
signed_ends kinds.U64 e = absurd (cc)
signed_ends kinds.Char e = absurd (cc)

unsigned_least : (k : Kind) → is_signed k ≡ false → pos 0 ≤ℤ least k
unfolding is_signed least
unsigned_least kinds.I8 e = absurd (cc)
unsigned_least kinds.I16 e = absurd (cc)
unsigned_least kinds.I32 e = absurd (cc)
unsigned_least kinds.I64 e = absurd (cc)
unsigned_least kinds.Bool e = omega (arith, ints)
unsigned_least kinds.U8 e = omega (arith, ints)
unsigned_least kinds.U16 e = omega (arith, ints)
unsigned_least kinds.U32 e = omega (arith, ints)
unsigned_least kinds.U64 e = omega (arith, ints)
unsigned_least kinds.Char e = omega (arith, ints)

-- a number is past another or isn't
by_order : {P : Type 0} (z l : ℤ) → (z ≤ℤ l → P) → (l <ℤ z → P) → P
by_order z l f g = by_sign (l -ℤ z) (λ p. f (omega (arith, ints, p))) (λ p. g (omega (arith, ints, p)))

-- a kind goes to a signed one that is at least as wide
onto_signed : (k j : Kind) (z : ℤ) → bits_of k ≤ bits_of j → is_signed j ≡ true → InKind k z → Keeps k j z
onto_signed k j z w e h = by (is_signed k) refl
  where
    by : (t : Bool) → is_signed k ≡ t → Keeps k j z
    by true f =
        let room = signed_room j e in
        let ends = signed_ends k f in
        let p : 2 ^ (bits_of k - 1) ≤ 2 ^ (bits_of j - 1) = pow_mono (omega arith) in
        inl (wrap_in_kind j z (record { at_least = omega (arith, ints, room.0, p, ends.0, h.at_least); at_most = omega (arith, ints, room.1, p, ends.1, h.at_most) }))
    by false f =
        let room = signed_room j e in
        let from_zero = unsigned_least k f in
        below_or_same (bits_of k) (bits_of j) w
        (λ same. by_order z (greatest j)
        (λ low. inl (wrap_in_kind j z (record { at_least = omega (arith, ints, room.0, from_zero, h.at_least); at_most = low })))
        (λ high. inr (inl (record { from = f; onto = e; width = same; past = high }))))
        (λ less.
        let p : 2 ^ bits_of k ≤ 2 ^ (bits_of j - 1) = pow_mono (omega arith) in
        let g = greatest_below k in
        inl (wrap_in_kind j z (record { at_least = omega (arith, ints, room.0, from_zero, h.at_least); at_most = omega (arith, ints, room.1, p, g, h.at_most) })))

is_other : (j : Kind) → not (same.kind j kinds.Bool) ≡ true → j ≡ kinds.Bool → ⊥
is_other j n e = let no : not (same.kind kinds.Bool kinds.Bool) ≡ true = subst (λ v. not (same.kind v kinds.Bool) ≡ true) e n in absurd (cc)

-- a kind goes to an unsigned one that is at least as wide and isn't `bool`
onto_unsigned : (k j : Kind) (z : ℤ) → bits_of k ≤ bits_of j → is_signed j ≡ false → not (same.kind j kinds.Bool) ≡ true → InKind k z → Keeps k j z
onto_unsigned k j z w e other h =
    let room = unsigned_room j e other in
    let p : 2 ^ bits_of k ≤ 2 ^ bits_of j = pow_mono w in
    let g = greatest_below k in
    by_sign z
    (λ low. inl (wrap_in_kind j z (record { at_least = omega (arith, ints, room.0, low); at_most = omega (arith, ints, room.1, p, g, h.at_most) })))
    (λ below. inr (inr (record { from = by below (is_signed k) refl; onto = e; other = is_other j other; width = w; below = below })))
  where
    by : z <ℤ pos 0 → (t : Bool) → is_signed k ≡ t → is_signed k ≡ true
    by below true f = f
    by below false f = let low = unsigned_least k f in absurd (omega (arith, ints, low, below, h.at_least))

widens_is : (k j : Kind) → widens k j ≡ true → (bits_of k ≤ bits_of j) × (not (same.kind j kinds.Bool) ≡ true)
unfolding widens
widens_is k j e =
    let first : nat_le (bits_of k) (bits_of j) ≡ true = and_left _ _ e in
    (grind (arith, nat_tests), and_right (nat_le (bits_of k) (bits_of j)) _ e)

-- A number that goes to another kind keeps its value but in the cases that `Keeps` names.
pub keeps : (k : Kind) (r : Range) (j : Kind) (z : ℤ) → number_goes k r j ≡ true → InKind k z → Within r z → Keeps k j z
keeps k r j z e h i = by (widens k j) refl (lies r j) refl
  where
    sorted : bits_of k ≤ bits_of j → not (same.kind j kinds.Bool) ≡ true → (t : Bool) → is_signed j ≡ t → Keeps k j z
    sorted w other true e = onto_signed k j z w e h
    sorted w other false e = onto_unsigned k j z w e other h

    wide : widens k j ≡ true → Keeps k j z
    wide t = let w = widens_is k j t in sorted w.0 w.1 (is_signed j) refl

    by : (t : Bool) → widens k j ≡ t → (u : Bool) → lies r j ≡ u → Keeps k j z
    by true t u f = wide t
    by false t true u =
        let d = (lies_is r j).0 u in
        let low = d.0 in let high = d.1 in
        inl (wrap_in_kind j z (record { at_least = omega (arith, ints, low, i.at_least); at_most = omega (arith, ints, high, i.at_most) }))
    by false t false u = let no : (false || false) ≡ true = sym (ap (λ v. v || lies r j) t ∙ ap (λ v. false || v) u) ∙ e in absurd (cc)

signed_other : (j : Kind) → is_signed j ≡ true → not (same.kind j kinds.Bool) ≡ true
unfolding is_signed
signed_other kinds.Bool e = absurd (cc)
signed_other j e = refl

is_not : (j : Kind) → (j ≡ kinds.Bool → ⊥) → not (same.kind j kinds.Bool) ≡ true
is_not kinds.Bool n = absurd (n refl)
is_not j n = refl

widens_by : (k j : Kind) → bits_of k ≤ bits_of j → not (same.kind j kinds.Bool) ≡ true → widens k j ≡ true
unfolding widens
widens_by k j w other =
    let test : nat_le (bits_of k) (bits_of j) ≡ true = grind (arith, nat_tests) in
    ap (λ t. t && not (same.kind j kinds.Bool)) test ∙ other

-- a number that stays the same is one of the kind
stays_in : (j : Kind) (z : ℤ) → wrap j z ≡ z → InKind j z
stays_in j z e = subst (InKind j) e (InKind-wrap j z)

-- In the cases that `Keeps` names the conversion is made, and the number changes.
pub loses_there : LosesThere
loses_there k j z (inl m) = (
  widens_by k j (omega (arith, m.width)) (signed_other j m.onto),
  λ e. let i = stays_in j z e in absurd (omega (arith, ints, i.at_most, m.past)),
)
loses_there k j z (inr m) = (
  widens_by k j m.width (is_not j m.other),
  λ e. let i = stays_in j z e in let low = unsigned_least j m.onto in absurd (omega (arith, ints, i.at_least, low, m.below)),
)

pub true_of : (b : Bool) → IsTrue b → b ≡ true
true_of b h = h

-- two types that the test tells apart
pub differ : (s t : Ty) → same.ty s t ≡ false → s ≡ t → ⊥
differ s t e is = let yes_it_is = (ty-Decides s t).1 is in absurd (cc)

least_at_most : (k : Kind) → least k ≤ℤ greatest k
unfolding least greatest
least_at_most kinds.Bool = omega (arith, ints)
least_at_most kinds.I8 = omega (arith, ints)
least_at_most kinds.U8 = omega (arith, ints)
least_at_most kinds.I16 = omega (arith, ints)
least_at_most kinds.U16 = omega (arith, ints)
least_at_most kinds.I32 = omega (arith, ints)
least_at_most kinds.U32 = omega (arith, ints)
least_at_most kinds.I64 = omega (arith, ints)
least_at_most kinds.U64 = omega (arith, ints)
least_at_most kinds.Char = omega (arith, ints)

-- all numbers of a kind are a range
pub whole_is_range : (k : Kind) → IsRange (whole k)
unfolding whole
whole_is_range k = record { kind = k; from = omega (arith, ints); some = least_at_most k; to = omega (arith, ints) }

pub lies_is_range : (r : Range) (k : Kind) → r.lo ≤ℤ r.hi → lies r k ≡ true → IsRange r
lies_is_range r k some e = let d = (lies_is r k).0 e in record { kind = k; from = d.0; some = some; to = d.1 }
