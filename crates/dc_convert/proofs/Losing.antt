-- A conversion of a number loses no value but in the cases that `Keeps` names, from enums and to enums too.
use Rattle.std.proofs.Common.{◌≡◌, ◌∙◌, refl, sym, ap, subst, Bool, true, false, ◌||◌, List, Option, Some, None, ℤ, ◌⊎◌, inl, inr}
use Rattle.dc_types.specs.declared.kind.Kind.{Kind}
use Rattle.dc_candidate.specs.declared.range.Range.{Range}
use Rattle.dc_candidate.specs.declared.range.Source.{Source, map-Source, out-Source, roll-out-Source}
use Rattle.dc_candidate.specs.declared.range.Source.TheFolds.{fold-roll-Source}
use Rattle.dc_types.specs.declared.ty.Ty.{Ty, map-Ty}
use Rattle.dc_types.specs.declared.ty.Ty.TheViews.{out-Ty, roll-Ty, roll-out-Ty}
use Rattle.dc_types.specs.declared.ty.Ty.TheOpen.{Ty-F}
use Rattle.dc_types.specs.declared.ty.Ty.TheFolds.{fold-roll-Ty, ind-Ty}
use Rattle.dc_types.specs.Integers.{InKind, wrap}
use Rattle.dc_types.proofs.Integers.{wrap_in_kind}
use Rattle.dc_types.specs.Exact.{ty-Decides}
use Rattle.dc_types.specs.Same as same
use Rattle.dc_convert.specs.Ranges.{Within}
use Rattle.dc_convert.specs.Levels.{Tests, tests, goes, goes_at, literal_at, fits_at, fits, type_of, number_goes, Keeps}
use Rattle.dc_convert.specs.CommonKinds.{kind_at, kind_of}
use Rattle.dc_convert.proofs.Keeping.{keeps}
use Rattle.dc_convert.proofs.Bases.{tests_is}

one_kind : (k j : Kind) → Some k ≡ Some j → k ≡ j
one_kind k j e = cc

-- a number stays where its kind does
same_kind : (k j : Kind) (z : ℤ) → k ≡ j → InKind k z → Keeps k j z
same_kind k j z e h = inl (subst (λ v. wrap v z ≡ z) e (wrap_in_kind k z h))

either : (s t : Bool) → (s || t) ≡ true → (s ≡ true) ⊎ (t ≡ true)
either true t e = inl refl
either false t e = inr e

kind_rolled : (x : Ty-F Ty) → kind_of (roll-Ty x) ≡ kind_at (map-Ty Ty (Option Kind) kind_of x)
kind_rolled x = fold-roll-Ty (Option Kind) kind_at x

kind_out : (t : Ty) → kind_of t ≡ kind_at (map-Ty Ty (Option Kind) kind_of (out-Ty t))
kind_out t = ap kind_of (sym (roll-out-Ty t)) ∙ kind_rolled (out-Ty t)

pub equal_types : (s t : Ty) (k j : Kind) (z : ℤ) → same.ty s t ≡ true → kind_of s ≡ Some k → kind_of t ≡ Some j → InKind k z → Keeps k j z
equal_types s t k j z e p q h = same_kind k j z (one_kind k j (sym p ∙ ap kind_of ((ty-Decides s t).0 e) ∙ q)) h

module _ (r : Range) (place : Bool) where
  abbrev step : Ty-F Tests → Tests
  step x = record { is = λ to. same.ty_at (map-Ty Tests (Ty → Bool) (λ t. t.is) x) (out-Ty to); goes = λ to. goes_at r place x to (out-Ty to) }

  abbrev Stays : Ty → Type 0
  Stays t = (to : Ty) (k j : Kind) (z : ℤ) → goes r place t to ≡ true → kind_of t ≡ Some k → kind_of to ≡ Some j → InKind k z → Within r z → Keeps k j z

  abbrev Part : Type 0
  Part = (t : Ty) × Stays t

  abbrev bare : Ty-F Part → Ty-F Ty
  bare x = map-Ty Part Ty (λ p. p.0) x

  layer : (x : Ty-F Part) (to : Ty) (y : Ty-F Ty) (k j : Kind) (z : ℤ) → goes_at r place (map-Ty Ty Tests (tests r place) (bare x)) to y ≡ true → kind_at (map-Ty Ty (Option Kind) kind_of (bare x)) ≡ Some k → kind_of to ≡ Some j → kind_at (map-Ty Ty (Option Kind) kind_of y) ≡ Some j → InKind k z → Within r z → Keeps k j z
  layer (Ty-F.Int a) to (Ty-F.Int b) k j z e p q w h i =
      let first : a ≡ k = one_kind a k p in let second : b ≡ j = one_kind b j w in
      keeps k r j z (subst (λ v. number_goes k r v ≡ true) second (subst (λ v. number_goes v r b ≡ true) first e)) h i
  layer (Ty-F.Enum at base) to y k j z e p q w h i =
      elim (either ((tests r place base.0).is to) (goes r place base.0 to) e) [
        | inl same_one ↦ equal_types base.0 to k j z (sym (tests_is r place base.0 to) ∙ same_one) p q h
        | inr further ↦ base.1 to k j z further p q h i
      ]
  layer x to y k j z e p q w h i = absurd (cc)

  stays : (t : Ty) → Stays t
  stays = ind-Ty Stays (λ x y is to k j z e p q h i.
      layer y to (out-Ty to) k j z
      (subst (λ v. goes_at r place (map-Ty Ty Tests (tests r place) v) to (out-Ty to) ≡ true) (sym is) (sym (ap (λ t. t.goes to) (fold-roll-Ty Tests step x)) ∙ e))
      (subst (λ v. kind_at (map-Ty Ty (Option Kind) kind_of v) ≡ Some k) (sym is) (sym (kind_rolled x) ∙ p))
      q (sym (kind_out to) ∙ q) h i)

-- no array literal goes to a number
no_literal : (items : Option (List (Ty → Bool))) (y : Ty-F Ty) (j : Kind) → literal_at items y ≡ true → kind_at (map-Ty Ty (Option Kind) kind_of y) ≡ Some j → ⊥
no_literal None y j e p = absurd (cc)
no_literal (Some items) (Ty-F.Int b) j e p = absurd (cc)
no_literal (Some items) (Ty-F.Enum at base) j e p = absurd (cc)
no_literal (Some items) y j e p = absurd (cc)

fits_out : (s : Source) → fits s ≡ fits_at (map-Source Source (Ty → Bool) fits (out-Source s))
fits_out s = ap fits (sym (roll-out-Source s)) ∙ fold-roll-Source (Ty → Bool) fits_at (out-Source s)

pub fitting_keeps : (s : Source) (to : Ty) (k j : Kind) (z : ℤ) → fits s to ≡ true → kind_of (type_of s) ≡ Some k → kind_of to ≡ Some j → InKind k z → Within (out-Source s).range z → Keeps k j z
fitting_keeps s to k j z e p q h i =
    let o = map-Source Source (Ty → Bool) fits (out-Source s) in
    let whole : fits_at o to ≡ true = sym (ap (λ f. f to) (fits_out s)) ∙ e in
    let t = type_of s in let r = (out-Source s).range in let place = (out-Source s).place in
    elim (either (same.ty t to || goes r place t to) (literal_at o.items (out-Ty to)) whole) [
      | inl first ↦ elim (either (same.ty t to) (goes r place t to) first) [
        | inl same_one ↦ equal_types t to k j z same_one p q h
        | inr goes_on ↦ stays r place t to k j z goes_on p q h i
      ]
      | inr literal ↦ absurd (no_literal o.items (out-Ty to) j literal (sym (kind_out to) ∙ q))
    ]
