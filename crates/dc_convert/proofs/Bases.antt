-- Where enums, fixed arrays and array literals go, one layer at a time.
use Rattle.std.proofs.Common.{◌≡◌, ◌∙◌, refl, sym, ap, subst, ℕ, ◌==◌, Bool, ◌&&◌, ◌||◌, List, [], ◌∷◌, map, length, Some}
use Rattle.std.proofs.lemmas.List.{length-map}
use Rattle.dc_types.specs.declared.place.Place.{Place}
use Rattle.dc_candidate.specs.declared.range.Range.{Range}
use Rattle.dc_types.specs.declared.ty.Ty.{Ty, map-Ty}
use Rattle.dc_types.specs.declared.ty.Ty.TheVariants as ty
use Rattle.dc_types.specs.declared.ty.Ty.TheVariants.{rolls-Enum, rolls-Fixed, rolls-Slice, rolls-Str}
use Rattle.dc_types.specs.declared.ty.Ty.TheViews.{out-Ty, out-roll-Ty}
use Rattle.dc_types.specs.declared.ty.Ty.TheOpen.{Ty-F}
use Rattle.dc_types.specs.declared.ty.Ty.TheFolds.{fold-roll-Ty, ind-Ty}
use Rattle.dc_types.specs.Same as same
use Rattle.dc_types.specs.declared.kind.Kind.TheVariants as kinds
use Rattle.dc_candidate.specs.declared.range.Source.{Source}
use Rattle.std.specs.List.{list_all}
use Rattle.dc_convert.specs.Levels.{Tests, tests, goes, goes_at, literal_at, fits}

module _ (r : Range) (place : Bool) where
  abbrev IsSame : Ty → Type 0
  IsSame t = (to : Ty) → (tests r place t).is to ≡ same.ty t to

  abbrev Part : Type 0
  Part = (t : Ty) × IsSame t

  abbrev step : Ty-F Tests → Tests
  step x = record { is = λ to. same.ty_at (map-Ty Tests (Ty → Bool) (λ t. t.is) x) (out-Ty to); goes = λ to. goes_at r place x to (out-Ty to) }

  abbrev sames : Ty-F Ty → Ty-F (Ty → Bool)
  sames x = map-Ty Ty (Ty → Bool) same.ty x

  abbrev tested : Ty-F Ty → Ty-F (Ty → Bool)
  tested x = map-Ty Tests (Ty → Bool) (λ t. t.is) (map-Ty Ty Tests (tests r place) x)

  layer : (x : Ty-F Part) (z : Ty-F Ty) → same.ty_at (tested (map-Ty Part Ty (λ p. p.0) x)) z ≡ same.ty_at (sames (map-Ty Part Ty (λ p. p.0) x)) z
  layer (Ty-F.Fixed a m) (Ty-F.Fixed b n) = ap (λ t. m == n && t) (a.1 b)
  layer (Ty-F.Slice a) (Ty-F.Slice b) = a.1 b
  layer (Ty-F.Enum a c) (Ty-F.Enum b d) = ap (λ t. same.place a b && t) (c.1 d)
  layer x z = refl

  -- the first of the tests is that of equality
  pub tests_is : (t to : Ty) → (tests r place t).is to ≡ same.ty t to
  tests_is = ind-Ty IsSame (λ x y is to.
      ap (λ t. t.is to) (fold-roll-Ty Tests step x)
      ∙ subst (λ v. same.ty_at (tested v) (out-Ty to) ≡ same.ty_at (sames v) (out-Ty to)) is (layer y (out-Ty to))
      ∙ sym (ap (λ f. f to) (fold-roll-Ty (Ty → Bool) (λ f z. same.ty_at f (out-Ty z)) x)))

  pub goes_enum : (at : Place) (base to : Ty) → goes r place (ty.Enum at base) to ≡ (same.ty base to || goes r place base to)
  goes_enum at base to =
      ap (λ t. goes r place t to) (sym (rolls-Enum at base))
      ∙ ap (λ t. t.goes to) (fold-roll-Ty Tests step (Ty-F.Enum at base))
      ∙ ap (λ t. t || goes r place base to) (tests_is base to)

  pub goes_fixed : (of : Ty) (n : ℕ) (part : Ty) → goes r place (ty.Fixed of n) (ty.Slice part) ≡ (place && same.ty of part)
  goes_fixed of n part =
      ap (λ t. goes r place t (ty.Slice part)) (sym (rolls-Fixed of n))
      ∙ ap (λ t. t.goes (ty.Slice part)) (fold-roll-Ty Tests step (Ty-F.Fixed of n))
      ∙ ap (λ t. goes_at r place (Ty-F.Fixed (tests r place of) n) (ty.Slice part) (out-Ty t)) (sym (rolls-Slice part))
      ∙ ap (goes_at r place (Ty-F.Fixed (tests r place of) n) (ty.Slice part)) (out-roll-Ty (Ty-F.Slice part))
      ∙ ap (λ t. place && t) (tests_is of part)

-- ---- array literals

all_by_tests : (items : List Source) (to : Ty) → list_all (λ test. test to) (map fits items) ≡ list_all (λ s. fits s to) items
all_by_tests [] to = refl
all_by_tests (s ∷ items) to = ap (λ t. fits s to && t) (all_by_tests items to)

pub literal_slice : (items : List Source) (part : Ty) → literal_at (Some (map fits items)) (out-Ty (ty.Slice part)) ≡ list_all (λ s. fits s part) items
literal_slice items part =
    ap (λ t. literal_at (Some (map fits items)) (out-Ty t)) (sym (rolls-Slice part))
    ∙ ap (literal_at (Some (map fits items))) (out-roll-Ty (Ty-F.Slice part))
    ∙ all_by_tests items part

pub literal_fixed : (items : List Source) (part : Ty) (n : ℕ) → literal_at (Some (map fits items)) (out-Ty (ty.Fixed part n)) ≡ (length items == n && list_all (λ s. fits s part) items)
literal_fixed items part n =
    ap (λ t. literal_at (Some (map fits items)) (out-Ty t)) (sym (rolls-Fixed part n))
    ∙ ap (literal_at (Some (map fits items))) (out-roll-Ty (Ty-F.Fixed part n))
    ∙ ap (λ k. k == n && list_all (λ test. test part) (map fits items)) (length-map items fits)
    ∙ ap (λ t. length items == n && t) (all_by_tests items part)

pub literal_str : (items : List Source) → literal_at (Some (map fits items)) (out-Ty ty.Str) ≡ list_all (λ s. fits s (ty.Int kinds.Char)) items
literal_str items =
    ap (λ t. literal_at (Some (map fits items)) (out-Ty t)) (sym rolls-Str)
    ∙ ap (literal_at (Some (map fits items))) (out-roll-Ty Ty-F.Str)
    ∙ all_by_tests items (ty.Int kinds.Char)
