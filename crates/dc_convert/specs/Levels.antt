-- How well a source fits a type (D specification, "Types", "Implicit Conversions").
use Rattle.std.specs.Prelude.{◌≡◌, ◌⊎◌, ◌≤◌, ◌<ℤ◌, ℤ, pos, ℕ, ◌==◌, nat_le, Bool, true, false, not, ◌&&◌, ◌||◌, List, length, Option, Some, None, if◌then◌else◌}
use Rattle.std.specs.List.{list_all}
use Rattle.dc_types.specs.declared.kind.Kind.{Kind}
use Rattle.dc_types.specs.declared.kind.Kind.TheVariants as kinds
use Rattle.dc_candidate.specs.declared.range.Range.{Range}
use Rattle.dc_candidate.specs.declared.range.Source.{Source, out-Source}
use Rattle.dc_candidate.specs.declared.range.Source.TheOpen.{Source-F}
use Rattle.dc_candidate.specs.declared.range.Source.TheFolds.{fold-Source}
use Rattle.dc_types.specs.declared.ty.Ty.{Ty, map-Ty}
use Rattle.dc_types.specs.declared.ty.Ty.TheVariants as ty
use Rattle.dc_types.specs.declared.ty.Ty.TheViews.{out-Ty}
use Rattle.dc_types.specs.declared.ty.Ty.TheOpen.{Ty-F}
use Rattle.dc_types.specs.declared.ty.Ty.TheFolds.{fold-Ty}
use Rattle.dc_types.specs.Integers.{bits_of, is_signed, greatest, wrap}
use Rattle.dc_types.specs.Same as same
use Rattle.dc_convert.specs.Ranges.{lies}

-- a kind goes to one that is at least as wide and isn't `bool`
unfoldable pub widens : Kind → Kind → Bool
widens k to = nat_le (bits_of k) (bits_of to) && not (same.kind to kinds.Bool)

-- a number of a kind and a range goes to another kind
abbrev pub number_goes : Kind → Range → Kind → Bool
number_goes k r to = widens k to || lies r to

-- a number of an unsigned kind that is past the greatest of a signed one of equal width
pub record IsPast (k to : Kind) (z : ℤ) : Type 0 where
  pub from : is_signed k ≡ false
  pub onto : is_signed to ≡ true
  pub width : bits_of k ≡ bits_of to
  pub past : greatest to <ℤ z

-- a number below 0 that goes to an unsigned kind, at least as wide and not `bool`
pub record IsBelow (k to : Kind) (z : ℤ) : Type 0 where
  pub from : is_signed k ≡ true
  pub onto : is_signed to ≡ false
  pub other : to ≡ kinds.Bool → ⊥
  pub width : bits_of k ≤ bits_of to
  pub below : z <ℤ pos 0

-- What is left of a number that goes from a kind to another: it stays the same, but in these two cases.
abbrev pub Keeps : Kind → Kind → ℤ → Type 0
Keeps k to z = (wrap to z ≡ z) ⊎ (IsPast k to z ⊎ IsBelow k to z)

-- in the two cases the kind goes to the other, and the number doesn't stay the same
abbrev pub LosesThere : Type 0
LosesThere = (k to : Kind) (z : ℤ) → IsPast k to z ⊎ IsBelow k to z → (widens k to ≡ true) × (wrap to z ≡ z → ⊥)

-- the tests of a part: whether it is a type, and whether it goes to one
pub record Tests : Type 0 where
  pub is : Ty → Bool
  pub goes : Ty → Bool

-- one layer: a number goes to a wider kind and to one that its range lies in, an enum to its base and on from there,
-- `null` and `[]` to any slice, and a place of a fixed array to its slice
abbrev pub goes_at : Range → Bool → Ty-F Tests → Ty → Ty-F Ty → Bool
goes_at r place (Ty-F.Int k) to (Ty-F.Int j) = number_goes k r j
goes_at r place (Ty-F.Enum at base) to x = base.is to || base.goes to
goes_at r place (Ty-F.Fixed of n) to (Ty-F.Slice part) = place && of.is part
goes_at r place Ty-F.NullLit to (Ty-F.Slice part) = true
goes_at r place Ty-F.NullLit to Ty-F.Str = true
goes_at r place Ty-F.EmptyLit to (Ty-F.Slice part) = true
goes_at r place Ty-F.EmptyLit to Ty-F.Str = true
goes_at _ _ _ _ _ = false

abbrev pub tests : Range → Bool → Ty → Tests
tests r place = fold-Ty Tests (λ x. record { is = λ to. same.ty_at (map-Ty Tests (Ty → Bool) (λ t. t.is) x) (out-Ty to); goes = λ to. goes_at r place x to (out-Ty to) })

-- an expression of the type, with the range, goes to another type. It may be a place.
abbrev pub goes : Range → Bool → Ty → Ty → Bool
goes r place from to = (tests r place from).goes to

-- an array literal goes to an array that has room for it, where each element goes to the type of the elements
abbrev pub literal_at : Option (List (Ty → Bool)) → Ty-F Ty → Bool
literal_at None to = false
literal_at (Some items) (Ty-F.Slice part) = list_all (λ test. test part) items
literal_at (Some items) (Ty-F.Fixed part n) = length items == n && list_all (λ test. test part) items
literal_at (Some items) Ty-F.Str = list_all (λ test. test (ty.Int kinds.Char)) items
literal_at (Some items) _ = false

abbrev pub fits_at : Source-F (Ty → Bool) → Ty → Bool
fits_at s to = same.ty s.ty to || goes s.range s.place s.ty to || literal_at s.items (out-Ty to)

abbrev pub type_of : Source → Ty
type_of s = (out-Source s).ty

-- the source has the type or converts to it
abbrev pub fits : Source → Ty → Bool
fits = fold-Source (Ty → Bool) fits_at

-- The level: 2 for the same type, 1 where the source converts to the type, and 0 where it doesn't.
unfoldable pub level : Source → Ty → ℕ
level s to = if same.ty (type_of s) to then 2 else (if fits s to then 1 else 0)
