-- Which places and types are the same. Each test answers true exactly for equal ones.
use Rattle.std.specs.Prelude.{Bool, List, Option, Some, None, true, false, ◌&&◌, ◌==◌}
use Rattle.std.specs.Str.{bytes_eq}
use Rattle.std.specs.Cmp.Lexicographic.{pointwise}
use Rattle.dc_types.specs.declared.kind.Kind.{Kind}
use denote.Enum.Bare.{sameb}
use Rattle.dc_types.specs.contracts.kind.Kind.{the_type}
use Rattle.dc_types.specs.declared.place.Step.{Step}
use Rattle.dc_types.specs.declared.place.Step.TheVariants as steps
use Rattle.dc_types.specs.declared.place.Place.{Place}
use Rattle.dc_types.specs.declared.ty.Ty.{Ty}
use Rattle.dc_types.specs.declared.ty.Ty.TheViews.{out-Ty}
use Rattle.dc_types.specs.declared.ty.Ty.TheOpen.{Ty-F}
use Rattle.dc_types.specs.declared.ty.Ty.TheFolds.{fold-Ty}

-- the test that `==` of kinds makes
abbrev pub kind : Kind → Kind → Bool
kind a b = sameb the_type a b

abbrev pub step : Step → Step → Bool
step (steps.At a) (steps.At b) = a == b
step (steps.Round a) (steps.Round b) = a == b
step (steps.With a) (steps.With b) = bytes_eq a b
step _ _ = false

abbrev pub place : Place → Place → Bool
place a b = bytes_eq a.module b.module && pointwise step a.steps b.steps

-- one layer of the first type, with the test of its part
abbrev pub ty_at : Ty-F (Ty → Bool) → Ty-F Ty → Bool
ty_at Ty-F.Void Ty-F.Void = true
ty_at (Ty-F.Int a) (Ty-F.Int b) = kind a b
ty_at (Ty-F.Fixed a m) (Ty-F.Fixed b n) = m == n && a b
ty_at (Ty-F.Slice a) (Ty-F.Slice b) = a b
ty_at Ty-F.Str Ty-F.Str = true
ty_at (Ty-F.Struct a) (Ty-F.Struct b) = place a b
ty_at (Ty-F.Enum a c) (Ty-F.Enum b d) = place a b && c d
ty_at Ty-F.NullLit Ty-F.NullLit = true
ty_at Ty-F.EmptyLit Ty-F.EmptyLit = true
ty_at _ _ = false

abbrev pub ty : Ty → Ty → Bool
ty = fold-Ty (Ty → Bool) (λ a b. ty_at a (out-Ty b))
