-- The tests of equality of specs/Same answer true exactly for equal ones.
use Rattle.std.proofs.Common.{rules, ◌≡◌, ◌∙◌, refl, sym, ap, subst, ℕ, List, [], ◌∷◌, map, Option, Some, None, Bool, true, false, ◌&&◌, ◌==◌}
use Rattle.std.specs.Bool.{Decides, beq}
use Rattle.std.specs.Str.{bytes_eq}
use Rattle.std.specs.Ordering.{int_eq}
use Rattle.std.specs.Cmp.{IsEquivalence, booleans_Decides}
use Rattle.std.specs.Cmp.Lexicographic.{pointwise}
use Rattle.std.proofs.lemmas.Bool.Decides.{Decides-eqb, Decides-int_eq, Decides-and, Decides-like, Decides-at, same_from_decides}
use Rattle.std.proofs.lemmas.Slice.Eq.{bytes_eq-Decides, slice_eq-Decides}
use denote.Enum.Bare.{sameb, same_true}
use Rattle.dc_types.specs.contracts.kind.Kind.{the_type}
use Rattle.dc_types.specs.declared.kind.Kind.{Kind}
use Rattle.dc_types.specs.declared.kind.Kind.TheVariants as kinds
use Rattle.dc_types.specs.declared.place.Step.{Step}
use Rattle.dc_types.specs.declared.place.Step.TheVariants as steps
use Rattle.dc_types.specs.declared.place.Place.{Place}
use Rattle.dc_types.specs.declared.ty.Ty.{Ty, map-Ty}
use Rattle.dc_types.specs.declared.ty.Ty.TheViews.{out-Ty, roll-Ty, out-roll-Ty, roll-out-Ty}
use Rattle.dc_types.specs.declared.ty.Ty.TheOpen.{Ty-F}
use Rattle.dc_types.specs.declared.ty.Ty.TheFolds.{fold-roll-Ty, ind-Ty}
use Rattle.dc_types.specs.Same as same

-- two that differ by their constructor
apart : {A : Type 0} (a b : A) → (a ≡ b → ⊥) → Decides false (a ≡ b)
apart a b ne = (λ h. cc, λ e. absurd (ne e))

-- A test of two parts of a record is exact where both are.
pub both-Decides : {A B R : Type 0} (make : A → B → R) (x : R → A) (y : R → B) (whole : (r : R) → make (x r) (y r) ≡ r) (a b : R) (s t : Bool) → Decides s (x a ≡ x b) → Decides t (y a ≡ y b) → Decides (s && t) (a ≡ b)
both-Decides make x y whole a b s t is_x is_y =
    Decides-like (s && t) (λ h. sym (whole a) ∙ ap (λ v. make v (y a)) h.0 ∙ ap (make (x b)) h.1 ∙ whole b) (λ e. (ap x e, ap y e)) (Decides-and s t is_x is_y)

same_kind : (k : Kind) → sameb the_type k k ≡ true
same_kind kinds.Bool = refl
same_kind kinds.I8 = refl
same_kind kinds.U8 = refl
same_kind kinds.I16 = refl
same_kind kinds.U16 = refl
same_kind kinds.I32 = refl
same_kind kinds.U32 = refl
same_kind kinds.I64 = refl
same_kind kinds.U64 = refl
same_kind kinds.Char = refl

pub kind-Decides : (a b : Kind) → Decides (same.kind a b) (a ≡ b)
kind-Decides a b = (same_true the_type (search rules) a b, λ e. subst (λ x. sameb the_type a x ≡ true) e (same_kind a))

pub step-Decides : (a b : Step) → Decides (same.step a b) (a ≡ b)
step-Decides (steps.At a) (steps.At b) = Decides-like (a == b) (λ e. ap steps.At e) (λ e. cc) (Decides-eqb a b)
step-Decides (steps.At a) (steps.Round b) = apart _ _ (λ e. cc)
step-Decides (steps.At a) (steps.With b) = apart _ _ (λ e. cc)
step-Decides (steps.Round a) (steps.At b) = apart _ _ (λ e. cc)
step-Decides (steps.Round a) (steps.Round b) = Decides-like (a == b) (λ e. ap steps.Round e) (λ e. cc) (Decides-eqb a b)
step-Decides (steps.Round a) (steps.With b) = apart _ _ (λ e. cc)
step-Decides (steps.With a) (steps.At b) = apart _ _ (λ e. cc)
step-Decides (steps.With a) (steps.Round b) = apart _ _ (λ e. cc)
step-Decides (steps.With a) (steps.With b) = Decides-like (bytes_eq a b) (λ e. ap steps.With e) (λ e. cc) (bytes_eq-Decides a b)

pub place-Decides : (a b : Place) → Decides (same.place a b) (a ≡ b)
place-Decides a b =
    both-Decides (λ m s. record { «module» = m; steps = s }) (λ p. p.module) (λ p. p.steps) (λ p. refl) a b (bytes_eq a.module b.module) (pointwise same.step a.steps b.steps)
    (bytes_eq-Decides a.module b.module) (slice_eq-Decides step-Decides a.steps b.steps (pointwise same.step a.steps b.steps) refl)

abbrev IsExact : Ty → Type 0
IsExact a = (b : Ty) → Decides (same.ty a b) (a ≡ b)

-- a type with the exactness of the test at it
abbrev Tested : Type 0
Tested = (a : Ty) × IsExact a

abbrev bare : Ty-F Tested → Ty-F Ty
bare x = map-Ty Tested Ty (λ p. p.0) x

abbrev tests : Ty-F Ty → Ty-F (Ty → Bool)
tests x = map-Ty Ty (Ty → Bool) same.ty x

layer-Decides : (x : Ty-F Tested) (y : Ty-F Ty) → Decides (same.ty_at (tests (bare x)) y) (bare x ≡ y)
layer-Decides Ty-F.Void Ty-F.Void = (λ h. refl, λ e. refl)
layer-Decides (Ty-F.Int a) (Ty-F.Int b) = Decides-like (same.kind a b) (λ e. ap Ty-F.Int e) (λ e. cc) (kind-Decides a b)
layer-Decides (Ty-F.Fixed a m) (Ty-F.Fixed b n) =
    Decides-like (m == n && same.ty a.0 b) (λ h. let k = h.0 in let t = h.1 in cc) (λ e. (cc, cc)) (Decides-and (m == n) (same.ty a.0 b) (Decides-eqb m n) (a.1 b))
layer-Decides (Ty-F.Slice a) (Ty-F.Slice b) = Decides-like (same.ty a.0 b) (λ e. ap Ty-F.Slice e) (λ e. cc) (a.1 b)
layer-Decides Ty-F.Str Ty-F.Str = (λ h. refl, λ e. refl)
layer-Decides (Ty-F.Struct a) (Ty-F.Struct b) = Decides-like (same.place a b) (λ e. ap Ty-F.Struct e) (λ e. cc) (place-Decides a b)
layer-Decides (Ty-F.Enum a c) (Ty-F.Enum b d) =
    Decides-like (same.place a b && same.ty c.0 d) (λ h. let k = h.0 in let t = h.1 in cc) (λ e. (cc, cc)) (Decides-and (same.place a b) (same.ty c.0 d) (place-Decides a b) (c.1 d))
layer-Decides Ty-F.NullLit Ty-F.NullLit = (λ h. refl, λ e. refl)
layer-Decides Ty-F.EmptyLit Ty-F.EmptyLit = (λ h. refl, λ e. refl)
layer-Decides x y = (λ h. cc, λ e. cc)

pub ty-Decides : (a b : Ty) → Decides (same.ty a b) (a ≡ b)
ty-Decides = ind-Ty IsExact (λ x y is b.
    let layer = subst (λ z. Decides (same.ty_at (tests z) (out-Ty b)) (z ≡ out-Ty b)) is (layer-Decides y (out-Ty b)) in
    let rolled : same.ty (roll-Ty x) b ≡ same.ty_at (tests x) (out-Ty b) = ap (λ f. f b) (fold-roll-Ty (Ty → Bool) (λ f z. same.ty_at f (out-Ty z)) x) in
    Decides-at (same.ty (roll-Ty x) b) (same.ty_at (tests x) (out-Ty b)) rolled
    (Decides-like (same.ty_at (tests x) (out-Ty b)) (λ e. ap roll-Ty e ∙ roll-out-Ty b) (λ e. sym (out-roll-Ty x) ∙ ap out-Ty e) layer))

-- a test that is exact is an equivalence
pub equivalence : {K : Type 0} (test : K → K → Bool) → ((a b : K) → Decides (test a b) (a ≡ b)) → IsEquivalence test
equivalence test exact = record {
  refl = λ a. (exact a a).1 refl;
  symm = λ a b. same_from_decides (test a b) (test b a) (exact a b) (Decides-like (test b a) sym sym (exact b a));
  congr = λ a b c h. subst (λ x. test a c ≡ test x c) ((exact a b).0 h) refl;
}

pub ty_laws : IsEquivalence same.ty
ty_laws = equivalence same.ty ty-Decides
