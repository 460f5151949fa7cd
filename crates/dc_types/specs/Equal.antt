-- The comparisons are exact.
use Rattle.std.proofs.Common.{◌≡◌, refl, ap, List, Bool, ◌==◌}
use Rattle.std.specs.Bool.{Decides}
use Rattle.std.specs.Str.{bytes_eq}
use Rattle.std.specs.Cmp.Lexicographic.{pointwise}
use Rattle.std.proofs.lemmas.Bool.Decides.{Decides-eqb, Decides-like}
use Rattle.std.proofs.lemmas.Slice.Eq.{bytes_eq-Decides, slice_eq-Decides}
use Rattle.dc_types.specs.declared.place.Step.{Step}
use Rattle.dc_types.specs.declared.place.Step.TheVariants as variants
use Rattle.dc_types.specs.contracts.kind.KindPartialEq.TheImpl as kind_eq
use Rattle.dc_types.specs.contracts.place.PlacePartialEq.TheImpl as place_eq
use Rattle.dc_types.specs.contracts.place.StepPartialEq.TheImpl as step_eq
use Rattle.dc_types.specs.contracts.text.TextPartialEq.TheImpl as text_eq
use Rattle.dc_types.specs.contracts.ty.TyPartialEq.TheImpl as ty_eq
use Rattle.dc_types.specs.Exact.{both-Decides, kind-Decides, ty-Decides}

-- the test answers true exactly for equal values
abbrev pub IsExact : {A : Type 0} → (A → A → Bool) → Type 0
IsExact {A} test = (a b : A) → Decides (test a b) (a ≡ b)

-- the test of two lists by that of their items is exact where that one is
pub of_lists : {A : Type 0} (test : A → A → Bool) → IsExact test → IsExact (pointwise test)
of_lists test exact a b = slice_eq-Decides exact a b (pointwise test a b) refl

pub kinds : IsExact ((kind_eq.ghosts).eq)
kinds a b = kind-Decides a b

pub texts : IsExact ((text_eq.ghosts).eq)
texts a b = bytes_eq-Decides a b

abbrev step_test : Step → Step → Bool
step_test = (step_eq.ghosts).eq

step-Decides : (a b : Step) → Decides (step_test a b) (a ≡ b)
step-Decides (variants.At a) (variants.At b) = Decides-like (a == b) (λ e. ap variants.At e) (λ e. cc) (Decides-eqb a b)
step-Decides (variants.At a) (variants.Round b) = (λ h. cc, λ e. cc)
step-Decides (variants.At a) (variants.With b) = (λ h. cc, λ e. cc)
step-Decides (variants.Round a) (variants.At b) = (λ h. cc, λ e. cc)
step-Decides (variants.Round a) (variants.Round b) = Decides-like (a == b) (λ e. ap variants.Round e) (λ e. cc) (Decides-eqb a b)
step-Decides (variants.Round a) (variants.With b) = (λ h. cc, λ e. cc)
step-Decides (variants.With a) (variants.At b) = (λ h. cc, λ e. cc)
step-Decides (variants.With a) (variants.Round b) = (λ h. cc, λ e. cc)
step-Decides (variants.With a) (variants.With b) = Decides-like (bytes_eq a b) (λ e. ap variants.With e) (λ e. cc) (bytes_eq-Decides a b)

pub steps : IsExact ((step_eq.ghosts).eq)
steps = step-Decides

pub places : IsExact ((place_eq.ghosts).eq)
places a b =
    both-Decides (λ m s. record { «module» = m; steps = s }) (λ p. p.module) (λ p. p.steps) (λ p. refl) a b (bytes_eq a.module b.module) (pointwise step_test a.steps b.steps)
    (bytes_eq-Decides a.module b.module) (of_lists step_test step-Decides a.steps b.steps)

pub types : IsExact ((ty_eq.ghosts).eq)
types a b = ty-Decides a b
