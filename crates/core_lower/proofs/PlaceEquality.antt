-- The test that `==` of places makes.
use Rattle.std.proofs.Common.{◌≡◌, ℕ, Bool, cond, Some, subst, List, [], ◌∷◌, refl, ap, ap₂, ◌&&◌}
use Rattle.std.proofs.Math.Path.{fun_ext}
use Rattle.std.specs.Map.{lookup}
use Rattle.std.specs.Str.{bytes_eq}
use Rattle.std.specs.Cmp.Lexicographic.{pointwise}
use Rattle.dc_types.specs.declared.place.Step.{Step}
use Rattle.dc_types.specs.declared.place.Step.TheVariants as steps
use Rattle.dc_types.specs.declared.place.Place.{Place}
use Rattle.dc_types.specs.contracts.place.PlacePartialEq.TheImpl as places
use Rattle.dc_types.specs.contracts.place.StepPartialEq.TheImpl as stepped
use Rattle.dc_types.specs.Same as same

step_test : (a b : Step) → (stepped.ghosts).eq a b ≡ same.step a b
step_test (steps.At a) (steps.At b) = refl
step_test (steps.Round a) (steps.Round b) = refl
step_test (steps.With a) (steps.With b) = refl
step_test a b = refl

steps_test : (xs ys : List Step) → pointwise (stepped.ghosts).eq xs ys ≡ pointwise same.step xs ys
steps_test [] [] = refl
steps_test [] (y ∷ ys) = refl
steps_test (x ∷ xs) [] = refl
steps_test (x ∷ xs) (y ∷ ys) = ap₂ (λ a b. a && b) (step_test x y) (steps_test xs ys)

place_test : (a b : Place) → (places.ghosts).eq a b ≡ same.place a b
place_test a b = ap (λ t. bytes_eq a.module b.module && t) (steps_test a.steps b.steps)

-- what a table says of a place, by the test of the definitions
pub same_put : (q key : Place) (number : ℕ) (new cur : List (Place × ℕ)) → lookup ((places.ghosts).eq q) new ≡ cond ((places.ghosts).eq key q) (Some number) (lookup ((places.ghosts).eq q) cur) → lookup (same.place q) new ≡ cond (same.place key q) (Some number) (lookup (same.place q) cur)
same_put q key number new cur e =
    subst (λ (test : Place → Place → Bool). lookup (test q) new ≡ cond (test key q) (Some number) (lookup (test q) cur)) (fun_ext (λ a. fun_ext (λ b. place_test a b))) e
