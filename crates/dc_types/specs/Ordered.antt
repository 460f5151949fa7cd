-- The order of places: by the module's name, then step by step, where an offset comes before a round and a round before an
-- instance, and a place before those inside it.
use Rattle.std.proofs.Common.{◌≡◌, refl, ℕ, List, ◌∷◌, ◌++◌}
use Rattle.std.specs.Ordering.{nat_cmp, ordering_then}
use Rattle.std.specs.Cmp.Lexicographic.{slice_cmp}
use Rattle.std.specs.declared.cmp.Ordering.{Ordering}
use Rattle.std.specs.declared.cmp.Ordering.TheVariants.{Less}
use Rattle.dc_types.specs.declared.place.Step.{Step}
use Rattle.dc_types.specs.declared.place.Step.TheVariants as steps
use Rattle.dc_types.specs.declared.place.Place.{Place}
use Rattle.dc_types.specs.contracts.place.StepOrd.TheImpl as step_ord
use Rattle.dc_types.specs.contracts.place.PlaceOrd.TheImpl as place_ord

abbrev pub by_step : Step → Step → Ordering
by_step = (step_ord.ghosts).cmp

abbrev pub by_place : Place → Place → Ordering
by_place = (place_ord.ghosts).cmp

pub record StepOrder : Type 0 where
  pub offsets : (a b : ℕ) → by_step (steps.At a) (steps.At b) ≡ nat_cmp a b
  pub rounds : (a b : ℕ) → by_step (steps.Round a) (steps.Round b) ≡ nat_cmp a b
  pub keys : (a b : List ℕ) → by_step (steps.With a) (steps.With b) ≡ slice_cmp nat_cmp a b
  pub offset_first : (a b : ℕ) → by_step (steps.At a) (steps.Round b) ≡ Less
  pub offset_before_key : (a : ℕ) (k : List ℕ) → by_step (steps.At a) (steps.With k) ≡ Less
  pub round_before_key : (a : ℕ) (k : List ℕ) → by_step (steps.Round a) (steps.With k) ≡ Less

pub step_order : StepOrder
step_order = record {
  offsets = λ a b. refl;
  rounds = λ a b. refl;
  keys = λ a b. refl;
  offset_first = λ a b. refl;
  offset_before_key = λ a k. refl;
  round_before_key = λ a k. refl;
}

-- of two modules the one whose name is first in the order of bytes, and in one module by the first step that differs
pub record PlaceOrder : Type 0 where
  pub by_module_and_steps : (p q : Place) → by_place p q ≡ ordering_then (slice_cmp nat_cmp p.module q.module) (slice_cmp by_step p.steps q.steps)
  pub before_inside : (p : Place) (s : Step) (more : List Step) → by_place p (record p { steps = p.steps ++ s ∷ more }) ≡ Less
