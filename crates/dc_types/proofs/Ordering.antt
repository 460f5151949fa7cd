-- The order of places.
use Rattle.std.proofs.Common.{◌≡◌, ◌∙◌, refl, sym, ap, ℕ, List, [], ◌∷◌, ◌++◌}
use Rattle.std.specs.Ordering.{nat_cmp, ordering_then, ordering_reverse}
use Rattle.std.specs.Cmp.Lexicographic.{slice_cmp}
use Rattle.std.proofs.lemmas.Cmp.{nat_cmp_total, nat_list_cmp_total}
use Rattle.std.specs.declared.cmp.Ordering.{Ordering}
use Rattle.std.specs.declared.cmp.Ordering.TheVariants.{Less, Equal, Greater}
use Rattle.dc_types.specs.declared.place.Step.{Step}
use Rattle.dc_types.specs.declared.place.Step.TheVariants as steps
use Rattle.dc_types.specs.declared.place.Place.{Place}
use Rattle.dc_types.specs.Ordered.{by_step, by_place, PlaceOrder}

-- what is the reverse of itself
only_equal : (o : Ordering) → o ≡ ordering_reverse o → o ≡ Equal
only_equal Less e = absurd (cc)
only_equal Equal e = refl
only_equal Greater e = absurd (cc)

itself : (s : Step) → by_step s s ≡ Equal
itself (steps.At a) = only_equal (nat_cmp a a) (nat_cmp_total.antisymm a a)
itself (steps.Round a) = only_equal (nat_cmp a a) (nat_cmp_total.antisymm a a)
itself (steps.With k) = only_equal (slice_cmp nat_cmp k k) (nat_list_cmp_total.antisymm k k)

prefix_first : (all : List Step) (s : Step) (more : List Step) → slice_cmp by_step all (all ++ s ∷ more) ≡ Less
prefix_first [] s more = refl
prefix_first (x ∷ all) s more = ap (λ o. ordering_then o (slice_cmp by_step all (all ++ s ∷ more))) (itself x) ∙ prefix_first all s more

pub place_order : PlaceOrder
place_order = record {
  by_module_and_steps = λ p q. refl;
  before_inside = λ p s more.
      ap (λ o. ordering_then o (slice_cmp by_step p.steps (p.steps ++ s ∷ more))) (only_equal (slice_cmp nat_cmp p.module p.module) (nat_list_cmp_total.antisymm p.module p.module))
      ∙ prefix_first p.steps s more;
}
