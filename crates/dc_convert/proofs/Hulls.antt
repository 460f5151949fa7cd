-- The hull of two ranges is the least that holds both.
use Rattle.std.proofs.Common.{ℤ, ◌≤ℤ◌, Bool, true, false, cond}
use Rattle.std.specs.Prelude.{int_lt}
use Rattle.std.specs.Int.{int_min, int_max}
use Rattle.dc_candidate.specs.declared.range.Range.{Range}
use Rattle.dc_convert.specs.Ranges.{IsInside, hull}
use Rattle.dc_convert.proofs.Sound.{least_of_two, most_of_two}

at_most_both : (x y l : ℤ) → l ≤ℤ x → l ≤ℤ y → l ≤ℤ int_min x y
at_most_both x y l p q = by (int_lt y x)
  where
    by : (t : Bool) → l ≤ℤ cond t y x
    by true = q
    by false = p

at_least_both : (x y h : ℤ) → x ≤ℤ h → y ≤ℤ h → int_max x y ≤ℤ h
at_least_both x y h p q = by (int_lt y x)
  where
    by : (t : Bool) → cond t x y ≤ℤ h
    by true = p
    by false = q

pub hull_left : (a b : Range) → IsInside a (hull a b)
unfolding hull
hull_left a b = record { from = (least_of_two a.lo b.lo).0; to = (most_of_two a.hi b.hi).0 }

pub hull_right : (a b : Range) → IsInside b (hull a b)
unfolding hull
hull_right a b = record { from = (least_of_two a.lo b.lo).1; to = (most_of_two a.hi b.hi).1 }

pub hull_least : (a b r : Range) → IsInside a r → IsInside b r → IsInside (hull a b) r
unfolding hull
hull_least a b r p q = record { from = at_most_both a.lo b.lo r.lo p.from q.from; to = at_least_both a.hi b.hi r.hi p.to q.to }
