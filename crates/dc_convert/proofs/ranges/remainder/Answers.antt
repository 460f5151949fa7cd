use Rattle.std.proofs.Common.{◌≡◌, ◌∙◌, refl, sym, ap, arith, true, false, pos, ◌-ℤ◌, FitsSigned}
use Rattle.std.specs.Int.{w128, int_min}
use Rattle.std.proofs.lemmas.Int.{ints, to_z-of_z}
use Rattle.dc_convert.specs.Ranges.{fitted, above_zero, from_zero, remainder}
use Rattle.dc_convert.proofs.Ends.{same_ends, taken, not_taken, through, high_fits, min_is}
use Rattle.dc_convert.proofs.ranges.remainder.Goals as goal

pub returns-then-from_zero : goal.returns-then-from_zero
unfolding remainder
returns-then-from_zero c =
    let a = c.args.a.now in let b = c.args.b.now in
    let ah = high_fits a c.requires.left in
    let bh = high_fits b c.requires.right in
    let test : from_zero a ≡ true = sym c.from_zero.ensures ∙ c.if-from_zero.true in
    let some : above_zero b ≡ true = sym c.above_zero.ensures ∙ c.if-not-above_zero.false in
    let most : FitsSigned w128 (b.hi -ℤ pos 1) = omega (arith, ints, c.requires.right.from, c.requires.right.some, c.requires.right.to) in
    let same : through (through b.hi -ℤ pos 1) ≡ through (b.hi -ℤ pos 1) = ap (λ v. through (v -ℤ pos 1)) (to_z-of_z w128 b.hi bh) in
    c.range_as.ensures
    ∙ ap (fitted c.args.k) (same_ends _ _ _ _ refl (min_is a.hi (b.hi -ℤ pos 1) c.min.result ah most (c.min.ensures.value ∙ ap (int_min (through a.hi)) same))
    ∙ taken _ _ _ test)
    ∙ taken _ _ _ some

pub returns-else-from_zero : goal.returns-else-from_zero
unfolding remainder
returns-else-from_zero c =
    let a = c.args.a.now in let b = c.args.b.now in
    let bh = high_fits b c.requires.right in
    let test : from_zero a ≡ false = sym c.from_zero.ensures ∙ c.if-from_zero.false in
    let some : above_zero b ≡ true = sym c.above_zero.ensures ∙ c.if-not-above_zero.false in
    let l = c.requires.right.from in let m = c.requires.right.some in let h = c.requires.right.to in
    c.range_as-else-from_zero.ensures
    ∙ ap (fitted c.args.k) (same_ends _ _ _ _ (omega (arith, ints)) (omega (arith, ints)) ∙ not_taken _ _ _ test)
    ∙ taken _ _ _ some
