use Rattle.std.proofs.Common.{◌≡◌, ◌∙◌, sym, ap, rules, true, ◌&&◌, pos, FitsSigned, unsigned_abs}
use Rattle.std.specs.Int.{w128}
use Rattle.std.proofs.lemmas.Int.{to_z-of_z}
use Rattle.dc_convert.specs.Ranges.{fitted, from_zero, disjunction, ones}
use Rattle.dc_convert.proofs.Ends.{same_ends, taken, low_fits, max_is, top_fits, top_between}
use Rattle.dc_convert.proofs.ranges.disjunction.Goals as goal

pub overflow_cast-top : goal.overflow_cast-top
overflow_cast-top c =
    let top = top_between c.args.a.now c.args.b.now c.max-top.result c.requires.left c.requires.right (sym c.from_zero.ensures ∙ c.if-from_zero.true) c.max-top.ensures.value in
    top_fits c.max-top.result top.0 top.1

pub returns-then-from_zero-2 : goal.returns-then-from_zero-2
unfolding disjunction
returns-then-from_zero-2 c =
    let a = c.args.a.now in let b = c.args.b.now in
    let first : from_zero a ≡ true = sym c.from_zero.ensures ∙ c.if-from_zero.true in
    let second : from_zero b ≡ true = sym c.from_zero-then-from_zero.ensures ∙ c.if-from_zero-2.true in
    let top = top_between a b c.max-top.result c.requires.left c.requires.right first c.max-top.ensures.value in
    let fits : FitsSigned w128 c.ones.result = search rules in
    c.range_as.ensures
    ∙ ap (fitted c.args.k) (same_ends _ _ _ _
    (max_is a.lo b.lo c.max.result (low_fits a c.requires.left) (low_fits b c.requires.right) c.max.ensures.value)
    (to_z-of_z w128 c.ones.result fits ∙ c.ones.ensures ∙ ap (λ z. pos (ones (unsigned_abs z))) top.2))
    ∙ taken _ _ _ (ap (λ t. t && from_zero b) first ∙ second)
