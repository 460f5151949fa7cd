use Rattle.std.proofs.Common.{◌≡◌, ◌∙◌, sym, ap, true}
use Rattle.dc_convert.specs.Ranges.{fitted, has_quotient, quotient}
use Rattle.dc_convert.proofs.Ends.{same_span, taken, and_left, low_fits, high_fits, quotient_through, is_above}
use Rattle.dc_convert.proofs.ranges.quotient.Goals as goal

pub returns-then-has_quotient : goal.returns-then-has_quotient
unfolding quotient
returns-then-has_quotient c =
    let a = c.args.a.now in let b = c.args.b.now in
    let al = low_fits a c.requires.left in let ah = high_fits a c.requires.left in
    let bl = low_fits b c.requires.right in let bh = high_fits b c.requires.right in
    let test : has_quotient c.args.k a b ≡ true = sym c.has_quotient.ensures ∙ c.if-has_quotient.true in
    let some = is_above b c.requires.right (and_left _ _ test) in
    c.range_as.ensures ∙ ap (fitted c.args.k) (c.spanned.ensures ∙ same_span _ _ _ _ _ _ _ _
    (quotient_through a.lo b.lo al bl some.0) (quotient_through a.lo b.hi al bh some.1)
    (quotient_through a.hi b.lo ah bl some.0) (quotient_through a.hi b.hi ah bh some.1))
    ∙ taken _ _ _ test
