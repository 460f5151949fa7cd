use Rattle.std.proofs.Common.{◌∙◌, ap, rules, FitsSigned}
use Rattle.std.specs.Int.{w128}
use Rattle.dc_convert.specs.Ranges.{fitted, product}
use Rattle.dc_convert.proofs.Ends.{same_span, saturated_same, product_through}
use Rattle.dc_convert.proofs.ranges.product.Goals as goal

pub returns : goal.returns
unfolding product
returns c =
    let al : FitsSigned w128 c.args.a.now.lo = search rules in
    let ah : FitsSigned w128 c.args.a.now.hi = search rules in
    let bl : FitsSigned w128 c.args.b.now.lo = search rules in
    let bh : FitsSigned w128 c.args.b.now.hi = search rules in
    let w : FitsSigned w128 c.saturating_mul-w.result = search rules in
    let x : FitsSigned w128 c.saturating_mul-x.result = search rules in
    let y : FitsSigned w128 c.saturating_mul-y.result = search rules in
    let z : FitsSigned w128 c.saturating_mul-z.result = search rules in
    c.range_as.ensures ∙ ap (fitted c.args.k) (c.spanned.ensures ∙ same_span _ _ _ _ _ _ _ _
    (product_through _ _ _ w al bl c.saturating_mul-w.ensures) (product_through _ _ _ x al bh c.saturating_mul-x.ensures)
    (product_through _ _ _ y ah bl c.saturating_mul-y.ensures) (product_through _ _ _ z ah bh c.saturating_mul-z.ensures))
    ∙ saturated_same c.args.k _ _ _ _
