use Rattle.std.proofs.Common.{rules, FitsSigned}
use Rattle.std.specs.Int.{w128}
use Rattle.dc_convert.specs.Ranges.{spanned}
use Rattle.dc_convert.proofs.Ends.{same_ends, four_least, four_most}
use Rattle.dc_convert.proofs.ranges.spanned.Goals as goal

pub returns : goal.returns
unfolding spanned
returns c =
    let w : FitsSigned w128 c.args.w = search rules in
    let x : FitsSigned w128 c.args.x = search rules in
    let y : FitsSigned w128 c.args.y = search rules in
    let z : FitsSigned w128 c.args.z = search rules in
    same_ends _ _ _ _
    (four_least c.args.w c.args.x c.args.y c.args.z _ _ _ w x y z c.min.ensures.value c.min-2.ensures.value c.min-3.ensures.value)
    (four_most c.args.w c.args.x c.args.y c.args.z _ _ _ w x y z c.max.ensures.value c.max-2.ensures.value c.max-3.ensures.value)
