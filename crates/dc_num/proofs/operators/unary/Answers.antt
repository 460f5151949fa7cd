use Rattle.dc_num.proofs.Results.{negated_is, flip_is}
use Rattle.dc_num.proofs.operators.unary.Goals as goal

pub returns-in-Negate : goal.returns-in-Negate
returns-in-Negate c = negated_is c.args.op c.args.k c.args.a c.ranges.a c.in-Negate.is _ c.wrap.result c.wrapping_neg.ensures c.wrap.ensures

pub returns-in-Flip : goal.returns-in-Flip
returns-in-Flip c = flip_is c.args.op c.args.k c.args.a c.ranges.a c.in-Flip.is c.pattern.result c.pattern.ensures c.from.result c.from.ensures c.wrap-in-Flip.result c.wrap-in-Flip.ensures
