use Rattle.dc_num.proofs.Results.{divides, remainder_is, no_remainder}
use Rattle.dc_num.proofs.operators.remainder.Goals as goal

pub nonzero_rem-a : goal.nonzero_rem-a
nonzero_rem-a c = divides c.args.k c.args.a c.args.b c.ranges.a c.ranges.b c.requires c.can_divide.result c.can_divide.ensures c.if-can_divide.true

pub returns-then-can_divide : goal.returns-then-can_divide
returns-then-can_divide c = remainder_is c.args.k c.args.a c.args.b c.ranges.a c.ranges.b c.requires c.can_divide.result c.can_divide.ensures c.if-can_divide.true c.wrap.result c.wrap.ensures

pub returns-else-can_divide : goal.returns-else-can_divide
returns-else-can_divide c = no_remainder c.args.k c.args.a c.args.b c.ranges.a c.ranges.b c.requires c.can_divide.result c.can_divide.ensures c.if-can_divide.false
