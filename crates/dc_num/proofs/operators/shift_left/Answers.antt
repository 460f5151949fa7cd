use Rattle.dc_num.proofs.Results.{shift_left_is, no_shift_left}
use Rattle.dc_num.proofs.operators.shift_left.Goals as goal

pub returns-in-Some : goal.returns-in-Some
returns-in-Some c = shift_left_is c.args.k c.args.a c.args.count c.ranges.a c.ranges.count c.shift_count.result c.shift_count.ensures.value c.in-Some.count c.in-Some.is c.requires c.in-Some.ensures.bound c.wrap.result c.wrap.ensures

pub returns-in-None : goal.returns-in-None
returns-in-None c = no_shift_left c.args.k c.args.a c.args.count c.ranges.a c.ranges.count c.shift_count.result c.shift_count.ensures.value c.in-None.is
