use Rattle.dc_num.proofs.Results.{shift_right_zeros_is, no_shift_right_zeros}
use Rattle.dc_num.proofs.operators.shift_right_zeros.Goals as goal

pub returns-in-Some : goal.returns-in-Some
returns-in-Some c = shift_right_zeros_is c.args.k c.args.a c.args.count c.ranges.a c.ranges.count c.shift_count.result c.shift_count.ensures.value c.in-Some.count c.in-Some.is c.pattern.result c.pattern.ensures c.from.result c.from.ensures c.wrap.result c.wrap.ensures

pub returns-in-None : goal.returns-in-None
returns-in-None c = no_shift_right_zeros c.args.k c.args.a c.args.count c.ranges.a c.ranges.count c.shift_count.result c.shift_count.ensures.value c.in-None.is
