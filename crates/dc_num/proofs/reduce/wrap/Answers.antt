use Rattle.dc_num.proofs.Masks.{truth_zero, truth_other}
use Rattle.dc_num.proofs.reduce.wrap.Goals as goal

pub returns-then-v-eq0 : goal.returns-then-v-eq0
returns-then-v-eq0 c = truth_zero c.args.k c.args.v c.ranges.v c.in-Bool.is c.if-v-eq0.true

pub returns-else-v-eq0 : goal.returns-else-v-eq0
returns-else-v-eq0 c = truth_other c.args.k c.args.v c.in-Bool.is c.if-v-eq0.false
