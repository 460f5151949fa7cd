use Rattle.dc_code.proofs.Ticks.{ticks_bound}
use Rattle.dc_code.proofs.laws.ticks_bound.Goals as goal

pub returns : goal.returns
returns c = ticks_bound
