use Rattle.dc_top.proofs.Counts.{counts_are_decimals}
use Rattle.dc_top.proofs.laws.counts_are_decimals.Goals as goal

pub returns : goal.returns
returns c = counts_are_decimals
