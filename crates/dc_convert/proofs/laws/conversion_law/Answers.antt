use Rattle.dc_convert.proofs.Sound.{within_fitted}
use Rattle.dc_convert.proofs.laws.conversion_law.Goals as goal

pub returns : goal.returns
returns c k r z h = within_fitted k r z h
