use Rattle.dc_code.proofs.Once.{runs_once}
use Rattle.dc_code.proofs.laws.runs_once.Goals as goal

pub returns : goal.returns
returns c = runs_once
