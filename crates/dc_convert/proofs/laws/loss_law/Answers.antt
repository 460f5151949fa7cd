use Rattle.dc_convert.proofs.Keeping.{loses_there}
use Rattle.dc_convert.proofs.laws.loss_law.Goals as goal

pub returns : goal.returns
returns c = loses_there
