use Rattle.dc_convert.proofs.Joining.{in_any_order}
use Rattle.dc_convert.proofs.laws.common_law.Goals as goal

pub returns : goal.returns
returns c = in_any_order
