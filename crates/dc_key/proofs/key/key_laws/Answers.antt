use Rattle.dc_key.proofs.Reading.{one_key}
use Rattle.dc_key.proofs.key.key_laws.Goals as goal

pub returns : goal.returns
returns c = one_key
