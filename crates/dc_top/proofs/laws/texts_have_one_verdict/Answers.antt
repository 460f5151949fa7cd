use Rattle.dc_top.proofs.Verdicts.{one_verdict}
use Rattle.dc_top.proofs.laws.texts_have_one_verdict.Goals as goal

pub returns : goal.returns
returns c = one_verdict
