use Rattle.dc_top.proofs.Texts.{one_verdict}
use Rattle.dc_top.proofs.laws.one_text_verdict.Goals as goal

pub returns : goal.returns
returns c = one_verdict
