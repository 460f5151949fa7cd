use Rattle.dc_code.proofs.Ends.{keeps_standing}
use Rattle.dc_code.proofs.laws.keeps_standing.Goals as goal

pub returns : goal.returns
returns c = λ limits first. keeps_standing c.args.code.now limits c.is_sound.ensures first
