use Rattle.dc_code.proofs.Ends.{ends_well}
use Rattle.dc_code.proofs.laws.ends_well.Goals as goal

pub returns : goal.returns
returns c = λ limits entry n lt. ends_well c.args.code.now limits c.is_sound.ensures entry n lt
