use Rattle.dc_convert.proofs.Numbering.{are_numbered}
use Rattle.dc_convert.proofs.Choosing.{one_beats, one_best}
use Rattle.dc_convert.proofs.laws.choice_laws.Goals as goal

pub returns-clause-beats : goal.returns-clause-beats
returns-clause-beats c = one_beats

pub returns-clause-best : goal.returns-clause-best
returns-clause-best c = one_best

pub returns-clause-numbers : goal.returns-clause-numbers
returns-clause-numbers c = are_numbered
