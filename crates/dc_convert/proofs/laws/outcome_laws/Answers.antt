use Rattle.dc_convert.proofs.Outcomes.{one_outcome}
use Rattle.dc_convert.proofs.Causes.{causes}
use Rattle.dc_convert.proofs.laws.outcome_laws.Goals as goal

pub returns-clause-one : goal.returns-clause-one
returns-clause-one c = one_outcome

pub returns-clause-causes : goal.returns-clause-causes
returns-clause-causes c = causes
