use Rattle.dc_shown.proofs.Showing.{settles, shows_arguments}
use Rattle.dc_shown.proofs.shown.shown_laws.Goals as goal

pub returns-clause-settles : goal.returns-clause-settles
returns-clause-settles c = settles

pub returns-clause-arguments : goal.returns-clause-arguments
returns-clause-arguments c = shows_arguments
