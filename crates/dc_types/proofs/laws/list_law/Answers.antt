use Rattle.dc_types.specs.Equal.{of_lists}
use Rattle.dc_types.proofs.laws.list_law.Goals as goal

pub returns : goal.returns
returns t c exact = of_lists t.T.PartialEq.eq exact
