use Rattle.dc_types.specs.Ordered.{step_order}
use Rattle.dc_types.proofs.Ordering.{place_order}
use Rattle.dc_types.proofs.laws.order_laws.Goals as goal

pub returns-clause-steps : goal.returns-clause-steps
returns-clause-steps c = step_order

pub returns-clause-places : goal.returns-clause-places
returns-clause-places c = place_order
