use Rattle.core_lower_expr.proofs.Exprs.{lowers}
use Rattle.core_lower_expr.proofs.lower.lowering_law.Goals as goal

pub returns : goal.returns
returns c = lowers
