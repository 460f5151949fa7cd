use Rattle.std.proofs.Common.{rules}
use Rattle.core_tree.proofs.table.Table.put.Goals as goal

pub returns : goal.returns
returns g c = λ k. let u = c.in_ok-insert.ensures.updates.0 k in let m = g.met.K.Ord.matches_eq in search (rules, u, m)
