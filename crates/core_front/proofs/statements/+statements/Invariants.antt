use Rattle.std.proofs.Common.{◌≡◌, drop, map, []}
use Rattle.core_front.specs.Statements.{each_action, each_branch, stmt_built, branch_built}
use Rattle.core_front.proofs.statements.+statements.Given as goal

abbrev pub invariant-statements-loop-s : goal.invariant-statements-loop-s
invariant-statements-loop-s l = each_action l.all (map stmt_built (drop l.s-index l.written)) ≡ each_action [] (map stmt_built l.written)

abbrev pub invariant-branches-loop-b : goal.invariant-branches-loop-b
invariant-branches-loop-b l = each_branch l.all (map branch_built (drop l.b-index l.written)) ≡ each_branch [] (map branch_built l.written)
