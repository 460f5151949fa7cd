use Rattle.std.proofs.Common.{◌≡◌, map, drop}
use Rattle.core_front.specs.JudgingStatements.{each_step, each_choice, step, choice, nothing_yet}
use Rattle.core_front.proofs.judge_statements.+stepping.Given as goal

-- those so far, with the rest
abbrev pub invariant-steps-loop-action : goal.invariant-steps-loop-action
invariant-steps-loop-action l =
    each_step (map step (drop l.action-index l.actions)) l.known l.gives_int (record { stmts = l.stmts; state = l.state }) ≡ each_step (map step l.actions) l.known l.gives_int (nothing_yet l.initial.state)

abbrev pub invariant-choices-loop-branch : goal.invariant-choices-loop-branch
invariant-choices-loop-branch l =
    each_choice (map choice (drop l.branch-index l.branches)) l.known l.gives_int l.chosen ≡ each_choice (map choice l.branches) l.known l.gives_int l.initial.chosen
