use Rattle.std.proofs.Common.{◌≡◌, map, drop}
use Rattle.core_front.specs.Judging.{no_arguments, no_operands, part, linked, each_argument, each_operand}
use Rattle.core_front.proofs.judge_values.+judging.Given as goal

-- those so far, with the rest
abbrev pub invariant-arguments-loop-value : goal.invariant-arguments-loop-value
invariant-arguments-loop-value l =
    each_argument l.all (map part (drop l.value-index l.values)) l.known l.scope ≡ each_argument no_arguments (map part l.values) l.known l.scope

abbrev pub invariant-operands-loop-link : goal.invariant-operands-loop-link
invariant-operands-loop-link l =
    each_operand l.all (map linked (drop l.link-index l.links)) l.known l.scope ≡ each_operand no_operands (map linked l.links) l.known l.scope
