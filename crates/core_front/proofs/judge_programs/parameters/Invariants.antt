use Rattle.std.proofs.Common.{◌≡◌, [], drop}
use Rattle.core_front.specs.JudgingStatements.{each_parameter}
use Rattle.core_front.proofs.judge_programs.parameters.Given as goal

-- those so far, with the rest
abbrev pub invariant-loop-parameter : goal.invariant-loop-parameter
invariant-loop-parameter l = each_parameter l.all (drop l.parameter-index l.written) l.known ≡ each_parameter [] l.written l.known
