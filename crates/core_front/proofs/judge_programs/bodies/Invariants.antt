use Rattle.std.proofs.Common.{◌≡◌, [], drop}
use Rattle.core_front.specs.JudgingStatements.{each_body}
use Rattle.core_front.proofs.judge_programs.bodies.Given as goal

-- those so far, with the rest
abbrev pub invariant-loop-f : goal.invariant-loop-f
invariant-loop-f l = each_body l.all (drop l.f-index l.known.functions) l.known ≡ each_body [] l.known.functions l.known
