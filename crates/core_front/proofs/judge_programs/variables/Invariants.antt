use Rattle.std.proofs.Common.{◌≡◌, map, take}
use Rattle.core_front.specs.Judging.{variable_in}
use Rattle.core_front.proofs.judge_programs.variables.Given as goal

abbrev pub invariant-loop-local : goal.invariant-loop-local
invariant-loop-local l = l.all ≡ map (λ x. variable_in l.known x.at) (take l.local-index l.locals)
