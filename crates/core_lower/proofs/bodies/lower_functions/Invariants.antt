use Rattle.std.proofs.Common.{take, ◌≡◌}
use Rattle.core_lower.specs.Lowered.{functions_from, bodies_code}
use Rattle.core_lower.proofs.bodies.lower_functions.Given as goal

abbrev pub invariant-loop-f : goal.invariant-loop-f
invariant-loop-f l = (l.functions ≡ functions_from l.bodies (take l.f-index l.bodies) 0) × (l.instrs ≡ bodies_code l.bodies (take l.f-index l.bodies) 0) × (l.at.functions ≡ l.fn.at.functions)
