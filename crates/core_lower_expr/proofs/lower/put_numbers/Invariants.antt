use Rattle.std.proofs.Common.{◌≡◌, ◌+◌, ◌++◌, take}
use Rattle.core_lower_expr.specs.Lowered.{put_ops}
use Rattle.core_lower_expr.proofs.lower.put_numbers.Given as goal

abbrev pub invariant-loop-ty : goal.invariant-loop-ty
invariant-loop-ty l = (l.instrs ≡ l.fn.instrs ++ put_ops l.place (take l.ty-index l.types) l.spare) × (l.slot ≡ l.spare + l.ty-index)
