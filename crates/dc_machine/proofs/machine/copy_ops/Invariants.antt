use Rattle.std.proofs.Common.{◌≡◌, take, map}
use Rattle.dc_machine.proofs.machine.copy_ops.Given as goal

abbrev pub invariant-loop-i : goal.invariant-loop-i
invariant-loop-i l = l.ops.items ≡ map (λ i. i.op) (take l.i-index l.i-items)
