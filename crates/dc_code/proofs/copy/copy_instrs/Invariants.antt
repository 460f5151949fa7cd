use Rattle.std.proofs.Common.{◌≡◌, take}
use Rattle.dc_code.proofs.copy.copy_instrs.Given as goal

abbrev pub invariant-loop-i : goal.invariant-loop-i
invariant-loop-i l = l.copy ≡ take l.i-index l.instrs
