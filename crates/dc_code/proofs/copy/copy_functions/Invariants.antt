use Rattle.std.proofs.Common.{◌≡◌, take}
use Rattle.dc_code.proofs.copy.copy_functions.Given as goal

abbrev pub invariant-loop-f : goal.invariant-loop-f
invariant-loop-f l = l.copy ≡ take l.f-index l.functions
