use Rattle.std.proofs.Common.{◌≡◌, drop, []}
use Rattle.core_front.specs.Programs.{each_parameter}
use Rattle.core_front.proofs.programs.parameters.Given as goal

abbrev pub invariant-loop-p : goal.invariant-loop-p
invariant-loop-p l = each_parameter l.all (drop l.p-index l.written) ≡ each_parameter [] l.written
