use Rattle.std.proofs.Common.{◌≡◌, []}
use Rattle.dc_code.specs.State.{On}
use Rattle.dc_code.specs.Standing.{rank}
use Rattle.dc_machine.specs.After.{machine_of}
use Rattle.dc_machine.specs.Running.{Comes}
use Rattle.dc_machine.proofs.run.run_on.Given as goal

abbrev pub invariant-loop-halt : goal.invariant-loop-halt
invariant-loop-halt g l = record {
  comes : Comes l.code l.limits (On (machine_of l.code l.fn.m 0 [])) l.m (g.S.Sink.taken l.fn.out) (g.S.Sink.taken l.out);
  faults : g.S.Sink.faults l.out ≡ g.S.Sink.faults l.fn.out;
}

abbrev pub decreases-loop-halt : goal.decreases-loop-halt
decreases-loop-halt g l = rank l.code (machine_of l.code l.m 0 [])
