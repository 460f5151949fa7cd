use Rattle.std.specs.Prelude.{◌≡◌}
use Rattle.dc_build.proofs.run.run_main.Given as goal

abbrev pub invariant-loop : goal.invariant-loop
invariant-loop g l = g.S.Sink.faults l.out ≡ g.S.Sink.faults l.fn.out
