use Rattle.std.specs.Prelude.{◌≡◌}
use Rattle.dc_build.proofs.load.read_files.Given as goal

abbrev pub invariant-loop-path : goal.invariant-loop-path
invariant-loop-path g l = (g.L.Library.faults l.lib ≡ g.L.Library.faults l.fn.lib) × (g.L.Library.told l.lib ≡ g.L.Library.told l.fn.lib)
