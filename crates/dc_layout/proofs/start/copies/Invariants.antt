use Rattle.std.proofs.Common.{◌≡◌}
use Rattle.dc_layout.specs.Starts.{copies}
use Rattle.dc_layout.proofs.start.copies.Given as goal

abbrev pub invariant-loop : goal.invariant-loop
invariant-loop l = l.trees ≡ copies l.counter l.tree
