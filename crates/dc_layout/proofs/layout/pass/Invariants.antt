use Rattle.std.proofs.Common.{◌≡◌, [], drop}
use Rattle.dc_layout.specs.Cells.{passed}
use Rattle.dc_layout.proofs.layout.pass.Given as goal

abbrev pub invariant-loop-at : goal.invariant-loop-at
invariant-loop-at l = passed l.structs.entries l.known.entries l.still (drop l.at-index l.at-items) ≡ passed l.structs.entries l.initial.known.entries [] l.at-items
