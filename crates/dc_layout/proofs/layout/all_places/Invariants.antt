use Rattle.std.proofs.Common.{◌≡◌, ◌++◌}
use Rattle.dc_layout.proofs.layout.all_places.Given as goal

-- those that are listed, and those that the iterator has left
abbrev pub invariant-loop-at : goal.invariant-loop-at
invariant-loop-at l = l.places ++ l.at-iterator ≡ l.initial.places ++ l.initial.at-iterator
