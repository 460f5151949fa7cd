use Rattle.dc_layout.proofs.Copying.{Carries}
use Rattle.dc_layout.proofs.layout.copy_enums.Given as goal

abbrev pub invariant-loop-at : goal.invariant-loop-at
invariant-loop-at l = Carries l.copy.entries l.at-iterator l.initial.at-iterator
