use Rattle.dc_lower.proofs.slots.+writes_nothing.Given as goal

abbrev pub decreases-writes_nothing : goal.decreases-writes_nothing
decreases-writes_nothing l = l.depth
