use Rattle.dc_lower.proofs.sizes.+holds_fixed.Given as goal

abbrev pub decreases-holds_fixed : goal.decreases-holds_fixed
decreases-holds_fixed l = l.depth
