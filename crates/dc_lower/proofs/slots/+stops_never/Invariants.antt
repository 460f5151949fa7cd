use Rattle.dc_lower.proofs.slots.+stops_never.Given as goal

abbrev pub decreases-stops_never : goal.decreases-stops_never
decreases-stops_never l = l.depth
