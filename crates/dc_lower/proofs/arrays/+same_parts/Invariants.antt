use Rattle.dc_lower.proofs.arrays.+same_parts.Given as goal

abbrev pub decreases-same_parts : goal.decreases-same_parts
decreases-same_parts l = l.depth
