use Rattle.dc_lower.proofs.constants.+constant.Given as goal

abbrev pub decreases-constant : goal.decreases-constant
decreases-constant l = l.depth

abbrev pub decreases-parts : goal.decreases-parts
decreases-parts l = l.depth

abbrev pub decreases-array : goal.decreases-array
decreases-array l = l.depth
