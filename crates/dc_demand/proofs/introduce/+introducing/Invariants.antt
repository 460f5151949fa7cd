use Rattle.dc_demand.proofs.introduce.+introducing.Given as goal

abbrev pub decreases-introduce : goal.decreases-introduce
decreases-introduce l = l.depth

abbrev pub decreases-one : goal.decreases-one
decreases-one l = l.depth

abbrev pub decreases-structure : goal.decreases-structure
decreases-structure l = l.depth
