use Rattle.dc_ctfe.proofs.freezing.+frozen.Given as goal

abbrev pub decreases-frozen : goal.decreases-frozen
decreases-frozen l = l.depth

abbrev pub decreases-slice : goal.decreases-slice
decreases-slice l = l.depth

abbrev pub decreases-items : goal.decreases-items
decreases-items l = l.depth

abbrev pub decreases-fields : goal.decreases-fields
decreases-fields l = l.depth
