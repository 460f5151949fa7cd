use Rattle.dc_form.proofs.levels.+levels.Given as goal

abbrev pub decreases-level_from : goal.decreases-level_from
decreases-level_from l = l.depth

abbrev pub decreases-converts : goal.decreases-converts
decreases-converts l = l.depth

abbrev pub decreases-items_convert : goal.decreases-items_convert
decreases-items_convert l = l.depth
