use Rattle.dc_lower.proofs.statements.+statement.Given as goal

abbrev pub decreases-statement : goal.decreases-statement
decreases-statement l = l.depth

abbrev pub decreases-branches : goal.decreases-branches
decreases-branches l = l.depth

abbrev pub decreases-looped : goal.decreases-looped
decreases-looped l = l.depth

abbrev pub decreases-turns : goal.decreases-turns
decreases-turns l = l.depth

abbrev pub decreases-count : goal.decreases-count
decreases-count l = l.depth

abbrev pub decreases-walk_over : goal.decreases-walk_over
decreases-walk_over l = l.depth

abbrev pub decreases-switch : goal.decreases-switch
decreases-switch l = l.depth

abbrev pub decreases-groups : goal.decreases-groups
decreases-groups l = l.depth
