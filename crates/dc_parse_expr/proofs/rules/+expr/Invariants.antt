use Rattle.dc_parse_expr.proofs.rules.+expr.Given as goal

abbrev pub decreases-expr : goal.decreases-expr
decreases-expr l = l.depth
