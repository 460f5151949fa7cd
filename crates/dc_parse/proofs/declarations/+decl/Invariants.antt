use Rattle.dc_parse.proofs.declarations.+decl.Given as goal

abbrev pub decreases-decl : goal.decreases-decl
decreases-decl g l = l.depth
