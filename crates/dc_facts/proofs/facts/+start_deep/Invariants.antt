use Rattle.dc_facts.proofs.facts.+start_deep.Given as goal

abbrev pub decreases-start_deep : goal.decreases-start_deep
decreases-start_deep l = l.depth
