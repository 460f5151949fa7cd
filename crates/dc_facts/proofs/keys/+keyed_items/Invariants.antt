use Rattle.dc_facts.proofs.keys.+keyed_items.Given as goal

abbrev pub decreases-push_items : goal.decreases-push_items
decreases-push_items l = l.depth

abbrev pub decreases-push_item : goal.decreases-push_item
decreases-push_item l = l.depth
