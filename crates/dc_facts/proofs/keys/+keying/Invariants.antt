use Rattle.dc_facts.proofs.keys.+keying.Given as goal

abbrev pub decreases-push_type : goal.decreases-push_type
decreases-push_type l = l.depth

abbrev pub decreases-push_enum : goal.decreases-push_enum
decreases-push_enum l = l.depth
