use Rattle.dc_form.proofs.conversion.+coercing.Given as goal

abbrev pub decreases-coerce_deep : goal.decreases-coerce_deep
decreases-coerce_deep l = l.depth

abbrev pub decreases-coerce_items : goal.decreases-coerce_items
decreases-coerce_items l = l.depth
