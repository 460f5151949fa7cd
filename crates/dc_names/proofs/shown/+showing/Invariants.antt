use Rattle.dc_names.proofs.shown.+showing.Given as goal

abbrev pub decreases-show_type : goal.decreases-show_type
decreases-show_type l = l.depth

abbrev pub decreases-show_struct : goal.decreases-show_struct
decreases-show_struct l = l.depth

abbrev pub decreases-show_arg : goal.decreases-show_arg
decreases-show_arg l = l.depth

abbrev pub decreases-show_value : goal.decreases-show_value
decreases-show_value l = l.depth

abbrev pub decreases-show_fields : goal.decreases-show_fields
decreases-show_fields l = l.depth

abbrev pub decreases-show_items : goal.decreases-show_items
decreases-show_items l = l.depth
