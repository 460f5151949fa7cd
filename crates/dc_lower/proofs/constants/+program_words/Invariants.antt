use Rattle.dc_lower.proofs.constants.+program_words.Given as goal

abbrev pub decreases-program_words : goal.decreases-program_words
decreases-program_words l = l.depth

abbrev pub decreases-parts_words : goal.decreases-parts_words
decreases-parts_words l = l.depth
