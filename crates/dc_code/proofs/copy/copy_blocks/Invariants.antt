use Rattle.std.proofs.Common.{◌≡◌, take}
use Rattle.dc_code.proofs.copy.copy_blocks.Given as goal

abbrev pub invariant-loop-words : goal.invariant-loop-words
invariant-loop-words l = l.copy ≡ take l.words-index l.blocks
