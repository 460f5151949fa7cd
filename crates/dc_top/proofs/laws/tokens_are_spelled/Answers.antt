use Rattle.dc_top.proofs.Spellings.{spells_each}
use Rattle.dc_top.proofs.laws.tokens_are_spelled.Goals as goal

pub returns : goal.returns
returns c = spells_each
