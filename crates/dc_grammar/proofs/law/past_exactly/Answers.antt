use Rattle.dc_grammar.proofs.Past.{past_exactly}
use Rattle.dc_grammar.proofs.law.past_exactly.Goals as goal

pub returns : goal.returns
returns c = past_exactly
