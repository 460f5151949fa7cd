use Rattle.dc_grammar.proofs.Wholes.{nearest_if}
use Rattle.dc_grammar.proofs.law.nearest_if.Goals as goal

pub returns : goal.returns
returns c = nearest_if
