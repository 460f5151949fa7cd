use Rattle.dc_grammar.proofs.Wholes.{variable_first}
use Rattle.dc_grammar.proofs.law.variable_first.Goals as goal

pub returns : goal.returns
returns c = variable_first
