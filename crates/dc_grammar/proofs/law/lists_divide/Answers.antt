use Rattle.dc_grammar.proofs.Wholes.{lists_divide}
use Rattle.dc_grammar.proofs.law.lists_divide.Goals as goal

pub returns : goal.returns
returns c = lists_divide
