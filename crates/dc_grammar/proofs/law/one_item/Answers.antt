use Rattle.dc_grammar.proofs.Wholes.{one_item}
use Rattle.dc_grammar.proofs.law.one_item.Goals as goal

pub returns : goal.returns
returns c = one_item
