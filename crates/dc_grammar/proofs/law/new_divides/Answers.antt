use Rattle.dc_grammar.proofs.NewForms.{new_divides}
use Rattle.dc_grammar.proofs.law.new_divides.Goals as goal

pub returns : goal.returns
returns c = new_divides
