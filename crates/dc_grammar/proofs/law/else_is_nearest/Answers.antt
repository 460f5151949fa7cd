use Rattle.dc_grammar.proofs.DanglingDecls.{else_is_nearest}
use Rattle.dc_grammar.proofs.law.else_is_nearest.Goals as goal

pub returns : goal.returns
returns c = else_is_nearest
