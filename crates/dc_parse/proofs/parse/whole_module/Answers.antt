use Rattle.std.proofs.Common.{refl}
use Rattle.dc_grammar.specs.Terminals.{same_terminal}
use Rattle.dc_grammar.proofs.Wholes.{every_module, never_fails}
use Rattle.dc_parse.specs.Left.{left}
use Rattle.dc_parse.proofs.Answered.{answered}
use Rattle.dc_parse.proofs.parse.whole_module.Goals as goal

pub returns-in-Ok : goal.returns-in-Ok
unfolding same_terminal
returns-in-Ok g c = answered every_module refl c.args.source.now.tokens.now c.args.at.now c.in-Ok.tree c.in-Ok.end c.whole.result c.in-Ok.ensures c.whole.ensures

pub unreachable-requires : goal.unreachable-requires
unfolding same_terminal
unreachable-requires g c = never_fails every_module refl (left c.args.source.now.tokens.now 0) (rw c.in-Err-Nothing.field-0-is at c.in-Err-Nothing.ensures)
