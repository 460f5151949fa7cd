use Rattle.std.proofs.Common.{refl, ap, ◌∙◌, arith}
use Rattle.dc_grammar.specs.Terminals.{same_terminal}
use Rattle.dc_grammar.specs.Readers.{whole_type, expr_to, type_read, base, plain_base}
use Rattle.dc_grammar.proofs.Laws.{every_type}
use Rattle.dc_parse.proofs.Tails.{none_left, read_at, not_read_at}
use Rattle.dc_parse.proofs.parts.source.Source.of_type.Goals as goal

pub returns-then-at-len : goal.returns-then-at-len
unfolding expr_to type_read base plain_base
returns-then-at-len g c = ap whole_type (none_left c.args.self.now.tokens.now c.args.at (omega arith))

pub returns-in-Ok-Found : goal.returns-in-Ok-Found
unfolding same_terminal
returns-in-Ok-Found g c = read_at every_type c.args.self.now.tokens.now c.args.at c.in-Ok-Found.tree c.in-Ok-Found.end refl (rw c.in-Ok-Found.field-0-is at c.in-Ok-Found.ensures)

pub returns-in-Ok-Nothing : goal.returns-in-Ok-Nothing
returns-in-Ok-Nothing g c = not_read_at every_type c.args.self.now.tokens.now c.args.at (omega arith) (rw c.in-Ok-Nothing.field-0-is at c.in-Ok-Nothing.ensures)
