use Rattle.dc_parse_expr.proofs.Answering.{no_tree, none_at_all, none_so_long}
use Rattle.dc_parse_expr.proofs.parse.whole.Goals as goal

pub returns-then-end-len : goal.returns-then-end-len
returns-then-end-len c =
    no_tree c.args.tokens.now c.args.at.now c.refuse.result (rw (c.start_of-start.ensures, c.as_slice.ensures) at c.refuse.ensures)
    (none_so_long c.args.tokens.now c.in-Ok-Found.tree c.in-Ok-Found.end (rw c.in-Ok-Found.field-0-is at c.in-Ok-Found.ensures) (rw c.len.ensures at c.if-end-len.true))

pub returns-in-Ok-Nothing : goal.returns-in-Ok-Nothing
returns-in-Ok-Nothing c =
    no_tree c.args.tokens.now c.args.at.now c.refuse-in-Ok-Nothing.result (rw (c.start_of-start.ensures, c.as_slice.ensures) at c.refuse-in-Ok-Nothing.ensures)
    (none_at_all c.args.tokens.now (rw c.in-Ok-Nothing.field-0-is at c.in-Ok-Nothing.ensures))
