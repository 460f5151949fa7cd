use Rattle.dc_grammar.specs.Readers as spec
use Rattle.dc_grammar.proofs.Turns.{turn_more, turn_stop, turn_done}
use Rattle.dc_parse_expr.proofs.list.slices.Goals as goal

pub returns-in-Err-Nothing : goal.returns-in-Err-Nothing
returns-in-Err-Nothing c = turn_stop spec.slice_part _ _ c.loop-turn.found c.loop-turn.rest.now _ c.loop-turn-test.true c.loop-turn.invariant (rw c.in-Err-Nothing.field-0-is at c.in-Err-Nothing.ensures)

pub loop-turn-preserved : goal.loop-turn-preserved
loop-turn-preserved c =
    rw c.in_ok-push-in-Ok.ensures.ok (turn_more spec.slice_part _ _ c.loop-turn.found c.loop-turn.rest.now c.in-Ok.one c.in-Ok.after.now _ c.loop-turn-test.true c.loop-turn.invariant c.in-Ok.ensures)

pub returns : goal.returns
returns c = turn_done spec.slice_part _ _ c.loop-turn.found c.loop-turn.rest.now _ c.loop-turn-test.false c.loop-turn.invariant
