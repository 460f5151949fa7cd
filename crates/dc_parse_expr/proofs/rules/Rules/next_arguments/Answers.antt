use Rattle.dc_grammar.specs.Readers as spec
use Rattle.dc_grammar.proofs.Turns.{turn_more, turn_stop, turn_done}
use Rattle.dc_parse_expr.proofs.rules.Rules.next_arguments.Goals as goal

pub returns-in-Err-Nothing : goal.returns-in-Err-Nothing
returns-in-Err-Nothing g c = turn_stop (spec.next_argument (spec.expr_to c.args.self.now.depth)) _ _ c.loop-turn.found c.loop-turn.rest.now _ c.loop-turn-test.true c.loop-turn.invariant (rw c.in-Err-Nothing.field-0-is at c.in-Err-Nothing.ensures)

pub loop-turn-preserved : goal.loop-turn-preserved
loop-turn-preserved g c =
    rw c.in_ok-push-in-Ok.ensures.ok (turn_more (spec.next_argument (spec.expr_to c.args.self.now.depth)) _ _ c.loop-turn.found c.loop-turn.rest.now c.in-Ok.one c.in-Ok.after.now _ c.loop-turn-test.true c.loop-turn.invariant c.in-Ok.ensures)

pub returns : goal.returns
returns g c = turn_done (spec.next_argument (spec.expr_to c.args.self.now.depth)) _ _ c.loop-turn.found c.loop-turn.rest.now _ c.loop-turn-test.false c.loop-turn.invariant
