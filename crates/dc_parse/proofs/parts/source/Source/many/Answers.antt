use Rattle.std.proofs.Common.{◌≡◌, ℕ, ◌-◌, arith}
use Rattle.dc_parse.specs.Left.{left}
use Rattle.dc_grammar.proofs.Turns.{start, turn_more, turn_stop, turn_done}
use Rattle.dc_parse.proofs.parts.source.Source.many.Goals as goal

minus_zero : (n : ℕ) → n - 0 ≡ n
minus_zero n = omega arith

pub loop-turn-init : goal.loop-turn-init
loop-turn-init g c p calls = rw (c.new-found.ensures, c.count-turn-end.ensures, minus_zero) (start _)

pub returns-in-Err-Nothing : goal.returns-in-Err-Nothing
returns-in-Err-Nothing g c p calls =
    turn_stop p _ _ c.loop-turn.found (left c.args.self.now.tokens.now c.loop-turn.rest) _ c.loop-turn-test.true (c.loop-turn.invariant p calls)
    (rw c.in-Err-Nothing.field-0-is at (calls.reads _ _ c.in-Err-Nothing.ensures))

pub loop-turn-preserved : goal.loop-turn-preserved
loop-turn-preserved g c p calls =
    rw c.in_ok-push-in-Ok.ensures.ok
    (turn_more p _ _ c.loop-turn.found (left c.args.self.now.tokens.now c.loop-turn.rest) c.in-Ok.next (left c.args.self.now.tokens.now c.in-Ok.after) _ c.loop-turn-test.true
    (c.loop-turn.invariant p calls) (calls.reads _ _ c.in-Ok.ensures))

pub returns : goal.returns
returns g c p calls = turn_done p _ _ c.loop-turn.found (left c.args.self.now.tokens.now c.loop-turn.rest) _ c.loop-turn-test.false (c.loop-turn.invariant p calls)
