use Rattle.std.proofs.Common.{◌≡◌, ◌∙◌, ℕ, ◌-◌, Bool, Some, ap, sym, arith}
use Rattle.dc_parse.specs.Left.{left}
use Rattle.dc_parse.proofs.Links.{given_as, starts, turn_none, turn_taken, turn_alone, turn_last, turn_more, turn_over}
use Rattle.dc_parse.proofs.chain.chain.Goals as goal

minus_zero : (n : ℕ) → n - 0 ≡ n
minus_zero n = omega arith

pub loop-turn-init : goal.loop-turn-init
loop-turn-init g c p o q first opens other = rw (c.new-found.ensures, c.count-turn-end.ensures, minus_zero) (starts (left c.args.source.now.tokens.now c.args.at) _)

pub returns-in-Err-Nothing : goal.returns-in-Err-Nothing
returns-in-Err-Nothing g c p o q first opens other =
    given_as _ c.ended.result _ _
    (turn_none p o q _ _ c.loop-turn.found (left c.args.source.now.tokens.now c.loop-turn.back) (left c.args.source.now.tokens.now c.loop-turn.rest) _ c.loop-turn-test.true
    (c.loop-turn.invariant p o q first opens other) (rw c.in-Err-Nothing.field-0-is at (first.reads _ _ c.in-Err-Nothing.ensures)))
    c.ended.ensures

pub returns-then-takes_else : goal.returns-then-takes_else
returns-then-takes_else g c p o q first opens other =
    let read = first.reads _ _ c.in-Ok.ensures ∙ ap (λ (t : Bool). Some ((t, c.in-Ok.read.0.1), left c.args.source.now.tokens.now c.in-Ok.read.1)) c.if-takes_else.true in
    rw c.in_ok-push.ensures.ok
    (turn_taken p o q _ _ c.loop-turn.found (left c.args.source.now.tokens.now c.loop-turn.back) (left c.args.source.now.tokens.now c.loop-turn.rest) _ c.loop-turn-test.true
    (c.loop-turn.invariant p o q first opens other) c.in-Ok.read.0.1 (left c.args.source.now.tokens.now c.in-Ok.read.1) read)

pub returns-in-Err-Nothing-mark : goal.returns-in-Err-Nothing-mark
returns-in-Err-Nothing-mark g c p o q first opens other =
    let read = first.reads _ _ c.in-Ok.ensures ∙ ap (λ (t : Bool). Some ((t, c.in-Ok.read.0.1), left c.args.source.now.tokens.now c.in-Ok.read.1)) c.if-takes_else.false in
    rw c.in_ok-push.ensures.ok
    (turn_alone p o q _ _ c.loop-turn.found (left c.args.source.now.tokens.now c.loop-turn.back) (left c.args.source.now.tokens.now c.loop-turn.rest) _ c.loop-turn-test.true
    (c.loop-turn.invariant p o q first opens other) c.in-Ok.read.0.1 (left c.args.source.now.tokens.now c.in-Ok.read.1) read
    (rw c.in-Err-Nothing-mark.field-0-is at c.in-Err-Nothing-mark.ensures))

pub returns-else-opens : goal.returns-else-opens
returns-else-opens g c p o q first opens other =
    let read = first.reads _ _ c.in-Ok.ensures ∙ ap (λ (t : Bool). Some ((t, c.in-Ok.read.0.1), left c.args.source.now.tokens.now c.in-Ok.read.1)) c.if-takes_else.false in
    given_as _ c.closing.result _ _
    (turn_last p o q _ _ c.loop-turn.found (left c.args.source.now.tokens.now c.loop-turn.back) (left c.args.source.now.tokens.now c.loop-turn.rest) _ c.loop-turn-test.true
    (c.loop-turn.invariant p o q first opens other) c.in-Ok.read.0.1 (left c.args.source.now.tokens.now c.in-Ok.read.1) (left c.args.source.now.tokens.now c.in-Ok-mark.behind) read
    c.in-Ok-mark.ensures (sym (opens.tells _ _ c.opens.ensures) ∙ c.if-opens.false))
    (rw c.in_ok-push.ensures.ok at (c.closing.ensures q other))

pub loop-turn-preserved : goal.loop-turn-preserved
loop-turn-preserved g c p o q first opens other =
    let read = first.reads _ _ c.in-Ok.ensures ∙ ap (λ (t : Bool). Some ((t, c.in-Ok.read.0.1), left c.args.source.now.tokens.now c.in-Ok.read.1)) c.if-takes_else.false in
    rw c.in_ok-push.ensures.ok
    (turn_more p o q _ _ c.loop-turn.found (left c.args.source.now.tokens.now c.loop-turn.back) (left c.args.source.now.tokens.now c.loop-turn.rest) _ c.loop-turn-test.true
    (c.loop-turn.invariant p o q first opens other) c.in-Ok.read.0.1 (left c.args.source.now.tokens.now c.in-Ok.read.1) (left c.args.source.now.tokens.now c.in-Ok-mark.behind) read
    c.in-Ok-mark.ensures (sym (opens.tells _ _ c.opens.ensures) ∙ c.if-opens.true))

pub returns : goal.returns
returns g c p o q first opens other =
    given_as _ c.ended-2.result _ _
    (turn_over p o q _ _ c.loop-turn.found (left c.args.source.now.tokens.now c.loop-turn.back) (left c.args.source.now.tokens.now c.loop-turn.rest) _ c.loop-turn-test.false
    (c.loop-turn.invariant p o q first opens other))
    c.ended-2.ensures
