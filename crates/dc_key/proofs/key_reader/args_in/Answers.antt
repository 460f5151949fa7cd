use Rattle.std.proofs.Common.{◌∙◌, ap, length, subst, ◌<◌, ◌≤◌}
use Rattle.dc_key.specs.KeyReading.{has_arg, next_arg, arg_in, past_mark}
use Rattle.dc_key.proofs.Turning.{turn, stop, over, grown, is_some_left, is_none_left}
use Rattle.dc_key.proofs.key_reader.args_in.Goals as goal
use Rattle.dc_key.proofs.key_reader.args_in.Goals.{else-loop-test, then-loop-test+then-len-eq0}

pub loop-preserved : goal.loop-preserved
loop-preserved c =
    turn has_arg next_arg (length c.args.from.now) c.loop.counter (c.loop.args, c.loop.from) (c.push.new.self, c.arg_in.new.from) _ (subst (λ n. c.loop.counter < n) c.len-end.ensures c.loop-test.true)
    (is_some_left c.loop.from c.len.result c.len.ensures c.if-len-eq0.false)
    (grown c.loop.args c.push.new.self c.in_ok-arg_in.field-0 c.arg_in.new.from (arg_in (past_mark c.loop.from)) (c.in_ok-arg_in.ensures ∙ ap arg_in c.pass_mark.ensures) c.in_ok-push.ensures.ok) c.loop.invariant

pub returns : goal.returns
returns c = elim c.loop-test.branch [
  | else-loop-test w ↦ over has_arg next_arg (length c.args.from.now) c.loop.counter (c.loop.args, c.loop.from) _ (subst (λ n. n ≤ c.loop.counter) c.len-end.ensures w.loop-test.false) c.loop.invariant
  | then-loop-test+then-len-eq0 w ↦ stop has_arg next_arg _ (c.loop.args, c.loop.from) _ (is_none_left c.loop.from w.len.result w.len.ensures w.if-len-eq0.true) c.loop.invariant
]
