use Rattle.std.proofs.Common.{◌∙◌, sym, ap, length, subst, ◌<◌, ◌≤◌}
use Rattle.dc_key.specs.KeyReading.{has_step, next_step, step_in, starts_step}
use Rattle.dc_key.proofs.Turning.{turn, stop, over, grown}
use Rattle.dc_key.proofs.key_reader.steps_in.Goals as goal
use Rattle.dc_key.proofs.key_reader.steps_in.Goals.{else-loop-test, then-loop-test+then-not-starts_step}

pub loop-preserved : goal.loop-preserved
loop-preserved c =
    turn has_step next_step (length c.args.from.now) c.loop.counter (c.loop.steps, c.loop.from) (c.push.new.self, c.step_in.new.from) _ (subst (λ n. c.loop.counter < n) c.len-end.ensures c.loop-test.true)
    (sym (c.starts_step.ensures ∙ ap starts_step c.first.ensures) ∙ c.if-not-starts_step.false)
    (grown c.loop.steps c.push.new.self c.in_ok-step_in.field-0 c.step_in.new.from (step_in c.loop.from) c.in_ok-step_in.ensures c.in_ok-push.ensures.ok) c.loop.invariant

pub returns : goal.returns
returns c = elim c.loop-test.branch [
  | else-loop-test w ↦ over has_step next_step (length c.args.from.now) c.loop.counter (c.loop.steps, c.loop.from) _ (subst (λ n. n ≤ c.loop.counter) c.len-end.ensures w.loop-test.false) c.loop.invariant
  | then-loop-test+then-not-starts_step w ↦ stop has_step next_step _ (c.loop.steps, c.loop.from) _ (sym (w.starts_step.ensures ∙ ap starts_step w.first.ensures) ∙ w.if-not-starts_step.true) c.loop.invariant
]
