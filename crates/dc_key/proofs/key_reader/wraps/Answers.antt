use Rattle.std.proofs.Common.{◌∙◌, sym, ap, length, subst, ◌<◌, ◌≤◌}
use Rattle.std.proofs.Common.{◌==◌}
use Rattle.dc_key.specs.KeyReading.{has_wrap, next_wrap}
use Rattle.dc_key.proofs.Turning.{turn, stop, over, is_equal, is_other}
use Rattle.dc_key.proofs.key_reader.wraps.Goals as goal
use Rattle.dc_key.proofs.key_reader.wraps.Goals.{else-loop-test, then-loop-test+then-first-ne91}

pub loop-preserved : goal.loop-preserved
loop-preserved c =
    turn has_wrap next_wrap (length c.args.from.now) c.loop.counter (c.loop.ty, c.loop.from) (c.in_ok-ty.ty, c.next_wrap.new.from) _ (subst (λ n. c.loop.counter < n) c.len-end.ensures c.loop-test.true)
    (ap (λ b. b == 91) (sym c.first.ensures) ∙ is_equal c.first.result 91 c.if-first-ne91.false)
    c.in_ok-ty.ensures c.loop.invariant

pub returns : goal.returns
returns c = elim c.loop-test.branch [
  | else-loop-test w ↦ over has_wrap next_wrap (length c.args.from.now) c.loop.counter (c.loop.ty, c.loop.from) _ (subst (λ n. n ≤ c.loop.counter) c.len-end.ensures w.loop-test.false) c.loop.invariant
  | then-loop-test+then-first-ne91 w ↦ stop has_wrap next_wrap _ (c.loop.ty, c.loop.from) _ (ap (λ b. b == 91) (sym w.first.ensures) ∙ is_other w.first.result 91 w.if-first-ne91.true) c.loop.invariant
]
