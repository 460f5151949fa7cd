use Rattle.std.proofs.Common.{[], ◌∷◌}
use Rattle.dc_key.specs.KeyTexts.{arg_text}
use Rattle.dc_key.proofs.Joining.{behind_more}
use Rattle.dc_key.proofs.key.put_args.Goals as goal

pub loop-arg-preserved : goal.loop-arg-preserved
loop-arg-preserved c =
    behind_more (44 ∷ 32 ∷ []) arg_text _ c.loop-arg.arg-index c.arg-item.result _ c.loop-arg.out c.append.new.self c.put_arg-in-loop-arg.new.out c.loop-arg-test.true c.arg-item.is c.loop-arg.invariant c.in_ok-append.ensures.ok c.in_ok-put_arg-2.ensures
