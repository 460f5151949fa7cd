use Rattle.dc_shown.specs.Shown.{of_arg}
use Rattle.dc_shown.proofs.Showing.{behind_more}
use Rattle.dc_shown.proofs.shown.say_args.Goals as goal

pub loop-arg-preserved : goal.loop-arg-preserved
loop-arg-preserved g c =
    behind_more (of_arg (g.N.Naming.told c.args.names.now)) _ c.loop-arg.arg-index c.arg-item.result _ c.loop-arg.out c.say.new.out c.say_arg-in-loop-arg.new.out c.loop-arg-test.true c.arg-item.is c.loop-arg.invariant c.in_ok-say.ensures c.in_ok-say_arg-2.ensures
