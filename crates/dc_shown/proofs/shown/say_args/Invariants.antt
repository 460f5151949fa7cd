use Rattle.std.proofs.Common.{◌≡◌, ◌++◌, take, map}
use Rattle.dc_shown.specs.Shown.{behind, of_arg}
use Rattle.dc_shown.proofs.shown.say_args.Given as goal

abbrev pub invariant-loop-arg : goal.invariant-loop-arg
invariant-loop-arg g l = l.out ≡ l.initial.out ++ behind (map (of_arg (g.N.Naming.told l.names)) (take l.arg-index l.rest))
