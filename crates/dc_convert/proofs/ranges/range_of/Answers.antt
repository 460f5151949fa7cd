use Rattle.std.proofs.Common.{sym, subst}
use Rattle.dc_convert.specs.Ranges.{Within}
use Rattle.dc_convert.proofs.Ends.{wide}
use Rattle.dc_convert.proofs.Sound.{range_of_sound}
use Rattle.dc_convert.proofs.ranges.range_of.Goals as goal

pub returns-clause-sound : goal.returns-clause-sound
returns-clause-sound c x y z h i kx ky e =
    subst (λ r. Within r z) (sym c.by_operator.ensures)
    (range_of_sound c.args.op c.args.k c.args.a.now c.args.b.now x y z (wide _ c.requires.left) (wide _ c.requires.right) h i kx ky e)
