use Rattle.std.proofs.Common.{sym, subst}
use Rattle.dc_convert.specs.Ranges.{IsInside}
use Rattle.dc_convert.proofs.Hulls.{hull_left, hull_right, hull_least}
use Rattle.dc_convert.proofs.ranges.hull.Goals as goal

pub returns-clause-left : goal.returns-clause-left
returns-clause-left c = subst (λ h. IsInside c.args.a.now h) (sym c.ends_of_both.ensures) (hull_left c.args.a.now c.args.b.now)

pub returns-clause-right : goal.returns-clause-right
returns-clause-right c = subst (λ h. IsInside c.args.b.now h) (sym c.ends_of_both.ensures) (hull_right c.args.a.now c.args.b.now)

pub returns-clause-least : goal.returns-clause-least
returns-clause-least c r left right = subst (λ h. IsInside h r) (sym c.ends_of_both.ensures) (hull_least c.args.a.now c.args.b.now r left right)
