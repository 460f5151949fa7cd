use Rattle.dc_shown.proofs.Showing.{bare-other, not_enum}
use Rattle.std.proofs.Common.{sym}
use Rattle.dc_shown.proofs.shown.+bare.Goals as goal

pub returns-in_default : goal.returns-in_default
returns-in_default t c = sym (bare-other c.args.ty.now (not_enum c.args.ty.now c.in_default.not-Enum))
