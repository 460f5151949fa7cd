use Rattle.std.proofs.Common.{◌∙◌, sym}
use Rattle.dc_convert.proofs.Keeping.{keeps, true_of}
use Rattle.dc_convert.proofs.levels.number_goes.Goals as goal

pub returns-clause-keeps : goal.returns-clause-keeps
returns-clause-keeps c z t h i = keeps c.args.k c.args.r.now c.args.to z (sym c.widens_or_lies.ensures ∙ true_of _ t) h i
