use Rattle.std.proofs.Common.{rules, ◌∙◌, SFits}
use Rattle.std.specs.Int.{w128}
use Rattle.std.proofs.lemmas.Int.{to_z-of_z}
use Rattle.dc_fold.proofs.Folding.{in_kind}
use Rattle.dc_fold.proofs.fold.reduced.Goals as goal

pub returns : goal.returns
returns c = let f : SFits w128 c.wrap.result = search rules in in_kind c.args.kind _ _ (to_z-of_z w128 c.wrap.result f ∙ c.wrap.ensures)
