use Rattle.std.proofs.Common.{rules, ◌∙◌, SFits}
use Rattle.std.specs.Int.{w128}
use Rattle.std.proofs.lemmas.Int.{to_z-of_z}
use Rattle.dc_machine.proofs.Ranges.{in_kind}
use Rattle.dc_machine.proofs.numbers.number.Goals as goal

pub returns-clause-kind : goal.returns-clause-kind
returns-clause-kind c = let f : SFits w128 c.wrap.result = search rules in in_kind c.args.k _ _ (to_z-of_z w128 c.wrap.result f ∙ c.wrap.ensures)
