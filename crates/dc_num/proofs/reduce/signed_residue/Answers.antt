use Rattle.std.proofs.Common.{◌∙◌, ap}
use Rattle.std.specs.Int.{w128}
use Rattle.std.proofs.lemmas.Int.{to_z-of_z}
use Rattle.dc_types.specs.Integers.{residue}
use Rattle.dc_num.proofs.Masks.{signed_low, signed_high}
use Rattle.dc_num.proofs.reduce.signed_residue.Goals as goal

pub returns-then-rest-power_of_two : goal.returns-then-rest-power_of_two
returns-then-rest-power_of_two c = signed_low c.args.bits c.residue.result c.power_of_two.result c.args.v c.from-rest.result c.requires.room (c.residue.ensures ∙ ap (residue c.args.bits) (to_z-of_z w128 c.args.v c.ranges.v)) c.from-rest.ensures c.power_of_two.ensures c.if-rest-power_of_two.true

pub returns-else-rest-power_of_two : goal.returns-else-rest-power_of_two
returns-else-rest-power_of_two c = signed_high c.args.bits c.residue.result c.power_of_two.result c.power_of_two-else-rest-power_of_two.result c.args.v c.from-rest.result c.requires.room (c.residue.ensures ∙ ap (residue c.args.bits) (to_z-of_z w128 c.args.v c.ranges.v)) c.from-rest.ensures c.power_of_two.ensures c.power_of_two-else-rest-power_of_two.ensures c.if-rest-power_of_two.false
