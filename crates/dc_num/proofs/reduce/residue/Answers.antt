use Rattle.std.proofs.Common.{◌∙◌, ap}
use Rattle.std.specs.Int.{cast_unsigned, w128}
use Rattle.std.proofs.lemmas.Int.{to_z-of_z}
use Rattle.dc_num.proofs.Masks.{residue_is}
use Rattle.dc_num.proofs.reduce.residue.Goals as goal

pub returns : goal.returns
returns c = residue_is c.args.bits _ _ c.args.v c.ranges.v c.requires (c.cast_unsigned.ensures ∙ ap (cast_unsigned w128) (to_z-of_z w128 c.args.v c.ranges.v)) c.power_of_two.ensures
