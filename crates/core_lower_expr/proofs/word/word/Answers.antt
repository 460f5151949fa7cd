use Rattle.std.proofs.Common.{◌∙◌, ap, refl}
use Rattle.std.specs.Int.{cast_unsigned, w128}
use Rattle.std.proofs.lemmas.Int.{to_z-of_z}
use Rattle.std.proofs.lemmas.Nat.{and_mask}
use Rattle.dc_types.proofs.Integers.{mod-cast_unsigned}
use Rattle.std.specs.Prelude.{bit_and, ◌-◌, ◌^◌}
use Rattle.core_lower_expr.proofs.word.word.Goals as goal

pub returns : goal.returns
returns c =
    let u = c.cast_unsigned.ensures ∙ ap (cast_unsigned w128) (to_z-of_z w128 c.args.v c.ranges.v) in
    ap (λ u. bit_and u (2 ^ 64 - 1)) u ∙ and_mask (cast_unsigned w128 c.args.v) 64 ∙ mod-cast_unsigned w128 64 64 refl c.args.v c.ranges.v
