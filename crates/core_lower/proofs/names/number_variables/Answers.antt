use Rattle.std.proofs.Common.{◌+◌, ◌-◌, ◌<◌, refl, arith}
use Rattle.std.specs.Map.{lookup}
use Rattle.dc_types.specs.Same as same
use Rattle.core_tree.specs.declared.tree.Variable.{Variable}
use Rattle.core_lower.proofs.PlaceEquality.{same_put}
use Rattle.core_lower.proofs.Numbering.{put_before}
use Rattle.core_lower.proofs.names.number_variables.Goals as goal

pub loop-i-preserved : goal.loop-i-preserved
loop-i-preserved c =
    let some : 0 < c.loop-i.i = c.loop-i-test.true in (
      λ q. put_before Variable (λ v. v.place) c.args.variables.now c.loop-i.i c.args.first (c.args.first + (c.loop-i.i - 1)) c.index-variables-i.result c.in_ok-copy_place.field-0 q (lookup (same.place q) c.put.new.self) (lookup (same.place q) c.loop-i.table) (lookup (same.place q) c.args.table.now) some c.loop-i.invariant.1 c.in_ok-copy_place.ensures refl (same_put q c.in_ok-copy_place.field-0 (c.args.first + (c.loop-i.i - 1)) c.put.new.self c.loop-i.table (c.in_ok-put.ensures q)) (c.loop-i.invariant.0 q),
      omega (arith, c.loop-i.invariant.1),
    )
