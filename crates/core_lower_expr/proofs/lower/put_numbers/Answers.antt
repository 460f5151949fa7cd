use Rattle.std.proofs.Common.{◌≡◌, ◌++◌, ◌∷◌, [], ap, ◌∙◌, arith}
use Rattle.dc_code.specs.declared.instr.Op.TheVariants as op
use Rattle.core_lower_expr.specs.Lowered.{instr, kind_of}
use Rattle.core_lower_expr.proofs.Lists.{put_step}
use Rattle.core_lower_expr.proofs.lower.put_numbers.Goals as goal

pub loop-ty-preserved : goal.loop-ty-preserved
loop-ty-preserved c =
    let place = c.args.place.now in
    let code = c.loop-ty.instrs in
    let slot = c.loop-ty.slot in
    let kind : c.kind_of.result ≡ kind_of c.ty-item.result = c.kind_of.ensures in
    let n : c.put_op.new.instrs ≡ code ++ instr place (op.PutInt (kind_of c.ty-item.result) slot) ∷ [] = c.in_ok-put_op.ensures ∙ ap (λ k. code ++ instr place (op.PutInt k slot) ∷ []) kind in (
      put_step place c.args.instrs.now code c.put_op.new.instrs c.args.types.now c.loop-ty.ty-index c.args.spare slot c.ty-item.result c.loop-ty.invariant.0 c.loop-ty.invariant.1 c.loop-ty-test.true c.ty-item.is n,
      omega (arith, c.in_ok-slot.ensures, c.loop-ty.invariant.1),
    )
