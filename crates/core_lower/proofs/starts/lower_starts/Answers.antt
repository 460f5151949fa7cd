use Rattle.std.proofs.Common.{◌≡◌, ◌∷◌, [], ◌++◌, length, arith, refl, ap, ap₂, ◌∙◌}
use Rattle.dc_code.specs.declared.instr.Op.TheVariants as op
use Rattle.dc_code.specs.declared.code.Draft.{Draft}
use Rattle.core_lower_expr.specs.Lowered.{instr}
use Rattle.core_lower_expr.specs.Slots.{names_of}
use Rattle.core_lower.proofs.Made.{starts_step}
use Rattle.core_lower.proofs.starts.lower_starts.Goals as goal

pub loop-e-preserved : goal.loop-e-preserved
loop-e-preserved c =
    let cur = c.loop-e.draft in
    let d1 : Draft = record cur { functions = c.push.new.self; entries = c.push-in-loop-e.new.self } in
    let number : c.in-Ok.number ≡ length cur.functions = omega (arith, c.in-Ok.ensures, c.len.ensures) in
    starts_step (names_of c.args.at.now) c.args.draft.now cur d1 c.lower_expr.new.draft c.args.starts.now c.loop-e.e-index c.in_ok-first.first c.in-Ok.number c.args.at.now.spare c.e-item.result c.push.new.self c.push-in-loop-e.new.self c.put_op.new.instrs
    c.loop-e.invariant c.loop-e-test.true c.e-item.is c.in_ok-first.ensures number (c.in_ok-push.ensures.ok ∙ ap (λ g. cur.functions ++ g ∷ []) c.in_ok-entry_at.ensures) c.in_ok-push-2.ensures.ok refl c.requires.spare c.in_ok-lower_expr.ensures
    (c.in_ok-put_op.ensures ∙ ap₂ (λ p n. c.lower_expr.new.draft.instrs ++ instr p (op.Return 0 n) ∷ []) c.place.ensures c.own_count.ensures)
