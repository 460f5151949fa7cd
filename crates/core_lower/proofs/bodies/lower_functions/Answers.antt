use Rattle.std.proofs.Common.{◌≡◌, ◌+◌, length, sym, ap, ap₂, ◌∙◌, ◌∷◌, [], ◌++◌, length-append}
use Rattle.std.specs.Map.{lookup}
use Rattle.dc_types.specs.Same as same
use Rattle.core_tree.specs.Typed.{variables_of}
use Rattle.core_lower_expr.specs.declared.slots.Slots.{Slots}
use Rattle.core_lower.proofs.Made.{names_are, bodies_step, functions_step}
use Rattle.core_lower.proofs.bodies.lower_functions.Goals as goal

pub loop-f-preserved : goal.loop-f-preserved
loop-f-preserved c =
    let all = c.args.bodies.now in
    let i = c.loop-f.f-index in
    let f = c.f-item.result in
    let at : Slots = record { named = c.in_ok-at.field-0; functions = c.loop-f.at.functions; spare = c.len.result + c.len-in-loop-f.result } in
    let names = names_are all (variables_of f) at c.in_ok-at.ensures (λ q. ap (lookup (same.place q)) c.loop-f.invariant.2 ∙ c.requires.names q) in
    let spare : at.spare ≡ length (variables_of f) = ap₂ (λ a b. a + b) c.len.ensures c.len-in-loop-f.ensures ∙ sym (length-append f.params f.locals) in (
      functions_step all i c.in_ok-first.first f c.loop-f.instrs c.loop-f.functions c.push.new.self c.loop-f.invariant.1 c.loop-f.invariant.0 c.in_ok-first.ensures c.loop-f-test.true c.f-item.is (c.in_ok-push.ensures.ok ∙ ap (λ g. c.loop-f.functions ++ g ∷ []) c.in_ok-function_at.ensures),
      bodies_step all i f at c.loop-f.instrs c.lower_body.new.instrs c.loop-f.invariant.1 c.loop-f-test.true c.f-item.is names spare c.in_ok-lower_body.ensures,
      c.loop-f.invariant.2,
    )
