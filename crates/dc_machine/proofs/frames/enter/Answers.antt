use Rattle.std.proofs.Common.{◌≡◌, suc, length, refl, ◌-◌, ◌++◌, false, Some, sym, ap, ◌∙◌, arith}
use Rattle.std.specs.Prelude.{slice_get}
use Rattle.std.proofs.lemmas.Option.{slice_get_read}
use Rattle.dc_code.specs.State.{On}
use Rattle.dc_code.specs.Perform.{is_too_deep}
use Rattle.dc_machine.specs.After.{machine_of, entering}
use Rattle.dc_machine.proofs.Calls.{shallow_by, enters}
use Rattle.dc_machine.proofs.frames.enter.Goals as goal

pub returns-clause-does : goal.returns-clause-does
returns-clause-does c = λ place taken events.
    let code = c.args.code.now in
    let m = c.args.m.now in
    let g = c.in-Some.function.now in
    let look = c.in-Some.ensures.lookup in
    let there : slice_get code.functions c.args.f ≡ Some g = ap (λ xs. slice_get xs c.args.f) (sym c.functions.ensures) ∙ slice_get_read c.functions.result.now (length c.functions.result.now) c.args.f g refl (look.3).0 look.1 in
    let left : m.left ≡ suc (m.left - 1) = omega (arith, c.if-m-eq0.false) in
    let shallow : is_too_deep c.args.limits m.nest g.weight ≡ false = shallow_by _ _ _ (sym c.one_more.ensures ∙ c.in-Some-one_more.is) in
    enters code c.args.limits place c.args.f c.args.a c.args.d (m.left - 1) g (machine_of code m taken events) there left shallow
    ∙ ap (λ m. On m) (sym (c.open_frame.ensures.entered code taken (events ++ entering (slice_get code.functions c.args.f))))
