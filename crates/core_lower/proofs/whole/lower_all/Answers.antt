use Rattle.std.proofs.Common.{◌≡◌, [], sym, ap, ap₂, ◌∙◌}
use Rattle.std.specs.Map.{lookup}
use Rattle.dc_types.specs.Same as same
use Rattle.dc_code.specs.declared.code.Draft.{Draft}
use Rattle.core_lower_expr.specs.Slots.{names_of}
use Rattle.core_lower_expr.specs.declared.slots.Slots.{Slots}
use Rattle.core_lower.specs.Lowered.{found_from, body_places, lowered}
use Rattle.core_lower.proofs.Made.{names_are}
use Rattle.core_lower.proofs.Joined.{whole_is}
use Rattle.core_lower.proofs.whole.lower_all.Goals as goal

pub returns : goal.returns
returns c =
    let bodies = c.as_slice-2.result.now in
    let starts = c.as_slice-3.result.now in
    let same_bodies : bodies ≡ c.args.bodies.now = c.as_slice-2.ensures in
    let first_bodies : c.as_slice.result.now ≡ c.args.bodies.now = c.as_slice.ensures in
    let at : Slots = record { named = c.new-5.result; functions = c.lower_functions.new.at.functions; spare = 0 } in
    let old : Draft = record { functions = c.lower_functions.new.functions; instrs = c.lower_functions.new.instrs; blocks = c.new-2.result; globals = c.new-3.result; entries = c.new-4.result } in
    let names = names_are bodies [] at (λ q. ap (lookup (same.place q)) c.new-5.ensures) (λ q. ap (lookup (same.place q)) c.in_ok-lower_functions.ensures.names ∙ c.in_ok-numbers_of.ensures q ∙ ap (λ fs. found_from 0 q (body_places fs)) (first_bodies ∙ sym same_bodies)) in
    whole_is bodies starts (names_of at) old c.lower_starts.new.draft c.in_ok-lower_functions.ensures.functions c.in_ok-lower_functions.ensures.instrs c.new-2.ensures c.new-3.ensures names c.in_ok-lower_starts.ensures
    ∙ ap₂ lowered same_bodies c.as_slice-3.ensures
