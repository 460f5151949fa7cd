-- A call that is not too deep.
use Rattle.std.proofs.Common.{◌≡◌, ℕ, suc, Bool, true, false, [], ◌∷◌, ◌++◌, Some, None, refl, sym, ap, ◌∙◌}
use Rattle.std.specs.Prelude.{slice_get, if◌then◌else◌}
use Rattle.dc_types.specs.declared.place.Place.{Place}
use Rattle.dc_types.specs.declared.event.TrapKind.TheVariants.{Depth}
use Rattle.dc_types.specs.declared.event.Event.TheVariants.{Enter}
use Rattle.dc_types.specs.declared.event.Limits.{Limits}
use Rattle.dc_code.specs.State.{Machine, Trapped, On}
use Rattle.dc_code.specs.Effect.{Calls}
use Rattle.dc_code.specs.Table.{named}
use Rattle.dc_code.specs.Perform.{ended, ticked_by, is_too_deep, entered, perform}
use Rattle.dc_code.specs.Exec.{does}
use Rattle.dc_code.specs.declared.code.Draft.{Draft}
use Rattle.dc_code.specs.declared.instr.Function.{Function}
use Rattle.dc_code.specs.declared.instr.Op.TheVariants as op
use Rattle.dc_machine.specs.After.{entering}

pub shallow_by : {A : Type 0} (b : Bool) (x y : A) → (if b then None else Some x) ≡ Some y → b ≡ false
shallow_by true x y e = cc
shallow_by false x y e = refl

pub enters : (code : Draft) (limits : Limits) (place : Place) (n a d l : ℕ) (f : Function) (m : Machine) → slice_get code.functions n ≡ Some f → m.left ≡ suc l → is_too_deep limits m.nest f.weight ≡ false
    → does code limits (record { place = place; op = op.Call n a d }) m ≡ On (entered f a d (record m { left = l; events = m.events ++ entering (slice_get code.functions n) }))
enters code limits place n a d l f m there left shallow =
    ap (λ o. perform limits place (named o (λ f. Calls f a d)) m) there
    ∙ ap (λ k. ticked_by k (Enter f.place) m (λ m. if is_too_deep limits m.nest f.weight then ended (Trapped Depth place) m else On (entered f a d m))) left
    ∙ ap (λ b. if b then ended (Trapped Depth place) (record m { left = l; events = m.events ++ Enter f.place ∷ [] }) else On (entered f a d (record m { left = l; events = m.events ++ Enter f.place ∷ [] }))) shallow
    ∙ ap (λ o. On (entered f a d (record m { left = l; events = m.events ++ entering o }))) (sym there)
