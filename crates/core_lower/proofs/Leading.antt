-- Where names lead.
use Rattle.std.proofs.Common.{◌≡◌, ℕ, suc, ◌+◌, Bool, true, false, List, [], ◌∷◌, Some, refl, sym, ap, ◌∙◌, arith}
use Rattle.std.specs.Prelude.{slice_get, if◌then◌else◌}
use Rattle.std.specs.Option.{unwrap_or}
use Rattle.dc_types.specs.declared.place.Place.{Place}
use Rattle.dc_types.specs.declared.ty.Ty.{Ty}
use Rattle.dc_types.specs.Same as same
use Rattle.core_tree.specs.Meaning.{body_at}
use Rattle.core_tree.specs.Typed.{type_at}
use Rattle.core_tree.specs.declared.tree.Variable.{Variable}
use Rattle.core_tree.specs.declared.body.Body.{Body}
use Rattle.core_lower_expr.specs.Frames.{slot_of, Slotted}
use Rattle.core_lower_expr.proofs.Locals.{none_some}
use Rattle.core_lower.specs.Lowered.{found_from, number_at, variable_places, body_places, names_in}

slot_found : (place : Place) (ty : Ty) (n : ℕ) (vs : List Variable) → type_at place vs ≡ Some ty → found_from n place (variable_places vs) ≡ Some (n + slot_of place vs)
slot_found place ty n [] t = absurd (none_some ty t)
slot_found place ty n (v ∷ vs) t = by_test (λ t. slot_found place ty (n + 1) vs t) (same.place v.place place) refl where
  by_test : (type_at place vs ≡ Some ty → found_from (n + 1) place (variable_places vs) ≡ Some (n + 1 + slot_of place vs)) → (b : Bool) → same.place v.place place ≡ b → found_from n place (variable_places (v ∷ vs)) ≡ Some (n + slot_of place (v ∷ vs))
  by_test next true e =
      let s = ap (λ b. if b then 0 else suc (slot_of place vs)) e in
      ap (λ b. if b then Some n else found_from (n + 1) place (variable_places vs)) e ∙ ap Some (omega (arith, s))
  by_test next false e =
      let s = ap (λ b. if b then 0 else suc (slot_of place vs)) e in
      ap (λ b. if b then Some n else found_from (n + 1) place (variable_places vs)) e ∙ next (sym (ap (λ b. if b then Some v.ty else type_at place vs) e) ∙ t) ∙ ap Some (omega (arith, s))

pub slots_fit : (bodies : List Body) (vs : List Variable) → Slotted vs (names_in bodies vs).slot
slots_fit bodies vs place ty t = ap (λ o. unwrap_or o 0) (slot_found place ty 0 vs t) ∙ omega arith

-- the number of a body that is found by its place
pub record Numbered (n : ℕ) (place : Place) (fs : List Body) (b : Body) : Type 0 where
  pub number : ℕ
  pub found : found_from n place (body_places fs) ≡ Some (n + number)
  pub there : slice_get fs number ≡ Some b

pub body_numbered : (place : Place) (b : Body) (n : ℕ) (fs : List Body) → body_at fs place ≡ Some b → Numbered n place fs b
body_numbered place b n [] t = absurd (none_some b t)
body_numbered place b n (f ∷ fs) t = by_test (λ t. body_numbered place b (n + 1) fs t) (same.place f.place place) refl where
  by_test : (body_at fs place ≡ Some b → Numbered (n + 1) place fs b) → (c : Bool) → same.place f.place place ≡ c → Numbered n place (f ∷ fs) b
  by_test next true e = record {
    number = 0;
    found = ap (λ c. if c then Some n else found_from (n + 1) place (body_places fs)) e ∙ ap Some (omega arith);
    there = sym (ap (λ c. if c then Some f else body_at fs place) e) ∙ t;
  }
  by_test next false e =
      let r = next (sym (ap (λ c. if c then Some f else body_at fs place) e) ∙ t) in
      record {
        number = suc r.number;
        found = ap (λ c. if c then Some n else found_from (n + 1) place (body_places fs)) e ∙ r.found ∙ ap Some (omega arith);
        there = r.there;
      }

pub number_is : (place : Place) (b : Body) (fs : List Body) (r : Numbered 0 place fs b) → number_at place (body_places fs) ≡ r.number
number_is place b fs r = ap (λ o. unwrap_or o 0) r.found ∙ omega arith
