-- Variables and their words.
use Rattle.std.proofs.Common.{◌≡◌, ℕ, suc, Bool, true, false, List, [], ◌∷◌, ◌++◌, length, Option, Some, None, refl, sym, ap, ◌∙◌, subst, arith}
use Rattle.std.specs.Prelude.{if◌then◌else◌}
use Rattle.dc_types.specs.declared.place.Place.{Place}
use Rattle.dc_types.specs.declared.ty.Ty.{Ty}
use Rattle.dc_types.specs.declared.ty.Ty.TheViews.{out-Ty}
use Rattle.dc_value.specs.declared.value.Value.{Value}
use Rattle.dc_types.specs.Same as same
use Rattle.core_tree.specs.Meaning.{Held, value_at, with_value}
use Rattle.core_tree.specs.Typed.{type_at}
use Rattle.core_tree.specs.declared.tree.Variable.{Variable}
use Rattle.core_lower_expr.specs.Frames.{slot_of, word, fine_at}
pub use Rattle.core_lower_expr.specs.Follows.{words_of, Fits, Good}

pub good_length : (vs : List Variable) (hs : List Held) → Good vs hs → length (words_of hs) ≡ length vs
good_length [] [] g = refl
good_length (v ∷ vs) (h ∷ hs) g = omega (arith, good_length vs hs g.1)
good_length [] (h ∷ hs) g = absurd g
good_length (v ∷ vs) [] g = absurd g

pub some_is : {A : Type 0} (a b : A) → Some a ≡ Some b → a ≡ b
some_is {A} a b e = ap (or a) e where
  or : A → Option A → A
  or d None = d
  or d (Some a) = a

pub none_some : {A : Type 0} (a : A) → None ≡ Some a → ⊥
none_some {A} a e = subst IsNothing e tt where
  IsNothing : Option A → Type 0
  IsNothing None = Unit {0}
  IsNothing (Some a) = ⊥

-- where a variable's word stands: it is read there, and written there
pub record Stands (place : Place) (ty : Ty) (vs : List Variable) (hs : List Held) : Type 0 where
  pub front : List ℕ
  pub back : List ℕ
  pub here : words_of hs ≡ front ++ (word (value_at place hs) ∷ back)
  pub there : (v : Value) → words_of (with_value place v hs) ≡ front ++ (word v ∷ back)
  pub at : length front ≡ slot_of place vs
  pub fine : fine_at (out-Ty ty) (value_at place hs)
  pub keeps : (v : Value) → fine_at (out-Ty ty) v → Good vs (with_value place v hs)

pub stands : (place : Place) (ty : Ty) (vs : List Variable) (hs : List Held) → Good vs hs → type_at place vs ≡ Some ty → Stands place ty vs hs
stands place ty [] hs g t = absurd (none_some ty t)
stands place ty (v ∷ vs) [] g t = absurd g
stands place ty (v ∷ vs) (h ∷ hs) g t = by_test (λ t. stands place ty vs hs g.1 t) (same.place v.place place) refl where
  by_test : (type_at place vs ≡ Some ty → Stands place ty vs hs) → (b : Bool) → same.place v.place place ≡ b → Stands place ty (v ∷ vs) (h ∷ hs)
  by_test next true e =
      let is : same.place h.place place ≡ true = ap (λ q. same.place q place) g.0.place ∙ e in
      let same_ty : v.ty ≡ ty = some_is v.ty ty (sym (ap (λ b. if b then Some v.ty else type_at place vs) e) ∙ t) in
      let value : value_at place (h ∷ hs) ≡ h.value = ap (λ b. if b then h.value else value_at place hs) is in
      let set : (w : Value) → with_value place w (h ∷ hs) ≡ record h { value = w } ∷ hs = λ w. ap (λ b. if b then record h { value = w } ∷ hs else h ∷ with_value place w hs) is in
      record {
        front = [];
        back = words_of hs;
        here = ap (λ x. word x ∷ words_of hs) (sym value);
        there = λ w. ap words_of (set w);
        at = sym (ap (λ b. if b then 0 else suc (slot_of place vs)) e);
        fine = subst (λ x. fine_at (out-Ty ty) x) (sym value) (subst (λ t. fine_at (out-Ty t) h.value) same_ty g.0.fine);
        keeps = λ w f. subst (Good (v ∷ vs)) (sym (set w)) (record { place = g.0.place; fine = subst (λ t. fine_at (out-Ty t) w) (sym same_ty) f }, g.1);
      }
  by_test next false e =
      let is : same.place h.place place ≡ false = ap (λ q. same.place q place) g.0.place ∙ e in
      let s = next (sym (ap (λ b. if b then Some v.ty else type_at place vs) e) ∙ t) in
      let value : value_at place (h ∷ hs) ≡ value_at place hs = ap (λ b. if b then h.value else value_at place hs) is in
      let set : (w : Value) → with_value place w (h ∷ hs) ≡ h ∷ with_value place w hs = λ w. ap (λ b. if b then record h { value = w } ∷ hs else h ∷ with_value place w hs) is in
      record {
        front = word h.value ∷ s.front;
        back = s.back;
        here = ap (λ l. word h.value ∷ l) s.here ∙ ap (λ x. word h.value ∷ (s.front ++ (word x ∷ s.back))) (sym value);
        there = λ w. ap words_of (set w) ∙ ap (λ l. word h.value ∷ l) (s.there w);
        at = ap suc s.at ∙ sym (ap (λ b. if b then 0 else suc (slot_of place vs)) e);
        fine = subst (λ x. fine_at (out-Ty ty) x) (sym value) s.fine;
        keeps = λ w f. subst (Good (v ∷ vs)) (sym (set w)) (g.0, s.keeps w f);
      }
