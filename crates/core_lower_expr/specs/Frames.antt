-- Values as words, and where variables stand in a frame: each takes a slot, in their order.
use Rattle.std.specs.Prelude.{◌≡◌, ℕ, suc, List, [], ◌∷◌, Some, if◌then◌else◌}
use Rattle.dc_types.specs.declared.place.Place.{Place}
use Rattle.dc_types.specs.declared.ty.Ty.{Ty}
use Rattle.dc_types.specs.declared.ty.Ty.TheOpen.{Ty-F}
use Rattle.dc_value.specs.declared.value.Value.{Value}
use Rattle.dc_types.specs.Integers.{InKind}
use Rattle.dc_types.specs.Same as same
use Rattle.dc_code.specs.Numbers.{word_of}
use Rattle.core_tree.specs.Values.{number_in}
use Rattle.core_tree.specs.Typed.{type_at}
use Rattle.core_tree.specs.declared.tree.Variable.{Variable}

-- the word of a number
abbrev pub word : Value → ℕ
word v = word_of (number_in v)

-- a value has the form of its type, and its words
abbrev pub fine_at : Ty-F Ty → Value → Type 0
fine_at (Ty-F.Int k) v = InKind k (number_in v)
fine_at _ v = Unit {0}

abbrev pub words_at : Ty-F Ty → Value → List ℕ
words_at (Ty-F.Int k) v = word v ∷ []
words_at _ v = []

-- the slot of the variable that is declared at a place, the first one counting
abbrev pub slot_of : Place → List Variable → ℕ
slot_of place [] = 0
slot_of place (v ∷ vs) = if same.place v.place place then 0 else suc (slot_of place vs)

-- a name's slot is that of the variable
abbrev pub Slotted : List Variable → (Place → ℕ) → Type 0
Slotted vars slot = (place : Place) (ty : Ty) → type_at place vars ≡ Some ty → slot place ≡ slot_of place vars
