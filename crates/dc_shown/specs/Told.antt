-- What the texts of `stringof` need to know of a program.
use Rattle.std.specs.Prelude.{ℕ, Bool, List}
use Rattle.dc_types.specs.declared.place.Place.{Place}
use Rattle.dc_layout.specs.declared.layout.Field.{Field}

-- the name of each declaration, whether it is an instance of a template, so that its own arguments stand in the last step
-- of its place, and the fields of each struct
pub record Told : Type 0 where
  pub name : Place → List ℕ
  pub is_instance : Place → Bool
  pub fields : Place → List Field
