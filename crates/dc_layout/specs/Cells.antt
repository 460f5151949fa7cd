-- How many cells a type has (how many words its values take).
use Rattle.std.specs.Option.{option_and_then}
use Rattle.std.specs.Prelude.{◌≡◌, ℕ, ◌+◌, ◌*◌, min, max, List, [], ◌∷◌, ◌++◌, Bool, Option, Some, None, option_map, is_some, unwrap_or, if◌then◌else◌, ◌⊎◌, true}
use Rattle.std.specs.Map.{lookup}
use Rattle.std.specs.BTreeMap.{is_at, insert_entry}
use Rattle.dc_types.specs.contracts.place.PlaceOrd.TheImpl as place_ord
use Rattle.dc_types.specs.declared.kind.Kind.{Kind}
use Rattle.dc_types.specs.declared.place.Place.{Place}
use Rattle.dc_types.specs.declared.ty.Ty.{Ty}
use Rattle.dc_types.specs.declared.ty.Ty.TheViews.{out-Ty}
use Rattle.dc_types.specs.declared.ty.Ty.TheOpen.{Ty-F}
use Rattle.dc_types.specs.declared.ty.Ty.TheFolds.{fold-Ty}
use Rattle.dc_layout.specs.declared.layout.Field.{Field}

-- what an ordered map has at the place
abbrev pub at : {X : Type 0} → List (Place × X) → Place → Option X
at entries p = lookup (is_at ((place_ord.ghosts).cmp p)) entries

-- the entries of an ordered map with another value at the place
abbrev pub put : {X : Type 0} → List (Place × X) → Place → X → List (Place × X)
put entries p x = insert_entry (place_ord.ghosts).cmp entries p x

-- structs with their fields, by their places
abbrev pub Structs : Type 0
Structs = List (Place × List Field)

mutual
  -- The type has this number of cells. One that is or holds by value a struct which holds itself by value has none.
  pub data HasCells (structs : Structs) : Ty → ℕ → Type 0 where
    void : {t : Ty} → out-Ty t ≡ Ty-F.Void → HasCells structs t 1
    number : {t : Ty} {k : Kind} → out-Ty t ≡ Ty-F.Int k → HasCells structs t 1
    fixed : {t of : Ty} {n c : ℕ} → out-Ty t ≡ Ty-F.Fixed of n → HasCells structs of c → HasCells structs t (max (n * c) 1)
    slice : {t of : Ty} → out-Ty t ≡ Ty-F.Slice of → HasCells structs t 3
    str : {t : Ty} → out-Ty t ≡ Ty-F.Str → HasCells structs t 3
    struct_ : {t : Ty} {p : Place} {fields : List Field} {n : ℕ} → out-Ty t ≡ Ty-F.Struct p → at structs p ≡ Some fields → HaveCells structs fields n → HasCells structs t (max n 1)
    enum_ : {t base : Ty} {p : Place} {c : ℕ} → out-Ty t ≡ Ty-F.Enum p base → HasCells structs base c → HasCells structs t c
    null_ : {t : Ty} → out-Ty t ≡ Ty-F.NullLit → HasCells structs t 3
    empty : {t : Ty} → out-Ty t ≡ Ty-F.EmptyLit → HasCells structs t 3

  -- the fields have this number of cells together
  pub data HaveCells (structs : Structs) : List Field → ℕ → Type 0 where
    none : HaveCells structs [] 0
    more : {f : Field} {fs : List Field} {c n : ℕ} → HasCells structs f.ty c → HaveCells structs fs n → HaveCells structs (f ∷ fs) (c + n)

-- a number of cells as it is answered: every number above the limit is one more than the limit
abbrev pub limited : ℕ → ℕ
limited n = min n 1048577

-- What is answered for a type: its cells, and the number above the limit also where it has none.
pub record AreCells (structs : Structs) (t : Ty) (n : ℕ) : Type 0 where
  pub has : (c : ℕ) → HasCells structs t c → n ≡ limited c
  pub has_none : ((c : ℕ) → HasCells structs t c → ⊥) → n ≡ 1048577

-- ---- cells by a table of those of structs

abbrev pub times : ℕ → ℕ → ℕ
times n c = min (max (n * min c 1048577) 1) 1048577

abbrev pub cells_at : List (Place × ℕ) → Ty-F (Option ℕ) → Option ℕ
cells_at known Ty-F.Void = Some 1
cells_at known (Ty-F.Int k) = Some 1
cells_at known (Ty-F.Fixed of n) = option_map (times n) of
cells_at known (Ty-F.Slice of) = Some 3
cells_at known Ty-F.Str = Some 3
cells_at known (Ty-F.Struct p) = at known p
cells_at known (Ty-F.Enum p base) = base
cells_at known Ty-F.NullLit = Some 3
cells_at known Ty-F.EmptyLit = Some 3

abbrev pub cells_in : List (Place × ℕ) → Ty → Option ℕ
cells_in known = fold-Ty (Option ℕ) (cells_at known)

abbrev pub plus : ℕ → ℕ → ℕ
plus total c = min (total + min c 1048577) 1048577

-- those of fields together, behind a total
abbrev pub total_in : List (Place × ℕ) → ℕ → List Field → Option ℕ
total_in known total [] = Some total
total_in known total (f ∷ fs) = option_and_then (λ c. total_in known (plus total c) fs) (cells_in known f.ty)

abbrev pub struct_in : List (Place × ℕ) → List Field → Option ℕ
struct_in known fields = option_map (λ n. max n 1) (total_in known 0 fields)

-- nothing follows from the table for the struct
abbrev pub IsStuck : Structs → List (Place × ℕ) → Place → Type 0
IsStuck structs known p = (fields : List Field) → at structs p ≡ Some fields → struct_in known fields ≡ None

abbrev pub Right : Structs → List (Place × ℕ) → Type 0
Right structs known = (p : Place) (n : ℕ) → at known p ≡ Some n → (c : ℕ) × (fields : List Field) × (at structs p ≡ Some fields) × HaveCells structs fields c × (n ≡ limited (max c 1))

abbrev pub Whole : Structs → List (Place × ℕ) → Type 0
Whole structs known = (p : Place) → at known p ≡ None → IsStuck structs known p

-- the table has the cells of each struct that has any
pub record IsTable (structs : Structs) (known : List (Place × ℕ)) : Type 0 where
  pub right : Right structs known
  pub whole : Whole structs known

-- ---- how the table is made

abbrev pub Known : Type 0
Known = List (Place × ℕ)

-- the table with the cells of the struct at the place, where they follow from it
abbrev pub settled : Structs → Known → Place → Option Known
settled structs known p =
    if is_some (at known p) then Some known
    else option_and_then (λ fields. option_map (insert_entry ((place_ord.ghosts).cmp) known p) (struct_in known fields)) (at structs p)

abbrev pub kept : Bool → List Place → Place → List Place
kept done still p = if done then still else still ++ p ∷ []

-- the table and the places that are still open after each of the places was tried in turn
abbrev pub passed : Structs → Known → List Place → List Place → Known × List Place
passed structs known still [] = (known, still)
passed structs known still (p ∷ ps) = passed structs (unwrap_or (settled structs known p) known) (kept (is_some (settled structs known p)) still p) ps

-- the place is among the places
abbrev pub Among : Place → List Place → Type 0
Among p [] = ⊥
Among p (q ∷ qs) = (is_at ((place_ord.ghosts).cmp p) q ≡ true) ⊎ Among p qs

-- each struct whose cells aren't known is among the places
abbrev pub Waits : Structs → Known → List Place → Type 0
Waits structs known ps = (p : Place) (fields : List Field) → at structs p ≡ Some fields → at known p ≡ None → Among p ps
