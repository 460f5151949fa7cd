-- The texts that `stringof` gives, and those of values (D specification, "Properties", ".stringof Property").
use Rattle.std.specs.Prelude.{◌≡◌, ◌≤◌, ℕ, zero, suc, ◌+◌, ◌/◌, ◌%◌, nat_lt, nat_le, ◌==◌, ℤ, pos, Bool, true, false, not, ◌&&◌, List, [], ◌∷◌, ◌++◌, map, drop, codes, if◌then◌else◌}
use Rattle.std.specs.List.{flat_map}
use Rattle.std.specs.Ordering.{int_eq}
use Rattle.std.specs.Fmt.{decimal, signed_decimal}
use Rattle.dc_types.specs.declared.kind.Kind.TheVariants as kinds
use Rattle.dc_types.specs.declared.place.Step.{Step}
use Rattle.dc_types.specs.declared.place.Step.TheVariants as steps
use Rattle.dc_types.specs.declared.place.Place.{Place}
use Rattle.dc_types.specs.declared.ty.Ty.{Ty, map-Ty}
use Rattle.dc_types.specs.declared.ty.Ty.TheVariants as ty
use Rattle.dc_types.specs.declared.ty.Ty.TheViews.{out-Ty, roll-Ty}
use Rattle.dc_types.specs.declared.ty.Ty.TheOpen.{Ty-F}
use Rattle.dc_types.specs.declared.ty.Ty.TheFolds.{fold-Ty}
use Rattle.dc_types.specs.declared.constant.CTree.{CTree}
use Rattle.dc_types.specs.declared.constant.CTree.TheOpen.{CTree-F}
use Rattle.dc_types.specs.declared.constant.CTree.TheFolds.{fold-CTree}
use Rattle.dc_types.specs.declared.constant.Const.{Const}
use Rattle.dc_layout.specs.declared.layout.Field.{Field}
use Rattle.dc_key.specs.declared.arg.Arg.{Arg}
use Rattle.dc_key.specs.declared.arg.Arg.TheVariants as args
use Rattle.dc_shown.specs.declared.shown.Piece.{Piece}
use Rattle.dc_shown.specs.declared.shown.Piece.TheVariants as pieces
use Rattle.dc_key.specs.KeyTexts.{Bytes, kind_text, Meets}
use Rattle.dc_key.specs.KeyTexts as keys
use Rattle.dc_key.specs.KeyReading.{args_in}
use Rattle.dc_shown.specs.Told.{Told}

-- A text in pieces: bytes, and names of structs and enums.
abbrev pub Pieces : Type 0
Pieces = List Piece

-- what is shown of each struct and enum
abbrev pub Shown : Type 0
Shown = Place → Bytes

abbrev pub piece_text : Shown → Piece → Bytes
piece_text shown (pieces.Bytes bytes) = bytes
piece_text shown (pieces.Name p) = shown p

-- the text, with what is shown of each struct and enum in the place of its name
abbrev pub text : Shown → Pieces → Bytes
text shown all = flat_map (piece_text shown) all

abbrev pub said : Bytes → Pieces
said bytes = pieces.Bytes bytes ∷ []

abbrev pub behind : List Pieces → Pieces
behind [] = []
behind (t ∷ ts) = said (44 ∷ 32 ∷ []) ++ t ++ behind ts

-- the texts with `, ` between each two
abbrev pub joined : List Pieces → Pieces
joined [] = []
joined (t ∷ ts) = t ++ behind ts

-- ---- types: as they are written

abbrev pub ty_at : Ty-F Pieces → Pieces
ty_at Ty-F.Void = said (codes "void")
ty_at (Ty-F.Int k) = said (kind_text k)
ty_at (Ty-F.Fixed of n) = of ++ said (91 ∷ []) ++ said (decimal n) ++ said (93 ∷ [])
ty_at (Ty-F.Slice of) = of ++ said (91 ∷ 93 ∷ [])
ty_at Ty-F.Str = said (codes "string")
ty_at (Ty-F.Struct p) = pieces.Name p ∷ []
ty_at (Ty-F.Enum p base) = pieces.Name p ∷ []
ty_at Ty-F.NullLit = said (codes "typeof(null)")
ty_at Ty-F.EmptyLit = said (codes "void[]")

abbrev pub of_ty : Ty → Pieces
of_ty = fold-Ty Pieces ty_at

-- ---- values: a number in decimal, a `bool` by its word, a string or array of `char` in `"`, another array in `[` and `]`,
-- and a struct as its name with its fields in `(` and `)`; a value of an enum as one of its base

abbrev pub bare_at : Ty-F (Ty × Ty) → Ty
bare_at (Ty-F.Enum p base) = base.1
bare_at x = roll-Ty (map-Ty (Ty × Ty) Ty (λ t. t.0) x)

-- a type, and what it is but for enums
abbrev pub with_bare : Ty → Ty × Ty
with_bare = fold-Ty (Ty × Ty) (λ x. (roll-Ty (map-Ty (Ty × Ty) Ty (λ t. t.0) x), bare_at x))

-- the type, or the base of an enum, also where that is one
abbrev pub bare : Ty → Ty
bare t = (with_bare t).1

abbrev pub is_char_at : Ty-F Ty → Bool
is_char_at (Ty-F.Int kinds.Char) = true
is_char_at _ = false

abbrev pub is_char : Ty → Bool
is_char t = is_char_at (out-Ty t)

-- a digit to the base 16
abbrev pub hex_digit : ℕ → ℕ
hex_digit n = if nat_lt n 10 then 48 + n else 55 + n

-- a byte that stands in a string as it is
unfoldable pub is_plain : ℕ → Bool
is_plain b = nat_le 32 b && (nat_le b 126 && (not (b == 34) && not (b == 92)))

-- another is written by its number
abbrev pub byte_text : ℕ → Bytes
byte_text b = if is_plain b then b ∷ [] else 92 ∷ 120 ∷ hex_digit (b / 16) ∷ hex_digit (b % 16) ∷ []

abbrev pub quoted : List ℕ → Bytes
quoted bytes = 34 ∷ (flat_map byte_text bytes ++ 34 ∷ [])

-- a part of a value: the byte that it is in a string, and its text as a value of a type
pub record Part : Type 0 where
  pub as_byte : ℕ
  pub of_type : Ty → Pieces

abbrev pub string : List Part → Pieces
string parts = said (quoted (map (λ p. p.as_byte) parts))

abbrev pub list : List Pieces → Pieces
list parts = said (91 ∷ []) ++ joined parts ++ said (93 ∷ [])

abbrev pub array : Ty → List Part → Pieces
array of parts = if is_char of then string parts else list (map (λ p. p.of_type of) parts)

abbrev pub first_ty : List Field → Ty
first_ty [] = ty.Void
first_ty (f ∷ fields) = f.ty

-- the parts of a struct, each of its field's type
abbrev pub by_fields : List Field → List Part → List Pieces
by_fields fields [] = []
by_fields fields (p ∷ parts) = p.of_type (first_ty fields) ∷ by_fields (drop 1 fields) parts

abbrev pub list_at : Told → Ty-F Ty → List Part → Pieces
list_at told Ty-F.Str parts = string parts
list_at told (Ty-F.Fixed of n) parts = array of parts
list_at told (Ty-F.Slice of) parts = array of parts
list_at told (Ty-F.Struct p) parts = (pieces.Name p ∷ []) ++ said (40 ∷ []) ++ joined (by_fields (told.fields p) parts) ++ said (41 ∷ [])
list_at told _ parts = list (map (λ p. p.of_type ty.Void) parts)

abbrev pub number_at : Ty-F Ty → ℤ → Bytes
number_at (Ty-F.Int kinds.Bool) z = if int_eq z (pos 0) then codes "false" else codes "true"
number_at _ z = signed_decimal z

abbrev pub byte_at : CTree-F Part → ℕ
byte_at (CTree-F.Num (pos n)) = if nat_lt n 256 then n else 0
byte_at _ = 0

abbrev pub tree_at : Told → CTree-F Part → Ty-F Ty → Pieces
tree_at told (CTree-F.Num z) t = said (number_at t z)
tree_at told (CTree-F.List parts) t = list_at told t parts

abbrev pub part_at : Told → CTree-F Part → Part
part_at told x = record { as_byte = byte_at x; of_type = λ t. tree_at told x (out-Ty (bare t)) }

abbrev pub part : Told → CTree → Part
part told = fold-CTree Part (part_at told)

abbrev pub of_tree : Told → Ty → CTree → Pieces
of_tree told t tree = (part told tree).of_type t

-- ---- arguments: a type, a value, and the name of a declaration or module

abbrev pub symbol : Told → Place → List Step → Bytes
symbol told p [] = p.module
symbol told p (s ∷ all) = told.name p

abbrev pub of_arg : Told → Arg → Pieces
of_arg told (args.OfType t) = of_ty t
of_arg told (args.OfValue c) = of_tree told c.ty c.tree
of_arg told (args.OfSymbol p) = said (symbol told p p.steps)

-- ---- structs and enums: the name, of an instance with its arguments

abbrev pub step_key : Step → Bytes
step_key (steps.With key) = key
step_key _ = []

-- the key text in the last step
abbrev pub last_key : List Step → Bytes
last_key [] = []
last_key (s ∷ []) = step_key s
last_key (s ∷ t ∷ all) = last_key (t ∷ all)

abbrev pub arguments : Told → Place → Pieces
arguments told p = joined (map (of_arg told) ((args_in (last_key p.steps)).0))

-- What is shown where at most n instances are named in one another. An instance further in is shown without its arguments.
unfoldable pub shown : Told → ℕ → Shown
shown told zero p = told.name p
shown told (suc n) p = if told.is_instance p then told.name p ++ (33 ∷ 40 ∷ (text (shown told n) (arguments told p) ++ 41 ∷ [])) else told.name p

-- No program has more instances, so no more of them are named in one another.
unfoldable pub limit : ℕ
limit = 65536

-- the text that `stringof` gives for a type
abbrev pub stringof : Told → Ty → Bytes
stringof told t = text (shown told limit) (of_ty t)

-- the text of a value
abbrev pub value_text : Told → Const → Bytes
value_text told c = text (shown told limit) (of_tree told c.ty c.tree)

-- ---- the limit says nothing where fewer instances are named in one another

mutual
  -- at most n instances are named in one another where the struct or enum at the place is shown
  pub data NamesAt (told : Told) : ℕ → Place → Type 0 where
    plain : {n : ℕ} {p : Place} → told.is_instance p ≡ false → NamesAt told n p
    inst : {n : ℕ} {p : Place} → NamesIn told n (arguments told p) → NamesAt told (suc n) p

  -- and where the pieces are
  pub data NamesIn (told : Told) : ℕ → Pieces → Type 0 where
    none : {n : ℕ} → NamesIn told n []
    bytes : {n : ℕ} {b : Bytes} {rest : Pieces} → NamesIn told n rest → NamesIn told n (pieces.Bytes b ∷ rest)
    name : {n : ℕ} {p : Place} {rest : Pieces} → NamesAt told n p → NamesIn told n rest → NamesIn told n (pieces.Name p ∷ rest)

-- every limit from there on gives the same text
pub record Settles : Type 0 where
  pub names : (told : Told) (n m : ℕ) (p : Place) → NamesAt told n p → n ≤ m → shown told m p ≡ shown told n p
  pub texts : (told : Told) (n m : ℕ) (all : Pieces) → NamesIn told n all → n ≤ m → text (shown told m) all ≡ text (shown told n) all

-- the arguments of an instance are those whose key text stands in the last step of its place
pub record ShowsArguments : Type 0 where
  pub arguments_are : (told : Told) (p : Place) (all : List Arg) → Meets all → keys.text all ≡ last_key p.steps → arguments told p ≡ joined (map (of_arg told) all)
