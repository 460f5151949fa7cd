-- The key text of arguments: a text that no other arguments have.
use Rattle.std.specs.Prelude.{◌≡◌, ℕ, ◌^◌, nat_lt, nat_le, ◌==◌, ℤ, pos, negsuc, Bool, true, false, ◌&&◌, ◌||◌, List, [], ◌∷◌, ◌++◌, map, length, codes, if◌then◌else◌}
use Rattle.std.specs.List.{list_all, flat_map}
use Rattle.std.specs.Fmt.{decimal, signed_decimal}
use Rattle.dc_types.specs.declared.kind.Kind.{Kind}
use Rattle.dc_types.specs.declared.kind.Kind.TheVariants as kinds
use Rattle.dc_types.specs.declared.place.Step.{Step}
use Rattle.dc_types.specs.declared.place.Step.TheVariants as steps
use Rattle.dc_types.specs.declared.place.Place.{Place}
use Rattle.dc_types.specs.declared.ty.Ty.{Ty}
use Rattle.dc_types.specs.declared.ty.Ty.TheOpen.{Ty-F}
use Rattle.dc_types.specs.declared.ty.Ty.TheFolds.{fold-Ty}
use Rattle.dc_types.specs.declared.constant.CTree.{CTree}
use Rattle.dc_types.specs.declared.constant.CTree.TheOpen.{CTree-F}
use Rattle.dc_types.specs.declared.constant.CTree.TheViews.{out-CTree}
use Rattle.dc_types.specs.declared.constant.CTree.TheFolds.{fold-CTree}
use Rattle.dc_types.specs.declared.constant.Const.{Const}
use Rattle.dc_key.specs.declared.key.Form.{Form}
use Rattle.dc_key.specs.declared.key.Form.TheVariants as forms
use Rattle.dc_key.specs.declared.arg.Arg.{Arg}
use Rattle.dc_key.specs.declared.arg.Arg.TheVariants as args

abbrev pub Bytes : Type 0
Bytes = List ℕ

-- ---- places: the module, and each step behind `:`, `#`, or in `!(` and `)`

abbrev pub step_text : Step → Bytes
step_text (steps.At n) = 58 ∷ decimal n
step_text (steps.Round n) = 35 ∷ decimal n
step_text (steps.With key) = 33 ∷ 40 ∷ (key ++ 41 ∷ [])

abbrev pub steps_text : List Step → Bytes
steps_text all = flat_map step_text all

abbrev pub place_text : Place → Bytes
place_text p = p.module ++ steps_text p.steps

-- ---- types: as they are written, where a struct is its place, and an enum `$`, its place, and its base in `<` and `>`

abbrev pub kind_text : Kind → Bytes
kind_text kinds.Bool = codes "bool"
kind_text kinds.I8 = codes "byte"
kind_text kinds.U8 = codes "ubyte"
kind_text kinds.I16 = codes "short"
kind_text kinds.U16 = codes "ushort"
kind_text kinds.I32 = codes "int"
kind_text kinds.U32 = codes "uint"
kind_text kinds.I64 = codes "long"
kind_text kinds.U64 = codes "ulong"
kind_text kinds.Char = codes "char"

abbrev pub ty_text_at : Ty-F Bytes → Bytes
ty_text_at Ty-F.Void = codes "void"
ty_text_at (Ty-F.Int k) = kind_text k
ty_text_at (Ty-F.Fixed of n) = of ++ 91 ∷ (decimal n ++ 93 ∷ [])
ty_text_at (Ty-F.Slice of) = of ++ 91 ∷ 93 ∷ []
ty_text_at Ty-F.Str = codes "string"
ty_text_at (Ty-F.Struct p) = place_text p
ty_text_at (Ty-F.Enum p base) = 36 ∷ (place_text p ++ 60 ∷ (base ++ 62 ∷ []))
ty_text_at Ty-F.NullLit = codes "null"
ty_text_at Ty-F.EmptyLit = 91 ∷ 93 ∷ []

abbrev pub ty_text : Ty → Bytes
ty_text = fold-Ty Bytes ty_text_at

-- ---- values: a number in decimal; a string in `"`, its length, `:` and its bytes; a list in `[` and `]`; a struct in
-- `{` and `}`; inside these every list in `[` and `]`

abbrev pub behind : Bytes → List Bytes → Bytes
behind mark [] = []
behind mark (t ∷ ts) = mark ++ t ++ behind mark ts

-- the texts with a mark between each two
abbrev pub joined : Bytes → List Bytes → Bytes
joined mark [] = []
joined mark (t ∷ ts) = t ++ behind mark ts

abbrev pub tree_text_at : CTree-F Bytes → Bytes
tree_text_at (CTree-F.Num z) = signed_decimal z
tree_text_at (CTree-F.List ts) = 91 ∷ (joined (44 ∷ []) ts ++ 93 ∷ [])

abbrev pub tree_text : CTree → Bytes
tree_text = fold-CTree Bytes tree_text_at

-- how a value of a type is written; an enum's as its base's
abbrev pub form_at : Ty-F Form → Form
form_at Ty-F.Void = forms.ANumber
form_at (Ty-F.Int k) = forms.ANumber
form_at (Ty-F.Fixed of n) = forms.AList
form_at (Ty-F.Slice of) = forms.AList
form_at Ty-F.Str = forms.AString
form_at (Ty-F.Struct p) = forms.AStruct
form_at (Ty-F.Enum p base) = base
form_at Ty-F.NullLit = forms.AList
form_at Ty-F.EmptyLit = forms.AList

abbrev pub form_of : Ty → Form
form_of = fold-Ty Form form_at

abbrev pub byte_at : CTree-F ℕ → ℕ
byte_at (CTree-F.Num (pos n)) = if nat_lt n 256 then n else 0
byte_at _ = 0

-- the byte that a part of a string is
abbrev pub byte : CTree → ℕ
byte = fold-CTree ℕ byte_at

abbrev pub string_text : List CTree → Bytes
string_text ts = 34 ∷ (decimal (length ts) ++ 58 ∷ map byte ts)

abbrev pub list_text : ℕ → ℕ → List CTree → Bytes
list_text opener closer ts = opener ∷ (joined (44 ∷ []) (map tree_text ts) ++ closer ∷ [])

abbrev pub list_form_text : Form → List CTree → Bytes
list_form_text forms.AString ts = string_text ts
list_form_text forms.AStruct ts = list_text 123 125 ts
list_form_text forms.AList ts = list_text 91 93 ts
list_form_text forms.ANumber ts = list_text 91 93 ts

abbrev pub value_text_at : Form → CTree-F CTree → Bytes
value_text_at form (CTree-F.Num z) = signed_decimal z
value_text_at form (CTree-F.List ts) = list_form_text form ts

abbrev pub value_text : Const → Bytes
value_text c = value_text_at (form_of c.ty) (out-CTree c.tree)

-- ---- arguments: a type, a value as its type, `=` and the value, a symbol as `&` and its place

abbrev pub arg_text : Arg → Bytes
arg_text (args.OfType t) = ty_text t
arg_text (args.OfValue c) = ty_text c.ty ++ 61 ∷ value_text c
arg_text (args.OfSymbol p) = 38 ∷ place_text p

-- the key text
abbrev pub text : List Arg → Bytes
text all = joined (44 ∷ 32 ∷ []) (map arg_text all)

-- ---- which arguments have a key text

-- a byte of a module's name: a letter, a digit, `_`, `.`, or part of a character outside ASCII
unfoldable pub is_name_byte : ℕ → Bool
is_name_byte b = (nat_le 48 b && nat_le b 57) || (nat_le 65 b && nat_le b 90) || (nat_le 97 b && nat_le b 122) || b == 95 || b == 46 || nat_le 128 b

abbrev pub step_fits : Step → Bool
step_fits (steps.At n) = nat_lt n (2 ^ 32)
step_fits (steps.Round n) = nat_lt n (2 ^ 32)
step_fits (steps.With key) = true

abbrev pub place_fits : Place → Bool
place_fits p = list_all is_name_byte p.module && list_all step_fits p.steps

abbrev pub has_steps : List Step → Bool
has_steps [] = false
has_steps (s ∷ all) = true

abbrev pub ty_fits_at : Ty-F Bool → Bool
ty_fits_at (Ty-F.Fixed of n) = of && nat_lt n (2 ^ 32)
ty_fits_at (Ty-F.Slice of) = of
ty_fits_at (Ty-F.Struct p) = place_fits p && has_steps p.steps
ty_fits_at (Ty-F.Enum p base) = place_fits p && base
ty_fits_at _ = true

abbrev pub ty_fits : Ty → Bool
ty_fits = fold-Ty Bool ty_fits_at

-- a number of 128 bits
abbrev pub number_fits : ℤ → Bool
number_fits (pos n) = nat_lt n (2 ^ 127)
number_fits (negsuc n) = nat_lt n (2 ^ 127)

abbrev pub all_true : List Bool → Bool
all_true [] = true
all_true (b ∷ bs) = b && all_true bs

abbrev pub tree_fits_at : CTree-F Bool → Bool
tree_fits_at (CTree-F.Num z) = number_fits z
tree_fits_at (CTree-F.List ts) = all_true ts

abbrev pub tree_fits : CTree → Bool
tree_fits = fold-CTree Bool tree_fits_at

abbrev pub is_byte_at : CTree-F CTree → Bool
is_byte_at (CTree-F.Num (pos n)) = nat_lt n 256
is_byte_at _ = false

abbrev pub value_fits_at : Form → CTree-F CTree → Bool
value_fits_at forms.ANumber (CTree-F.Num z) = number_fits z
value_fits_at forms.AString (CTree-F.List ts) = list_all (λ t. is_byte_at (out-CTree t)) ts && nat_lt (length ts) (2 ^ 64)
value_fits_at forms.AList (CTree-F.List ts) = list_all tree_fits ts
value_fits_at forms.AStruct (CTree-F.List ts) = list_all tree_fits ts
value_fits_at _ _ = false

abbrev pub arg_fits : Arg → Bool
arg_fits (args.OfType t) = ty_fits t
arg_fits (args.OfValue c) = ty_fits c.ty && value_fits_at (form_of c.ty) (out-CTree c.tree)
arg_fits (args.OfSymbol p) = place_fits p

-- the key texts in places
abbrev pub step_keys : Step → List Bytes
step_keys (steps.With key) = key ∷ []
step_keys _ = []

abbrev pub place_keys : Place → List Bytes
place_keys p = flat_map step_keys p.steps

abbrev pub ty_keys_at : Ty-F (List Bytes) → List Bytes
ty_keys_at (Ty-F.Fixed of n) = of
ty_keys_at (Ty-F.Slice of) = of
ty_keys_at (Ty-F.Struct p) = place_keys p
ty_keys_at (Ty-F.Enum p base) = place_keys p ++ base
ty_keys_at _ = []

abbrev pub ty_keys : Ty → List Bytes
ty_keys = fold-Ty (List Bytes) ty_keys_at

abbrev pub arg_keys : Arg → List Bytes
arg_keys (args.OfType t) = ty_keys t
arg_keys (args.OfValue c) = ty_keys c.ty
arg_keys (args.OfSymbol p) = place_keys p

mutual
  -- the key text of arguments that meet the condition
  pub data IsKey : Bytes → Type 0 where
    key : {k : Bytes} (all : List Arg) → k ≡ text all → list_all arg_fits all ≡ true → AreKeys (flat_map arg_keys all) → IsKey k

  pub data AreKeys : List Bytes → Type 0 where
    none : AreKeys []
    more : {k : Bytes} {ks : List Bytes} → IsKey k → AreKeys ks → AreKeys (k ∷ ks)

-- The condition: module names have bytes of names, the place of a struct has a step, values have their types' forms, the
-- numbers in a string are bytes, each number fits its type in the code, and each instance's step has a key text.
pub record Meets (all : List Arg) : Type 0 where
  pub fits : list_all arg_fits all ≡ true
  pub keys : AreKeys (flat_map arg_keys all)

-- equal key texts come from equal arguments alone
abbrev pub OneKey : Type 0
OneKey = (a b : List Arg) → Meets a → Meets b → text a ≡ text b → a ≡ b
