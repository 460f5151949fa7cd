-- How a key text is read. Each reader gives what stands at the front, and the bytes behind it. On a text that is no key
-- text it gives anything.
use Rattle.std.specs.Prelude.{ℕ, zero, suc, ◌+◌, ◌-◌, ◌*◌, ◌%◌, ◌^◌, nat_lt, nat_le, ◌==◌, ℤ, pos, negsuc, Bool, true, false, not, ◌&&◌, ◌||◌, List, [], ◌∷◌, ◌++◌, map, length, take, drop, Option, Some, None, codes, if◌then◌else◌}
use Rattle.std.specs.Str.{bytes_eq}
use Rattle.dc_types.specs.declared.kind.Kind.{Kind}
use Rattle.dc_types.specs.declared.kind.Kind.TheVariants as kinds
use Rattle.dc_types.specs.declared.place.Step.{Step}
use Rattle.dc_types.specs.declared.place.Step.TheVariants as steps
use Rattle.dc_types.specs.declared.place.Place.{Place}
use Rattle.dc_types.specs.declared.ty.Ty.{Ty}
use Rattle.dc_types.specs.declared.ty.Ty.TheVariants as ty
use Rattle.dc_types.specs.declared.constant.CTree.{CTree}
use Rattle.dc_types.specs.declared.constant.CTree.TheVariants as tree
use Rattle.dc_key.specs.declared.arg.Arg.{Arg}
use Rattle.dc_key.specs.declared.arg.Arg.TheVariants as args
use Rattle.dc_key.specs.declared.key_scan.Scan.{Scan}
use Rattle.dc_key.specs.KeyTexts.{Bytes, is_name_byte, has_steps}

-- at most n turns, while a test holds
abbrev pub turns : {S : Type 0} → (S → Bool) → (S → S) → ℕ → S → S
turns test next zero s = s
turns test next (suc n) s = if test s then turns test next n (next s) else s

-- the first byte, or 0
abbrev pub first : Bytes → ℕ
first [] = 0
first (b ∷ bs) = b

-- how many bytes pass at the front
abbrev pub front : (ℕ → Bool) → Bytes → ℕ
front passes [] = 0
front passes (b ∷ bs) = if passes b then suc (front passes bs) else 0

-- ---- numbers

unfoldable pub is_digit : ℕ → Bool
is_digit b = nat_le 48 b && nat_le b 57

abbrev pub wrapped : ℕ → ℕ → ℕ
wrapped v b = (v * 10 + (b - 48)) % 2 ^ 128

-- the number of the digits, behind one that was read
abbrev pub number_from : ℕ → Bytes → ℕ
number_from v [] = v
number_from v (b ∷ bs) = number_from (wrapped v b) bs

abbrev pub number : Bytes → ℕ × Bytes
number bytes = let n = front is_digit bytes in (number_from 0 (take n bytes), drop n bytes)

abbrev pub small : ℕ → ℕ
small n = if nat_lt n (2 ^ 32) then n else 0

abbrev pub plus : ℕ → ℤ
plus n = if nat_lt n (2 ^ 127) then pos n else pos 0

abbrev pub minus : ℕ → ℤ
minus n = if n == 0 then pos 0 else (if nat_lt (n - 1) (2 ^ 127) then negsuc (n - 1) else pos 0)

abbrev pub signed : Bytes → ℤ × Bytes
signed bytes =
    if first bytes == 45 then (let r = number (drop 1 bytes) in (minus r.0, r.1))
    else (let r = number bytes in (plus r.0, r.1))

-- ---- the key text in a place goes up to the `)` that closes it; a string in it is passed over by its length

abbrev pub closes : Scan → ℕ → Bool
closes s b = not s.counts && s.left == 0 && s.depth == 0 && b == 41

abbrev pub counted : Scan → ℕ → Scan
counted s b = if b == 58 then record s { counts = false } else record s { left = wrapped s.left b }

abbrev pub marked : Scan → ℕ → Scan
marked s b =
    if b == 34 then record s { counts = true }
    else (if b == 40 then record s { depth = s.depth + 1 } else (if b == 41 then record s { depth = s.depth - 1 } else s))

abbrev pub scanned : Scan → ℕ → Scan
scanned s b = if s.counts then counted s b else (if nat_lt 0 s.left then record s { left = s.left - 1 } else marked s b)

abbrev pub key_len : Scan → Bytes → ℕ
key_len s [] = 0
key_len s (b ∷ bs) = if closes s b then 0 else suc (key_len (scanned s b) bs)

abbrev pub outside : ℕ → Scan
outside d = record { depth = d; left = 0; counts = false }

abbrev pub key_in : Bytes → Bytes × Bytes
key_in bytes = let n = key_len (outside 0) bytes in (take n bytes, drop (n + 1) bytes)

-- ---- places

abbrev pub step_in : Bytes → Step × Bytes
step_in bytes =
    if first bytes == 58 then (let r = number (drop 1 bytes) in (steps.At (small r.0), r.1))
    else (if first bytes == 35 then (let r = number (drop 1 bytes) in (steps.Round (small r.0), r.1))
    else (let r = key_in (drop 2 bytes) in (steps.With r.0, r.1)))

abbrev pub starts_step : ℕ → Bool
starts_step b = b == 58 || b == 35 || b == 33

abbrev pub has_step : List Step × Bytes → Bool
has_step s = starts_step (first s.1)

abbrev pub next_step : List Step × Bytes → List Step × Bytes
next_step s = let r = step_in s.1 in (s.0 ++ r.0 ∷ [], r.1)

abbrev pub steps_in : Bytes → List Step × Bytes
steps_in bytes = turns has_step next_step (length bytes) ([], bytes)

abbrev pub place_in : Bytes → Place × Bytes
place_in bytes = let n = front is_name_byte bytes in let r = steps_in (drop n bytes) in (record { «module» = take n bytes; steps = r.0 }, r.1)

-- ---- types

unfoldable pub kind_word : Bytes → Option Kind
kind_word m =
    if bytes_eq m (codes "bool") then Some kinds.Bool
    else (if bytes_eq m (codes "byte") then Some kinds.I8
    else (if bytes_eq m (codes "ubyte") then Some kinds.U8
    else (if bytes_eq m (codes "short") then Some kinds.I16
    else (if bytes_eq m (codes "ushort") then Some kinds.U16
    else (if bytes_eq m (codes "int") then Some kinds.I32
    else (if bytes_eq m (codes "uint") then Some kinds.U32
    else (if bytes_eq m (codes "long") then Some kinds.I64
    else (if bytes_eq m (codes "ulong") then Some kinds.U64
    else (if bytes_eq m (codes "char") then Some kinds.Char
    else None)))))))))

abbrev pub ty_of_kind : Option Kind → Ty
ty_of_kind (Some k) = ty.Int k
ty_of_kind None = ty.NullLit

unfoldable pub word : Bytes → Ty
word m = if bytes_eq m (codes "void") then ty.Void else (if bytes_eq m (codes "string") then ty.Str else ty_of_kind (kind_word m))

abbrev pub named : Place → Ty
named p = if has_steps p.steps then ty.Struct p else word p.module

abbrev pub leaf_in : (Bytes → Ty × Bytes) → Bytes → Ty × Bytes
leaf_in base bytes =
    if first bytes == 36 then (let p = place_in (drop 1 bytes) in let b = base (drop 1 p.1) in (ty.Enum p.0 b.0, drop 1 b.1))
    else (if first bytes == 91 then (ty.EmptyLit, drop 2 bytes)
    else (let p = place_in bytes in (named p.0, p.1)))

abbrev pub has_wrap : Ty × Bytes → Bool
has_wrap s = first s.1 == 91

abbrev pub next_wrap : Ty × Bytes → Ty × Bytes
next_wrap s =
    if first (drop 1 s.1) == 93 then (ty.Slice s.0, drop 2 s.1)
    else (let r = number (drop 1 s.1) in (ty.Fixed s.0 (small r.0), drop 1 r.1))

abbrev pub wraps : Ty × Bytes → Ty × Bytes
wraps s = turns has_wrap next_wrap (length s.1) s

abbrev pub type_in : ℕ → Bytes → Ty × Bytes
type_in zero bytes = (ty.Void, bytes)
type_in (suc n) bytes = wraps (leaf_in (type_in n) bytes)

-- ---- values

abbrev pub opens : ℕ → Bool
opens b = b == 91 || b == 123

abbrev pub ends_list : ℕ → Bool
ends_list b = b == 93 || b == 125 || b == 0

abbrev pub has_item : List CTree × Bytes → Bool
has_item s = not (ends_list (first s.1))

abbrev pub past_comma : Bytes → Bytes
past_comma bytes = if first bytes == 44 then drop 1 bytes else bytes

abbrev pub next_item : (Bytes → CTree × Bytes) → List CTree × Bytes → List CTree × Bytes
next_item item s = let r = item (past_comma s.1) in (s.0 ++ r.0 ∷ [], r.1)

abbrev pub items_in : (Bytes → CTree × Bytes) → Bytes → List CTree × Bytes
items_in item bytes = turns has_item (next_item item) (length bytes) ([], bytes)

abbrev pub tree_in : ℕ → Bytes → CTree × Bytes
tree_in zero bytes = (tree.Num (pos 0), bytes)
tree_in (suc n) bytes =
    if opens (first bytes) then (let r = items_in (tree_in n) (drop 1 bytes) in (tree.List r.0, drop 1 r.1))
    else (let r = signed bytes in (tree.Num r.0, r.1))

abbrev pub byte_tree : ℕ → CTree
byte_tree b = tree.Num (pos b)

abbrev pub sized : ℕ → ℕ
sized n = if nat_lt n (2 ^ 64) then n else 2 ^ 64 - 1

abbrev pub string_in : Bytes → CTree × Bytes
string_in bytes = let r = number bytes in let n = sized r.0 in (tree.List (map byte_tree (take n (drop 1 r.1))), drop n (drop 1 r.1))

abbrev pub value_in : Bytes → CTree × Bytes
value_in bytes = if first bytes == 34 then string_in (drop 1 bytes) else tree_in (length bytes) bytes

-- ---- arguments

abbrev pub typed_in : Ty × Bytes → Arg × Bytes
typed_in t =
    if first t.1 == 61 then (let v = value_in (drop 1 t.1) in (args.OfValue (record { ty = t.0; tree = v.0 }), v.1))
    else (args.OfType t.0, t.1)

abbrev pub arg_in : Bytes → Arg × Bytes
arg_in bytes =
    if first bytes == 38 then (let r = place_in (drop 1 bytes) in (args.OfSymbol r.0, r.1))
    else typed_in (type_in (length bytes) bytes)

abbrev pub has_arg : List Arg × Bytes → Bool
has_arg s = nat_lt 0 (length s.1)

abbrev pub past_mark : Bytes → Bytes
past_mark bytes = if first bytes == 44 then drop 2 bytes else bytes

abbrev pub next_arg : List Arg × Bytes → List Arg × Bytes
next_arg s = let r = arg_in (past_mark s.1) in (s.0 ++ r.0 ∷ [], r.1)

abbrev pub args_in : Bytes → List Arg × Bytes
args_in bytes = turns has_arg next_arg (length bytes) ([], bytes)
