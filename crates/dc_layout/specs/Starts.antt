-- What the values of a type start with.
use Rattle.std.specs.Prelude.{ℕ, suc, zero, pos, List, [], ◌∷◌, map, Option, Some, None}
use Rattle.dc_types.specs.declared.kind.Kind.{Kind}
use Rattle.dc_types.specs.declared.kind.Kind.TheVariants as kinds
use Rattle.dc_types.specs.declared.place.Place.{Place}
use Rattle.dc_types.specs.declared.ty.Ty.{Ty}
use Rattle.dc_types.specs.declared.ty.Ty.TheOpen.{Ty-F}
use Rattle.dc_types.specs.declared.ty.Ty.TheFolds.{fold-Ty}
use Rattle.dc_types.specs.declared.constant.CTree.{CTree}
use Rattle.dc_types.specs.declared.constant.CTree.TheVariants as tree
use Rattle.dc_types.specs.declared.constant.Const.{Const}
use Rattle.dc_layout.specs.declared.layout.Field.{Field}
use Rattle.dc_layout.specs.Cells.{at}

abbrev pub Shapes : Type 0
Shapes = List (Place × List Field) × List (Place × Const)

-- a number starts with 0, a `char` with 0xFF
abbrev pub number_start : Kind → CTree
number_start kinds.Char = tree.Num (pos 255)
number_start _ = tree.Num (pos 0)

abbrev pub copies : ℕ → CTree → List CTree
copies zero x = []
copies (suc n) x = x ∷ copies n x

-- a struct starts with its fields' start values
abbrev pub struct_start : Option (List Field) → CTree
struct_start (Some fields) = tree.List (map (λ f. f.start.tree) fields)
struct_start None = tree.List []

-- an enum starts with its first member
abbrev pub enum_start : Option Const → CTree → CTree
enum_start (Some first) base = first.tree
enum_start None base = base

abbrev pub start_at : Shapes → Ty-F CTree → CTree
start_at shapes Ty-F.Void = tree.Num (pos 0)
start_at shapes (Ty-F.Int k) = number_start k
start_at shapes (Ty-F.Fixed of n) = tree.List (copies n of)
start_at shapes (Ty-F.Slice of) = tree.List []
start_at shapes Ty-F.Str = tree.List []
start_at shapes (Ty-F.Struct p) = struct_start (at shapes.0 p)
start_at shapes (Ty-F.Enum p base) = enum_start (at shapes.1 p) base
start_at shapes Ty-F.NullLit = tree.List []
start_at shapes Ty-F.EmptyLit = tree.List []

-- the tree that the values of the type start with
abbrev pub start : Shapes → Ty → CTree
start shapes = fold-Ty CTree (start_at shapes)
