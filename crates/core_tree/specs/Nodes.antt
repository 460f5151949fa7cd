-- The place and the type of an expression's first node, and the parts of its nodes.
use Rattle.std.specs.Prelude.{map}
use Rattle.dc_types.specs.declared.kind.Kind.TheVariants as kind
use Rattle.dc_types.specs.declared.place.Place.{Place}
use Rattle.dc_types.specs.declared.ty.Ty.{Ty}
use Rattle.core_tree.specs.Values.{int, void}
use Rattle.core_tree.specs.declared.tree.Operation.{Operation}
use Rattle.core_tree.specs.declared.stmt.Branch.{Branch}
use Rattle.core_tree.specs.declared.tree.Tree.{Tree}
use Rattle.core_tree.specs.declared.tree.Tree.TheOpen.{Tree-F}
use Rattle.core_tree.specs.declared.tree.Tree.TheViews.{out-Tree}

abbrev pub place_by : {A : Type 0} → Tree-F A → Place
place_by (Tree-F.Constant place c) = place
place_by (Tree-F.Local place v) = place
place_by (Tree-F.Assign place v e) = place
place_by (Tree-F.Chain place k first rest) = place
place_by (Tree-F.Compare place op k a b) = place
place_by (Tree-F.Call place f ty args) = place
place_by (Tree-F.Print place tys args line) = place

-- where an expression begins
abbrev pub place_of : Tree → Place
place_of e = place_by (out-Tree e)

abbrev pub own_type_by : {A : Type 0} → Tree-F A → Ty
own_type_by (Tree-F.Constant place c) = c.ty
own_type_by (Tree-F.Local place v) = v.ty
own_type_by (Tree-F.Assign place v e) = v.ty
own_type_by (Tree-F.Chain place k first rest) = int k
own_type_by (Tree-F.Compare place op k a b) = int kind.Bool
own_type_by (Tree-F.Call place f ty args) = ty
own_type_by (Tree-F.Print place tys args line) = void

-- the type that an expression says of itself, which is its type where it is typed
abbrev pub own_type : Tree → Ty
own_type e = own_type_by (out-Tree e)

-- an operation, with what is made of its operand
abbrev pub operation_with : {A B : Type 0} → (A → B) → Operation A → Operation B
operation_with f o = record { operator = o.operator; operand = f o.operand }

-- a branch, with what is made of its statements
abbrev pub branch_with : {A B : Type 0} → (A → B) → Branch A → Branch B
branch_with f b = record { condition = b.condition; body = map f b.body }
