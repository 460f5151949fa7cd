-- The code of an expression.
use Rattle.std.specs.Prelude.{ℕ, ◌+◌, Bool, true, false, List, [], ◌∷◌, ◌++◌, length, map}
use Rattle.dc_types.specs.declared.kind.Kind.{Kind}
use Rattle.dc_types.specs.declared.kind.Kind.TheVariants as kind
use Rattle.dc_types.specs.declared.kind.BinOp.{BinOp}
use Rattle.dc_types.specs.declared.kind.CmpOp.{CmpOp}
use Rattle.dc_types.specs.declared.place.Place.{Place}
use Rattle.dc_types.specs.declared.ty.Ty.{Ty}
use Rattle.dc_types.specs.declared.ty.Ty.TheOpen.{Ty-F}
use Rattle.dc_types.specs.declared.ty.Ty.TheViews.{out-Ty}
use Rattle.dc_types.specs.declared.constant.Const.{Const}
use Rattle.dc_code.specs.Numbers.{word_of}
use Rattle.dc_code.specs.declared.instr.Op.{Op}
use Rattle.dc_code.specs.declared.instr.Op.TheVariants as op
use Rattle.dc_code.specs.declared.instr.Instr.{Instr}
use Rattle.core_tree.specs.Values.{number_of_tree}
use Rattle.core_tree.specs.declared.tree.Operation.{Operation}
use Rattle.core_tree.specs.declared.tree.Tree.{Tree}
use Rattle.core_tree.specs.declared.tree.Tree.TheOpen.{Tree-F}
use Rattle.core_tree.specs.declared.tree.Tree.TheFolds.{fold-Tree}

-- what names stand for: the slot of a variable, and the number of a function, each by its place
pub record Names : Type 0 where
  pub slot : Place → ℕ
  pub function : Place → ℕ

abbrev pub instr : Place → Op → Instr
instr place op = record { place = place; op = op }

-- The code of a part, by the number of its first instruction and by the first slot that it may use.
abbrev pub Codes : Type 0
Codes = ℕ → ℕ → List Instr

abbrev pub no_code : Codes
no_code pc spare = []

-- two codes one behind the other, where the value of the first takes a slot
abbrev pub two_code : Codes → Codes → Codes
two_code a b pc spare = a pc spare ++ b (pc + length (a pc spare)) (spare + 1)

-- each value in the next slot
abbrev pub each_code : List Codes → Codes
each_code [] pc spare = []
each_code (c ∷ cs) pc spare = c pc spare ++ each_code cs (pc + length (c pc spare)) (spare + 1)

-- codes one behind the other, from the same slots on
abbrev pub block_code : List Codes → Codes
block_code [] pc spare = []
block_code (c ∷ cs) pc spare = c pc spare ++ block_code cs (pc + length (c pc spare)) spare

-- operands, and instructions on the slots in which they stand
abbrev pub then_ops : Codes → (ℕ → List Instr) → Codes
then_ops c ops pc spare = c pc spare ++ ops spare

abbrev pub constant_ops : Place → Const → ℕ → List Instr
constant_ops place c d = instr place (op.Const d (word_of (number_of_tree c.tree))) ∷ []

abbrev pub local_ops : Place → ℕ → ℕ → List Instr
local_ops place slot d = instr place (op.Copy d slot 1) ∷ []

-- the value stays where it is
abbrev pub assign_ops : Place → ℕ → ℕ → List Instr
assign_ops place slot d = instr place (op.Copy slot d 1) ∷ []

abbrev pub binary_ops : Place → BinOp → Kind → ℕ → List Instr
binary_ops place o k d = instr place (op.Binary o k d d (d + 1)) ∷ []

-- an operation on the value in the first slot: its operand takes the next one, and its value comes in the first one's place
abbrev pub operation_code : Place → Kind → Operation Codes → Codes
operation_code place k o pc spare = o.operand pc (spare + 1) ++ binary_ops place o.operator k spare

-- the operations of a chain, one behind the other
abbrev pub operations_code : Place → Kind → List (Operation Codes) → Codes
operations_code place k os = block_code (map (operation_code place k) os)

abbrev pub chain_code : Place → Kind → Codes → List (Operation Codes) → Codes
chain_code place k first rest pc spare = first pc spare ++ operations_code place k rest (pc + length (first pc spare)) spare

abbrev pub compare_ops : Place → CmpOp → Kind → ℕ → List Instr
compare_ops place o k d = instr place (op.Compare o k d d (d + 1)) ∷ []

abbrev pub call_ops : Place → ℕ → ℕ → List Instr
call_ops place f d = instr place (op.Call f d d) ∷ []

abbrev pub kind_by : {A : Type 0} → Ty-F A → Kind
kind_by (Ty-F.Int k) = k
kind_by _ = kind.I32

-- the kind of a number's type
abbrev pub kind_of : Ty → Kind
kind_of ty = kind_by (out-Ty ty)

abbrev pub put_ops : Place → List Ty → ℕ → List Instr
put_ops place [] d = []
put_ops place (ty ∷ tys) d = instr place (op.PutInt (kind_of ty) d) ∷ put_ops place tys (d + 1)

-- a line feed is a `char`
abbrev pub line_ops : Place → Bool → ℕ → List Instr
line_ops place true d = instr place (op.Const d 10) ∷ instr place (op.PutInt kind.Char d) ∷ []
line_ops place false d = []

abbrev pub print_ops : Place → List Ty → Bool → ℕ → List Instr
print_ops place tys line d = put_ops place tys d ++ (line_ops place line d ++ instr place op.Flush ∷ [])

abbrev pub tree_code_step : Names → Tree-F Codes → Codes
tree_code_step names (Tree-F.Constant place c) = then_ops no_code (constant_ops place c)
tree_code_step names (Tree-F.Local place v) = then_ops no_code (local_ops place (names.slot v.place))
tree_code_step names (Tree-F.Assign place v e) = then_ops e (assign_ops place (names.slot v.place))
tree_code_step names (Tree-F.Chain place k first rest) = chain_code place k first rest
tree_code_step names (Tree-F.Compare place o k a b) = then_ops (two_code a b) (compare_ops place o k)
tree_code_step names (Tree-F.Call place f ty args) = then_ops (each_code args) (call_ops place (names.function f))
tree_code_step names (Tree-F.Print place tys args line) = then_ops (each_code args) (print_ops place tys line)

-- The words of an expression's value stand from the first spare slot on at the end.
abbrev pub tree_code : Names → Tree → Codes
tree_code names = fold-Tree Codes (tree_code_step names)
