-- Values, and how numbers print.
use Rattle.std.specs.Prelude.{ℕ, Bool, List, [], ◌∷◌, ◌++◌, ℤ, pos, unsigned_abs, if◌then◌else◌, codes}
use Rattle.std.specs.Fmt.{signed_decimal}
use Rattle.std.specs.Ordering.{int_eq}
use Rattle.dc_types.specs.declared.kind.Kind.{Kind}
use Rattle.dc_types.specs.declared.kind.Kind.TheVariants as kind
use Rattle.dc_types.specs.declared.ty.Ty.{Ty}
use Rattle.dc_types.specs.declared.ty.Ty.TheOpen.{Ty-F}
use Rattle.dc_types.specs.declared.ty.Ty.TheViews.{out-Ty, roll-Ty}
use Rattle.dc_types.specs.declared.constant.CTree.{CTree}
use Rattle.dc_types.specs.declared.constant.CTree.TheOpen.{CTree-F}
use Rattle.dc_types.specs.declared.constant.CTree.TheViews.{out-CTree}
use Rattle.dc_value.specs.declared.value.Value.{Value}
use Rattle.dc_value.specs.declared.value.Value.TheOpen.{Value-F}
use Rattle.dc_value.specs.declared.value.Value.TheViews.{out-Value, roll-Value}

-- the type of the numbers of a kind, and `void`
abbrev pub int : Kind → Ty
int k = roll-Ty (Ty-F.Int k)

abbrev pub void : Ty
void = roll-Ty Ty-F.Void

-- a number as a value
abbrev pub num : ℤ → Value
num z = roll-Value (Value-F.Num z)

-- the number that a value is
abbrev pub number_by : {A : Type 0} → Value-F A → ℤ
number_by (Value-F.Num z) = z
number_by (Value-F.SliceOf span) = pos 0
number_by (Value-F.List values) = pos 0

abbrev pub number_in : Value → ℤ
number_in v = number_by (out-Value v)

-- what an expression of type `void` gives
abbrev pub nothing : Value
nothing = num (pos 0)

-- the number of a constant
abbrev pub constant_by : {A : Type 0} → CTree-F A → ℤ
constant_by (CTree-F.Num z) = z
constant_by (CTree-F.List trees) = pos 0

abbrev pub number_of_tree : CTree → ℤ
number_of_tree tree = constant_by (out-CTree tree)

-- 0 for false, and 1 for true
abbrev pub truth_number : Bool → ℤ
truth_number b = if b then pos 1 else pos 0

-- the value of a condition
abbrev pub is_zero : Value → Bool
is_zero v = int_eq (number_in v) (pos 0)

-- What a number of a kind prints as: `bool` as a word, `char` as its byte, and all else in decimal.
abbrev pub number_text : Kind → ℤ → List ℕ
number_text kind.Bool z = if int_eq z (pos 0) then codes "false" else codes "true"
number_text kind.Char z = unsigned_abs z ∷ []
number_text kind.I8 z = signed_decimal z
number_text kind.U8 z = signed_decimal z
number_text kind.I16 z = signed_decimal z
number_text kind.U16 z = signed_decimal z
number_text kind.I32 z = signed_decimal z
number_text kind.U32 z = signed_decimal z
number_text kind.I64 z = signed_decimal z
number_text kind.U64 z = signed_decimal z

abbrev pub text_by : {A : Type 0} → Ty-F A → Value → List ℕ
text_by (Ty-F.Int k) v = number_text k (number_in v)
text_by _ v = []

-- what a value of a type prints as
abbrev pub text_of : Ty → Value → List ℕ
text_of ty v = text_by (out-Ty ty) v

abbrev pub texts_of : List Ty → List Value → List ℕ
texts_of [] vs = []
texts_of (ty ∷ tys) [] = []
texts_of (ty ∷ tys) (v ∷ vs) = text_of ty v ++ texts_of tys vs
