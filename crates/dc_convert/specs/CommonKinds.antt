-- The kind in which an operation on two numbers is done (D specification, "Types", "Usual Arithmetic Conversions").
use Rattle.std.specs.Prelude.{◌≡◌, nat_lt, nat_le, Bool, true, false, ◌&&◌, List, [], ◌∷◌, map, Option, Some, None, if◌then◌else◌}
use Rattle.std.specs.List.{list_all}
use Rattle.dc_types.specs.declared.kind.Kind.{Kind}
use Rattle.dc_types.specs.declared.kind.Kind.TheVariants as kinds
use Rattle.dc_types.specs.declared.kind.BinOp.{BinOp}
use Rattle.dc_types.specs.declared.kind.BinOp.TheVariants as binop
use Rattle.dc_types.specs.declared.ty.Ty.{Ty}
use Rattle.dc_types.specs.declared.ty.Ty.TheViews.{out-Ty}
use Rattle.dc_types.specs.declared.ty.Ty.TheOpen.{Ty-F}
use Rattle.dc_types.specs.declared.ty.Ty.TheFolds.{fold-Ty}
use Rattle.dc_types.specs.Integers.{bits_of, is_signed}
use Rattle.dc_types.specs.Same as same
use Rattle.dc_convert.specs.declared.numbers.Joint.{Joint}
use Rattle.dc_convert.specs.declared.numbers.Joint.TheVariants as joint

-- a number of less than 32 bits becomes an `int`
unfoldable pub promoted : Kind → Kind
promoted k = if nat_lt (bits_of k) 32 then kinds.I32 else k

abbrev pub wider : Kind → Kind → Kind
wider a b = if nat_lt (bits_of a) (bits_of b) then b else a

-- a signed and an unsigned kind: the signed one where it is wider
abbrev pub mixed : Kind → Kind → Kind
mixed signed unsigned = if nat_lt (bits_of unsigned) (bits_of signed) then signed else unsigned

unfoldable pub common_promoted : Kind → Kind → Kind
common_promoted a b =
    if is_signed a
    then (if is_signed b then wider a b else mixed a b)
    else (if is_signed b then mixed b a else wider a b)

-- the common kind of two numbers
abbrev pub common : Kind → Kind → Kind
common a b = common_promoted (promoted a) (promoted b)

-- The common kind is the same for two numbers either way round, and for three whichever two are taken first. So it doesn't
-- depend on the order of any number of them.
pub record InAnyOrder : Type 0 where
  pub of_two : (a b : Kind) → common a b ≡ common b a
  pub of_three : (a b c : Kind) → common (common a b) c ≡ common a (common b c)

abbrev pub kind_at : Ty-F (Option Kind) → Option Kind
kind_at (Ty-F.Int k) = Some k
kind_at (Ty-F.Enum at base) = base
kind_at _ = None

-- the kind of a number's type, where an enum counts as its base
abbrev pub kind_of : Ty → Option Kind
kind_of = fold-Ty (Option Kind) kind_at

-- the operators whose result, of two operands of one enum, may be of that enum: all but shifts
abbrev pub may_keep : BinOp → Bool
may_keep binop.Shl = false
may_keep binop.Shr = false
may_keep binop.Ushr = false
may_keep _ = true

-- a kind that no operation promotes
abbrev pub is_wide : Option Kind → Bool
is_wide (Some k) = nat_le 32 (bits_of k)
is_wide None = false

abbrev pub is_enum_at : Ty-F Ty → Bool
is_enum_at (Ty-F.Enum at base) = true
is_enum_at _ = false

-- an enum whose base is at least 32 bits wide
abbrev pub is_wide_enum : Ty → Bool
is_wide_enum t = is_enum_at (out-Ty t) && is_wide (kind_of t)

-- the kind of the result of an operation on numbers: a shift has that of its left operand
abbrev pub result_kind : BinOp → Kind → Kind → Kind
result_kind binop.Shl a b = promoted a
result_kind binop.Shr a b = promoted a
result_kind binop.Ushr a b = promoted a
result_kind _ a b = common a b

-- a number of a kind that is found from two, where both types are those of numbers
abbrev pub number_by : (Kind → Kind → Kind) → Option Kind → Option Kind → Option Joint
number_by f (Some a) (Some b) = Some (joint.Number (f a b))
number_by f _ _ = None

-- The type of `a op b`: two operands of one wide enum keep it but in shifts, and else an enum counts as its base. Types
-- that aren't those of numbers have none.
unfoldable pub result_type : BinOp → Ty → Ty → Option Joint
result_type op a b =
    if may_keep op && (same.ty a b && is_wide_enum a) then Some joint.Same else number_by (result_kind op) (kind_of a) (kind_of b)

-- the common kind of a kind and of all that follow, or nothing where one is none
abbrev pub common_of : Option Kind → List (Option Kind) → Option Kind
common_of (Some a) [] = Some a
common_of (Some a) (Some b ∷ rest) = common_of (Some (common a b)) rest
common_of _ _ = None

abbrev pub number_of : Option Kind → Option Joint
number_of (Some k) = Some (joint.Number k)
number_of None = None

-- The type of parts that stand beside each other, as in `[a, b]` or `c ? a : b`: the type that all have, without promotion,
-- or the common kind of them all where they are numbers.
abbrev pub parts_type : List Ty → Option Joint
parts_type [] = None
parts_type (t ∷ rest) = if list_all (λ u. same.ty t u) rest then Some joint.Same else number_of (common_of (kind_of t) (map kind_of rest))
