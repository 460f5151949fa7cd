-- The kinds of second operands.
use Rattle.dc_types.specs.declared.kind.Kind.{Kind}
use Rattle.dc_types.specs.declared.kind.Kind.TheVariants as kind
use Rattle.dc_types.specs.declared.kind.BinOp.{BinOp}
use Rattle.dc_types.specs.declared.kind.BinOp.TheVariants as binop

-- the count of a shift is a `long`
abbrev pub second_kind : BinOp → Kind → Kind
second_kind binop.Shl k = kind.I64
second_kind binop.Shr k = kind.I64
second_kind binop.Ushr k = kind.I64
second_kind _ k = k
