-- The operators of numbers in resolved trees.
use Rattle.dc_types.specs.declared.kind.BinOp.{BinOp}
use Rattle.dc_types.specs.declared.kind.BinOp.TheVariants as op
use Rattle.core_front.specs.declared.built.Arithmetic.{Arithmetic}
use Rattle.core_front.specs.declared.built.Arithmetic.TheVariants as arithmetic

abbrev pub resolved : Arithmetic → BinOp
resolved arithmetic.Multiply = op.Mul
resolved arithmetic.Divide = op.Div
resolved arithmetic.Remainder = op.Rem
resolved arithmetic.Add = op.Add
resolved arithmetic.Subtract = op.Sub
