-- Whole numbers in the kinds of numbers (D specification, "Types", "Basic Data Types", and "Expressions").
-- An operation is done on whole numbers, and what comes out is then reduced to the kind.
use Rattle.std.specs.Prelude.{ℕ, ◌-◌, ◌^◌, ◌/◌, Bool, true, false, not, ◌&&◌, nat_lt, ℤ, pos, neg_ℤ, ◌+ℤ◌, ◌-ℤ◌, ◌*ℤ◌, ◌≤ℤ◌, unsigned_abs, int_lt, int_le, int_div, int_rem, bit_and, bit_or, bit_xor, if◌then◌else◌, Result, Ok, Err}
use Rattle.std.specs.Int.{int_rem_euclid, int_div_euclid}
use Rattle.std.specs.Ordering.{int_eq}
use Rattle.dc_types.specs.declared.kind.Kind.{Kind}
use Rattle.dc_types.specs.declared.kind.Kind.TheVariants as kind
use Rattle.dc_types.specs.declared.kind.BinOp.{BinOp}
use Rattle.dc_types.specs.declared.kind.BinOp.TheVariants as binop
use Rattle.dc_types.specs.declared.kind.UnOp.{UnOp}
use Rattle.dc_types.specs.declared.kind.UnOp.TheVariants as unop
use Rattle.dc_types.specs.declared.kind.CmpOp.{CmpOp}
use Rattle.dc_types.specs.declared.kind.CmpOp.TheVariants as cmpop
use Rattle.dc_types.specs.declared.event.TrapKind.{TrapKind}
use Rattle.dc_types.specs.declared.event.TrapKind.TheVariants as trap

-- how many bits a number of this kind has
unfoldable pub bits_of : Kind → ℕ
bits_of kind.Bool = 8
bits_of kind.I8 = 8
bits_of kind.U8 = 8
bits_of kind.I16 = 16
bits_of kind.U16 = 16
bits_of kind.I32 = 32
bits_of kind.U32 = 32
bits_of kind.I64 = 64
bits_of kind.U64 = 64
bits_of kind.Char = 8

-- the kinds with numbers below 0
unfoldable pub is_signed : Kind → Bool
is_signed kind.I8 = true
is_signed kind.I16 = true
is_signed kind.I32 = true
is_signed kind.I64 = true
is_signed kind.Bool = false
is_signed kind.U8 = false
is_signed kind.U16 = false
is_signed kind.U32 = false
is_signed kind.U64 = false
is_signed kind.Char = false

-- the least number of a kind
unfoldable pub least : Kind → ℤ
least kind.I8 = neg_ℤ (pos (2 ^ 7))
least kind.I16 = neg_ℤ (pos (2 ^ 15))
least kind.I32 = neg_ℤ (pos (2 ^ 31))
least kind.I64 = neg_ℤ (pos (2 ^ 63))
least kind.Bool = pos 0
least kind.U8 = pos 0
least kind.U16 = pos 0
least kind.U32 = pos 0
least kind.U64 = pos 0
least kind.Char = pos 0

-- the greatest number of a kind
unfoldable pub greatest : Kind → ℤ
greatest kind.I8 = pos (2 ^ 7 - 1)
greatest kind.I16 = pos (2 ^ 15 - 1)
greatest kind.I32 = pos (2 ^ 31 - 1)
greatest kind.I64 = pos (2 ^ 63 - 1)
greatest kind.Bool = pos 1
greatest kind.U8 = pos (2 ^ 8 - 1)
greatest kind.U16 = pos (2 ^ 16 - 1)
greatest kind.U32 = pos (2 ^ 32 - 1)
greatest kind.U64 = pos (2 ^ 64 - 1)
greatest kind.Char = pos (2 ^ 8 - 1)

-- z is a number of the kind
pub record InKind (k : Kind) (z : ℤ) : Type 0 where
  pub at_least : least k ≤ℤ z
  pub at_most : z ≤ℤ greatest k

-- the one number from 0 to 2 ^ bits - 1 that differs from z by a multiple of 2 ^ bits
unfoldable pub residue : ℕ → ℤ → ℕ
residue bits z = unsigned_abs (int_rem_euclid z (pos (2 ^ bits)))

-- the one number from -2 ^ (bits - 1) to 2 ^ (bits - 1) - 1 that differs from z by a multiple of 2 ^ bits
unfoldable pub signed_residue : ℕ → ℤ → ℤ
signed_residue bits z = if nat_lt (residue bits z) (2 ^ (bits - 1)) then pos (residue bits z) else pos (residue bits z) -ℤ pos (2 ^ bits)

-- 0 for 0, and else 1
unfoldable pub truth : ℤ → ℤ
truth z = if int_eq z (pos 0) then pos 0 else pos 1

-- What a whole number becomes in a kind: it is reduced modulo a power of two, and for `bool` to 0 or 1.
unfoldable pub wrap : Kind → ℤ → ℤ
wrap kind.Bool z = truth z
wrap kind.I8 z = signed_residue 8 z
wrap kind.I16 z = signed_residue 16 z
wrap kind.I32 z = signed_residue 32 z
wrap kind.I64 z = signed_residue 64 z
wrap kind.U8 z = pos (residue 8 z)
wrap kind.U16 z = pos (residue 16 z)
wrap kind.U32 z = pos (residue 32 z)
wrap kind.U64 z = pos (residue 64 z)
wrap kind.Char z = pos (residue 8 z)

-- a number's two's complement in the bits of a kind, read as a number from 0 up
abbrev pub pattern : Kind → ℤ → ℕ
pattern k z = residue (bits_of k) z

-- `a / b` and `a % b` have a value: b isn't 0, nor is the least number divided by -1 (which only a signed kind has)
unfoldable pub can_divide : Kind → ℤ → ℤ → Bool
can_divide k a b = not (int_eq b (pos 0)) && not (int_eq a (least k) && int_eq b (neg_ℤ (pos 1)))

-- a shift by n has a value: n isn't below 0, and is below the number of bits
unfoldable pub can_shift : Kind → ℤ → Bool
can_shift k n = int_le (pos 0) n && int_lt n (pos (bits_of k))

-- b may stand to the right of an operator on numbers of a kind: it is one of them, and for a shift any number
abbrev pub FitsRight : BinOp → Kind → ℤ → Type 0
FitsRight binop.Add k b = InKind k b
FitsRight binop.Sub k b = InKind k b
FitsRight binop.Mul k b = InKind k b
FitsRight binop.Div k b = InKind k b
FitsRight binop.Rem k b = InKind k b
FitsRight binop.BitAnd k b = InKind k b
FitsRight binop.BitOr k b = InKind k b
FitsRight binop.BitXor k b = InKind k b
FitsRight binop.Shl k b = Unit {0}
FitsRight binop.Shr k b = Unit {0}
FitsRight binop.Ushr k b = Unit {0}

-- What `a op b` is in a kind, or the trap that it meets. `/` rounds towards zero, and `%` has the sign of a.
-- `>>` rounds down, which keeps the sign, and `>>>` shifts zeros into the two's complement of a.
unfoldable pub binary : BinOp → Kind → ℤ → ℤ → Result ℤ TrapKind
binary binop.Add k a b = Ok (wrap k (a +ℤ b))
binary binop.Sub k a b = Ok (wrap k (a -ℤ b))
binary binop.Mul k a b = Ok (wrap k (a *ℤ b))
binary binop.Div k a b = if can_divide k a b then Ok (wrap k (int_div a b)) else Err trap.Divide
binary binop.Rem k a b = if can_divide k a b then Ok (wrap k (int_rem a b)) else Err trap.Divide
binary binop.BitAnd k a b = Ok (wrap k (pos (bit_and (pattern k a) (pattern k b))))
binary binop.BitOr k a b = Ok (wrap k (pos (bit_or (pattern k a) (pattern k b))))
binary binop.BitXor k a b = Ok (wrap k (pos (bit_xor (pattern k a) (pattern k b))))
binary binop.Shl k a b = if can_shift k b then Ok (wrap k (a *ℤ pos (2 ^ unsigned_abs b))) else Err trap.Shift
binary binop.Shr k a b = if can_shift k b then Ok (wrap k (int_div_euclid a (pos (2 ^ unsigned_abs b)))) else Err trap.Shift
binary binop.Ushr k a b = if can_shift k b then Ok (wrap k (pos (pattern k a / 2 ^ unsigned_abs b))) else Err trap.Shift

-- What `op a` is in a kind. `~` turns each bit of the two's complement, and `!` is 1 for 0, and else 0.
unfoldable pub unary : UnOp → Kind → ℤ → ℤ
unary unop.Negate k a = wrap k (neg_ℤ a)
unary unop.Flip k a = wrap k (pos (2 ^ bits_of k - 1 - pattern k a))
unary unop.Not k a = if int_eq a (pos 0) then pos 1 else pos 0

-- what `a op b` is, of a comparison
unfoldable pub compare : CmpOp → ℤ → ℤ → Bool
compare cmpop.Equal a b = int_eq a b
compare cmpop.Differs a b = not (int_eq a b)
compare cmpop.Less a b = int_lt a b
compare cmpop.LessEq a b = int_le a b
compare cmpop.Greater a b = int_lt b a
compare cmpop.GreaterEq a b = int_le b a
