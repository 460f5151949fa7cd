-- Numbers that were reduced to a kind are of the kind.
use Rattle.std.proofs.Common.{◌≡◌, ℤ, sym, subst}
use Rattle.dc_types.specs.declared.kind.Kind.{Kind}
use Rattle.dc_types.specs.declared.kind.BinOp.{BinOp}
use Rattle.dc_types.specs.declared.kind.BinOp.TheVariants as binop
use Rattle.dc_types.specs.Integers.{InKind, FitsRight, wrap}
use Rattle.dc_types.proofs.Integers.{InKind-wrap}
use Rattle.dc_code.specs.Table.{second_kind}

pub in_kind : (k : Kind) (z v : ℤ) → v ≡ wrap k z → InKind k v
in_kind k z v e = subst (InKind k) (sym e) (InKind-wrap k z)

pub fits_second : (o : BinOp) (k : Kind) (v : ℤ) → InKind (second_kind o k) v → FitsRight o k v
fits_second binop.Shl k v h = tt
fits_second binop.Shr k v h = tt
fits_second binop.Ushr k v h = tt
fits_second _ k v h = h
