-- What the arithmetic asks of its numbers.
use Rattle.std.proofs.Common.{◌≡◌, ◌∙◌, ℤ, sym, subst, Bool, IsTrue, ◌≤ℤ◌}
use Rattle.dc_candidate.specs.declared.range.Range.{Range}
use Rattle.dc_convert.specs.Ranges.{IsRange, lies}
use Rattle.dc_convert.proofs.Ends.{lies_is}
use Rattle.dc_convert.proofs.Keeping.{true_of}
use Rattle.dc_types.specs.declared.kind.Kind.{Kind}
use Rattle.dc_types.specs.declared.kind.BinOp.{BinOp}
use Rattle.dc_types.specs.declared.kind.BinOp.TheVariants as binop
use Rattle.dc_types.specs.Integers.{InKind, FitsRight, wrap}
use Rattle.dc_types.proofs.Integers.{InKind-wrap}
use Rattle.dc_fold.specs.Seconds.{second_kind}

pub in_kind : (k : Kind) (z v : ℤ) → v ≡ wrap k z → InKind k v
in_kind k z v e = subst (InKind k) (sym e) (InKind-wrap k z)

pub fits_second : (o : BinOp) (k : Kind) (v : ℤ) → InKind (second_kind o k) v → FitsRight o k v
fits_second binop.Shl k v h = tt
fits_second binop.Shr k v h = tt
fits_second binop.Ushr k v h = tt
fits_second _ k v h = h

pub ranged : (r : Range) (k : Kind) (b : Bool) → b ≡ lies r k → r.lo ≤ℤ r.hi → IsTrue b → IsRange r
ranged r k b e some h = let t = (lies_is r k).0 (sym e ∙ true_of b h) in record { kind = k; from = t.0; some = some; to = t.1 }
