-- The values of the operators are numbers of the kind, and those that need no reduction.
use Rattle.std.proofs.Common.{◌≡◌, ℕ, zero, suc, ◌/◌, ◌%◌, ◌^◌, ◌<◌, ◌≤◌, Bool, true, false, cond, Result, Ok, Err, ℤ, pos, negsuc, neg_ℤ, ◌+ℤ◌, ◌≤ℤ◌, unsigned_abs, refl, sym, ap, ◌∙◌, arith, subst, true≢false, not, ◌&&◌}
use Rattle.std.specs.Int.{int_div_euclid}
use Rattle.std.specs.Int.RustNames.{int_div, int_rem}
use Rattle.std.specs.Ordering.{int_eq}
use Rattle.std.proofs.lemmas.Int.{ints}
use Rattle.std.proofs.Math.Nat.{div-le_self, div-lt_self, div-one, mod-le}
use Rattle.std.proofs.lemmas.Bool.Decides.{Decides-int_eq}
use borrow.Author.Differences.{up, down}
use Rattle.dc_types.specs.declared.kind.Kind.{Kind}
use Rattle.dc_types.specs.declared.kind.Kind.TheVariants as kind
use Rattle.dc_types.specs.declared.kind.BinOp.{BinOp}
use Rattle.dc_types.specs.declared.kind.BinOp.TheVariants as binop
use Rattle.dc_types.specs.declared.kind.UnOp.{UnOp}
use Rattle.dc_types.specs.declared.kind.UnOp.TheVariants as unop
use Rattle.dc_types.specs.declared.event.TrapKind.{TrapKind}
use Rattle.dc_types.specs.declared.event.TrapKind.TheVariants as trap
use Rattle.dc_types.specs.Integers.{FitsRight, least, greatest, InKind, wrap, can_divide, can_shift, binary, unary}
use Rattle.dc_types.proofs.Integers.{InKind-wrap, wrap_in_kind}

-- 0 is a number of each kind, and so is 1
pub zero_in_kind : (k : Kind) → InKind k (pos 0)
unfolding least greatest
zero_in_kind kind.Bool = record { at_least = omega (arith, ints); at_most = omega (arith, ints) }
zero_in_kind kind.I8 = record { at_least = omega (arith, ints); at_most = omega (arith, ints) }
zero_in_kind kind.I16 = record { at_least = omega (arith, ints); at_most = omega (arith, ints) }
zero_in_kind kind.I32 = record { at_least = omega (arith, ints); at_most = omega (arith, ints) }
zero_in_kind kind.I64 = record { at_least = omega (arith, ints); at_most = omega (arith, ints) }
zero_in_kind kind.U8 = record { at_least = omega (arith, ints); at_most = omega (arith, ints) }
zero_in_kind kind.U16 = record { at_least = omega (arith, ints); at_most = omega (arith, ints) }
zero_in_kind kind.U32 = record { at_least = omega (arith, ints); at_most = omega (arith, ints) }
zero_in_kind kind.U64 = record { at_least = omega (arith, ints); at_most = omega (arith, ints) }
zero_in_kind kind.Char = record { at_least = omega (arith, ints); at_most = omega (arith, ints) }

pub one_in_kind : (k : Kind) → InKind k (pos 1)
unfolding least greatest
one_in_kind kind.Bool = record { at_least = omega (arith, ints); at_most = omega (arith, ints) }
one_in_kind kind.I8 = record { at_least = omega (arith, ints); at_most = omega (arith, ints) }
one_in_kind kind.I16 = record { at_least = omega (arith, ints); at_most = omega (arith, ints) }
one_in_kind kind.I32 = record { at_least = omega (arith, ints); at_most = omega (arith, ints) }
one_in_kind kind.I64 = record { at_least = omega (arith, ints); at_most = omega (arith, ints) }
one_in_kind kind.U8 = record { at_least = omega (arith, ints); at_most = omega (arith, ints) }
one_in_kind kind.U16 = record { at_least = omega (arith, ints); at_most = omega (arith, ints) }
one_in_kind kind.U32 = record { at_least = omega (arith, ints); at_most = omega (arith, ints) }
one_in_kind kind.U64 = record { at_least = omega (arith, ints); at_most = omega (arith, ints) }
one_in_kind kind.Char = record { at_least = omega (arith, ints); at_most = omega (arith, ints) }

-- A number between 0 and one of the kind is of the kind.
pub in_kind_below : (k : Kind) (a z : ℤ) → InKind k a → pos 0 ≤ℤ z → z ≤ℤ a → InKind k z
in_kind_below k a z h low high = let o = zero_in_kind k in record { at_least = omega (arith, ints, o.at_least); at_most = omega (arith, ints, h.at_most) }

pub in_kind_above : (k : Kind) (a z : ℤ) → InKind k a → a ≤ℤ z → z ≤ℤ pos 0 → InKind k z
in_kind_above k a z h low high = let o = zero_in_kind k in record { at_least = omega (arith, ints, h.at_least); at_most = omega (arith, ints, o.at_most) }

-- ---- remainders and shifts to the right lie between 0 and the left operand

neg_at_most : (m n : ℕ) → n ≤ suc m → (negsuc m ≤ℤ neg_ℤ (pos n)) × (neg_ℤ (pos n) ≤ℤ pos 0)
neg_at_most m zero h = (omega (arith, ints), omega (arith, ints))
neg_at_most m (suc n) h = (omega (arith, ints), omega (arith, ints))

pub remainder_in_kind : (k : Kind) (a b : ℤ) → InKind k a → InKind k (int_rem a b)
remainder_in_kind k (pos m) b h = let s = mod-le m (unsigned_abs b) in in_kind_below k (pos m) (pos (m % unsigned_abs b)) h (omega (arith, ints)) (omega (arith, ints))
remainder_in_kind k (negsuc m) b h = let s = neg_at_most m (suc m % unsigned_abs b) (mod-le (suc m) (unsigned_abs b)) in in_kind_above k (negsuc m) (neg_ℤ (pos (suc m % unsigned_abs b))) h s.0 s.1

pub shifted_in_kind : (k : Kind) (a : ℤ) (n : ℕ) → InKind k a → InKind k (int_div_euclid a (pos n))
shifted_in_kind k (pos m) n h = let s = div-le_self m n in in_kind_below k (pos m) (pos (m / n)) h (omega (arith, ints)) (omega (arith, ints))
shifted_in_kind k (negsuc m) n h = let s = div-le_self m n in in_kind_above k (negsuc m) (negsuc (m / n)) h (omega (arith, ints)) (omega (arith, ints))

-- ---- whatever an operator gives is a number of the kind

reduced : (k : Kind) (y z : ℤ) (r : Result ℤ TrapKind) → r ≡ Ok (wrap k y) → r ≡ Ok z → InKind k z
reduced k y z r e d = let same : wrap k y ≡ z = cc in subst (InKind k) same (InKind-wrap k y)

tested : (t : Bool) (k : Kind) (y z : ℤ) (trap : TrapKind) → cond t (Ok (wrap k y)) (Err trap) ≡ Ok z → InKind k z
tested true k y z trap e = reduced k y z _ refl e
tested false k y z trap e = absurd (cc)

pub InKind-binary : (op : BinOp) (k : Kind) (a b z : ℤ) → binary op k a b ≡ Ok z → InKind k z
unfolding binary
InKind-binary binop.Add k a b z e = reduced k _ z _ refl e
InKind-binary binop.Sub k a b z e = reduced k _ z _ refl e
InKind-binary binop.Mul k a b z e = reduced k _ z _ refl e
InKind-binary binop.Div k a b z e = tested _ k _ z _ e
InKind-binary binop.Rem k a b z e = tested _ k _ z _ e
InKind-binary binop.BitAnd k a b z e = reduced k _ z _ refl e
InKind-binary binop.BitOr k a b z e = reduced k _ z _ refl e
InKind-binary binop.BitXor k a b z e = reduced k _ z _ refl e
InKind-binary binop.Shl k a b z e = tested _ k _ z _ e
InKind-binary binop.Shr k a b z e = tested _ k _ z _ e
InKind-binary binop.Ushr k a b z e = tested _ k _ z _ e

turned : (t : Bool) (k : Kind) → InKind k (cond t (pos 1) (pos 0))
turned true k = one_in_kind k
turned false k = zero_in_kind k

pub InKind-unary : (op : UnOp) (k : Kind) (a : ℤ) → InKind k (unary op k a)
unfolding unary
InKind-unary unop.Negate k a = InKind-wrap k _
InKind-unary unop.Flip k a = InKind-wrap k _
InKind-unary unop.Not k a = turned (int_eq a (pos 0)) k

-- ---- a quotient that has a value is a number of the kind

-- the least and the greatest number of a kind: from 0 up, or as many below 0 as from 0 up
data Shape (low high : ℤ) : Type 0 where
  from_zero : low ≡ pos 0 → Shape low high
  around : (half : ℕ) → low ≡ neg_ℤ (pos half) → high +ℤ pos 1 ≡ pos half → Shape low high

shape : (k : Kind) → Shape (least k) (greatest k)
unfolding least greatest
shape kind.Bool = from_zero refl
shape kind.I8 = around (2 ^ 7) refl refl
shape kind.I16 = around (2 ^ 15) refl refl
shape kind.I32 = around (2 ^ 31) refl refl
shape kind.I64 = around (2 ^ 63) refl refl
shape kind.U8 = from_zero refl
shape kind.U16 = from_zero refl
shape kind.U32 = from_zero refl
shape kind.U64 = from_zero refl
shape kind.Char = from_zero refl

neg_below : (m n : ℕ) → n ≤ m → (neg_ℤ (pos m) ≤ℤ neg_ℤ (pos n)) × (neg_ℤ (pos n) ≤ℤ pos 0)
neg_below m n h = (omega (arith, ints), omega (arith, ints))

-- the least number, from below 0, by a number other than 0 and -1
quotient_below : (half m n : ℕ) → suc m ≤ half → (n ≡ 0 → suc m ≡ half → ⊥) → suc m / suc n < half
quotient_below half m zero h ne = let e : suc m / 1 ≡ suc m = div-one (suc m) in le_by half (suc m) (suc m / 1) h (ne refl) e
  where
    le_by : (half m q : ℕ) → m ≤ half → (m ≡ half → ⊥) → q ≡ m → q < half
    le_by half m q h ne e = omega (arith, ne)
quotient_below half m (suc n) h ne = let less : suc m / suc (suc n) < suc m = div-lt_self (omega arith) (omega arith) in omega arith

quotient_within : (k : Kind) (a b : ℤ) (s : Shape (least k) (greatest k)) → InKind k a → InKind k b → (b ≡ pos 0 → ⊥) → (a ≡ least k → b ≡ neg_ℤ (pos 1) → ⊥) → InKind k (int_div a b)
quotient_within k (pos m) (pos n) s h i ne free = let d = div-le_self m n in in_kind_below k (pos m) (pos (m / n)) h (omega (arith, ints)) (omega (arith, ints))
quotient_within k (pos m) (negsuc n) (from_zero e) h i ne free = absurd (omega (arith, ints, ap up e, ap down e, i.at_least))
quotient_within k (pos m) (negsuc n) (around half e d) h i ne free =
    let s = neg_below m (m / suc n) (div-le_self m (suc n)) in
    let o = zero_in_kind k in
    record { at_least = omega (arith, ints, s.0, h.at_most, ap up e, ap down e, ap up d, ap down d); at_most = omega (arith, ints, s.1, o.at_most) }
quotient_within k (negsuc m) b (from_zero e) h i ne free = absurd (omega (arith, ints, ap up e, ap down e, h.at_least))
quotient_within k (negsuc m) (pos n) (around half e d) h i ne free = let s = neg_at_most m (suc m / n) (div-le_self (suc m) n) in in_kind_above k (negsuc m) (neg_ℤ (pos (suc m / n))) h s.0 s.1
quotient_within k (negsuc m) (negsuc n) (around half e d) h i ne free =
    let within : suc m ≤ half = omega (arith, ints, ap up e, ap down e, h.at_least) in
    let o = zero_in_kind k in
    let less = quotient_below half m n within (λ z w. free (sym (e ∙ ap (λ n. neg_ℤ (pos n)) (sym w))) (ap negsuc z)) in
    record { at_least = omega (arith, ints, o.at_least); at_most = omega (arith, ints, less, ap up d, ap down d) }

no_zero : (k : Kind) (a b : ℤ) → can_divide k a b ≡ true → b ≡ pos 0 → ⊥
unfolding can_divide
no_zero k a b t e = true≢false (sym t ∙ ap (can_divide k a) e)

int_eq_refl : (a : ℤ) → int_eq a a ≡ true
int_eq_refl a = (Decides-int_eq a a).1 refl

no_least : (k : Kind) (a b : ℤ) → can_divide k a b ≡ true → a ≡ least k → b ≡ neg_ℤ (pos 1) → ⊥
unfolding can_divide
no_least k a b t e d = true≢false (sym t ∙ ap (λ a. can_divide k a b) e ∙ ap (can_divide k (least k)) d ∙ ap (λ t. not (t && true)) (int_eq_refl (least k)))

pub quotient_in_kind : (k : Kind) (a b : ℤ) → InKind k a → InKind k b → can_divide k a b ≡ true → InKind k (int_div a b)
quotient_in_kind k a b h i t = quotient_within k a b (shape k) h i (no_zero k a b t) (no_least k a b t)

-- ---- `/`, `%` and `>>` are those of whole numbers

pub binary-Div : (k : Kind) (a b : ℤ) → InKind k a → InKind k b → can_divide k a b ≡ true → binary binop.Div k a b ≡ Ok (int_div a b)
unfolding binary
binary-Div k a b h i t = ap (λ t. cond t (Ok (wrap k (int_div a b))) (Err trap.Divide)) t ∙ ap Ok (wrap_in_kind k (int_div a b) (quotient_in_kind k a b h i t))

pub binary-Rem : (k : Kind) (a b : ℤ) → InKind k a → can_divide k a b ≡ true → binary binop.Rem k a b ≡ Ok (int_rem a b)
unfolding binary
binary-Rem k a b h t = ap (λ t. cond t (Ok (wrap k (int_rem a b))) (Err trap.Divide)) t ∙ ap Ok (wrap_in_kind k (int_rem a b) (remainder_in_kind k a b h))

pub binary-Shr : (k : Kind) (a b : ℤ) → InKind k a → can_shift k b ≡ true → binary binop.Shr k a b ≡ Ok (int_div_euclid a (pos (2 ^ unsigned_abs b)))
unfolding binary
binary-Shr k a b h t = ap (λ t. cond t (Ok (wrap k (int_div_euclid a (pos (2 ^ unsigned_abs b))))) (Err trap.Shift)) t ∙ ap Ok (wrap_in_kind k _ (shifted_in_kind k a (2 ^ unsigned_abs b) h))

-- A number of the kind may stand to the right of each operator.
pub fits_right : (op : BinOp) (k : Kind) (b : ℤ) → InKind k b → FitsRight op k b
fits_right binop.Add k b h = h
fits_right binop.Sub k b h = h
fits_right binop.Mul k b h = h
fits_right binop.Div k b h = h
fits_right binop.Rem k b h = h
fits_right binop.BitAnd k b h = h
fits_right binop.BitOr k b h = h
fits_right binop.BitXor k b h = h
fits_right binop.Shl k b h = tt
fits_right binop.Shr k b h = tt
fits_right binop.Ushr k b h = tt
