-- The ranges of operations: intervals of whole numbers among which all results lie (D specification, "Types",
-- "Implicit Conversions", value range propagation).
use Rattle.std.specs.Prelude.{ℕ, ◌-◌, ◌^◌, Bool, ◌&&◌, ◌||◌, ℤ, pos, ◌+ℤ◌, ◌-ℤ◌, ◌*ℤ◌, ◌≤ℤ◌, ◌<ℤ◌, neg_ℤ, unsigned_abs, int_lt, int_le, int_div, if◌then◌else◌}
use Rattle.std.specs.Int.{int_min, int_max, int_div_euclid, leading_zeros, w64}
use Rattle.std.specs.Ordering.{int_eq}
use Rattle.dc_types.specs.declared.kind.Kind.{Kind}
use Rattle.dc_types.specs.declared.kind.BinOp.{BinOp}
use Rattle.dc_types.specs.declared.kind.BinOp.TheVariants as binop
use Rattle.dc_candidate.specs.declared.range.Range.{Range}
use Rattle.dc_types.specs.Integers.{is_signed, least, greatest, can_shift}

-- z lies in the range
pub record Within (r : Range) (z : ℤ) : Type 0 where
  pub at_least : r.lo ≤ℤ z
  pub at_most : z ≤ℤ r.hi

-- each number of the one lies in the other, by their ends
pub record IsInside (r outer : Range) : Type 0 where
  pub from : outer.lo ≤ℤ r.lo
  pub to : r.hi ≤ℤ outer.hi

-- the range has a number, and lies in that of some kind
pub record IsRange (r : Range) : Type 0 where
  pub kind : Kind
  pub from : least kind ≤ℤ r.lo
  pub some : r.lo ≤ℤ r.hi
  pub to : r.hi ≤ℤ greatest kind

-- the range has a number, and lies from -2 ^ 63 to 2 ^ 64 - 1
pub record IsWide (r : Range) : Type 0 where
  pub from : neg_ℤ (pos (2 ^ 63)) ≤ℤ r.lo
  pub some : r.lo ≤ℤ r.hi
  pub to : r.hi <ℤ pos (2 ^ 64)

-- all numbers of a kind
unfoldable pub whole : Kind → Range
whole k = record { lo = least k; hi = greatest k }

-- the range lies in that of the kind
unfoldable pub lies : Range → Kind → Bool
lies r k = int_le (least k) r.lo && int_le r.hi (greatest k)

-- the range where it lies in that of the kind, and else all numbers of the kind
unfoldable pub fitted : Kind → Range → Range
fitted k r = if lies r k then r else whole k

-- the least range with these four numbers
unfoldable pub spanned : ℤ → ℤ → ℤ → ℤ → Range
spanned w x y z = record { lo = int_min (int_min w x) (int_min y z); hi = int_max (int_max w x) (int_max y z) }

-- the least range with all numbers of both
unfoldable pub hull : Range → Range → Range
hull a b = record { lo = int_min a.lo b.lo; hi = int_max a.hi b.hi }

-- the range has no number below 0
abbrev pub from_zero : Range → Bool
from_zero r = int_le (pos 0) r.lo

-- the range has numbers above 0 alone
abbrev pub above_zero : Range → Bool
above_zero r = int_lt (pos 0) r.lo

-- of `+` and `-`: all results
unfoldable pub sum : Range → Range → Range
sum a b = record { lo = a.lo +ℤ b.lo; hi = a.hi +ℤ b.hi }

unfoldable pub difference : Range → Range → Range
difference a b = record { lo = a.lo -ℤ b.hi; hi = a.hi -ℤ b.lo }

-- of `*`: the least range with all results, whose ends are products of ends
unfoldable pub product : Range → Range → Range
product a b = spanned (a.lo *ℤ b.lo) (a.lo *ℤ b.hi) (a.hi *ℤ b.lo) (a.hi *ℤ b.hi)

-- the quotients of ends say where all quotients lie: the divisor is above 0, and no number is below 0 in an unsigned kind
abbrev pub has_quotient : Kind → Range → Range → Bool
has_quotient k a b = above_zero b && (is_signed k || from_zero a)

-- of `/` by numbers above 0: the least range with the quotients of ends
unfoldable pub quotient : Kind → Range → Range → Range
quotient k a b =
    if has_quotient k a b
    then fitted k (spanned (int_div a.lo b.lo) (int_div a.lo b.hi) (int_div a.hi b.lo) (int_div a.hi b.hi))
    else whole k

-- of `%` by numbers above 0: less than the divisor, and with the sign of the dividend
unfoldable pub remainder : Kind → Range → Range → Range
remainder k a b =
    if above_zero b
    then fitted k (if from_zero a then record { lo = pos 0; hi = int_min a.hi (b.hi -ℤ pos 1) } else record { lo = pos 1 -ℤ b.hi; hi = b.hi -ℤ pos 1 })
    else whole k

-- of `&`, where a side has no number below 0: up to the least upper end of such sides
unfoldable pub conjunction : Kind → Range → Range → Range
conjunction k a b =
    if from_zero a
    then fitted k (record { lo = pos 0; hi = if from_zero b then int_min a.hi b.hi else a.hi })
    else (if from_zero b then fitted k (record { lo = pos 0; hi = b.hi }) else whole k)

-- the least of the numbers 0, 1, 3, 7, .. that isn't below m, which has at most 64 bits
unfoldable pub ones : ℕ → ℕ
ones m = 2 ^ (64 - leading_zeros w64 m) - 1

-- of `|`, where both sides have no number below 0: no result has more bits than both
unfoldable pub disjunction : Kind → Range → Range → Range
disjunction k a b =
    if from_zero a && from_zero b
    then fitted k (record { lo = int_max a.lo b.lo; hi = pos (ones (unsigned_abs (int_max a.hi b.hi))) })
    else whole k

-- of `>>` by one count that is allowed: both ends are shifted
unfoldable pub shifted : Kind → Range → Range → Range
shifted k a b =
    if int_eq b.lo b.hi && can_shift k b.lo
    then fitted k (record { lo = int_div_euclid a.lo (pos (2 ^ unsigned_abs b.lo)); hi = int_div_euclid a.hi (pos (2 ^ unsigned_abs b.lo)) })
    else whole k

-- The range of `a op b` in a kind. A range past that of the kind becomes all numbers of the kind.
unfoldable pub range_of : BinOp → Kind → Range → Range → Range
range_of binop.Add k a b = fitted k (sum a b)
range_of binop.Sub k a b = fitted k (difference a b)
range_of binop.Mul k a b = fitted k (product a b)
range_of binop.Div k a b = quotient k a b
range_of binop.Rem k a b = remainder k a b
range_of binop.BitAnd k a b = conjunction k a b
range_of binop.BitOr k a b = disjunction k a b
range_of binop.BitXor k a b = whole k
range_of binop.Shl k a b = whole k
range_of binop.Shr k a b = shifted k a b
range_of binop.Ushr k a b = whole k
