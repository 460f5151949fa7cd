-- What a `new` makes, computed on what stands behind the base.
use Rattle.std.proofs.Common.{◌≡◌, List, [], ◌∷◌, Some, None, refl}
use Rattle.dc_ast.specs.declared.expression.Argument.TheOpen.{Suffix-F}
use Rattle.dc_ast.specs.declared.expression.Argument.TheViews.{roll-Suffix, out-roll-Suffix}
use Rattle.dc_ast.specs.declared.expression.Expr.{Expr}
use Rattle.dc_ast.specs.declared.expression.Suffix.{Suffix}
use Rattle.dc_ast.specs.declared.expression.Suffix.TheVariants as s
use Rattle.dc_ast.specs.declared.expression.Symbol.{Symbol}
use Rattle.dc_ast.specs.declared.types.Bracket.{Bracket}
use Rattle.dc_ast.specs.declared.types.Bracket.TheVariants as d
use Rattle.dc_grammar.specs.NewArrays.{NewArray, Form, new_array, called, called_at, counted, counted_at, first_of, with_bracket}

abbrev made : List Bracket → Expr → List Suffix → NewArray
made brackets count behind = record { brackets = brackets; count = count; behind = behind }

abbrev all : Suffix
all = roll-Suffix Suffix-F.All

abbrev index : Expr → Suffix
index n = roll-Suffix (Suffix-F.Index n)

abbrev call : List Expr → Suffix
call xs = roll-Suffix (Suffix-F.Call xs)

abbrev slice : Expr → Expr → Suffix
slice a b = roll-Suffix (Suffix-F.«Suffix::Slice» a b)

abbrev member : Symbol → Suffix
member y = roll-Suffix (Suffix-F.Member y)

-- these are the forms of suffixes
forms : (n a b : Expr) (xs : List Expr) (y : Symbol) → (all ≡ s.All) × (index n ≡ s.Index n) × (call xs ≡ s.Call xs) × (slice a b ≡ s.Slice a b) × (member y ≡ s.Member y)
unfolding roll-Suffix denote.Hole.Carrier.roll
forms n a b xs y = (refl, refl, refl, refl, refl)

-- `new T[n](x)[i]`, `new T[](x)`, `new T(x)`
is_called : (n x i : Expr) → (new_array (index n ∷ call (x ∷ []) ∷ index i ∷ []) ≡ Some (made (d.Fixed n ∷ []) x (index i ∷ [])))
    × (new_array (all ∷ call (x ∷ []) ∷ []) ≡ Some (made (d.Slice ∷ []) x []))
    × (new_array (call (x ∷ []) ∷ []) ≡ Some (made [] x []))
unfolding new_array
is_called n x i = (rw (out-roll-Suffix (Suffix-F.Index n), out-roll-Suffix (Suffix-F.Call (x ∷ []))) refl, rw (out-roll-Suffix Suffix-F.All, out-roll-Suffix (Suffix-F.Call (x ∷ []))) refl, rw (out-roll-Suffix (Suffix-F.Call (x ∷ []))) refl)

-- `new T[n]`, `new T[][n][i]`
is_counted : (n i : Expr) → (new_array (index n ∷ []) ≡ Some (made (d.Slice ∷ []) n []))
    × (new_array (all ∷ index n ∷ index i ∷ []) ≡ Some (made (d.Slice ∷ d.Slice ∷ []) n (index i ∷ [])))
unfolding new_array
is_counted n i = (rw (out-roll-Suffix (Suffix-F.Index n)) refl, rw (out-roll-Suffix Suffix-F.All, out-roll-Suffix (Suffix-F.Index n), out-roll-Suffix (Suffix-F.Index i)) refl)

-- the call is done to the array in `new T[n]()`, `new T[n](x, y)`, `new T[n][a .. b](x)` and `new T[n].f(x)`
is_counted_first : (n x y a b : Expr) (f : Symbol) → (new_array (index n ∷ call [] ∷ []) ≡ Some (made (d.Slice ∷ []) n (call [] ∷ [])))
    × (new_array (index n ∷ call (x ∷ y ∷ []) ∷ []) ≡ Some (made (d.Slice ∷ []) n (call (x ∷ y ∷ []) ∷ [])))
    × (new_array (index n ∷ slice a b ∷ call (x ∷ []) ∷ []) ≡ Some (made (d.Slice ∷ []) n (slice a b ∷ call (x ∷ []) ∷ [])))
    × (new_array (index n ∷ member f ∷ call (x ∷ []) ∷ []) ≡ Some (made (d.Slice ∷ []) n (member f ∷ call (x ∷ []) ∷ [])))
unfolding new_array
is_counted_first n x y a b f = (
  rw (out-roll-Suffix (Suffix-F.Index n), out-roll-Suffix (Suffix-F.Call [])) refl,
  rw (out-roll-Suffix (Suffix-F.Index n), out-roll-Suffix (Suffix-F.Call (x ∷ y ∷ []))) refl,
  rw (out-roll-Suffix (Suffix-F.Index n), out-roll-Suffix (Suffix-F.«Suffix::Slice» a b)) refl,
  rw (out-roll-Suffix (Suffix-F.Index n), out-roll-Suffix (Suffix-F.Member f)) refl,
)

-- `new T`, `new T[]`, `new T[a .. b]` and `new T()` have no length
has_none : (a b : Expr) → (new_array [] ≡ None) × (new_array (all ∷ []) ≡ None) × (new_array (slice a b ∷ []) ≡ None) × (new_array (call [] ∷ []) ≡ None)
unfolding new_array
has_none a b = (refl, rw (out-roll-Suffix Suffix-F.All) refl, rw (out-roll-Suffix (Suffix-F.«Suffix::Slice» a b)) refl, rw (out-roll-Suffix (Suffix-F.Call [])) refl)
