-- What a `new` makes. Its tree holds a base and what stands behind it; here that is divided into the brackets of the
-- type, the length, and what is done to the new array.
use Rattle.std.specs.Prelude.{List, [], ◌∷◌, Option, Some, None}
use Rattle.dc_ast.specs.declared.expression.Argument.{Argument}
use Rattle.dc_ast.specs.declared.expression.Argument.TheOpen.{Suffix-F}
use Rattle.dc_ast.specs.declared.expression.Argument.TheViews.{out-Suffix}
use Rattle.dc_ast.specs.declared.expression.Expr.{Expr}
use Rattle.dc_ast.specs.declared.expression.ExprKind.{ExprKind}
use Rattle.dc_ast.specs.declared.expression.Step.{Step}
use Rattle.dc_ast.specs.declared.expression.Suffix.{Suffix}
use Rattle.dc_ast.specs.declared.expression.Symbol.{Symbol}
use Rattle.dc_ast.specs.declared.expression.IsTree.{IsTree}
use Rattle.dc_ast.specs.declared.expression.IsTest.{IsTest}
use Rattle.dc_ast.specs.declared.expression.IsAgainst.{IsAgainst}
use Rattle.dc_ast.specs.declared.types.TypeTree.{TypeTree}
use Rattle.dc_ast.specs.declared.types.Base.{Base}
use Rattle.dc_ast.specs.declared.types.Bracket.{Bracket}
use Rattle.dc_ast.specs.declared.types.Bracket.TheVariants as d

pub record NewArray : Type 0 where
  -- of the type that is made, behind its base
  pub brackets : List Bracket
  -- how many elements it has
  pub count : Expr
  -- what is done to it
  pub behind : List Suffix

-- a suffix, as its form
abbrev pub Form : Type 0
Form = Suffix-F Argument ExprKind IsAgainst Suffix Base Bracket Expr IsTest IsTree Step Symbol TypeTree

abbrev pub with_bracket : Bracket → Option NewArray → Option NewArray
with_bracket b (Some y) = Some (record { brackets = b ∷ y.brackets; count = y.count; behind = y.behind })
with_bracket b None = None

abbrev pub called_at : Form → List Suffix → Option NewArray → Option NewArray
called_at (Suffix-F.Call (x ∷ [])) ts more = Some (record { brackets = []; count = x; behind = ts })
called_at Suffix-F.All ts more = with_bracket d.Slice more
called_at (Suffix-F.Index n) ts more = with_bracket (d.Fixed n) more
called_at _ ts more = None

-- "new" Type "(" Expr ")": the brackets before the call are those of the type
abbrev pub called : List Suffix → Option NewArray
called [] = None
called (t ∷ ts) = called_at (out-Suffix t) ts (called ts)

abbrev pub counted_at : Form → List Suffix → Option NewArray → Option NewArray
counted_at (Suffix-F.Index n) ts more = Some (record { brackets = d.Slice ∷ []; count = n; behind = ts })
counted_at Suffix-F.All ts more = with_bracket d.Slice more
counted_at _ ts more = None

-- "new" Base {"[" "]"} "[" Expr "]": the type has `[]` in place of `[n]`, as `new T[n]` is `new T[](n)`
abbrev pub counted : List Suffix → Option NewArray
counted [] = None
counted (t ∷ ts) = counted_at (out-Suffix t) ts (counted ts)

abbrev pub first_of : Option NewArray → Option NewArray → Option NewArray
first_of (Some y) other = Some y
first_of None other = other

-- Where both are there, it is the first: `new T[n](x)` has the type `T[n]` and the length x.
unfoldable pub new_array : List Suffix → Option NewArray
new_array ts = first_of (called ts) (counted ts)
