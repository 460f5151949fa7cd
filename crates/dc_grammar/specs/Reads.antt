-- What the public calls promise.
use Rattle.std.specs.Prelude.{◌≡◌, ◌↔◌, ◌⊎◌, ℕ, ◌≤◌, length, slice_range}
use Rattle.dc_ast.specs.declared.expression.Expr.{Expr}
use Rattle.dc_ast.specs.declared.types.TypeTree.{TypeTree}
use Rattle.dc_ast.specs.declared.expression.Argument.{Argument}
use Rattle.dc_ast.specs.declared.expression.Argument.TheVariants as a
use Rattle.dc_grammar.specs.declared.reading.Read.{Read}
use Rattle.dc_grammar.specs.declared.reading.Read.TheVariants.{Found, Nothing}
use Rattle.dc_grammar.specs.Terminals.{Tokens}
use Rattle.dc_grammar.specs.Grammar.{IsExpr, IsType, IsArgument}

-- the longest text of its kind that begins at a token, and its end
pub record Longest {A : Type 0} (P : Tokens → A → Type 0) (tokens : Tokens) (from : ℕ) (tree : A) (end : ℕ) : Type 0 where
  pub within : end ≤ length tokens
  pub is : P (slice_range tokens from end) tree
  pub longest : (to : ℕ) (other : A) → to ≤ length tokens → P (slice_range tokens from to) other → to ≤ end

-- what was read at a token: the longest text of its kind, or nothing where none begins there
abbrev pub IsReadAt : {A : Type 0} → (Tokens → A → Type 0) → Tokens → ℕ → Read A → Type 0
IsReadAt P tokens from (Found tree end) = Longest P tokens from tree end
IsReadAt {A} P tokens from Nothing = (to : ℕ) (other : A) → to ≤ length tokens → P (slice_range tokens from to) other → ⊥

-- A list of tokens has at most one tree of each kind.
pub record OneTree : Type 0 where
  pub expr : (tokens : Tokens) (x y : Expr) → IsExpr tokens x → IsExpr tokens y → x ≡ y
  pub type : (tokens : Tokens) (x y : TypeTree) → IsType tokens x → IsType tokens y → x ≡ y
  pub argument : (tokens : Tokens) (x y : Argument) → IsArgument tokens x → IsArgument tokens y → x ≡ y

-- An argument is the expression that it reads as, and a type where it reads as none.
abbrev pub MeansArgument : Tokens → Argument → Type 0
MeansArgument tokens y = ((x : Expr) × (y ≡ a.Value x) × IsExpr tokens x) ⊎ ((t : TypeTree) × (y ≡ a.OfType t) × IsType tokens t × ((x : Expr) → IsExpr tokens x → ⊥))

abbrev pub ExprFirst : Type 0
ExprFirst = (tokens : Tokens) (y : Argument) → IsArgument tokens y ↔ MeansArgument tokens y
