-- Lists of tokens that have no tree, and where they are refused; and what holds of those that have one.
use Rattle.std.specs.Prelude.{◌≡◌, ◌⊎◌, ℕ, Bool, false, [], ◌∷◌, Some, None, drop}
use Rattle.dc_token.specs.declared.token.Token.{Token}
use Rattle.dc_ast.specs.declared.expression.Expr.{Expr}
use Rattle.dc_ast.specs.declared.statement.Stmt.{Stmt}
use Rattle.dc_ast.specs.declared.statement.StmtKind.TheVariants as t
use Rattle.dc_ast.specs.declared.statement.VariableTree.{VariableTree}
use Rattle.dc_ast.specs.declared.declaration.Declaration.{Declaration}
use Rattle.dc_grammar.specs.declared.terminal.Terminal.TheVariants as k
use Rattle.dc_grammar.specs.Terminals.{Tokens, start_of}
use Rattle.dc_grammar.specs.MoreTrees.{stmt, branch}
use Rattle.dc_grammar.specs.Grammar.{◌·◌, Mark}
use Rattle.dc_grammar.specs.Parts.{Head, IsVariable}
use Rattle.dc_grammar.specs.Statements.{IsStmt, AreStmts, begins_if}
use Rattle.dc_grammar.specs.Declarations.{IsDecl, AreDecls, IsModule}
use Rattle.dc_grammar.specs.Reads.{Longest}

-- the first token behind the longest list of its kind that begins the tokens
pub record IsRefusedAt {A : Type 0} (P : Tokens → A → Type 0) (tokens : Tokens) (token : Token) : Type 0 where
  pub tree : A
  pub end : ℕ
  pub rest : Tokens
  pub longest : Longest P tokens 0 tree end
  pub here : drop end tokens ≡ token ∷ rest

-- A list of tokens either has a tree, and then just one, or is refused, at just one token. Some longest list of the kind
-- begins it, and just one.
pub record Divides {A : Type 0} (P : Tokens → A → Type 0) : Type 0 where
  pub either : (tokens : Tokens) → ((x : A) × P tokens x) ⊎ ((token : Token) × IsRefusedAt P tokens token)
  pub never_both : (tokens : Tokens) (x : A) (token : Token) → P tokens x → IsRefusedAt P tokens token → ⊥
  pub one_tree : (tokens : Tokens) (x y : A) → P tokens x → P tokens y → x ≡ y
  pub longest : (tokens : Tokens) → (x : A) × (end : ℕ) × Longest P tokens 0 x end
  pub one_longest : (tokens : Tokens) (x y : A) (m n : ℕ) → Longest P tokens 0 x m → Longest P tokens 0 y n → (x ≡ y) × (m ≡ n)
  pub one_place : (tokens : Tokens) (token other : Token) → IsRefusedAt P tokens token → IsRefusedAt P tokens other → token ≡ other

pub record ListsDivide : Type 0 where
  pub modules : Divides IsModule
  pub declarations : Divides AreDecls
  pub statements : Divides AreStmts

-- A text is at most one statement and one declaration.
pub record OneItem : Type 0 where
  pub statement : (tokens : Tokens) (o p : Bool) (x y : Stmt) → IsStmt o tokens x → IsStmt p tokens y → (o ≡ p) × (x ≡ y)
  pub declaration : (tokens : Tokens) (o p : Bool) (x y : Declaration) → IsDecl o tokens x → IsDecl p tokens y → (o ≡ p) × (x ≡ y)

-- A statement that reads as a variable is one.
abbrev pub VariableFirst : Type 0
VariableFirst = (tokens : Tokens) (v : VariableTree) (o : Bool) (x : Stmt) → IsVariable tokens v → IsStmt o tokens x → x ≡ stmt (start_of tokens) (t.Variable v)

-- An `else` belongs to the nearest `if`: `if (x) if (y) s else r` has the `else` in the inner one.
abbrev pub NearestIf : Type 0
NearestIf = (w1 w2 w3 w4 w5 : Tokens) (x y : Expr) (s r : Stmt) (o p : Bool) (z : Stmt) → Head k.If w1 x → Head k.If w2 y → IsStmt false w3 s → Mark k.Else w4 → IsStmt o w5 r → begins_if w5 ≡ false
    → IsStmt p (w1 · w2 · w3 · w4 · w5) z
    → z ≡ stmt (start_of (w1 · w2 · w3 · w4 · w5)) (t.If (branch x (stmt (start_of (w2 · w3 · w4 · w5)) (t.If (branch y s ∷ []) (Some r))) ∷ []) None)
