-- Whether an `else` behind a tree would belong to it: it would to the `if`, `static if` or `version` that the tree ends
-- in, where that has none. And what it means that each `else` in a tree belongs to the nearest of these.
use Rattle.std.specs.Prelude.{◌≡◌, Bool, true, false, List, [], ◌∷◌, Option, Some, None}
use Rattle.dc_ast.specs.declared.statement.Stmt.{Stmt}
use Rattle.dc_ast.specs.declared.statement.StmtKind.{StmtKind}
use Rattle.dc_ast.specs.declared.statement.Branch.{Branch}
use Rattle.dc_ast.specs.declared.statement.StmtBranch.{StmtBranch}
use Rattle.dc_ast.specs.declared.statement.StmtBody.{StmtBody}
use Rattle.dc_ast.specs.declared.statement.StaticStatement.{StaticStatement}
use Rattle.dc_ast.specs.declared.statement.StaticStatement.TheOpen.{StaticStatement-F, StmtBody-F, StmtKind-F}
use Rattle.dc_ast.specs.declared.statement.StaticStatement.TheFolds.{fold-Stmt, fold-StmtKind, fold-StaticStatement, fold-StmtBody, fold-Branch, fold-StmtBranch}
use Rattle.dc_ast.specs.declared.declaration.Declaration.{Declaration}
use Rattle.dc_ast.specs.declared.declaration.DeclarationForm.{DeclarationForm}
use Rattle.dc_ast.specs.declared.declaration.DeclarationKind.{DeclarationKind}
use Rattle.dc_ast.specs.declared.declaration.Plain.{Plain}
use Rattle.dc_ast.specs.declared.declaration.StaticDeclaration.{StaticDeclaration}
use Rattle.dc_ast.specs.declared.declaration.DeclarationBranch.{DeclarationBranch}
use Rattle.dc_ast.specs.declared.declaration.DeclarationBody.{DeclarationBody}
use Rattle.dc_ast.specs.declared.declaration.DeclarationBody.TheOpen.{DeclarationBody-F, DeclarationForm-F, DeclarationKind-F, StaticDeclaration-F}
use Rattle.dc_ast.specs.declared.declaration.DeclarationBody.TheFolds.{fold-Declaration, fold-DeclarationForm, fold-DeclarationKind, fold-Plain, fold-StaticDeclaration, fold-DeclarationBody, fold-DeclarationBranch}
use Rattle.dc_grammar.specs.Terminals.{Tokens}
use Rattle.dc_grammar.specs.Statements.{IsStmt, AreBranches, AreStmtBranches}
use Rattle.dc_grammar.specs.Declarations.{IsDecl, AreDeclBranches}

-- a chain of branches, by what stands behind its last `else`
abbrev pub chain_takes_else : Option Bool → Bool
chain_takes_else None = true
chain_takes_else (Some last) = last

-- ---- statements, each by those inside it

abbrev pub static_stmt_step : StaticStatement-F Bool Bool Bool Bool Bool Bool Bool → Bool
static_stmt_step (StaticStatement-F.Conditional branches last) = chain_takes_else last
static_stmt_step (StaticStatement-F.«StaticStatement::Foreach» range body) = body
static_stmt_step (StaticStatement-F.Assert tree) = false

abbrev pub stmt_body_step : StmtBody-F Bool Bool Bool Bool Bool Bool Bool → Bool
stmt_body_step (StmtBody-F.One stmt) = stmt
stmt_body_step (StmtBody-F.Braces stmts) = false

abbrev pub stmt_kind_step : StmtKind-F Bool Bool Bool Bool Bool Bool Bool → Bool
stmt_kind_step (StmtKind-F.Static tree) = tree
stmt_kind_step (StmtKind-F.If branches last) = chain_takes_else last
stmt_kind_step (StmtKind-F.While x stmt) = stmt
stmt_kind_step (StmtKind-F.For start x y stmt) = stmt
stmt_kind_step (StmtKind-F.«StmtKind::Foreach» names x y stmt) = stmt
stmt_kind_step _ = false

abbrev pub stmt_takes_else : Stmt → Bool
stmt_takes_else = fold-Stmt Bool Bool Bool Bool Bool Bool Bool static_stmt_step stmt_body_step stmt_kind_step (λ b. b.body) (λ _. false) (λ s. s.kind) (λ b. b.body)

abbrev pub stmt_kind_takes_else : StmtKind → Bool
stmt_kind_takes_else = fold-StmtKind Bool Bool Bool Bool Bool Bool Bool static_stmt_step stmt_body_step stmt_kind_step (λ b. b.body) (λ _. false) (λ s. s.kind) (λ b. b.body)

abbrev pub static_stmt_takes_else : StaticStatement → Bool
static_stmt_takes_else = fold-StaticStatement Bool Bool Bool Bool Bool Bool Bool static_stmt_step stmt_body_step stmt_kind_step (λ b. b.body) (λ _. false) (λ s. s.kind) (λ b. b.body)

abbrev pub stmt_body_takes_else : StmtBody → Bool
stmt_body_takes_else = fold-StmtBody Bool Bool Bool Bool Bool Bool Bool static_stmt_step stmt_body_step stmt_kind_step (λ b. b.body) (λ _. false) (λ s. s.kind) (λ b. b.body)

-- what stands under the condition of a branch
abbrev pub branch_takes_else : Branch → Bool
branch_takes_else = fold-Branch Bool Bool Bool Bool Bool Bool Bool static_stmt_step stmt_body_step stmt_kind_step (λ b. b.body) (λ _. false) (λ s. s.kind) (λ b. b.body)

abbrev pub stmt_branch_takes_else : StmtBranch → Bool
stmt_branch_takes_else = fold-StmtBranch Bool Bool Bool Bool Bool Bool Bool static_stmt_step stmt_body_step stmt_kind_step (λ b. b.body) (λ _. false) (λ s. s.kind) (λ b. b.body)

-- ---- declarations, each by those inside it

abbrev pub decl_body_step : DeclarationBody-F Bool Bool Bool Bool Bool Bool Bool Bool Bool → Bool
decl_body_step (DeclarationBody-F.One decl) = decl
decl_body_step (DeclarationBody-F.Braces decls) = false

abbrev pub decl_form_step : DeclarationForm-F Bool Bool Bool Bool Bool Bool Bool Bool Bool → Bool
decl_form_step (DeclarationForm-F.Plain attributes plain) = plain
decl_form_step _ = false

abbrev pub decl_kind_step : DeclarationKind-F Bool Bool Bool Bool Bool Bool Bool Bool Bool → Bool
decl_kind_step (DeclarationKind-F.Static tree) = tree
decl_kind_step _ = false

abbrev pub static_decl_step : StaticDeclaration-F Bool Bool Bool Bool Bool Bool Bool Bool Bool → Bool
static_decl_step (StaticDeclaration-F.Conditional branches last) = chain_takes_else last
static_decl_step (StaticDeclaration-F.Foreach range body) = body
static_decl_step (StaticDeclaration-F.Assert tree) = false

abbrev pub decl_takes_else : Declaration → Bool
decl_takes_else = fold-Declaration Bool Bool Bool Bool Bool Bool Bool Bool Bool decl_body_step decl_form_step decl_kind_step static_decl_step (λ d. d.form) (λ b. b.body) (λ p. p.kind) (λ _. false) (λ _. false)

abbrev pub decl_form_takes_else : DeclarationForm → Bool
decl_form_takes_else = fold-DeclarationForm Bool Bool Bool Bool Bool Bool Bool Bool Bool decl_body_step decl_form_step decl_kind_step static_decl_step (λ d. d.form) (λ b. b.body) (λ p. p.kind) (λ _. false) (λ _. false)

abbrev pub plain_takes_else : Plain → Bool
plain_takes_else = fold-Plain Bool Bool Bool Bool Bool Bool Bool Bool Bool decl_body_step decl_form_step decl_kind_step static_decl_step (λ d. d.form) (λ b. b.body) (λ p. p.kind) (λ _. false) (λ _. false)

abbrev pub decl_kind_takes_else : DeclarationKind → Bool
decl_kind_takes_else = fold-DeclarationKind Bool Bool Bool Bool Bool Bool Bool Bool Bool decl_body_step decl_form_step decl_kind_step static_decl_step (λ d. d.form) (λ b. b.body) (λ p. p.kind) (λ _. false) (λ _. false)

abbrev pub static_decl_takes_else : StaticDeclaration → Bool
static_decl_takes_else = fold-StaticDeclaration Bool Bool Bool Bool Bool Bool Bool Bool Bool decl_body_step decl_form_step decl_kind_step static_decl_step (λ d. d.form) (λ b. b.body) (λ p. p.kind) (λ _. false) (λ _. false)

abbrev pub decl_body_takes_else : DeclarationBody → Bool
decl_body_takes_else = fold-DeclarationBody Bool Bool Bool Bool Bool Bool Bool Bool Bool decl_body_step decl_form_step decl_kind_step static_decl_step (λ d. d.form) (λ b. b.body) (λ p. p.kind) (λ _. false) (λ _. false)

abbrev pub decl_branch_takes_else : DeclarationBranch → Bool
decl_branch_takes_else = fold-DeclarationBranch Bool Bool Bool Bool Bool Bool Bool Bool Bool decl_body_step decl_form_step decl_kind_step static_decl_step (λ d. d.form) (λ b. b.body) (λ p. p.kind) (λ _. false) (λ _. false)

-- ---- the law

-- No branch of a chain that an `else` stands behind would take that `else` for itself.
abbrev pub EachElseIsNearest : {B L : Type 0} → (B → Bool) → List B → Option L → Type 0
EachElseIsNearest takes_else [] last = Unit {0}
EachElseIsNearest takes_else (b ∷ []) None = Unit {0}
EachElseIsNearest takes_else (b ∷ []) (Some last) = takes_else b ≡ false
EachElseIsNearest takes_else (b ∷ c ∷ bs) last = (takes_else b ≡ false) × EachElseIsNearest takes_else (c ∷ bs) last

-- The index of the grammar is that of the tree, and each chain of the grammar has its `else`s where they belong.
pub record ElseIsNearest : Type 0 where
  pub statement : (o : Bool) (tokens : Tokens) (x : Stmt) → IsStmt o tokens x → o ≡ stmt_takes_else x
  pub declaration : (o : Bool) (tokens : Tokens) (x : Declaration) → IsDecl o tokens x → o ≡ decl_takes_else x
  pub branches : (o : Bool) (tokens : Tokens) (bs : List Branch) (last : Option Stmt) → AreBranches o tokens bs last → EachElseIsNearest branch_takes_else bs last
  pub stmt_branches : (o : Bool) (tokens : Tokens) (bs : List StmtBranch) (last : Option StmtBody) → AreStmtBranches o tokens bs last → EachElseIsNearest stmt_branch_takes_else bs last
  pub decl_branches : (o : Bool) (tokens : Tokens) (bs : List DeclarationBranch) (last : Option DeclarationBody) → AreDeclBranches o tokens bs last → EachElseIsNearest decl_branch_takes_else bs last
