-- What the statements and types are built as that are not named.
use Rattle.std.proofs.Common.{◌≡◌, refl, ℕ, Option, None, Err, List, [], ◌∷◌, ap, sym, ◌∙◌}
use Rattle.dc_ast.specs.declared.name.Name.{Name}
use Rattle.dc_ast.specs.declared.word.BasicType.{BasicType}
use Rattle.dc_ast.specs.declared.expression.Argument.{Argument}
use Rattle.dc_ast.specs.declared.expression.ExprKind.{ExprKind}
use Rattle.dc_ast.specs.declared.expression.IsAgainst.{IsAgainst}
use Rattle.dc_ast.specs.declared.expression.Suffix.{Suffix}
use Rattle.dc_ast.specs.declared.types.Base.{Base}
use Rattle.dc_ast.specs.declared.types.Bracket.{Bracket}
use Rattle.dc_ast.specs.declared.expression.Expr.{Expr}
use Rattle.dc_ast.specs.declared.expression.IsTest.{IsTest}
use Rattle.dc_ast.specs.declared.expression.IsTree.{IsTree}
use Rattle.dc_ast.specs.declared.expression.Step.{Step}
use Rattle.dc_ast.specs.declared.expression.Symbol.{Symbol}
use Rattle.dc_ast.specs.declared.types.TypeTree.{TypeTree}
use Rattle.dc_ast.specs.declared.expression.Argument.TheOpen.{Base-F}
use Rattle.dc_ast.specs.declared.expression.Argument.TheViews.{roll-Base, out-Base, roll-out-Base}
use Rattle.dc_ast.specs.declared.expression.Argument.TheFolds.{fold-roll-Base}
use Rattle.dc_ast.specs.declared.statement.VariableTree.{VariableTree}
use Rattle.dc_ast.specs.declared.statement.StaticStatement.{StaticStatement}
use Rattle.dc_ast.specs.declared.statement.StmtBody.{StmtBody}
use Rattle.dc_ast.specs.declared.statement.StmtKind.{StmtKind}
use Rattle.dc_ast.specs.declared.statement.Branch.{Branch as Written}
use Rattle.dc_ast.specs.declared.statement.Group.{Group}
use Rattle.dc_ast.specs.declared.statement.Stmt.{Stmt}
use Rattle.dc_ast.specs.declared.statement.StmtBranch.{StmtBranch}
use Rattle.dc_ast.specs.declared.statement.StaticStatement.TheOpen.{StmtKind-F}
use Rattle.dc_ast.specs.declared.statement.StaticStatement.TheViews.{roll-StmtKind, out-StmtKind, roll-out-StmtKind}
use Rattle.dc_ast.specs.declared.statement.StaticStatement.TheFolds.{fold-roll-StmtKind}
use Rattle.core_front.specs.declared.built.Action.{Action}
use Rattle.core_front.specs.declared.built.Branch.{Branch}
use Rattle.core_front.specs.Building.{Built, Seen, Linked, Called, kind_step, suffix_step, base_step, linked_by, symbol_name, basic_of, base_word}
use Rattle.core_front.specs.Statements.{stmt_step, branch_step, kind_built}

abbrev Layer : Type 0
Layer = StmtKind-F StaticStatement StmtBody StmtKind Written Group Stmt StmtBranch

no_action_layer : (f : Layer) (at : ℕ) → ((ss : List Stmt) → roll-StmtKind f ≡ roll-StmtKind (StmtKind-F.Block ss) → ⊥) → ((v : VariableTree) → roll-StmtKind f ≡ roll-StmtKind (StmtKind-F.Variable v) → ⊥) → ((e : Expr) → roll-StmtKind f ≡ roll-StmtKind (StmtKind-F.Expr e) → ⊥) → ((bs : List Written) (last : Option Stmt) → roll-StmtKind f ≡ roll-StmtKind (StmtKind-F.If bs last) → ⊥) → ((e : Expr) (s : Stmt) → roll-StmtKind f ≡ roll-StmtKind (StmtKind-F.While e s) → ⊥) → ((e : Option Expr) → roll-StmtKind f ≡ roll-StmtKind (StmtKind-F.Return e) → ⊥) → kind_built (roll-StmtKind f) at ≡ Err at
no_action_layer (StmtKind-F.Block ss) at h0 h1 h2 h3 h4 h5 = absurd (h0 ss refl)
no_action_layer (StmtKind-F.Variable v) at h0 h1 h2 h3 h4 h5 = absurd (h1 v refl)
no_action_layer (StmtKind-F.Expr e) at h0 h1 h2 h3 h4 h5 = absurd (h2 e refl)
no_action_layer (StmtKind-F.If bs last) at h0 h1 h2 h3 h4 h5 = absurd (h3 bs last refl)
no_action_layer (StmtKind-F.While e s) at h0 h1 h2 h3 h4 h5 = absurd (h4 e s refl)
no_action_layer (StmtKind-F.Return e) at h0 h1 h2 h3 h4 h5 = absurd (h5 e refl)
no_action_layer f at h0 h1 h2 h3 h4 h5 = ap (λ (h : ℕ → Built Action). h at) (fold-roll-StmtKind ℕ ℕ (ℕ → Built Action) (Built Branch) ℕ (Built Action) ℕ
    (λ _. 0) (λ _. 0) stmt_step (λ b. branch_step b.condition b.body) (λ _. 0) (λ s. s.kind s.at) (λ _. 0) f)

pub no_action : (k : StmtKind) (at : ℕ) → ((ss : List Stmt) → k ≡ roll-StmtKind (StmtKind-F.Block ss) → ⊥) → ((v : VariableTree) → k ≡ roll-StmtKind (StmtKind-F.Variable v) → ⊥) → ((e : Expr) → k ≡ roll-StmtKind (StmtKind-F.Expr e) → ⊥) → ((bs : List Written) (last : Option Stmt) → k ≡ roll-StmtKind (StmtKind-F.If bs last) → ⊥) → ((e : Expr) (s : Stmt) → k ≡ roll-StmtKind (StmtKind-F.While e s) → ⊥) → ((e : Option Expr) → k ≡ roll-StmtKind (StmtKind-F.Return e) → ⊥) → kind_built k at ≡ Err at
no_action k at h0 h1 h2 h3 h4 h5 =
    ap (λ k. kind_built k at) (sym (roll-out-StmtKind k)) ∙ no_action_layer (out-StmtKind k) at (λ ss e0. h0 ss (sym (roll-out-StmtKind k) ∙ e0)) (λ v e0. h1 v (sym (roll-out-StmtKind k) ∙ e0)) (λ e e0. h2 e (sym (roll-out-StmtKind k) ∙ e0)) (λ bs last e0. h3 bs last (sym (roll-out-StmtKind k) ∙ e0)) (λ e s e0. h4 e s (sym (roll-out-StmtKind k) ∙ e0)) (λ e e0. h5 e (sym (roll-out-StmtKind k) ∙ e0))

abbrev BaseLayer : Type 0
BaseLayer = Base-F Argument ExprKind IsAgainst Suffix Base Bracket Expr IsTest IsTree Step Symbol TypeTree

no_basic_layer : (f : BaseLayer) → ((b : BasicType) → roll-Base f ≡ roll-Base (Base-F.Basic b) → ⊥) → base_word (roll-Base f) ≡ None
no_basic_layer (Base-F.Basic b) other = absurd (other b refl)
no_basic_layer f other = fold-roll-Base ℕ (ℕ → Seen) ℕ Called (Option BasicType) ℕ Seen ℕ ℕ Linked (Option Name) (Option BasicType)
    (λ _. 0) kind_step (λ _. 0) suffix_step base_step (λ _. 0) (λ e. e.kind e.at) (λ _. 0) (λ _. 0)
    (λ s. linked_by s.operator s.operand) (λ s. symbol_name s.name s.arguments) (λ t. basic_of t.base t.brackets) f

no_base : (b : Base) → ((w : BasicType) → b ≡ roll-Base (Base-F.Basic w) → ⊥) → base_word b ≡ None
no_base b other = ap base_word (sym (roll-out-Base b)) ∙ no_basic_layer (out-Base b) (λ w e. other w (sym (roll-out-Base b) ∙ e))

pub no_basic : (b : Base) (n : List ℕ) → ((w : BasicType) → b ≡ roll-Base (Base-F.Basic w) → ⊥) → basic_of (base_word b) n ≡ None
no_basic b [] other = no_base b other
no_basic b (x ∷ xs) other = refl
