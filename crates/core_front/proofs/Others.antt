-- What the forms are built as that are not named.
use Rattle.std.proofs.Common.{◌≡◌, refl, ℕ, Option, None, Err, List, ap, sym, ◌∙◌}
use Rattle.dc_ast.specs.declared.name.Name.{Name}
use Rattle.dc_ast.specs.declared.name.Spelling.{Spelling}
use Rattle.dc_ast.specs.declared.word.BasicType.{BasicType}
use Rattle.dc_ast.specs.declared.word.BinaryOperator.{BinaryOperator}
use Rattle.dc_ast.specs.declared.word.AssignOperator.{AssignOperator}
use Rattle.dc_ast.specs.declared.expression.Argument.{Argument}
use Rattle.dc_ast.specs.declared.expression.ExprKind.{ExprKind}
use Rattle.dc_ast.specs.declared.expression.IsAgainst.{IsAgainst}
use Rattle.dc_ast.specs.declared.expression.Suffix.{Suffix}
use Rattle.dc_ast.specs.declared.types.Base.{Base}
use Rattle.dc_ast.specs.declared.types.Bracket.{Bracket}
use Rattle.dc_ast.specs.declared.expression.Expr.{Expr}
use Rattle.dc_ast.specs.declared.expression.IsTest.{IsTest}
use Rattle.dc_ast.specs.declared.expression.IsTree.{IsTree}
use Rattle.dc_ast.specs.declared.expression.Step.{Step}
use Rattle.dc_ast.specs.declared.expression.Symbol.{Symbol}
use Rattle.dc_ast.specs.declared.types.TypeTree.{TypeTree}
use Rattle.dc_ast.specs.declared.expression.Argument.TheOpen.{ExprKind-F}
use Rattle.dc_ast.specs.declared.expression.Argument.TheViews.{roll-ExprKind, out-ExprKind, roll-out-ExprKind}
use Rattle.dc_ast.specs.declared.expression.Argument.TheFolds.{fold-roll-ExprKind}
use Rattle.core_front.specs.Building.{Seen, Linked, Called, kind_step, suffix_step, base_step, linked_by, symbol_name, basic_of, kind_seen}

abbrev Kind : Type 0
Kind = ExprKind-F Argument ExprKind IsAgainst Suffix Base Bracket Expr IsTest IsTree Step Symbol TypeTree

no_name_layer : (f : Kind) (at : ℕ) → ((x : Symbol) → roll-ExprKind f ≡ roll-ExprKind (ExprKind-F.Symbol x) → ⊥) → (kind_seen (roll-ExprKind f) at).name ≡ None
no_name_layer (ExprKind-F.Symbol x) at h0 = absurd (h0 x refl)
no_name_layer f at h0 = ap (λ (h : ℕ → Seen). (h at).name) (fold-roll-ExprKind ℕ (ℕ → Seen) ℕ Called (Option BasicType) ℕ Seen ℕ ℕ Linked (Option Name) (Option BasicType)
    (λ _. 0) kind_step (λ _. 0) suffix_step base_step (λ _. 0) (λ e. e.kind e.at) (λ _. 0) (λ _. 0)
    (λ s. linked_by s.operator s.operand) (λ s. symbol_name s.name s.arguments) (λ t. basic_of t.base t.brackets) f)

pub no_name : (k : ExprKind) (at : ℕ) → ((x : Symbol) → k ≡ roll-ExprKind (ExprKind-F.Symbol x) → ⊥) → (kind_seen k at).name ≡ None
no_name k at h0 =
    ap (λ k. (kind_seen k at).name) (sym (roll-out-ExprKind k)) ∙ no_name_layer (out-ExprKind k) at (λ x e0. h0 x (sym (roll-out-ExprKind k) ∙ e0))

no_value_layer : (f : Kind) (at : ℕ) → ((s : Spelling) → roll-ExprKind f ≡ roll-ExprKind (ExprKind-F.Integer s) → ⊥) → ((x : Symbol) → roll-ExprKind f ≡ roll-ExprKind (ExprKind-F.Symbol x) → ⊥) → ((e : Expr) → roll-ExprKind f ≡ roll-ExprKind (ExprKind-F.Paren e) → ⊥) → ((e : Expr) (s : List Step) → roll-ExprKind f ≡ roll-ExprKind (ExprKind-F.Chain e s) → ⊥) → ((e : Expr) (s : List Suffix) → roll-ExprKind f ≡ roll-ExprKind (ExprKind-F.Postfix e s) → ⊥) → (kind_seen (roll-ExprKind f) at).value ≡ Err at
no_value_layer (ExprKind-F.Integer s) at h0 h1 h2 h3 h4 = absurd (h0 s refl)
no_value_layer (ExprKind-F.Symbol x) at h0 h1 h2 h3 h4 = absurd (h1 x refl)
no_value_layer (ExprKind-F.Paren e) at h0 h1 h2 h3 h4 = absurd (h2 e refl)
no_value_layer (ExprKind-F.Chain e s) at h0 h1 h2 h3 h4 = absurd (h3 e s refl)
no_value_layer (ExprKind-F.Postfix e s) at h0 h1 h2 h3 h4 = absurd (h4 e s refl)
no_value_layer f at h0 h1 h2 h3 h4 = ap (λ (h : ℕ → Seen). (h at).value) (fold-roll-ExprKind ℕ (ℕ → Seen) ℕ Called (Option BasicType) ℕ Seen ℕ ℕ Linked (Option Name) (Option BasicType)
    (λ _. 0) kind_step (λ _. 0) suffix_step base_step (λ _. 0) (λ e. e.kind e.at) (λ _. 0) (λ _. 0)
    (λ s. linked_by s.operator s.operand) (λ s. symbol_name s.name s.arguments) (λ t. basic_of t.base t.brackets) f)

pub no_value : (k : ExprKind) (at : ℕ) → ((s : Spelling) → k ≡ roll-ExprKind (ExprKind-F.Integer s) → ⊥) → ((x : Symbol) → k ≡ roll-ExprKind (ExprKind-F.Symbol x) → ⊥) → ((e : Expr) → k ≡ roll-ExprKind (ExprKind-F.Paren e) → ⊥) → ((e : Expr) (s : List Step) → k ≡ roll-ExprKind (ExprKind-F.Chain e s) → ⊥) → ((e : Expr) (s : List Suffix) → k ≡ roll-ExprKind (ExprKind-F.Postfix e s) → ⊥) → (kind_seen k at).value ≡ Err at
no_value k at h0 h1 h2 h3 h4 =
    ap (λ k. (kind_seen k at).value) (sym (roll-out-ExprKind k)) ∙ no_value_layer (out-ExprKind k) at (λ s e0. h0 s (sym (roll-out-ExprKind k) ∙ e0)) (λ x e0. h1 x (sym (roll-out-ExprKind k) ∙ e0)) (λ e e0. h2 e (sym (roll-out-ExprKind k) ∙ e0)) (λ e s e0. h3 e s (sym (roll-out-ExprKind k) ∙ e0)) (λ e s e0. h4 e s (sym (roll-out-ExprKind k) ∙ e0))

no_test_layer : (f : Kind) (at : ℕ) → (roll-ExprKind f ≡ roll-ExprKind (ExprKind-F.True) → ⊥) → ((a : Expr) (o : BinaryOperator) (b : Expr) → roll-ExprKind f ≡ roll-ExprKind (ExprKind-F.Compare a o b) → ⊥) → (kind_seen (roll-ExprKind f) at).test ≡ Err at
no_test_layer (ExprKind-F.True) at h0 h1 = absurd (h0 refl)
no_test_layer (ExprKind-F.Compare a o b) at h0 h1 = absurd (h1 a o b refl)
no_test_layer f at h0 h1 = ap (λ (h : ℕ → Seen). (h at).test) (fold-roll-ExprKind ℕ (ℕ → Seen) ℕ Called (Option BasicType) ℕ Seen ℕ ℕ Linked (Option Name) (Option BasicType)
    (λ _. 0) kind_step (λ _. 0) suffix_step base_step (λ _. 0) (λ e. e.kind e.at) (λ _. 0) (λ _. 0)
    (λ s. linked_by s.operator s.operand) (λ s. symbol_name s.name s.arguments) (λ t. basic_of t.base t.brackets) f)

pub no_test : (k : ExprKind) (at : ℕ) → (k ≡ roll-ExprKind (ExprKind-F.True) → ⊥) → ((a : Expr) (o : BinaryOperator) (b : Expr) → k ≡ roll-ExprKind (ExprKind-F.Compare a o b) → ⊥) → (kind_seen k at).test ≡ Err at
no_test k at h0 h1 =
    ap (λ k. (kind_seen k at).test) (sym (roll-out-ExprKind k)) ∙ no_test_layer (out-ExprKind k) at (λ e0. h0 (sym (roll-out-ExprKind k) ∙ e0)) (λ a o b e0. h1 a o b (sym (roll-out-ExprKind k) ∙ e0))

no_action_layer : (f : Kind) (at : ℕ) → ((a : Expr) (o : AssignOperator) (b : Expr) → roll-ExprKind f ≡ roll-ExprKind (ExprKind-F.Assign a o b) → ⊥) → ((e : Expr) (s : List Suffix) → roll-ExprKind f ≡ roll-ExprKind (ExprKind-F.Postfix e s) → ⊥) → (kind_seen (roll-ExprKind f) at).action ≡ Err at
no_action_layer (ExprKind-F.Assign a o b) at h0 h1 = absurd (h0 a o b refl)
no_action_layer (ExprKind-F.Postfix e s) at h0 h1 = absurd (h1 e s refl)
no_action_layer f at h0 h1 = ap (λ (h : ℕ → Seen). (h at).action) (fold-roll-ExprKind ℕ (ℕ → Seen) ℕ Called (Option BasicType) ℕ Seen ℕ ℕ Linked (Option Name) (Option BasicType)
    (λ _. 0) kind_step (λ _. 0) suffix_step base_step (λ _. 0) (λ e. e.kind e.at) (λ _. 0) (λ _. 0)
    (λ s. linked_by s.operator s.operand) (λ s. symbol_name s.name s.arguments) (λ t. basic_of t.base t.brackets) f)

pub no_action : (k : ExprKind) (at : ℕ) → ((a : Expr) (o : AssignOperator) (b : Expr) → k ≡ roll-ExprKind (ExprKind-F.Assign a o b) → ⊥) → ((e : Expr) (s : List Suffix) → k ≡ roll-ExprKind (ExprKind-F.Postfix e s) → ⊥) → (kind_seen k at).action ≡ Err at
no_action k at h0 h1 =
    ap (λ k. (kind_seen k at).action) (sym (roll-out-ExprKind k)) ∙ no_action_layer (out-ExprKind k) at (λ a o b e0. h0 a o b (sym (roll-out-ExprKind k) ∙ e0)) (λ e s e0. h1 e s (sym (roll-out-ExprKind k) ∙ e0))
