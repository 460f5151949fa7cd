-- What the declarations are built as that are not named.
use Rattle.std.proofs.Common.{◌≡◌, refl, ℕ, Err, List, ap, sym, ◌∙◌}
use Rattle.dc_ast.specs.declared.word.Attribute.{Attribute}
use Rattle.dc_ast.specs.declared.statement.ImportTree.{ImportTree}
use Rattle.dc_ast.specs.declared.declaration.FunctionTree.{FunctionTree}
use Rattle.dc_ast.specs.declared.declaration.DeclarationBody.{DeclarationBody}
use Rattle.dc_ast.specs.declared.declaration.DeclarationForm.{DeclarationForm}
use Rattle.dc_ast.specs.declared.declaration.DeclarationKind.{DeclarationKind}
use Rattle.dc_ast.specs.declared.declaration.StaticDeclaration.{StaticDeclaration}
use Rattle.dc_ast.specs.declared.declaration.Declaration.{Declaration}
use Rattle.dc_ast.specs.declared.declaration.DeclarationBranch.{DeclarationBranch}
use Rattle.dc_ast.specs.declared.declaration.Plain.{Plain}
use Rattle.dc_ast.specs.declared.declaration.StructTree.{StructTree}
use Rattle.dc_ast.specs.declared.declaration.TemplateTree.{TemplateTree}
use Rattle.dc_ast.specs.declared.declaration.DeclarationBody.TheOpen.{DeclarationForm-F, DeclarationKind-F}
use Rattle.dc_ast.specs.declared.declaration.DeclarationBody.TheViews.{roll-DeclarationForm, out-DeclarationForm, roll-out-DeclarationForm, roll-DeclarationKind, out-DeclarationKind, roll-out-DeclarationKind}
use Rattle.dc_ast.specs.declared.declaration.DeclarationBody.TheFolds.{fold-roll-DeclarationForm, fold-roll-DeclarationKind}
use Rattle.core_front.specs.declared.built.Program.{Program}
use Rattle.core_front.specs.Programs.{Adds, form_adds, kind_adds, form_of, kind_of}

abbrev FormLayer : Type 0
FormLayer = DeclarationForm-F DeclarationBody DeclarationForm DeclarationKind StaticDeclaration Declaration DeclarationBranch Plain StructTree TemplateTree

no_form_layer : (f : FormLayer) (at : ℕ) (p : Program) → ((xs : List Attribute) (x : Plain) → roll-DeclarationForm f ≡ roll-DeclarationForm (DeclarationForm-F.Plain xs x) → ⊥) → form_of (roll-DeclarationForm f) at p ≡ Err at
no_form_layer (DeclarationForm-F.Plain xs x) at p other = absurd (other xs x refl)
no_form_layer f at p other = ap (λ (h : ℕ → Adds). h at p) (fold-roll-DeclarationForm ℕ (ℕ → Adds) (ℕ → Adds) ℕ Adds ℕ Adds ℕ ℕ
    (λ _. 0) form_adds kind_adds (λ _. 0) (λ d. d.form d.at) (λ _. 0) (λ x. x.kind x.at) (λ _. 0) (λ _. 0) f)

pub no_form : (k : DeclarationForm) (at : ℕ) (p : Program) → ((xs : List Attribute) (x : Plain) → k ≡ roll-DeclarationForm (DeclarationForm-F.Plain xs x) → ⊥) → form_of k at p ≡ Err at
no_form k at p other =
    ap (λ k. form_of k at p) (sym (roll-out-DeclarationForm k)) ∙ no_form_layer (out-DeclarationForm k) at p (λ xs x e. other xs x (sym (roll-out-DeclarationForm k) ∙ e))

abbrev KindLayer : Type 0
KindLayer = DeclarationKind-F DeclarationBody DeclarationForm DeclarationKind StaticDeclaration Declaration DeclarationBranch Plain StructTree TemplateTree

no_kind_layer : (f : KindLayer) (at : ℕ) (p : Program) → ((i : ImportTree) → roll-DeclarationKind f ≡ roll-DeclarationKind (DeclarationKind-F.Import i) → ⊥)
    → ((g : FunctionTree) → roll-DeclarationKind f ≡ roll-DeclarationKind (DeclarationKind-F.Function g) → ⊥) → kind_of (roll-DeclarationKind f) at p ≡ Err at
no_kind_layer (DeclarationKind-F.Import i) at p h0 h1 = absurd (h0 i refl)
no_kind_layer (DeclarationKind-F.Function g) at p h0 h1 = absurd (h1 g refl)
no_kind_layer f at p h0 h1 = ap (λ (h : ℕ → Adds). h at p) (fold-roll-DeclarationKind ℕ (ℕ → Adds) (ℕ → Adds) ℕ Adds ℕ Adds ℕ ℕ
    (λ _. 0) form_adds kind_adds (λ _. 0) (λ d. d.form d.at) (λ _. 0) (λ x. x.kind x.at) (λ _. 0) (λ _. 0) f)

pub no_kind : (k : DeclarationKind) (at : ℕ) (p : Program) → ((i : ImportTree) → k ≡ roll-DeclarationKind (DeclarationKind-F.Import i) → ⊥)
    → ((g : FunctionTree) → k ≡ roll-DeclarationKind (DeclarationKind-F.Function g) → ⊥) → kind_of k at p ≡ Err at
no_kind k at p h0 h1 =
    ap (λ k. kind_of k at p) (sym (roll-out-DeclarationKind k))
    ∙ no_kind_layer (out-DeclarationKind k) at p (λ i e. h0 i (sym (roll-out-DeclarationKind k) ∙ e)) (λ g e. h1 g (sym (roll-out-DeclarationKind k) ∙ e))
