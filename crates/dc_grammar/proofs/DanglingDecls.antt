-- The same of declarations, and the law.
use Rattle.std.proofs.Common.{◌≡◌, ◌∙◌, sym, ap, ℕ, Bool, false, List, ◌∷◌, Option, Some, None}
use Rattle.dc_ast.specs.declared.statement.StaticTest.{StaticTest}
use Rattle.dc_ast.specs.declared.declaration.Declaration.{Declaration}
use Rattle.dc_ast.specs.declared.declaration.DeclarationForm.{DeclarationForm}
use Rattle.dc_ast.specs.declared.declaration.DeclarationForm.TheVariants as d
use Rattle.dc_ast.specs.declared.declaration.DeclarationKind.{DeclarationKind}
use Rattle.dc_ast.specs.declared.declaration.DeclarationKind.TheVariants as t
use Rattle.dc_ast.specs.declared.declaration.Plain.{Plain}
use Rattle.dc_ast.specs.declared.declaration.StructTree.{StructTree}
use Rattle.dc_ast.specs.declared.declaration.TemplateTree.{TemplateTree}
use Rattle.dc_ast.specs.declared.declaration.StaticDeclaration.{StaticDeclaration}
use Rattle.dc_ast.specs.declared.declaration.StaticDeclaration.TheVariants as static
use Rattle.dc_ast.specs.declared.declaration.DeclarationBranch.{DeclarationBranch}
use Rattle.dc_ast.specs.declared.declaration.DeclarationBody.{DeclarationBody}
use Rattle.dc_ast.specs.declared.declaration.DeclarationBody.TheVariants as body
use Rattle.dc_ast.specs.declared.declaration.DeclarationBody.TheOpen.{DeclarationBody-F, DeclarationForm-F, DeclarationKind-F, StaticDeclaration-F}
use Rattle.dc_ast.specs.declared.declaration.DeclarationBody.TheViews.{roll-DeclarationBody, roll-DeclarationForm, roll-DeclarationKind, roll-StaticDeclaration}
use Rattle.dc_ast.specs.declared.declaration.DeclarationBody.TheFolds.{fold-StructTree, fold-TemplateTree, map-DeclarationBody, map-DeclarationForm, map-DeclarationKind, map-StaticDeclaration, fold-roll-Declaration, fold-roll-DeclarationForm, fold-roll-DeclarationKind, fold-roll-Plain, fold-roll-StaticDeclaration, fold-roll-DeclarationBody, fold-roll-DeclarationBranch}
use Rattle.dc_grammar.specs.Terminals.{Tokens}
use Rattle.dc_grammar.specs.MoreTrees.{declaration, plain, struct_tree, template_tree, declaration_branch}
use Rattle.dc_grammar.specs.Declarations as st
use Rattle.dc_grammar.specs.Declarations.{IsDecl, IsDeclForm, IsPlain, IsPlainKind, AreDeclBranches, IsDeclBody}
use Rattle.dc_grammar.specs.Dangling.{decl_body_step, decl_form_step, decl_kind_step, static_decl_step, decl_takes_else, decl_form_takes_else, plain_takes_else, decl_kind_takes_else, static_decl_takes_else, decl_body_takes_else, decl_branch_takes_else, EachElseIsNearest, ElseIsNearest}
use Rattle.dc_grammar.proofs.Dangling.{in_stmt, more, each, each_static}

abbrev struct_takes_else : StructTree → Bool
struct_takes_else = fold-StructTree Bool Bool Bool Bool Bool Bool Bool Bool Bool decl_body_step decl_form_step decl_kind_step static_decl_step (λ d. d.form) (λ b. b.body) (λ p. p.kind) (λ _. false) (λ _. false)

abbrev template_takes_else : TemplateTree → Bool
template_takes_else = fold-TemplateTree Bool Bool Bool Bool Bool Bool Bool Bool Bool decl_body_step decl_form_step decl_kind_step static_decl_step (λ d. d.form) (λ b. b.body) (λ p. p.kind) (λ _. false) (λ _. false)

-- ---- a form by its parts

of_decl : (at : ℕ) (form : DeclarationForm) → decl_form_takes_else form ≡ decl_takes_else (declaration at form)
of_decl at form = sym (fold-roll-Declaration Bool Bool Bool Bool Bool Bool Bool Bool Bool decl_body_step decl_form_step decl_kind_step static_decl_step (λ d. d.form) (λ b. b.body) (λ p. p.kind) (λ _. false) (λ _. false) (record { at = at; form = form }))

of_plain : (at : ℕ) (kind : DeclarationKind) → decl_kind_takes_else kind ≡ plain_takes_else (plain at kind)
of_plain at kind = sym (fold-roll-Plain Bool Bool Bool Bool Bool Bool Bool Bool Bool decl_body_step decl_form_step decl_kind_step static_decl_step (λ d. d.form) (λ b. b.body) (λ p. p.kind) (λ _. false) (λ _. false) (record { at = at; kind = kind }))

of_form : {x : DeclarationForm} (k : DeclarationForm-F DeclarationBody DeclarationForm DeclarationKind StaticDeclaration Declaration DeclarationBranch Plain StructTree TemplateTree) → roll-DeclarationForm k ≡ x → decl_form_step (map-DeclarationForm DeclarationBody DeclarationForm DeclarationKind StaticDeclaration Declaration DeclarationBranch Plain StructTree TemplateTree Bool Bool Bool Bool Bool Bool Bool Bool Bool decl_body_takes_else decl_form_takes_else decl_kind_takes_else static_decl_takes_else decl_takes_else decl_branch_takes_else plain_takes_else struct_takes_else template_takes_else k) ≡ decl_form_takes_else x
of_form k is = sym (fold-roll-DeclarationForm Bool Bool Bool Bool Bool Bool Bool Bool Bool decl_body_step decl_form_step decl_kind_step static_decl_step (λ d. d.form) (λ b. b.body) (λ p. p.kind) (λ _. false) (λ _. false) k) ∙ ap decl_form_takes_else is

of_kind : {x : DeclarationKind} (k : DeclarationKind-F DeclarationBody DeclarationForm DeclarationKind StaticDeclaration Declaration DeclarationBranch Plain StructTree TemplateTree) → roll-DeclarationKind k ≡ x → decl_kind_step (map-DeclarationKind DeclarationBody DeclarationForm DeclarationKind StaticDeclaration Declaration DeclarationBranch Plain StructTree TemplateTree Bool Bool Bool Bool Bool Bool Bool Bool Bool decl_body_takes_else decl_form_takes_else decl_kind_takes_else static_decl_takes_else decl_takes_else decl_branch_takes_else plain_takes_else struct_takes_else template_takes_else k) ≡ decl_kind_takes_else x
of_kind k is = sym (fold-roll-DeclarationKind Bool Bool Bool Bool Bool Bool Bool Bool Bool decl_body_step decl_form_step decl_kind_step static_decl_step (λ d. d.form) (λ b. b.body) (λ p. p.kind) (λ _. false) (λ _. false) k) ∙ ap decl_kind_takes_else is

of_static : {x : StaticDeclaration} (k : StaticDeclaration-F DeclarationBody DeclarationForm DeclarationKind StaticDeclaration Declaration DeclarationBranch Plain StructTree TemplateTree) → roll-StaticDeclaration k ≡ x → static_decl_step (map-StaticDeclaration DeclarationBody DeclarationForm DeclarationKind StaticDeclaration Declaration DeclarationBranch Plain StructTree TemplateTree Bool Bool Bool Bool Bool Bool Bool Bool Bool decl_body_takes_else decl_form_takes_else decl_kind_takes_else static_decl_takes_else decl_takes_else decl_branch_takes_else plain_takes_else struct_takes_else template_takes_else k) ≡ static_decl_takes_else x
of_static k is = sym (fold-roll-StaticDeclaration Bool Bool Bool Bool Bool Bool Bool Bool Bool decl_body_step decl_form_step decl_kind_step static_decl_step (λ d. d.form) (λ b. b.body) (λ p. p.kind) (λ _. false) (λ _. false) k) ∙ ap static_decl_takes_else is

of_body : {x : DeclarationBody} (k : DeclarationBody-F DeclarationBody DeclarationForm DeclarationKind StaticDeclaration Declaration DeclarationBranch Plain StructTree TemplateTree) → roll-DeclarationBody k ≡ x → decl_body_step (map-DeclarationBody DeclarationBody DeclarationForm DeclarationKind StaticDeclaration Declaration DeclarationBranch Plain StructTree TemplateTree Bool Bool Bool Bool Bool Bool Bool Bool Bool decl_body_takes_else decl_form_takes_else decl_kind_takes_else static_decl_takes_else decl_takes_else decl_branch_takes_else plain_takes_else struct_takes_else template_takes_else k) ≡ decl_body_takes_else x
of_body k is = sym (fold-roll-DeclarationBody Bool Bool Bool Bool Bool Bool Bool Bool Bool decl_body_step decl_form_step decl_kind_step static_decl_step (λ d. d.form) (λ b. b.body) (λ p. p.kind) (λ _. false) (λ _. false) k) ∙ ap decl_body_takes_else is

of_branch : (at : ℕ) (x : StaticTest) (b : DeclarationBody) → decl_branch_takes_else (declaration_branch at x b) ≡ decl_body_takes_else b
of_branch at x b = fold-roll-DeclarationBranch Bool Bool Bool Bool Bool Bool Bool Bool Bool decl_body_step decl_form_step decl_kind_step static_decl_step (λ d. d.form) (λ b. b.body) (λ p. p.kind) (λ _. false) (λ _. false) (record { at = at; test = x; body = b })

-- ---- every form

mutual
  in_decl : {o : Bool} {w : Tokens} {x : Declaration} → IsDecl o w x → o ≡ decl_takes_else x
  in_decl (st.a_decl {x = x} h) = in_form h ∙ of_decl _ x

  in_form : {o : Bool} {w : Tokens} {x : DeclarationForm} → IsDeclForm o w x → o ≡ decl_form_takes_else x
  in_form (st.plain_decl {xs = xs} {x = x} h1 h2) = in_plain h2 ∙ of_form (DeclarationForm-F.Plain xs x) (d.rolls-Plain xs x)
  in_form (st.group_decl {a = a} {xs = xs} {ds = ds} h1 m2 h3 m4) = of_form (DeclarationForm-F.Group (a ∷ xs) ds) (d.rolls-Group (a ∷ xs) ds)
  in_form (st.section_decl {v = v} h1 m2) = of_form (DeclarationForm-F.Section v) (d.rolls-Section v)
  in_form (st.empty_decl m) = of_form DeclarationForm-F.Empty d.rolls-Empty

  in_plain : {o : Bool} {w : Tokens} {x : Plain} → IsPlain o w x → o ≡ plain_takes_else x
  in_plain (st.a_plain {x = x} h) = in_kind h ∙ of_plain _ x

  in_kind : {o : Bool} {w : Tokens} {x : DeclarationKind} → IsPlainKind o w x → o ≡ decl_kind_takes_else x
  in_kind (st.import_decl {x = x} h) = of_kind (DeclarationKind-F.Import x) (t.rolls-Import x)
  in_kind (st.enum_decl {x = x} h) = of_kind (DeclarationKind-F.Enum x) (t.rolls-Enum x)
  in_kind (st.constant_decl {x = x} h) = of_kind (DeclarationKind-F.Constant x) (t.rolls-Constant x)
  in_kind (st.alias_decl {x = x} h) = of_kind (DeclarationKind-F.Alias x) (t.rolls-Alias x)
  in_kind (st.struct_decl {n = n} {ds = ds} m1 h2 m3 h4 m5) = of_kind (DeclarationKind-F.Struct (struct_tree n None None ds)) (t.rolls-Struct _)
  in_kind (st.struct_template {n = n} {ts = ts} {x = x} {ds = ds} m1 h2 h3 h4 m5 h6 m7) = of_kind (DeclarationKind-F.Struct (struct_tree n (Some ts) x ds)) (t.rolls-Struct _)
  in_kind (st.template_decl {n = n} {ts = ts} {x = x} {ds = ds} m1 h2 h3 h4 m5 h6 m7) = of_kind (DeclarationKind-F.Template (template_tree n ts x ds)) (t.rolls-Template _)
  in_kind (st.function_decl {x = x} h) = of_kind (DeclarationKind-F.Function x) (t.rolls-Function x)
  in_kind (st.variable_decl {x = x} h) = of_kind (DeclarationKind-F.Variable x) (t.rolls-Variable x)
  in_kind (st.conditional_decl {bs = bs} {last = last} h) = in_static h ∙ of_kind (DeclarationKind-F.Static (static.Conditional bs last)) (t.rolls-Static _)
  in_kind (st.foreach_decl {r = r} {b = b} h1 h2) = in_body h2 ∙ of_static (StaticDeclaration-F.Foreach r b) (static.rolls-Foreach r b) ∙ of_kind (DeclarationKind-F.Static (static.Foreach r b)) (t.rolls-Static _)
  in_kind (st.assert_decl {x = x} h) = of_static (StaticDeclaration-F.Assert x) (static.rolls-Assert x) ∙ of_kind (DeclarationKind-F.Static (static.Assert x)) (t.rolls-Static _)
  in_kind (st.mixin_decl {x = x} h m) = of_kind (DeclarationKind-F.Mixin x) (t.rolls-Mixin x)

  in_static : {o : Bool} {w : Tokens} {bs : List DeclarationBranch} {last : Option DeclarationBody} → AreDeclBranches o w bs last → o ≡ static_decl_takes_else (static.Conditional bs last)
  in_static (st.decl_alone h1 h2) = of_static (StaticDeclaration-F.Conditional _ None) (static.rolls-Conditional _ None)
  in_static (st.decl_else {c = c} h1 h2 m3 h4 off) = in_body h4 ∙ of_static (StaticDeclaration-F.Conditional _ (Some c)) (static.rolls-Conditional _ (Some c))
  in_static (st.decl_more {bs = bs} {last = last} h1 h2 m3 h4) = in_static h4 ∙ sym (of_static (StaticDeclaration-F.Conditional bs last) (static.rolls-Conditional bs last)) ∙ of_static (StaticDeclaration-F.Conditional _ last) (static.rolls-Conditional _ last)

  in_body : {o : Bool} {w : Tokens} {x : DeclarationBody} → IsDeclBody o w x → o ≡ decl_body_takes_else x
  in_body (st.one_decl {x = x} h) = in_decl h ∙ of_body (DeclarationBody-F.One x) (body.rolls-One x)
  in_body (st.decls_in_braces {ds = ds} m1 h m3) = of_body (DeclarationBody-F.Braces ds) (body.rolls-Braces ds)

-- ---- each `else` of a chain

each_decl : {o : Bool} {w : Tokens} {bs : List DeclarationBranch} {last : Option DeclarationBody} → AreDeclBranches o w bs last → EachElseIsNearest decl_branch_takes_else bs last
each_decl (st.decl_alone h1 h2) = tt
each_decl (st.decl_else {x = x} {b = b} h1 h2 m3 h4 off) = of_branch _ x b ∙ sym (in_body h2)
each_decl (st.decl_more {x = x} {b = b} h1 h2 m3 h4) = more decl_branch_takes_else _ _ _ (of_branch _ x b ∙ sym (in_body h2)) (each_decl h4)

pub else_is_nearest : ElseIsNearest
else_is_nearest = record {
  statement = λ o tokens x h. in_stmt h;
  declaration = λ o tokens x h. in_decl h;
  branches = λ o tokens bs last h. each h;
  stmt_branches = λ o tokens bs last h. each_static h;
  decl_branches = λ o tokens bs last h. each_decl h;
}
