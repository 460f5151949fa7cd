-- The readers of declarations and modules, with declarations read one level further down by `inner`. What is read says
-- whether an `else` that follows would belong to it.
use Rattle.std.specs.Prelude.{ℕ, zero, suc, Bool, false, List, ◌∷◌, length, Option, Some, None}
use Rattle.dc_ast.specs.declared.name.Name.{Name}
use Rattle.dc_ast.specs.declared.expression.Expr.{Expr}
use Rattle.dc_ast.specs.declared.statement.TemplateParameter.{TemplateParameter}
use Rattle.dc_ast.specs.declared.declaration.ModuleLine.{ModuleLine}
use Rattle.dc_ast.specs.declared.declaration.ModuleTree.{ModuleTree}
use Rattle.dc_ast.specs.declared.declaration.Declaration.{Declaration}
use Rattle.dc_ast.specs.declared.declaration.DeclarationForm.{DeclarationForm}
use Rattle.dc_ast.specs.declared.declaration.DeclarationForm.TheVariants as d
use Rattle.dc_ast.specs.declared.declaration.DeclarationKind.{DeclarationKind}
use Rattle.dc_ast.specs.declared.declaration.DeclarationKind.TheVariants as t
use Rattle.dc_ast.specs.declared.declaration.Plain.{Plain}
use Rattle.dc_ast.specs.declared.declaration.StructTree.{StructTree}
use Rattle.dc_ast.specs.declared.declaration.StaticDeclaration.TheVariants as static
use Rattle.dc_ast.specs.declared.declaration.DeclarationBranch.{DeclarationBranch}
use Rattle.dc_ast.specs.declared.declaration.DeclarationBody.{DeclarationBody}
use Rattle.dc_ast.specs.declared.declaration.DeclarationBody.TheVariants as body
use Rattle.dc_ast.specs.declared.declaration.FunctionTree.{FunctionTree}
use Rattle.dc_ast.specs.declared.declaration.Parameter.{Parameter}
use Rattle.dc_grammar.specs.declared.terminal.Terminal.{Terminal}
use Rattle.dc_grammar.specs.declared.terminal.Terminal.TheVariants as k
use Rattle.dc_grammar.specs.Terminals.{ahead}
use Rattle.dc_grammar.specs.Words.{visibility}
use Rattle.dc_grammar.specs.MoreTrees as trees
use Rattle.dc_grammar.specs.MoreTrees.{function, declaration, plain, struct_tree, template_tree, declaration_branch, module_tree}
use Rattle.dc_grammar.specs.Statements.{second, begins_conditional}
use Rattle.dc_grammar.specs.Reading.{Reader, mark, means, both, either, ◌<$>◌, maybe, from_start, nothing}
use Rattle.dc_grammar.specs.Readers.{id}
use Rattle.dc_grammar.specs.PartReaders.{head, attribute, attributes, path, imported, static_import, template_parameters, parameters, enumeration, manifest, alias_read, strictly, variable_read, static_test, static_over, static_check}
use Rattle.dc_grammar.specs.StmtReaders.{chain, items, in_braces, whole_stmt}

-- ---- functions

unfoldable pub template_signature : Reader (Option (List TemplateParameter) × List Parameter)
template_signature = (λ z. (Some z.0, z.1)) <$> both template_parameters parameters

abbrev pub plain_signature : Reader (Option (List TemplateParameter) × List Parameter)
plain_signature = (λ z. (None, z)) <$> parameters

unfoldable pub signature : Reader (Option (List TemplateParameter) × List Parameter)
signature = either template_signature plain_signature

abbrev pub constraint : Reader (Option Expr)
constraint = maybe (head k.If)

unfoldable pub function_read : Reader FunctionTree
function_read = (λ z. function z.0.0 z.0.1 z.1.0.0 z.1.0.1 z.1.1.0 z.1.1.1.0 z.1.1.1.1) <$> both strictly (both signature (both attributes (both constraint (in_braces whole_stmt))))

abbrev pub closed : DeclarationKind → Bool × DeclarationKind
closed x = (false, x)

unfoldable pub mixin_decl : Reader (Bool × DeclarationKind)
mixin_decl = (λ z. closed (t.Mixin z.0)) <$> both (head k.Mixin) (mark k.Semicolon)

unfoldable pub enum_decl : Reader (Bool × DeclarationKind)
enum_decl = either ((λ x. closed (t.Enum x)) <$> enumeration) ((λ x. closed (t.Constant x)) <$> manifest)

unfoldable pub typed_decl : Reader (Bool × DeclarationKind)
typed_decl = either ((λ x. closed (t.Function x)) <$> function_read) ((λ x. closed (t.Variable x)) <$> variable_read)

unfoldable pub template_head : Reader (List TemplateParameter × Option Expr)
template_head = both template_parameters constraint

abbrev pub struct_with : Name → Option (List TemplateParameter × Option Expr) → List Declaration → StructTree
struct_with n None ds = struct_tree n None None ds
struct_with n (Some z) ds = struct_tree n (Some z.0) z.1 ds

unfoldable pub section : Reader (Bool × DeclarationForm)
section = (λ z. (false, d.Section z.0)) <$> both (means visibility) (mark k.Colon)

module _ (inner : Reader (Bool × Declaration)) where
  unfoldable pub struct_decl : Reader (Bool × DeclarationKind)
  struct_decl = (λ z. closed (t.Struct (struct_with z.1.0 z.1.1.0 z.1.1.1))) <$> both (mark k.Struct) (both id (both (maybe template_head) (in_braces inner)))

  unfoldable pub template_decl : Reader (Bool × DeclarationKind)
  template_decl = (λ z. closed (t.Template (template_tree z.1.0 z.1.1.0.0 z.1.1.0.1 z.1.1.1))) <$> both (mark k.Template) (both id (both template_head (in_braces inner)))

  abbrev pub body_by : Terminal → Reader (Bool × DeclarationBody)
  body_by k.LeftBrace = (λ xs. (false, body.Braces xs)) <$> in_braces inner
  body_by _ = (λ v. (v.0, body.One v.1)) <$> inner

  unfoldable pub decl_body : Reader (Bool × DeclarationBody)
  decl_body = λ ts. body_by (ahead ts) ts

  unfoldable pub static_branch : Reader (Bool × DeclarationBranch)
  static_branch = from_start (λ at z. (z.1.0, declaration_branch at z.0 z.1.1)) (both static_test decl_body)

  unfoldable pub conditional_decl : Reader (Bool × DeclarationKind)
  conditional_decl = (λ v. (v.0, t.Static (static.Conditional v.1.0 v.1.1))) <$> chain static_branch begins_conditional decl_body

  unfoldable pub static_foreach : Reader (Bool × DeclarationKind)
  static_foreach = (λ z. (z.1.0, t.Static (static.Foreach z.0 z.1.1))) <$> both static_over decl_body

  -- by the word behind `static`
  abbrev pub static_by : Terminal → Reader (Bool × DeclarationKind)
  static_by k.Import = (λ x. closed (t.Import x)) <$> static_import
  static_by k.If = conditional_decl
  static_by k.Foreach = static_foreach
  static_by k.Assert = (λ x. closed (t.Static (static.Assert x))) <$> static_check
  static_by _ = nothing

  abbrev pub static_decl : Reader (Bool × DeclarationKind)
  static_decl = λ ts. static_by (second ts) ts

  abbrev pub kind_by : Terminal → Reader (Bool × DeclarationKind)
  kind_by k.Import = (λ x. closed (t.Import x)) <$> imported false
  kind_by k.Enum = enum_decl
  kind_by k.Alias = (λ x. closed (t.Alias x)) <$> alias_read
  kind_by k.Struct = struct_decl
  kind_by k.Template = template_decl
  kind_by k.Static = static_decl
  kind_by k.Version = conditional_decl
  kind_by k.Mixin = mixin_decl
  kind_by _ = typed_decl

  unfoldable pub decl_kind : Reader (Bool × DeclarationKind)
  decl_kind = λ ts. kind_by (ahead ts) ts

  unfoldable pub plain_read : Reader (Bool × Plain)
  plain_read = from_start (λ at v. (v.0, plain at v.1)) decl_kind

  -- attributes and a declaration
  unfoldable pub plain_decl : Reader (Bool × DeclarationForm)
  plain_decl = (λ z. (z.1.0, d.Plain z.0 z.1.1)) <$> both attributes plain_read

  -- attributes and declarations in braces
  unfoldable pub group_decl : Reader (Bool × DeclarationForm)
  group_decl = (λ z. (false, d.Group (z.0 ∷ z.1.0) z.1.1)) <$> both attribute (both attributes (in_braces inner))

  abbrev pub form_by : Terminal → Reader (Bool × DeclarationForm)
  form_by k.Semicolon = (λ u. (false, d.Empty)) <$> mark k.Semicolon
  form_by _ = either section (either group_decl plain_decl)

  unfoldable pub decl_form : Reader (Bool × DeclarationForm)
  decl_form = λ ts. form_by (ahead ts) ts

  unfoldable pub one_decl : Reader (Bool × Declaration)
  one_decl = from_start (λ at v. (v.0, declaration at v.1)) decl_form

-- with declarations nested no deeper than the first number
unfoldable pub decl_to : ℕ → Reader (Bool × Declaration)
decl_to zero = nothing
decl_to (suc n) = one_decl (decl_to n)

-- The depth is no bound, since each level takes a token.
abbrev pub whole_decls : Reader (List Declaration)
whole_decls = λ ts. items (decl_to (length ts)) ts

unfoldable pub module_line : Reader ModuleLine
module_line = from_start (λ at z. trees.module_line at z.1.0) (both (mark k.Module) (both path (mark k.Semicolon)))

unfoldable pub whole_module : Reader ModuleTree
whole_module = (λ z. module_tree z.0 z.1) <$> both (maybe module_line) whole_decls
