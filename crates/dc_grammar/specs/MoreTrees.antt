-- How the trees of statements and declarations are made.
use Rattle.std.specs.Prelude.{ℕ, Bool, List, Option}
use Rattle.dc_ast.specs.declared.word.Storage.{Storage}
use Rattle.dc_ast.specs.declared.word.Attribute.{Attribute}
use Rattle.dc_ast.specs.declared.name.Name.{Name}
use Rattle.dc_ast.specs.declared.expression.Expr.{Expr}
use Rattle.dc_ast.specs.declared.expression.Argument.{Argument}
use Rattle.dc_ast.specs.declared.types.TypeTree.{TypeTree}
use Rattle.dc_ast.specs.declared.statement.Stmt.{Stmt, roll-Stmt}
use Rattle.dc_ast.specs.declared.statement.StmtKind.{StmtKind}
use Rattle.dc_ast.specs.declared.statement.Branch.{Branch, roll-Branch}
use Rattle.dc_ast.specs.declared.statement.Group.{Group, roll-Group}
use Rattle.dc_ast.specs.declared.statement.StmtBranch.{StmtBranch, roll-StmtBranch}
use Rattle.dc_ast.specs.declared.statement.StmtBody.{StmtBody}
use Rattle.dc_ast.specs.declared.statement.Label.{Label}
use Rattle.dc_ast.specs.declared.statement.LoopName.{LoopName}
use Rattle.dc_ast.specs.declared.statement.StaticTest.{StaticTest}
use Rattle.dc_ast.specs.declared.statement.StaticRange.{StaticRange}
use Rattle.dc_ast.specs.declared.statement.StaticAssert.{StaticAssert}
use Rattle.dc_ast.specs.declared.statement.Variable.{Variable}
use Rattle.dc_ast.specs.declared.statement.VariableTree.{VariableTree}
use Rattle.dc_ast.specs.declared.statement.EnumTree.{EnumTree}
use Rattle.dc_ast.specs.declared.statement.EnumMember.{EnumMember}
use Rattle.dc_ast.specs.declared.statement.ConstantTree.{ConstantTree}
use Rattle.dc_ast.specs.declared.statement.AliasTree.{AliasTree}
use Rattle.dc_ast.specs.declared.statement.TemplateParameter.{TemplateParameter}
use Rattle.dc_ast.specs.declared.statement.ImportTree.{ImportTree}
use Rattle.dc_ast.specs.declared.statement.ImportItem.{ImportItem}
use Rattle.dc_ast.specs.declared.statement.Bind.{Bind}
use Rattle.dc_ast.specs.declared.declaration.ModuleLine.{ModuleLine}
use Rattle.dc_ast.specs.declared.declaration.ModuleTree.{ModuleTree}
use Rattle.dc_ast.specs.declared.declaration.Declaration.{Declaration, roll-Declaration}
use Rattle.dc_ast.specs.declared.declaration.DeclarationForm.{DeclarationForm}
use Rattle.dc_ast.specs.declared.declaration.DeclarationKind.{DeclarationKind}
use Rattle.dc_ast.specs.declared.declaration.Plain.{Plain, roll-Plain}
use Rattle.dc_ast.specs.declared.declaration.StructTree.{StructTree, roll-StructTree}
use Rattle.dc_ast.specs.declared.declaration.TemplateTree.{TemplateTree, roll-TemplateTree}
use Rattle.dc_ast.specs.declared.declaration.DeclarationBranch.{DeclarationBranch, roll-DeclarationBranch}
use Rattle.dc_ast.specs.declared.declaration.DeclarationBody.{DeclarationBody}
use Rattle.dc_ast.specs.declared.declaration.FunctionTree.{FunctionTree}
use Rattle.dc_ast.specs.declared.declaration.Parameter.{Parameter}

abbrev pub import_item : ℕ → Option Name → List Name → ImportItem
import_item at renamed path = record { at = at; renamed = renamed; path = path }

abbrev pub bind : Name → Option Name → Bind
bind name original = record { name = name; original = original }

abbrev pub import_tree : Bool → List ImportItem → List Bind → ImportTree
import_tree is_static items binds = record { is_static = is_static; items = items; binds = binds }

abbrev pub variable : Name → Option Expr → Variable
variable name value = record { name = name; value = value }

abbrev pub variables : Option Storage → Option TypeTree → List Variable → VariableTree
variables storage of all = record { storage = storage; of = of; variables = all }

abbrev pub member : Name → Option Expr → EnumMember
member name value = record { name = name; value = value }

abbrev pub enum_tree : Option Name → Option TypeTree → List EnumMember → EnumTree
enum_tree name base members = record { name = name; base = base; members = members }

abbrev pub constant : Option TypeTree → Name → Option (List TemplateParameter) → Expr → ConstantTree
constant of name parameters value = record { of = of; name = name; parameters = parameters; value = value }

abbrev pub alias_tree : Name → Option (List TemplateParameter) → Argument → AliasTree
alias_tree name parameters target = record { name = name; parameters = parameters; target = target }

abbrev pub loop_name : Bool → Option TypeTree → Name → LoopName
loop_name is_ref of name = record { is_ref = is_ref; of = of; name = name }

abbrev pub static_range : Name → Expr → Option Expr → StaticRange
static_range name over end = record { name = name; over = over; end = end }

abbrev pub static_assert : Expr → Option Expr → StaticAssert
static_assert condition message = record { condition = condition; message = message }

abbrev pub stmt : ℕ → StmtKind → Stmt
stmt at kind = roll-Stmt (record { at = at; kind = kind })

abbrev pub branch : Expr → Stmt → Branch
branch condition body = roll-Branch (record { condition = condition; body = body })

abbrev pub group : ℕ → Label → List Stmt → Group
group at label body = roll-Group (record { at = at; label = label; body = body })

abbrev pub stmt_branch : ℕ → StaticTest → StmtBody → StmtBranch
stmt_branch at test body = roll-StmtBranch (record { at = at; test = test; body = body })

abbrev pub parameter : ℕ → Bool → Option Storage → TypeTree → Name → Parameter
parameter at is_ref storage of name = record { at = at; is_ref = is_ref; storage = storage; of = of; name = name }

abbrev pub function : Option TypeTree → Name → Option (List TemplateParameter) → List Parameter → List Attribute → Option Expr → List Stmt → FunctionTree
function result name templates parameters attributes constraint body =
    record { result = result; name = name; template_parameters = templates; parameters = parameters; attributes = attributes; constraint = constraint; body = body }

abbrev pub plain : ℕ → DeclarationKind → Plain
plain at kind = roll-Plain (record { at = at; kind = kind })

abbrev pub declaration : ℕ → DeclarationForm → Declaration
declaration at form = roll-Declaration (record { at = at; form = form })

abbrev pub struct_tree : Name → Option (List TemplateParameter) → Option Expr → List Declaration → StructTree
struct_tree name parameters constraint members = roll-StructTree (record { name = name; parameters = parameters; constraint = constraint; members = members })

abbrev pub template_tree : Name → List TemplateParameter → Option Expr → List Declaration → TemplateTree
template_tree name parameters constraint members = roll-TemplateTree (record { name = name; parameters = parameters; constraint = constraint; members = members })

abbrev pub declaration_branch : ℕ → StaticTest → DeclarationBody → DeclarationBranch
declaration_branch at test body = roll-DeclarationBranch (record { at = at; test = test; body = body })

abbrev pub module_line : ℕ → List Name → ModuleLine
module_line at name = record { at = at; name = name }

abbrev pub module_tree : Option ModuleLine → List Declaration → ModuleTree
module_tree line declarations = record { line = line; declarations = declarations }
