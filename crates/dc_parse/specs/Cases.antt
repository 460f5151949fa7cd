-- Cases of rules that are functions of their own in the code.
use Rattle.std.specs.Prelude.{Bool, true, false}
use Rattle.dc_ast.specs.declared.expression.Expr.{Expr}
use Rattle.dc_ast.specs.declared.expression.Argument.{Argument}
use Rattle.dc_ast.specs.declared.expression.Argument.TheVariants as a
use Rattle.dc_ast.specs.declared.statement.TemplateParameter.{TemplateParameter}
use Rattle.dc_ast.specs.declared.statement.Stmt.{Stmt}
use Rattle.dc_ast.specs.declared.statement.StmtKind.{StmtKind}
use Rattle.dc_ast.specs.declared.statement.StmtKind.TheVariants as s
use Rattle.dc_ast.specs.declared.statement.StaticStatement.TheVariants as static_s
use Rattle.dc_ast.specs.declared.statement.StmtBody.{StmtBody}
use Rattle.dc_ast.specs.declared.statement.StmtBody.TheVariants as body_s
use Rattle.dc_ast.specs.declared.declaration.Declaration.{Declaration}
use Rattle.dc_ast.specs.declared.declaration.DeclarationForm.{DeclarationForm}
use Rattle.dc_ast.specs.declared.declaration.DeclarationForm.TheVariants as f
use Rattle.dc_ast.specs.declared.declaration.DeclarationKind.{DeclarationKind}
use Rattle.dc_ast.specs.declared.declaration.DeclarationKind.TheVariants as d
use Rattle.dc_ast.specs.declared.declaration.StaticDeclaration.TheVariants as static_d
use Rattle.dc_ast.specs.declared.declaration.DeclarationBody.{DeclarationBody}
use Rattle.dc_ast.specs.declared.declaration.DeclarationBody.TheVariants as body_d
use Rattle.dc_grammar.specs.declared.terminal.Terminal.TheVariants as k
use Rattle.dc_grammar.specs.Reading.{Reader, mark, ◌<$>◌}
use Rattle.dc_grammar.specs.Readers.{whole_expr, whole_type}
use Rattle.dc_grammar.specs.PartReaders.{by_kind, maybe_typed, alias_read, imported, static_import, static_check, manifest, variable_read}
use Rattle.dc_grammar.specs.StmtReaders as stmts
use Rattle.dc_grammar.specs.DeclReaders as decls

abbrev pub named_parameter : Reader TemplateParameter
named_parameter = by_kind <$> maybe_typed

unfoldable pub one_expr : Reader Expr
one_expr = whole_expr

abbrev pub type_argument : Reader Argument
type_argument = a.OfType <$> whole_type

-- ---- statements

abbrev pub empty_stmt : Reader (Bool × StmtKind)
empty_stmt = (λ u. stmts.closed s.Empty) <$> mark k.Semicolon

abbrev pub alias_stmt : Reader (Bool × StmtKind)
alias_stmt = (λ x. stmts.closed (s.Alias x)) <$> alias_read

abbrev pub import_stmt : Reader (Bool × StmtKind)
import_stmt = (λ x. stmts.closed (s.Import x)) <$> imported false

abbrev pub static_import_stmt : Reader (Bool × StmtKind)
static_import_stmt = (λ x. stmts.closed (s.Import x)) <$> static_import

abbrev pub static_assert_stmt : Reader (Bool × StmtKind)
static_assert_stmt = (λ x. stmts.closed (s.Static (static_s.Assert x))) <$> static_check

abbrev pub constant_stmt : Reader (Bool × StmtKind)
constant_stmt = (λ x. stmts.closed (s.Constant x)) <$> manifest

abbrev pub stmts_in_braces : Reader (Bool × Stmt) → Reader (Bool × StmtBody)
stmts_in_braces inner = (λ xs. (false, body_s.Braces xs)) <$> stmts.in_braces inner

abbrev pub one_stmt : Reader (Bool × Stmt) → Reader (Bool × StmtBody)
one_stmt inner = (λ v. (v.0, body_s.One v.1)) <$> inner

-- ---- declarations

abbrev pub empty_decl : Reader (Bool × DeclarationForm)
empty_decl = (λ u. (false, f.Empty)) <$> mark k.Semicolon

abbrev pub alias_decl : Reader (Bool × DeclarationKind)
alias_decl = (λ x. decls.closed (d.Alias x)) <$> alias_read

abbrev pub import_decl : Reader (Bool × DeclarationKind)
import_decl = (λ x. decls.closed (d.Import x)) <$> imported false

abbrev pub static_import_decl : Reader (Bool × DeclarationKind)
static_import_decl = (λ x. decls.closed (d.Import x)) <$> static_import

abbrev pub static_assert_decl : Reader (Bool × DeclarationKind)
static_assert_decl = (λ x. decls.closed (d.Static (static_d.Assert x))) <$> static_check

abbrev pub constant_decl : Reader (Bool × DeclarationKind)
constant_decl = (λ x. decls.closed (d.Constant x)) <$> manifest

abbrev pub variable_decl : Reader (Bool × DeclarationKind)
variable_decl = (λ x. decls.closed (d.Variable x)) <$> variable_read

abbrev pub decls_in_braces : Reader (Bool × Declaration) → Reader (Bool × DeclarationBody)
decls_in_braces inner = (λ xs. (false, body_d.Braces xs)) <$> stmts.in_braces inner

abbrev pub one_decl : Reader (Bool × Declaration) → Reader (Bool × DeclarationBody)
one_decl inner = (λ v. (v.0, body_d.One v.1)) <$> inner
