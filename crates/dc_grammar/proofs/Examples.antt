-- The readers, computed on small texts. A token begins at its number.
use Rattle.std.proofs.Common.{◌≡◌, ℕ, true, false, List, [], ◌∷◌, Some, None, refl}
use Rattle.std.specs.Prelude.{codes}
use Rattle.dc_token.specs.declared.token.Token.{Token}
use Rattle.dc_token.specs.declared.token.TokenKind.TheVariants as kind
use Rattle.dc_ast.specs.declared.word.BasicType.TheVariants as basic
use Rattle.dc_ast.specs.declared.word.BinaryOperator.TheVariants as op
use Rattle.dc_ast.specs.declared.word.Storage.TheVariants as store
use Rattle.dc_ast.specs.declared.word.Visibility.TheVariants as visible
use Rattle.dc_ast.specs.declared.word.Attribute.TheVariants as attr
use Rattle.dc_ast.specs.declared.name.Name.{Name}
use Rattle.dc_ast.specs.declared.expression.Expr.{Expr}
use Rattle.dc_ast.specs.declared.expression.ExprKind.TheVariants as e
use Rattle.dc_ast.specs.declared.types.TypeTree.{TypeTree}
use Rattle.dc_ast.specs.declared.types.Base.TheVariants as b
use Rattle.dc_ast.specs.declared.types.Bracket.TheVariants as br
use Rattle.dc_ast.specs.declared.statement.Stmt.{Stmt}
use Rattle.dc_ast.specs.declared.statement.StmtKind.TheVariants as s
use Rattle.dc_ast.specs.declared.statement.StaticStatement.TheVariants as ss
use Rattle.dc_ast.specs.declared.statement.StaticTest.TheVariants as test
use Rattle.dc_ast.specs.declared.statement.StmtBody.TheVariants as sb
use Rattle.dc_ast.specs.declared.statement.Label.TheVariants as label
use Rattle.dc_ast.specs.declared.statement.ForStart.TheVariants as start
use Rattle.dc_ast.specs.declared.statement.TemplateParameter.TheVariants as q
use Rattle.dc_ast.specs.declared.expression.Suffix.TheVariants as suffix
use Rattle.dc_ast.specs.declared.expression.Argument.TheVariants as arg
use Rattle.dc_ast.specs.declared.declaration.DeclarationForm.TheVariants as d
use Rattle.dc_ast.specs.declared.declaration.DeclarationKind.TheVariants as t
use Rattle.dc_ast.specs.declared.declaration.StaticDeclaration.TheVariants as ds
use Rattle.dc_ast.specs.declared.declaration.DeclarationBody.TheVariants as db
use Rattle.dc_grammar.specs.Terminals.{same_terminal, word, sign, terminal_of}
use Rattle.dc_grammar.specs.Words.{at_word}
use Rattle.dc_grammar.specs.Reading.{many_from}
use Rattle.dc_grammar.specs.Trees.{expr, step, symbol, type_tree}
use Rattle.dc_grammar.specs.MoreTrees as m
use Rattle.dc_grammar.specs.Readers as exprs
use Rattle.dc_grammar.specs.PartReaders as part
use Rattle.dc_grammar.specs.StmtReaders as stmts
use Rattle.dc_grammar.specs.StmtReaders.{whole_stmts}
use Rattle.dc_grammar.specs.DeclReaders as decls
use Rattle.dc_grammar.specs.DeclReaders.{whole_decls, whole_module}

abbrev called : ℕ → List ℕ → Token
called n w = record { kind = kind.Id; spelling = w; start = n; end = n }

abbrev keyword : ℕ → List ℕ → Token
keyword n w = record { kind = kind.Used; spelling = w; start = n; end = n }

abbrev numeral : ℕ → List ℕ → Token
numeral n w = record { kind = kind.Integer; spelling = w; start = n; end = n }

abbrev mark : ℕ → List ℕ → Token
mark n w = record { kind = kind.Sign; spelling = w; start = n; end = n }

abbrev id : ℕ → List ℕ → Name
id n w = record { spelling = w; at = n }

-- an expression that is a name
abbrev var : ℕ → List ℕ → Expr
var n w = expr n (e.Symbol (symbol (id n w) None))

-- a statement `x;`
abbrev do_it : ℕ → List ℕ → Stmt
do_it n w = m.stmt n (s.Expr (var n w))

abbrev int_type : ℕ → TypeTree
int_type n = type_tree n (b.Basic basic.Int) []

-- an `else` belongs to the nearest `if`
abbrev Dangling : Type 0
Dangling = whole_stmts (keyword 0 (codes "if") ∷ mark 1 (codes "(") ∷ called 2 (codes "a") ∷ mark 3 (codes ")") ∷ keyword 4 (codes "if") ∷ mark 5 (codes "(") ∷ called 6 (codes "b") ∷ mark 7 (codes ")") ∷ called 8 (codes "x") ∷ mark 9 (codes ";") ∷ keyword 10 (codes "else") ∷ called 11 (codes "y") ∷ mark 12 (codes ";") ∷ []) ≡ Some (m.stmt 0 (s.If (m.branch (var 2 (codes "a")) (m.stmt 4 (s.If (m.branch (var 6 (codes "b")) (do_it 8 (codes "x")) ∷ []) (Some (do_it 11 (codes "y"))))) ∷ []) None) ∷ [], [])

-- a chain of them is one list
abbrev Chained : Type 0
Chained = whole_stmts (keyword 0 (codes "if") ∷ mark 1 (codes "(") ∷ called 2 (codes "a") ∷ mark 3 (codes ")") ∷ called 4 (codes "x") ∷ mark 5 (codes ";") ∷ keyword 6 (codes "else") ∷ keyword 7 (codes "if") ∷ mark 8 (codes "(") ∷ called 9 (codes "b") ∷ mark 10 (codes ")") ∷ called 11 (codes "y") ∷ mark 12 (codes ";") ∷ keyword 13 (codes "else") ∷ called 14 (codes "z") ∷ mark 15 (codes ";") ∷ []) ≡ Some (m.stmt 0 (s.If (m.branch (var 2 (codes "a")) (do_it 4 (codes "x")) ∷ m.branch (var 9 (codes "b")) (do_it 11 (codes "y")) ∷ []) (Some (do_it 14 (codes "z")))) ∷ [], [])

-- without a statement behind it the list ends before the `else`
abbrev Cut : Type 0
Cut = whole_stmts (keyword 0 (codes "if") ∷ mark 1 (codes "(") ∷ called 2 (codes "a") ∷ mark 3 (codes ")") ∷ called 4 (codes "x") ∷ mark 5 (codes ";") ∷ keyword 6 (codes "else") ∷ mark 7 (codes ")") ∷ mark 8 (codes ";") ∷ []) ≡ Some (m.stmt 0 (s.If (m.branch (var 2 (codes "a")) (do_it 4 (codes "x")) ∷ []) None) ∷ [], keyword 6 (codes "else") ∷ mark 7 (codes ")") ∷ mark 8 (codes ";") ∷ [])

-- a product, and two variables
abbrev Variables : Type 0
Variables = whole_stmts (called 0 (codes "a") ∷ mark 1 (codes "*") ∷ called 2 (codes "b") ∷ mark 3 (codes ";") ∷ called 4 (codes "a") ∷ called 5 (codes "b") ∷ mark 6 (codes ";") ∷ called 7 (codes "a") ∷ mark 8 (codes "[") ∷ numeral 9 (codes "1") ∷ mark 10 (codes "]") ∷ called 11 (codes "c") ∷ mark 12 (codes ";") ∷ []) ≡ Some (m.stmt 0 (s.Expr (expr 0 (e.Chain (var 0 (codes "a")) (step op.Multiply (var 2 (codes "b")) ∷ [])))) ∷ m.stmt 4 (s.Variable (m.variables None (Some (type_tree 4 (b.Named (symbol (id 4 (codes "a")) None ∷ [])) [])) (m.variable (id 5 (codes "b")) None ∷ []))) ∷ m.stmt 7 (s.Variable (m.variables None (Some (type_tree 7 (b.Named (symbol (id 7 (codes "a")) None ∷ [])) (br.Fixed (expr 9 (e.Integer (codes "1"))) ∷ []))) (m.variable (id 11 (codes "c")) None ∷ []))) ∷ [], [])

-- a mixin as a statement, and in an expression
abbrev Mixins : Type 0
Mixins = whole_stmts (keyword 0 (codes "mixin") ∷ mark 1 (codes "(") ∷ called 2 (codes "a") ∷ mark 3 (codes ")") ∷ mark 4 (codes ";") ∷ keyword 5 (codes "mixin") ∷ mark 6 (codes "(") ∷ called 7 (codes "a") ∷ mark 8 (codes ")") ∷ mark 9 (codes "++") ∷ mark 10 (codes ";") ∷ []) ≡ Some (m.stmt 0 (s.Mixin (var 2 (codes "a"))) ∷ m.stmt 5 (s.Expr (expr 5 (e.Postfix (expr 5 (e.Mixin (var 7 (codes "a")))) (suffix.Increment ∷ [])))) ∷ [], [])

-- conditionals among statements
abbrev Conditionals : Type 0
Conditionals = whole_stmts (keyword 0 (codes "version") ∷ mark 1 (codes "(") ∷ called 2 (codes "v") ∷ mark 3 (codes ")") ∷ mark 4 (codes "{") ∷ called 5 (codes "x") ∷ mark 6 (codes ";") ∷ mark 7 (codes "}") ∷ keyword 8 (codes "else") ∷ keyword 9 (codes "static") ∷ keyword 10 (codes "if") ∷ mark 11 (codes "(") ∷ called 12 (codes "a") ∷ mark 13 (codes ")") ∷ called 14 (codes "y") ∷ mark 15 (codes ";") ∷ []) ≡ Some (m.stmt 0 (s.Static (ss.Conditional (m.stmt_branch 0 (test.Version (id 2 (codes "v"))) (sb.Braces (do_it 5 (codes "x") ∷ [])) ∷ m.stmt_branch 9 (test.If (var 12 (codes "a"))) (sb.One (do_it 14 (codes "y"))) ∷ []) None)) ∷ [], [])

-- a switch, its labels and groups
abbrev Switched : Type 0
Switched = whole_stmts (keyword 0 (codes "switch") ∷ mark 1 (codes "(") ∷ called 2 (codes "a") ∷ mark 3 (codes ")") ∷ mark 4 (codes "{") ∷ called 5 (codes "x") ∷ mark 6 (codes ";") ∷ keyword 7 (codes "case") ∷ numeral 8 (codes "1") ∷ mark 9 (codes ",") ∷ called 10 (codes "b") ∷ mark 11 (codes ":") ∷ called 12 (codes "y") ∷ mark 13 (codes ";") ∷ keyword 14 (codes "default") ∷ mark 15 (codes ":") ∷ keyword 16 (codes "break") ∷ mark 17 (codes ";") ∷ mark 18 (codes "}") ∷ []) ≡ Some (m.stmt 0 (s.Switch (var 2 (codes "a")) (do_it 5 (codes "x") ∷ []) (m.group 7 (label.Case (expr 8 (e.Integer (codes "1")) ∷ var 10 (codes "b") ∷ [])) (do_it 12 (codes "y") ∷ []) ∷ m.group 14 label.Default (m.stmt 16 s.Break ∷ []) ∷ [])) ∷ [], [])

-- loops
abbrev Loops : Type 0
Loops = whole_stmts (keyword 0 (codes "for") ∷ mark 1 (codes "(") ∷ keyword 2 (codes "int") ∷ called 3 (codes "i") ∷ mark 4 (codes "=") ∷ called 5 (codes "a") ∷ mark 6 (codes ";") ∷ mark 7 (codes ";") ∷ mark 8 (codes ")") ∷ mark 9 (codes ";") ∷ keyword 10 (codes "foreach") ∷ mark 11 (codes "(") ∷ keyword 12 (codes "ref") ∷ keyword 13 (codes "int") ∷ called 14 (codes "i") ∷ mark 15 (codes ",") ∷ called 16 (codes "x") ∷ mark 17 (codes ";") ∷ called 18 (codes "a") ∷ mark 19 (codes "..") ∷ called 20 (codes "b") ∷ mark 21 (codes ")") ∷ mark 22 (codes "{") ∷ mark 23 (codes "}") ∷ []) ≡ Some (m.stmt 0 (s.For (start.Variable 2 (m.variables None (Some (int_type 2)) (m.variable (id 3 (codes "i")) (Some (var 5 (codes "a"))) ∷ []))) None None (m.stmt 9 s.Empty)) ∷ m.stmt 10 (s.Foreach (m.loop_name true (Some (int_type 13)) (id 14 (codes "i")) ∷ m.loop_name false None (id 16 (codes "x")) ∷ []) (var 18 (codes "a")) (Some (var 20 (codes "b"))) (m.stmt 22 (s.Block []))) ∷ [], [])

-- attributes, sections and groups
abbrev Attributes : Type 0
Attributes = whole_decls (keyword 0 (codes "private") ∷ mark 1 (codes ":") ∷ keyword 2 (codes "pure") ∷ mark 3 (codes "@") ∷ called 4 (codes "safe") ∷ keyword 5 (codes "int") ∷ called 6 (codes "f") ∷ mark 7 (codes "(") ∷ mark 8 (codes ")") ∷ mark 9 (codes "{") ∷ mark 10 (codes "}") ∷ mark 11 (codes "@") ∷ called 12 (codes "nogc") ∷ mark 13 (codes "{") ∷ mark 14 (codes ";") ∷ mark 15 (codes "}") ∷ []) ≡ Some (m.declaration 0 (d.Section visible.Private) ∷ m.declaration 2 (d.Plain (attr.Pure ∷ attr.Safe ∷ []) (m.plain 5 (t.Function (m.function (Some (int_type 5)) (id 6 (codes "f")) None [] [] None [])))) ∷ m.declaration 11 (d.Group (attr.NoGc ∷ []) (m.declaration 14 d.Empty ∷ [])) ∷ [], [])

-- imports
abbrev Imports : Type 0
Imports = whole_decls (keyword 0 (codes "import") ∷ called 1 (codes "a") ∷ mark 2 (codes ".") ∷ called 3 (codes "b") ∷ mark 4 (codes ";") ∷ keyword 5 (codes "static") ∷ keyword 6 (codes "import") ∷ called 7 (codes "a") ∷ mark 8 (codes ";") ∷ keyword 9 (codes "import") ∷ called 10 (codes "c") ∷ mark 11 (codes "=") ∷ called 12 (codes "a") ∷ mark 13 (codes ".") ∷ called 14 (codes "b") ∷ mark 15 (codes ",") ∷ called 16 (codes "d") ∷ mark 17 (codes ":") ∷ called 18 (codes "x") ∷ mark 19 (codes "=") ∷ called 20 (codes "y") ∷ mark 21 (codes ",") ∷ called 22 (codes "z") ∷ mark 23 (codes ";") ∷ keyword 24 (codes "public") ∷ keyword 25 (codes "import") ∷ called 26 (codes "a") ∷ mark 27 (codes ";") ∷ []) ≡ Some (m.declaration 0 (d.Plain [] (m.plain 0 (t.Import (m.import_tree false (m.import_item 1 None (id 1 (codes "a") ∷ id 3 (codes "b") ∷ []) ∷ []) [])))) ∷ m.declaration 5 (d.Plain [] (m.plain 5 (t.Import (m.import_tree true (m.import_item 7 None (id 7 (codes "a") ∷ []) ∷ []) [])))) ∷ m.declaration 9 (d.Plain [] (m.plain 9 (t.Import (m.import_tree false (m.import_item 10 (Some (id 10 (codes "c"))) (id 12 (codes "a") ∷ id 14 (codes "b") ∷ []) ∷ m.import_item 16 None (id 16 (codes "d") ∷ []) ∷ []) (m.bind (id 18 (codes "x")) (Some (id 20 (codes "y"))) ∷ m.bind (id 22 (codes "z")) None ∷ []))))) ∷ m.declaration 24 (d.Plain (attr.Public ∷ []) (m.plain 25 (t.Import (m.import_tree false (m.import_item 26 None (id 26 (codes "a") ∷ []) ∷ []) [])))) ∷ [], [])

-- conditionals among declarations
abbrev Conditional : Type 0
Conditional = whole_decls (keyword 0 (codes "static") ∷ keyword 1 (codes "if") ∷ mark 2 (codes "(") ∷ called 3 (codes "a") ∷ mark 4 (codes ")") ∷ keyword 5 (codes "int") ∷ called 6 (codes "x") ∷ mark 7 (codes ";") ∷ keyword 8 (codes "else") ∷ mark 9 (codes "{") ∷ keyword 10 (codes "int") ∷ called 11 (codes "y") ∷ mark 12 (codes ";") ∷ mark 13 (codes "}") ∷ []) ≡ Some (m.declaration 0 (d.Plain [] (m.plain 0 (t.Static (ds.Conditional (m.declaration_branch 0 (test.If (var 3 (codes "a"))) (db.One (m.declaration 5 (d.Plain [] (m.plain 5 (t.Variable (m.variables None (Some (int_type 5)) (m.variable (id 6 (codes "x")) None ∷ []))))))) ∷ []) (Some (db.Braces (m.declaration 10 (d.Plain [] (m.plain 10 (t.Variable (m.variables None (Some (int_type 10)) (m.variable (id 11 (codes "y")) None ∷ []))))) ∷ []))))))) ∷ [], [])

-- a conditional whose `else` has no tree ends before it
abbrev Half : Type 0
Half = whole_decls (mark 0 (codes ";") ∷ keyword 1 (codes "static") ∷ keyword 2 (codes "if") ∷ mark 3 (codes "(") ∷ called 4 (codes "a") ∷ mark 5 (codes ")") ∷ keyword 6 (codes "int") ∷ called 7 (codes "x") ∷ mark 8 (codes ";") ∷ keyword 9 (codes "else") ∷ mark 10 (codes ")") ∷ []) ≡ Some (m.declaration 0 d.Empty ∷ m.declaration 1 (d.Plain [] (m.plain 1 (t.Static (ds.Conditional (m.declaration_branch 1 (test.If (var 4 (codes "a"))) (db.One (m.declaration 6 (d.Plain [] (m.plain 6 (t.Variable (m.variables None (Some (int_type 6)) (m.variable (id 7 (codes "x")) None ∷ []))))))) ∷ []) None)))) ∷ [], keyword 9 (codes "else") ∷ mark 10 (codes ")") ∷ [])

-- parameters of a template before those of a function
abbrev Functions : Type 0
Functions = whole_decls (keyword 0 (codes "int") ∷ called 1 (codes "f") ∷ mark 2 (codes "(") ∷ called 3 (codes "T") ∷ mark 4 (codes ")") ∷ mark 5 (codes "(") ∷ keyword 6 (codes "const") ∷ keyword 7 (codes "int") ∷ called 8 (codes "x") ∷ mark 9 (codes ")") ∷ keyword 10 (codes "if") ∷ mark 11 (codes "(") ∷ called 12 (codes "a") ∷ mark 13 (codes ")") ∷ mark 14 (codes "{") ∷ mark 15 (codes "}") ∷ keyword 16 (codes "auto") ∷ called 17 (codes "g") ∷ mark 18 (codes "(") ∷ keyword 19 (codes "ref") ∷ keyword 20 (codes "int") ∷ called 21 (codes "x") ∷ mark 22 (codes ")") ∷ mark 23 (codes "{") ∷ mark 24 (codes "}") ∷ []) ≡ Some (m.declaration 0 (d.Plain [] (m.plain 0 (t.Function (m.function (Some (int_type 0)) (id 1 (codes "f")) (Some (q.OfType (id 3 (codes "T")) ∷ [])) (m.parameter 6 false (Some store.Const) (int_type 7) (id 8 (codes "x")) ∷ []) [] (Some (var 12 (codes "a"))) [])))) ∷ m.declaration 16 (d.Plain [] (m.plain 16 (t.Function (m.function None (id 17 (codes "g")) None (m.parameter 19 true None (int_type 20) (id 21 (codes "x")) ∷ []) [] None [])))) ∷ [], [])

-- enums and constants
abbrev Enums : Type 0
Enums = whole_decls (keyword 0 (codes "enum") ∷ keyword 1 (codes "int") ∷ called 2 (codes "x") ∷ mark 3 (codes "=") ∷ called 4 (codes "a") ∷ mark 5 (codes ";") ∷ keyword 6 (codes "enum") ∷ called 7 (codes "A") ∷ mark 8 (codes ":") ∷ keyword 9 (codes "int") ∷ mark 10 (codes "{") ∷ called 11 (codes "a") ∷ mark 12 (codes ",") ∷ called 13 (codes "b") ∷ mark 14 (codes "=") ∷ called 15 (codes "a") ∷ mark 16 (codes ",") ∷ mark 17 (codes "}") ∷ keyword 18 (codes "enum") ∷ called 19 (codes "y") ∷ mark 20 (codes "(") ∷ called 21 (codes "T") ∷ mark 22 (codes ")") ∷ mark 23 (codes "=") ∷ called 24 (codes "a") ∷ mark 25 (codes ";") ∷ []) ≡ Some (m.declaration 0 (d.Plain [] (m.plain 0 (t.Constant (m.constant (Some (int_type 1)) (id 2 (codes "x")) None (var 4 (codes "a")))))) ∷ m.declaration 6 (d.Plain [] (m.plain 6 (t.Enum (m.enum_tree (Some (id 7 (codes "A"))) (Some (int_type 9)) (m.member (id 11 (codes "a")) None ∷ m.member (id 13 (codes "b")) (Some (var 15 (codes "a"))) ∷ []))))) ∷ m.declaration 18 (d.Plain [] (m.plain 18 (t.Constant (m.constant None (id 19 (codes "y")) (Some (q.OfType (id 21 (codes "T")) ∷ [])) (var 24 (codes "a")))))) ∷ [], [])

-- words of a storage class, and `immutable(char)`
abbrev Stored : Type 0
Stored = whole_decls (keyword 0 (codes "immutable") ∷ mark 1 (codes "(") ∷ keyword 2 (codes "char") ∷ mark 3 (codes ")") ∷ mark 4 (codes "[") ∷ mark 5 (codes "]") ∷ called 6 (codes "x") ∷ mark 7 (codes ";") ∷ keyword 8 (codes "immutable") ∷ called 9 (codes "y") ∷ mark 10 (codes "=") ∷ called 11 (codes "a") ∷ mark 12 (codes ";") ∷ keyword 13 (codes "const") ∷ keyword 14 (codes "auto") ∷ called 15 (codes "z") ∷ mark 16 (codes "=") ∷ called 17 (codes "a") ∷ mark 18 (codes ",") ∷ called 19 (codes "w") ∷ mark 20 (codes ";") ∷ []) ≡ Some (m.declaration 0 (d.Plain [] (m.plain 0 (t.Variable (m.variables None (Some (type_tree 0 b.ImmutableChar (br.Slice ∷ []))) (m.variable (id 6 (codes "x")) None ∷ []))))) ∷ m.declaration 8 (d.Plain [] (m.plain 8 (t.Variable (m.variables (Some store.Immutable) None (m.variable (id 9 (codes "y")) (Some (var 11 (codes "a"))) ∷ []))))) ∷ m.declaration 13 (d.Plain [] (m.plain 13 (t.Variable (m.variables (Some store.Const) None (m.variable (id 15 (codes "z")) (Some (var 17 (codes "a"))) ∷ m.variable (id 19 (codes "w")) None ∷ []))))) ∷ [], [])

-- a module with its line
abbrev Module : Type 0
Module = whole_module (keyword 0 (codes "module") ∷ called 1 (codes "a") ∷ mark 2 (codes ".") ∷ called 3 (codes "b") ∷ mark 4 (codes ";") ∷ keyword 5 (codes "alias") ∷ called 6 (codes "x") ∷ mark 7 (codes "=") ∷ keyword 8 (codes "int") ∷ mark 9 (codes "[") ∷ mark 10 (codes "]") ∷ mark 11 (codes ";") ∷ keyword 12 (codes "struct") ∷ called 13 (codes "S") ∷ mark 14 (codes "(") ∷ called 15 (codes "T") ∷ mark 16 (codes ")") ∷ mark 17 (codes "{") ∷ mark 18 (codes "}") ∷ []) ≡ Some (m.module_tree (Some (m.module_line 0 (id 1 (codes "a") ∷ id 3 (codes "b") ∷ []))) (m.declaration 5 (d.Plain [] (m.plain 5 (t.Alias (m.alias_tree (id 6 (codes "x")) None (arg.OfType (type_tree 8 (b.Basic basic.Int) (br.Slice ∷ []))))))) ∷ m.declaration 12 (d.Plain [] (m.plain 12 (t.Struct (m.struct_tree (id 13 (codes "S")) (Some (q.OfType (id 15 (codes "T")) ∷ [])) None [])))) ∷ []), [])

examples : Dangling × Chained × Cut × Variables × Mixins × Conditionals × Switched × Loops × Attributes × Imports × Conditional × Half × Functions × Enums × Stored × Module
unfolding same_terminal word sign terminal_of at_word many_from exprs.property exprs.immutable_char exprs.next_name exprs.slice_part exprs.single exprs.one_value exprs.one_basic exprs.bracket_length exprs.bracket exprs.type_of exprs.plain_base exprs.plain_type exprs.argument exprs.next_argument exprs.arguments exprs.some_arguments exprs.in_parens exprs.template_arguments exprs.instance_end exprs.symbol_read exprs.next_symbol exprs.named_base exprs.base exprs.bare_type exprs.type_read exprs.next_expr exprs.exprs exprs.some_exprs exprs.paren exprs.array exprs.type_of_property exprs.mixin exprs.against exprs.is_test_read exprs.is_tree_read exprs.is_expr exprs.traits exprs.assert exprs.primary exprs.operand exprs.member exprs.call exprs.slice_end exprs.inside exprs.bracketed exprs.suffix exprs.length_index exprs.length_call exprs.length_part exprs.new_parts exprs.new exprs.plain_postfix exprs.postfix exprs.prefix exprs.cast exprs.unary exprs.factor exprs.product exprs.term exprs.sum exprs.shifted exprs.shift exprs.comparison_end exprs.comparison exprs.bit_and_step exprs.bit_and exprs.bit_xor_step exprs.bit_xor exprs.bit_or_step exprs.bit_or exprs.and_step exprs.and exprs.or_step exprs.or exprs.conditional_end exprs.conditional exprs.assign_end exprs.whole exprs.expr_to part.head part.at_attribute part.attribute part.next_part part.path part.renamed_item part.plain_item part.item part.original part.bind part.binds part.imported part.static_import part.type_name part.maybe_typed part.alias_parameter part.template_parameter part.template_parameters part.value part.enum_member part.next_member part.members part.base_type part.enumeration part.manifest part.whole_argument part.alias_read part.one part.next_one part.variable_end part.auto_name part.loosely part.strictly part.stored_variable part.plain_variable part.variable_read part.stored_name part.parameter_name part.parameter_read part.parameters part.static_if part.version part.static_test part.range_end part.static_over part.message part.static_check part.for_expr part.for_start part.loop_read part.next_loop part.loops part.case_label part.default_label part.label_read stmts.chain_from stmts.one_item stmts.in_braces stmts.mixin_stmt stmts.expr_stmt stmts.break_stmt stmts.continue_stmt stmts.return_stmt stmts.enum_stmt stmts.block stmts.if_branch stmts.if_stmt stmts.while_stmt stmts.do_stmt stmts.for_stmt stmts.foreach_stmt stmts.group_read stmts.switch_stmt stmts.stmt_body stmts.static_branch stmts.conditional_stmt stmts.static_foreach stmts.stmt_kind stmts.one_stmt stmts.stmt_to decls.template_signature decls.signature decls.function_read decls.mixin_decl decls.enum_decl decls.typed_decl decls.template_head decls.section decls.struct_decl decls.template_decl decls.decl_body decls.static_branch decls.conditional_decl decls.static_foreach decls.decl_kind decls.plain_read decls.plain_decl decls.group_decl decls.decl_form decls.one_decl decls.decl_to decls.module_line decls.whole_module
examples = (refl, refl, refl, refl, refl, refl, refl, refl, refl, refl, refl, refl, refl, refl, refl, refl)
