-- The grammar of declarations and modules. The first index says whether an `else` that follows would belong to the
-- declaration.
use Rattle.std.specs.Prelude.{◌≡◌, Bool, true, false, List, [], ◌∷◌, Option, Some, None}
use Rattle.dc_ast.specs.declared.word.Attribute.{Attribute}
use Rattle.dc_ast.specs.declared.word.Visibility.{Visibility}
use Rattle.dc_ast.specs.declared.name.Name.{Name}
use Rattle.dc_ast.specs.declared.expression.Expr.{Expr}
use Rattle.dc_ast.specs.declared.types.TypeTree.{TypeTree}
use Rattle.dc_ast.specs.declared.statement.Stmt.{Stmt}
use Rattle.dc_ast.specs.declared.statement.StaticTest.{StaticTest}
use Rattle.dc_ast.specs.declared.statement.StaticRange.{StaticRange}
use Rattle.dc_ast.specs.declared.statement.StaticAssert.{StaticAssert}
use Rattle.dc_ast.specs.declared.statement.VariableTree.{VariableTree}
use Rattle.dc_ast.specs.declared.statement.EnumTree.{EnumTree}
use Rattle.dc_ast.specs.declared.statement.ConstantTree.{ConstantTree}
use Rattle.dc_ast.specs.declared.statement.AliasTree.{AliasTree}
use Rattle.dc_ast.specs.declared.statement.TemplateParameter.{TemplateParameter}
use Rattle.dc_ast.specs.declared.statement.ImportTree.{ImportTree}
use Rattle.dc_ast.specs.declared.declaration.ModuleLine.{ModuleLine}
use Rattle.dc_ast.specs.declared.declaration.ModuleTree.{ModuleTree}
use Rattle.dc_ast.specs.declared.declaration.Declaration.{Declaration}
use Rattle.dc_ast.specs.declared.declaration.DeclarationForm.{DeclarationForm}
use Rattle.dc_ast.specs.declared.declaration.DeclarationForm.TheVariants as d
use Rattle.dc_ast.specs.declared.declaration.DeclarationKind.{DeclarationKind}
use Rattle.dc_ast.specs.declared.declaration.DeclarationKind.TheVariants as t
use Rattle.dc_ast.specs.declared.declaration.Plain.{Plain}
use Rattle.dc_ast.specs.declared.declaration.StaticDeclaration.TheVariants as static
use Rattle.dc_ast.specs.declared.declaration.DeclarationBranch.{DeclarationBranch}
use Rattle.dc_ast.specs.declared.declaration.DeclarationBody.{DeclarationBody}
use Rattle.dc_ast.specs.declared.declaration.DeclarationBody.TheVariants as body
use Rattle.dc_ast.specs.declared.declaration.FunctionTree.{FunctionTree}
use Rattle.dc_ast.specs.declared.declaration.Parameter.{Parameter}
use Rattle.dc_grammar.specs.declared.terminal.Terminal.TheVariants as k
use Rattle.dc_grammar.specs.Terminals.{Tokens, start_of}
use Rattle.dc_grammar.specs.Words.{visibility}
use Rattle.dc_grammar.specs.MoreTrees.{function, declaration, plain, struct_tree, template_tree, declaration_branch, module_line, module_tree}
use Rattle.dc_grammar.specs.Grammar.{◌·◌, Mark, Means, Id, IsType}
use Rattle.dc_grammar.specs.Shapes.{Optional, Several}
use Rattle.dc_grammar.specs.Parts.{Head, IsPath, IsAttribute, IsImport, AreTemplateParameters, IsEnum, IsConstant, IsAlias, IsVariable, AreParameters, IsStaticTest, IsStaticRange, IsStaticAssert}
use Rattle.dc_grammar.specs.Statements.{AreStmts, begins_conditional}

-- "auto" | Type
pub data IsResult : Tokens → Option TypeTree → Type 0 where
  auto_result : {w : Tokens} → Mark k.Auto w → IsResult w None
  type_result : {w : Tokens} {t : TypeTree} → IsType w t → IsResult w (Some t)

-- Function = ("auto"|Type) Id [TParams] "(" [Param {"," Param}] ")" {Attr} [If] Block
pub data IsFunction : Tokens → FunctionTree → Type 0 where
  a_function : {w1 w2 w3 w4 w5 w6 w7 w8 w9 : Tokens} {t : Option TypeTree} {n : Name} {ts : Option (List TemplateParameter)} {ps : List Parameter} {xs : List Attribute} {x : Option Expr} {ss : List Stmt}
      → IsResult w1 t → Id w2 n → Optional AreTemplateParameters w3 ts → AreParameters w4 ps → Several IsAttribute w5 xs → Optional (Head k.If) w6 x → Mark k.LeftBrace w7 → AreStmts w8 ss → Mark k.RightBrace w9
      → IsFunction (w1 · w2 · w3 · w4 · w5 · w6 · w7 · w8 · w9) (function t n ts ps xs x ss)

mutual
  pub data IsDecl : Bool → Tokens → Declaration → Type 0 where
    a_decl : {o : Bool} {w : Tokens} {x : DeclarationForm} → IsDeclForm o w x → IsDecl o w (declaration (start_of w) x)

  -- Decl = {Attr} Plain | Attr {Attr} "{" {Decl} "}" | ("private"|"public") ":" | ";"
  pub data IsDeclForm : Bool → Tokens → DeclarationForm → Type 0 where
    plain_decl : {o : Bool} {w1 w2 : Tokens} {xs : List Attribute} {x : Plain} → Several IsAttribute w1 xs → IsPlain o w2 x → IsDeclForm o (w1 · w2) (d.Plain xs x)
    group_decl : {w1 w2 w3 w4 : Tokens} {a : Attribute} {xs : List Attribute} {ds : List Declaration} → Several IsAttribute w1 (a ∷ xs) → Mark k.LeftBrace w2 → AreDecls w3 ds → Mark k.RightBrace w4
        → IsDeclForm false (w1 · w2 · w3 · w4) (d.Group (a ∷ xs) ds)
    section_decl : {w1 w2 : Tokens} {v : Visibility} → Means visibility w1 v → Mark k.Colon w2 → IsDeclForm false (w1 · w2) (d.Section v)
    empty_decl : {w : Tokens} → Mark k.Semicolon w → IsDeclForm false w d.Empty

  pub data IsPlain : Bool → Tokens → Plain → Type 0 where
    a_plain : {o : Bool} {w : Tokens} {x : DeclarationKind} → IsPlainKind o w x → IsPlain o w (plain (start_of w) x)

  pub data IsPlainKind : Bool → Tokens → DeclarationKind → Type 0 where
    import_decl : {w : Tokens} {x : ImportTree} → IsImport w x → IsPlainKind false w (t.Import x)
    enum_decl : {w : Tokens} {x : EnumTree} → IsEnum w x → IsPlainKind false w (t.Enum x)
    constant_decl : {w : Tokens} {x : ConstantTree} → IsConstant w x → IsPlainKind false w (t.Constant x)
    alias_decl : {w : Tokens} {x : AliasTree} → IsAlias w x → IsPlainKind false w (t.Alias x)
    -- Struct = "struct" Id [TParams [If]] "{" {Decl} "}"
    struct_decl : {w1 w2 w3 w4 w5 : Tokens} {n : Name} {ds : List Declaration} → Mark k.Struct w1 → Id w2 n → Mark k.LeftBrace w3 → AreDecls w4 ds → Mark k.RightBrace w5
        → IsPlainKind false (w1 · w2 · w3 · w4 · w5) (t.Struct (struct_tree n None None ds))
    struct_template : {w1 w2 w3 w4 w5 w6 w7 : Tokens} {n : Name} {ts : List TemplateParameter} {x : Option Expr} {ds : List Declaration} → Mark k.Struct w1 → Id w2 n → AreTemplateParameters w3 ts
        → Optional (Head k.If) w4 x → Mark k.LeftBrace w5 → AreDecls w6 ds → Mark k.RightBrace w7 → IsPlainKind false (w1 · w2 · w3 · w4 · w5 · w6 · w7) (t.Struct (struct_tree n (Some ts) x ds))
    -- Template = "template" Id TParams [If] "{" {Decl} "}"
    template_decl : {w1 w2 w3 w4 w5 w6 w7 : Tokens} {n : Name} {ts : List TemplateParameter} {x : Option Expr} {ds : List Declaration} → Mark k.Template w1 → Id w2 n → AreTemplateParameters w3 ts
        → Optional (Head k.If) w4 x → Mark k.LeftBrace w5 → AreDecls w6 ds → Mark k.RightBrace w7 → IsPlainKind false (w1 · w2 · w3 · w4 · w5 · w6 · w7) (t.Template (template_tree n ts x ds))
    function_decl : {w : Tokens} {x : FunctionTree} → IsFunction w x → IsPlainKind false w (t.Function x)
    variable_decl : {w : Tokens} {x : VariableTree} → IsVariable w x → IsPlainKind false w (t.Variable x)
    conditional_decl : {o : Bool} {w : Tokens} {bs : List DeclarationBranch} {last : Option DeclarationBody} → AreDeclBranches o w bs last → IsPlainKind o w (t.Static (static.Conditional bs last))
    foreach_decl : {o : Bool} {w1 w2 : Tokens} {r : StaticRange} {b : DeclarationBody} → IsStaticRange w1 r → IsDeclBody o w2 b → IsPlainKind o (w1 · w2) (t.Static (static.Foreach r b))
    assert_decl : {w : Tokens} {x : StaticAssert} → IsStaticAssert w x → IsPlainKind false w (t.Static (static.Assert x))
    mixin_decl : {w1 w2 : Tokens} {x : Expr} → Head k.Mixin w1 x → Mark k.Semicolon w2 → IsPlainKind false (w1 · w2) (t.Mixin x)

  -- {Decl}
  pub data AreDecls : Tokens → List Declaration → Type 0 where
    no_decls : AreDecls [] []
    decls : {o : Bool} {w1 w2 : Tokens} {x : Declaration} {ds : List Declaration} → IsDecl o w1 x → AreDecls w2 ds → AreDecls (w1 · w2) (x ∷ ds)

  -- "static" "if" "(" Expr ")" Body ["else" Body] and "version" "(" Id ")" Body ["else" Body], where an `else` belongs
  -- to the nearest one, and a chain of them is one list
  pub data AreDeclBranches : Bool → Tokens → List DeclarationBranch → Option DeclarationBody → Type 0 where
    decl_alone : {o : Bool} {w1 w2 : Tokens} {x : StaticTest} {b : DeclarationBody} → IsStaticTest w1 x → IsDeclBody o w2 b
        → AreDeclBranches true (w1 · w2) (declaration_branch (start_of (w1 · w2)) x b ∷ []) None
    decl_else : {o : Bool} {w1 w2 w3 w4 : Tokens} {x : StaticTest} {b c : DeclarationBody} → IsStaticTest w1 x → IsDeclBody false w2 b → Mark k.Else w3 → IsDeclBody o w4 c → begins_conditional w4 ≡ false
        → AreDeclBranches o (w1 · w2 · w3 · w4) (declaration_branch (start_of (w1 · w2 · w3 · w4)) x b ∷ []) (Some c)
    decl_more : {o : Bool} {w1 w2 w3 w4 : Tokens} {x : StaticTest} {b : DeclarationBody} {bs : List DeclarationBranch} {last : Option DeclarationBody} → IsStaticTest w1 x → IsDeclBody false w2 b
        → Mark k.Else w3 → AreDeclBranches o w4 bs last → AreDeclBranches o (w1 · w2 · w3 · w4) (declaration_branch (start_of (w1 · w2 · w3 · w4)) x b ∷ bs) last

  -- Body = Decl | "{" {Decl} "}"; no declaration begins with a brace
  pub data IsDeclBody : Bool → Tokens → DeclarationBody → Type 0 where
    one_decl : {o : Bool} {w : Tokens} {x : Declaration} → IsDecl o w x → IsDeclBody o w (body.One x)
    decls_in_braces : {w1 w2 w3 : Tokens} {ds : List Declaration} → Mark k.LeftBrace w1 → AreDecls w2 ds → Mark k.RightBrace w3 → IsDeclBody false (w1 · w2 · w3) (body.Braces ds)

-- Module = ["module" Path ";"] {Decl}
pub data IsModuleLine : Tokens → ModuleLine → Type 0 where
  a_module_line : {w1 w2 w3 : Tokens} {ns : List Name} → Mark k.Module w1 → IsPath w2 ns → Mark k.Semicolon w3 → IsModuleLine (w1 · w2 · w3) (module_line (start_of (w1 · w2 · w3)) ns)

pub data IsModule : Tokens → ModuleTree → Type 0 where
  a_module : {w1 w2 : Tokens} {l : Option ModuleLine} {ds : List Declaration} → Optional IsModuleLine w1 l → AreDecls w2 ds → IsModule (w1 · w2) (module_tree l ds)
