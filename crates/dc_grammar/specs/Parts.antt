-- What declarations and statements are made of. Each constructor is a case of a rule.
use Rattle.std.specs.Prelude.{Bool, true, false, List, [], ◌∷◌, Option, Some, None}
use Rattle.dc_ast.specs.declared.word.Storage.{Storage}
use Rattle.dc_ast.specs.declared.word.Attribute.{Attribute}
use Rattle.dc_ast.specs.declared.name.Name.{Name}
use Rattle.dc_ast.specs.declared.expression.Expr.{Expr}
use Rattle.dc_ast.specs.declared.expression.Argument.{Argument}
use Rattle.dc_ast.specs.declared.types.TypeTree.{TypeTree}
use Rattle.dc_ast.specs.declared.statement.Label.{Label}
use Rattle.dc_ast.specs.declared.statement.Label.TheVariants as label
use Rattle.dc_ast.specs.declared.statement.LoopName.{LoopName}
use Rattle.dc_ast.specs.declared.statement.ForStart.{ForStart}
use Rattle.dc_ast.specs.declared.statement.ForStart.TheVariants as start
use Rattle.dc_ast.specs.declared.statement.StaticTest.{StaticTest}
use Rattle.dc_ast.specs.declared.statement.StaticTest.TheVariants as test
use Rattle.dc_ast.specs.declared.statement.StaticRange.{StaticRange}
use Rattle.dc_ast.specs.declared.statement.StaticAssert.{StaticAssert}
use Rattle.dc_ast.specs.declared.statement.Variable.{Variable}
use Rattle.dc_ast.specs.declared.statement.VariableTree.{VariableTree}
use Rattle.dc_ast.specs.declared.statement.EnumTree.{EnumTree}
use Rattle.dc_ast.specs.declared.statement.EnumMember.{EnumMember}
use Rattle.dc_ast.specs.declared.statement.ConstantTree.{ConstantTree}
use Rattle.dc_ast.specs.declared.statement.AliasTree.{AliasTree}
use Rattle.dc_ast.specs.declared.statement.TemplateParameter.{TemplateParameter}
use Rattle.dc_ast.specs.declared.statement.TemplateParameter.TheVariants as q
use Rattle.dc_ast.specs.declared.statement.ImportTree.{ImportTree}
use Rattle.dc_ast.specs.declared.statement.ImportItem.{ImportItem}
use Rattle.dc_ast.specs.declared.statement.Bind.{Bind}
use Rattle.dc_ast.specs.declared.declaration.Parameter.{Parameter}
use Rattle.dc_grammar.specs.declared.terminal.Terminal.{Terminal}
use Rattle.dc_grammar.specs.declared.terminal.Terminal.TheVariants as k
use Rattle.dc_grammar.specs.Terminals.{Tokens, start_of}
use Rattle.dc_grammar.specs.Words.{Spelt, storage, attribute_word, at_word}
use Rattle.dc_grammar.specs.MoreTrees.{import_item, bind, import_tree, variable, variables, member, enum_tree, constant, alias_tree, loop_name, static_range, static_assert, parameter}
use Rattle.dc_grammar.specs.Grammar.{◌·◌, Mark, Means, Id, IsExpr, IsType, IsArgument}
use Rattle.dc_grammar.specs.Shapes.{Optional, Several, After, Listed, Perhaps, Flag}

-- a word and "(" Expr ")"
pub data Head (word : Terminal) : Tokens → Expr → Type 0 where
  head : {w1 w2 w3 w4 : Tokens} {x : Expr} → Mark word w1 → Mark k.LeftParen w2 → IsExpr w3 x → Mark k.RightParen w4 → Head word (w1 · w2 · w3 · w4) x

-- Path = Id {"." Id}
pub data IsPath : Tokens → List Name → Type 0 where
  path : {w1 w2 : Tokens} {n : Name} {ns : List Name} → Id w1 n → Several (After k.Dot Id) w2 ns → IsPath (w1 · w2) (n ∷ ns)

-- Attr = "private" | "public" | "pure" | "nothrow" | "@" ("safe"|"trusted"|"system"|"nogc")
pub data IsAttribute : Tokens → Attribute → Type 0 where
  word_attribute : {w : Tokens} {x : Attribute} → Means attribute_word w x → IsAttribute w x
  at_attribute : {w1 w2 : Tokens} {x : Attribute} → Mark k.At w1 → Spelt at_word w2 x → IsAttribute (w1 · w2) x

-- Item = [Id "="] Path
pub data IsImportItem : Tokens → ImportItem → Type 0 where
  plain_item : {w : Tokens} {ns : List Name} → IsPath w ns → IsImportItem w (import_item (start_of w) None ns)
  renamed_item : {w1 w2 w3 : Tokens} {n : Name} {ns : List Name} → Id w1 n → Mark k.Equals w2 → IsPath w3 ns → IsImportItem (w1 · w2 · w3) (import_item (start_of (w1 · w2 · w3)) (Some n) ns)

-- Bind = Id ["=" Id]
pub data IsBind : Tokens → Bind → Type 0 where
  a_bind : {w1 w2 : Tokens} {n : Name} {m : Option Name} → Id w1 n → Optional (After k.Equals Id) w2 m → IsBind (w1 · w2) (bind n m)

-- "import" Item {"," Item} [":" Bind {"," Bind}] ";"
pub data IsImported (is_static : Bool) : Tokens → ImportTree → Type 0 where
  imported : {w1 w2 w3 w4 : Tokens} {is : List ImportItem} {bs : List Bind} → Mark k.Import w1 → Listed IsImportItem w2 is → Perhaps (After k.Colon (Listed IsBind)) w3 bs → Mark k.Semicolon w4
      → IsImported is_static (w1 · w2 · w3 · w4) (import_tree is_static is bs)

-- Import = ["static"] "import" Item {"," Item} [":" Bind {"," Bind}] ";"
pub data IsImport : Tokens → ImportTree → Type 0 where
  plain_import : {w : Tokens} {t : ImportTree} → IsImported false w t → IsImport w t
  static_import : {w1 w2 : Tokens} {t : ImportTree} → Mark k.Static w1 → IsImported true w2 t → IsImport (w1 · w2) t

-- TParam = Id | Type Id | "alias" Id
pub data IsTemplateParameter : Tokens → TemplateParameter → Type 0 where
  type_parameter : {w : Tokens} {n : Name} → Id w n → IsTemplateParameter w (q.OfType n)
  value_parameter : {w1 w2 : Tokens} {t : TypeTree} {n : Name} → IsType w1 t → Id w2 n → IsTemplateParameter (w1 · w2) (q.Value t n)
  alias_parameter : {w1 w2 : Tokens} {n : Name} → Mark k.Alias w1 → Id w2 n → IsTemplateParameter (w1 · w2) (q.Alias n)

-- TParams = "(" [TParam {"," TParam}] ")"
pub data AreTemplateParameters : Tokens → List TemplateParameter → Type 0 where
  template_parameters : {w1 w2 w3 : Tokens} {ps : List TemplateParameter} → Mark k.LeftParen w1 → Perhaps (Listed IsTemplateParameter) w2 ps → Mark k.RightParen w3 → AreTemplateParameters (w1 · w2 · w3) ps

-- Mem = Id ["=" Expr]
pub data IsMember : Tokens → EnumMember → Type 0 where
  a_member : {w1 w2 : Tokens} {n : Name} {x : Option Expr} → Id w1 n → Optional (After k.Equals IsExpr) w2 x → IsMember (w1 · w2) (member n x)

-- Enum = "enum" [Id] [":" Type] "{" Mem {"," Mem} [","] "}"
pub data IsEnum : Tokens → EnumTree → Type 0 where
  an_enum : {w1 w2 w3 w4 w5 w6 w7 : Tokens} {n : Option Name} {t : Option TypeTree} {ms : List EnumMember} {comma : Bool} → Mark k.Enum w1 → Optional Id w2 n → Optional (After k.Colon IsType) w3 t
      → Mark k.LeftBrace w4 → Listed IsMember w5 ms → Flag k.Comma w6 comma → Mark k.RightBrace w7 → IsEnum (w1 · w2 · w3 · w4 · w5 · w6 · w7) (enum_tree n t ms)

-- Enum = "enum" [Type] Id [TParams] "=" Expr ";"
pub data IsConstant : Tokens → ConstantTree → Type 0 where
  a_constant : {w1 w2 w3 w4 w5 w6 w7 : Tokens} {t : Option TypeTree} {n : Name} {ps : Option (List TemplateParameter)} {x : Expr} → Mark k.Enum w1 → Optional IsType w2 t → Id w3 n
      → Optional AreTemplateParameters w4 ps → Mark k.Equals w5 → IsExpr w6 x → Mark k.Semicolon w7 → IsConstant (w1 · w2 · w3 · w4 · w5 · w6 · w7) (constant t n ps x)

-- Alias = "alias" Id [TParams] "=" Arg ";"
pub data IsAlias : Tokens → AliasTree → Type 0 where
  an_alias : {w1 w2 w3 w4 w5 w6 : Tokens} {n : Name} {ps : Option (List TemplateParameter)} {x : Argument} → Mark k.Alias w1 → Id w2 n → Optional AreTemplateParameters w3 ps → Mark k.Equals w4
      → IsArgument w5 x → Mark k.Semicolon w6 → IsAlias (w1 · w2 · w3 · w4 · w5 · w6) (alias_tree n ps x)

-- One = Id ["=" Expr]
pub data IsOne : Tokens → Variable → Type 0 where
  one : {w1 w2 : Tokens} {n : Name} {x : Option Expr} → Id w1 n → Optional (After k.Equals IsExpr) w2 x → IsOne (w1 · w2) (variable n x)

-- ([Store] (Type|"auto") | Store)
pub data IsKind : Tokens → Option Storage → Option TypeTree → Type 0 where
  of_type : {w : Tokens} {t : TypeTree} → IsType w t → IsKind w None (Some t)
  of_value : {w : Tokens} → Mark k.Auto w → IsKind w None None
  stored_type : {w1 w2 : Tokens} {s : Storage} {t : TypeTree} → Means storage w1 s → IsType w2 t → IsKind (w1 · w2) (Some s) (Some t)
  stored_value : {w1 w2 : Tokens} {s : Storage} → Means storage w1 s → Mark k.Auto w2 → IsKind (w1 · w2) (Some s) None
  stored : {w : Tokens} {s : Storage} → Means storage w s → IsKind w (Some s) None

-- Variable = ([Store] (Type|"auto") | Store) One {"," One} ";"
pub data IsVariable : Tokens → VariableTree → Type 0 where
  a_variable : {w1 w2 w3 : Tokens} {s : Option Storage} {t : Option TypeTree} {vs : List Variable} → IsKind w1 s t → Listed IsOne w2 vs → Mark k.Semicolon w3 → IsVariable (w1 · w2 · w3) (variables s t vs)

-- Param = ["ref"] [Store] Type Id
pub data IsParameter : Tokens → Parameter → Type 0 where
  a_parameter : {w1 w2 w3 w4 : Tokens} {r : Bool} {s : Option Storage} {t : TypeTree} {n : Name} → Flag k.Ref w1 r → Optional (Means storage) w2 s → IsType w3 t → Id w4 n
      → IsParameter (w1 · w2 · w3 · w4) (parameter (start_of (w1 · w2 · w3 · w4)) r s t n)

-- "(" [Param {"," Param}] ")"
pub data AreParameters : Tokens → List Parameter → Type 0 where
  parameters : {w1 w2 w3 : Tokens} {ps : List Parameter} → Mark k.LeftParen w1 → Perhaps (Listed IsParameter) w2 ps → Mark k.RightParen w3 → AreParameters (w1 · w2 · w3) ps

-- "static" "if" "(" Expr ")" and "version" "(" Id ")"
pub data IsStaticTest : Tokens → StaticTest → Type 0 where
  static_if : {w1 w2 : Tokens} {x : Expr} → Mark k.Static w1 → Head k.If w2 x → IsStaticTest (w1 · w2) (test.If x)
  version : {w1 w2 w3 w4 : Tokens} {n : Name} → Mark k.Version w1 → Mark k.LeftParen w2 → Id w3 n → Mark k.RightParen w4 → IsStaticTest (w1 · w2 · w3 · w4) (test.Version n)

-- "static" "foreach" "(" Id ";" Expr [".." Expr] ")"
pub data IsStaticRange : Tokens → StaticRange → Type 0 where
  a_static_range : {w1 w2 w3 w4 w5 w6 w7 w8 : Tokens} {n : Name} {x : Expr} {y : Option Expr} → Mark k.Static w1 → Mark k.Foreach w2 → Mark k.LeftParen w3 → Id w4 n → Mark k.Semicolon w5
      → IsExpr w6 x → Optional (After k.DotDot IsExpr) w7 y → Mark k.RightParen w8 → IsStaticRange (w1 · w2 · w3 · w4 · w5 · w6 · w7 · w8) (static_range n x y)

-- "static" "assert" "(" Expr ["," Expr] ")" ";"
pub data IsStaticAssert : Tokens → StaticAssert → Type 0 where
  a_static_assert : {w1 w2 w3 w4 w5 w6 w7 : Tokens} {x : Expr} {y : Option Expr} → Mark k.Static w1 → Mark k.Assert w2 → Mark k.LeftParen w3 → IsExpr w4 x → Optional (After k.Comma IsExpr) w5 y
      → Mark k.RightParen w6 → Mark k.Semicolon w7 → IsStaticAssert (w1 · w2 · w3 · w4 · w5 · w6 · w7) (static_assert x y)

-- what a `for` begins with: Variable | [Expr] ";"
pub data IsForStart : Tokens → ForStart → Type 0 where
  for_variable : {w : Tokens} {v : VariableTree} → IsVariable w v → IsForStart w (start.Variable (start_of w) v)
  for_expr : {w1 w2 : Tokens} {x : Option Expr} → Optional IsExpr w1 x → Mark k.Semicolon w2 → IsForStart (w1 · w2) (start.Expr x)

-- Loop = ["ref"] [Type] Id
pub data IsLoop : Tokens → LoopName → Type 0 where
  loop : {w1 w2 w3 : Tokens} {r : Bool} {t : Option TypeTree} {n : Name} → Flag k.Ref w1 r → Optional IsType w2 t → Id w3 n → IsLoop (w1 · w2 · w3) (loop_name r t n)

-- [Loop ","] Loop
pub data AreLoops : Tokens → List LoopName → Type 0 where
  one_loop : {w : Tokens} {n : LoopName} → IsLoop w n → AreLoops w (n ∷ [])
  two_loops : {w1 w2 w3 : Tokens} {m n : LoopName} → IsLoop w1 m → Mark k.Comma w2 → IsLoop w3 n → AreLoops (w1 · w2 · w3) (m ∷ n ∷ [])

-- Label = "case" Expr {"," Expr} ":" | "default" ":"
pub data IsLabel : Tokens → Label → Type 0 where
  case_label : {w1 w2 w3 : Tokens} {xs : List Expr} → Mark k.Case w1 → Listed IsExpr w2 xs → Mark k.Colon w3 → IsLabel (w1 · w2 · w3) (label.Case xs)
  default_label : {w1 w2 : Tokens} → Mark k.Default w1 → Mark k.Colon w2 → IsLabel (w1 · w2) label.Default
