-- The readers of what declarations and statements are made of.
use Rattle.std.specs.Prelude.{if◌then◌else◌, ℕ, Bool, true, List, [], ◌∷◌, Option, Some, None, is_some}
use Rattle.dc_ast.specs.declared.word.Storage.{Storage}
use Rattle.dc_ast.specs.declared.word.Attribute.{Attribute}
use Rattle.dc_ast.specs.declared.name.Name.{Name}
use Rattle.dc_ast.specs.declared.expression.Expr.{Expr}
use Rattle.dc_ast.specs.declared.expression.Argument.{Argument}
use Rattle.dc_ast.specs.declared.expression.Argument.TheVariants as a
use Rattle.dc_ast.specs.declared.types.TypeTree.{TypeTree}
use Rattle.dc_ast.specs.declared.statement.Label.{Label}
use Rattle.dc_ast.specs.declared.statement.Label.TheVariants as label
use Rattle.dc_ast.specs.declared.statement.LoopName.{LoopName}
use Rattle.dc_ast.specs.declared.statement.ForStart.{ForStart}
use Rattle.dc_ast.specs.declared.statement.ForStart.TheVariants as start
use Rattle.dc_ast.specs.declared.statement.StaticTest.{StaticTest}
use Rattle.dc_ast.specs.declared.statement.StaticTest.TheVariants as test
use Rattle.dc_ast.specs.declared.statement.StaticRange.{StaticRange}
use Rattle.dc_ast.specs.declared.statement.StaticAssert.{StaticAssert}
use Rattle.dc_ast.specs.declared.statement.Variable.{Variable}
use Rattle.dc_ast.specs.declared.statement.VariableTree.{VariableTree}
use Rattle.dc_ast.specs.declared.statement.EnumTree.{EnumTree}
use Rattle.dc_ast.specs.declared.statement.EnumMember.{EnumMember}
use Rattle.dc_ast.specs.declared.statement.ConstantTree.{ConstantTree}
use Rattle.dc_ast.specs.declared.statement.AliasTree.{AliasTree}
use Rattle.dc_ast.specs.declared.statement.TemplateParameter.{TemplateParameter}
use Rattle.dc_ast.specs.declared.statement.TemplateParameter.TheVariants as q
use Rattle.dc_ast.specs.declared.statement.ImportTree.{ImportTree}
use Rattle.dc_ast.specs.declared.statement.ImportItem.{ImportItem}
use Rattle.dc_ast.specs.declared.statement.Bind.{Bind}
use Rattle.dc_ast.specs.declared.declaration.Parameter.{Parameter}
use Rattle.dc_grammar.specs.declared.terminal.Terminal.{Terminal}
use Rattle.dc_grammar.specs.declared.terminal.Terminal.TheVariants as k
use Rattle.dc_grammar.specs.Terminals.{ahead, terminal_of, same_terminal}
use Rattle.dc_grammar.specs.Words.{storage, attribute_word, at_word}
use Rattle.dc_grammar.specs.MoreTrees.{import_item, import_tree, variable, variables, member, enum_tree, constant, alias_tree, loop_name, static_range, static_assert, parameter}
use Rattle.dc_grammar.specs.MoreTrees as trees
use Rattle.dc_grammar.specs.Reading.{Reader, mark, means, given, both, either, ◌<$>◌, maybe, many, from_start}
use Rattle.dc_grammar.specs.Readers.{id, or_empty, whole_expr, whole_type}

-- a name whose spelling stands for something
abbrev pub spelt : {A : Type 0} → (List ℕ → Option A) → Reader A
spelt f [] = None
spelt f (token ∷ tokens) = if same_terminal (terminal_of token) k.Name then given (f token.spelling) tokens else None

abbrev pub after : {A : Type 0} → Terminal → Reader A → Reader A
after terminal p = (λ z. z.1) <$> both (mark terminal) p

abbrev pub next : {A : Type 0} → Reader A → Reader A
next = after k.Comma

-- one or more, with commas between them
abbrev pub listed : {A : Type 0} → Reader A → Reader (List A)
listed p = (λ z. z.0 ∷ z.1) <$> both p (many (next p))

abbrev pub some_listed : {A : Type 0} → Reader A → Reader (List A)
some_listed p = or_empty <$> maybe (listed p)

-- whether the terminal stands there
abbrev pub flag : Terminal → Reader Bool
flag terminal = is_some <$> maybe (mark terminal)

-- a word and `( Expr )`
unfoldable pub head : Terminal → Reader Expr
head word = (λ z. z.1.1.0) <$> both (mark word) (both (mark k.LeftParen) (both whole_expr (mark k.RightParen)))

-- ---- attributes, paths and imports

unfoldable pub at_attribute : Reader Attribute
at_attribute = after k.At (spelt at_word)

abbrev pub attribute_by : Terminal → Reader Attribute
attribute_by k.At = at_attribute
attribute_by _ = means attribute_word

unfoldable pub attribute : Reader Attribute
attribute = λ ts. attribute_by (ahead ts) ts

abbrev pub attributes : Reader (List Attribute)
attributes = many attribute

unfoldable pub next_part : Reader Name
next_part = after k.Dot id

unfoldable pub path : Reader (List Name)
path = (λ z. z.0 ∷ z.1) <$> both id (many next_part)

unfoldable pub renamed_item : Reader ImportItem
renamed_item = from_start (λ at z. import_item at (Some z.0) z.1.1) (both id (both (mark k.Equals) path))

unfoldable pub plain_item : Reader ImportItem
plain_item = from_start (λ at z. import_item at None z) path

unfoldable pub item : Reader ImportItem
item = either renamed_item plain_item

unfoldable pub original : Reader Name
original = after k.Equals id

unfoldable pub bind : Reader Bind
bind = (λ z. trees.bind z.0 z.1) <$> both id (maybe original)

unfoldable pub binds : Reader (List Bind)
binds = after k.Colon (listed bind)

abbrev pub some_binds : Reader (List Bind)
some_binds = or_empty <$> maybe binds

unfoldable pub imported : Bool → Reader ImportTree
imported is_static = (λ z. import_tree is_static z.1.0 z.1.1.0) <$> both (mark k.Import) (both (listed item) (both some_binds (mark k.Semicolon)))

unfoldable pub static_import : Reader ImportTree
static_import = after k.Static (imported true)

-- ---- template parameters

unfoldable pub type_name : Reader (TypeTree × Name)
type_name = both whole_type id

abbrev pub typed : Reader (Option TypeTree × Name)
typed = (λ z. (Some z.0, z.1)) <$> type_name

abbrev pub untyped : Reader (Option TypeTree × Name)
untyped = (λ n. (None, n)) <$> id

-- [Type] Id
unfoldable pub maybe_typed : Reader (Option TypeTree × Name)
maybe_typed = either typed untyped

abbrev pub by_kind : Option TypeTree × Name → TemplateParameter
by_kind (Some t, n) = q.Value t n
by_kind (None, n) = q.OfType n

unfoldable pub alias_parameter : Reader TemplateParameter
alias_parameter = q.Alias <$> after k.Alias id

abbrev pub template_parameter_by : Terminal → Reader TemplateParameter
template_parameter_by k.Alias = alias_parameter
template_parameter_by _ = by_kind <$> maybe_typed

unfoldable pub template_parameter : Reader TemplateParameter
template_parameter = λ ts. template_parameter_by (ahead ts) ts

unfoldable pub template_parameters : Reader (List TemplateParameter)
template_parameters = (λ z. z.1.0) <$> both (mark k.LeftParen) (both (some_listed template_parameter) (mark k.RightParen))

abbrev pub maybe_template_parameters : Reader (Option (List TemplateParameter))
maybe_template_parameters = maybe template_parameters

-- ---- enums and aliases

unfoldable pub value : Reader Expr
value = after k.Equals whole_expr

abbrev pub maybe_value : Reader (Option Expr)
maybe_value = maybe value

unfoldable pub enum_member : Reader EnumMember
enum_member = (λ z. member z.0 z.1) <$> both id maybe_value

unfoldable pub next_member : Reader EnumMember
next_member = next enum_member

unfoldable pub members : Reader (List EnumMember)
members = (λ z. z.1.0 ∷ z.1.1.0) <$> both (mark k.LeftBrace) (both enum_member (both (many next_member) (both (flag k.Comma) (mark k.RightBrace))))

unfoldable pub base_type : Reader TypeTree
base_type = after k.Colon whole_type

unfoldable pub enumeration : Reader EnumTree
enumeration = (λ z. enum_tree z.1.0 z.1.1.0 z.1.1.1) <$> both (mark k.Enum) (both (maybe id) (both (maybe base_type) members))

unfoldable pub manifest : Reader ConstantTree
manifest = (λ z. constant z.1.0.0 z.1.0.1 z.1.1.0 z.1.1.1.1.0) <$> both (mark k.Enum) (both maybe_typed (both maybe_template_parameters (both (mark k.Equals) (both whole_expr (mark k.Semicolon)))))

-- an argument: an expression where one can be read
unfoldable pub whole_argument : Reader Argument
whole_argument = either (a.Value <$> whole_expr) (a.OfType <$> whole_type)

unfoldable pub alias_read : Reader AliasTree
alias_read = (λ z. alias_tree z.1.0 z.1.1.0 z.1.1.1.1.0) <$> both (mark k.Alias) (both id (both maybe_template_parameters (both (mark k.Equals) (both whole_argument (mark k.Semicolon)))))

-- ---- variables

unfoldable pub one : Reader Variable
one = (λ z. variable z.0 z.1) <$> both id maybe_value

unfoldable pub next_one : Reader Variable
next_one = next one

-- what follows the first name
unfoldable pub variable_end : Reader (Option Expr × List Variable)
variable_end = (λ z. (z.0, z.1.0)) <$> both maybe_value (both (many next_one) (mark k.Semicolon))

unfoldable pub auto_name : Reader (Option TypeTree × Name)
auto_name = (λ n. (None, n)) <$> after k.Auto id

-- ["auto" | Type] Id
abbrev pub loosely_by : Terminal → Reader (Option TypeTree × Name)
loosely_by k.Auto = auto_name
loosely_by _ = maybe_typed

unfoldable pub loosely : Reader (Option TypeTree × Name)
loosely = λ ts. loosely_by (ahead ts) ts

-- ("auto" | Type) Id
abbrev pub strictly_by : Terminal → Reader (Option TypeTree × Name)
strictly_by k.Auto = auto_name
strictly_by _ = typed

unfoldable pub strictly : Reader (Option TypeTree × Name)
strictly = λ ts. strictly_by (ahead ts) ts

unfoldable pub stored_variable : Reader VariableTree
stored_variable = (λ z. variables (Some z.0) z.1.0.0 (variable z.1.0.1 z.1.1.0 ∷ z.1.1.1)) <$> both (means storage) (both loosely variable_end)

unfoldable pub plain_variable : Reader VariableTree
plain_variable = (λ z. variables None z.0.0 (variable z.0.1 z.1.0 ∷ z.1.1)) <$> both strictly variable_end

unfoldable pub variable_read : Reader VariableTree
variable_read = either stored_variable plain_variable

-- ---- parameters

unfoldable pub stored_name : Reader (Option Storage × (TypeTree × Name))
stored_name = (λ z. (Some z.0, z.1)) <$> both (means storage) type_name

abbrev pub plain_name : Reader (Option Storage × (TypeTree × Name))
plain_name = (λ z. (None, z)) <$> type_name

unfoldable pub parameter_name : Reader (Option Storage × (TypeTree × Name))
parameter_name = either stored_name plain_name

unfoldable pub parameter_read : Reader Parameter
parameter_read = from_start (λ at z. parameter at z.0 z.1.0 z.1.1.0 z.1.1.1) (both (flag k.Ref) parameter_name)

unfoldable pub parameters : Reader (List Parameter)
parameters = (λ z. z.1.0) <$> both (mark k.LeftParen) (both (some_listed parameter_read) (mark k.RightParen))

-- ---- heads of statements

unfoldable pub static_if : Reader StaticTest
static_if = test.If <$> after k.Static (head k.If)

unfoldable pub version : Reader StaticTest
version = (λ z. test.Version z.1.1.0) <$> both (mark k.Version) (both (mark k.LeftParen) (both id (mark k.RightParen)))

abbrev pub static_test_by : Terminal → Reader StaticTest
static_test_by k.Version = version
static_test_by _ = static_if

unfoldable pub static_test : Reader StaticTest
static_test = λ ts. static_test_by (ahead ts) ts

unfoldable pub range_end : Reader Expr
range_end = after k.DotDot whole_expr

abbrev pub maybe_end : Reader (Option Expr)
maybe_end = maybe range_end

unfoldable pub static_over : Reader StaticRange
static_over = (λ z. static_range z.1.1.1.0 z.1.1.1.1.1.0 z.1.1.1.1.1.1.0)
    <$> both (mark k.Static) (both (mark k.Foreach) (both (mark k.LeftParen) (both id (both (mark k.Semicolon) (both whole_expr (both maybe_end (mark k.RightParen)))))))

unfoldable pub message : Reader Expr
message = next whole_expr

unfoldable pub static_check : Reader StaticAssert
static_check = (λ z. static_assert z.1.1.1.0 z.1.1.1.1.0)
    <$> both (mark k.Static) (both (mark k.Assert) (both (mark k.LeftParen) (both whole_expr (both (maybe message) (both (mark k.RightParen) (mark k.Semicolon))))))

unfoldable pub for_expr : Reader ForStart
for_expr = (λ z. start.Expr z.0) <$> both (maybe whole_expr) (mark k.Semicolon)

unfoldable pub for_start : Reader ForStart
for_start = either (from_start start.Variable variable_read) for_expr

unfoldable pub loop_read : Reader LoopName
loop_read = (λ z. loop_name z.0 z.1.0 z.1.1) <$> both (flag k.Ref) maybe_typed

abbrev pub loop_list : LoopName × Option LoopName → List LoopName
loop_list (m, None) = m ∷ []
loop_list (m, Some n) = m ∷ n ∷ []

unfoldable pub next_loop : Reader LoopName
next_loop = next loop_read

unfoldable pub loops : Reader (List LoopName)
loops = loop_list <$> both loop_read (maybe next_loop)

unfoldable pub case_label : Reader Label
case_label = (λ z. label.Case z.1.0) <$> both (mark k.Case) (both (listed whole_expr) (mark k.Colon))

unfoldable pub default_label : Reader Label
default_label = (λ z. label.Default) <$> both (mark k.Default) (mark k.Colon)

abbrev pub label_by : Terminal → Reader Label
label_by k.Default = default_label
label_by _ = case_label

unfoldable pub label_read : Reader Label
label_read = λ ts. label_by (ahead ts) ts
