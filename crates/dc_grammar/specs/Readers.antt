-- The readers of the grammar's rules, with expressions read one level further down by `inner`.
use Rattle.std.specs.Prelude.{if◌then◌else◌, ℕ, zero, suc, List, [], ◌∷◌, ◌++◌, length, Option, Some, None}
use Rattle.dc_ast.specs.declared.word.BinaryOperator.{BinaryOperator}
use Rattle.dc_ast.specs.declared.word.AssignOperator.{AssignOperator}
use Rattle.dc_ast.specs.declared.name.Name.{Name}
use Rattle.dc_ast.specs.declared.expression.Expr.{Expr}
use Rattle.dc_ast.specs.declared.expression.ExprKind.{ExprKind}
use Rattle.dc_ast.specs.declared.expression.ExprKind.TheVariants as e
use Rattle.dc_ast.specs.declared.expression.Step.{Step}
use Rattle.dc_ast.specs.declared.expression.Suffix.{Suffix}
use Rattle.dc_ast.specs.declared.expression.Suffix.TheVariants as s
use Rattle.dc_ast.specs.declared.expression.Symbol.{Symbol}
use Rattle.dc_ast.specs.declared.expression.Argument.{Argument}
use Rattle.dc_ast.specs.declared.expression.Argument.TheVariants as a
use Rattle.dc_ast.specs.declared.expression.IsTree.{IsTree}
use Rattle.dc_ast.specs.declared.expression.IsTest.{IsTest}
use Rattle.dc_ast.specs.declared.expression.IsAgainst.{IsAgainst}
use Rattle.dc_ast.specs.declared.expression.IsAgainst.TheVariants as g
use Rattle.dc_ast.specs.declared.types.TypeTree.{TypeTree}
use Rattle.dc_ast.specs.declared.types.Base.{Base}
use Rattle.dc_ast.specs.declared.types.Base.TheVariants as b
use Rattle.dc_ast.specs.declared.types.Bracket.{Bracket}
use Rattle.dc_ast.specs.declared.types.Bracket.TheVariants as d
use Rattle.dc_grammar.specs.declared.level.Level.{Level}
use Rattle.dc_grammar.specs.declared.level.Level.TheVariants as l
use Rattle.dc_grammar.specs.declared.terminal.Terminal.{Terminal}
use Rattle.dc_grammar.specs.declared.terminal.Terminal.TheVariants as k
use Rattle.dc_grammar.specs.Brackets.{behind_parens, names_member}
use Rattle.dc_grammar.specs.Terminals.{ahead, basic_type, unary_operator, multiplies, adds, shifts, compares, bit_and_operator, bit_xor_operator, bit_or_operator, and_operator, or_operator, assign_operator, is_relation}
use Rattle.dc_grammar.specs.Trees.{expr, step, symbol, type_tree, is_tree, is_test, name_of, spelling_of}
use Rattle.dc_grammar.specs.Reading.{Reader, mark, named, means, both, either, ◌<$>◌, maybe, many, from_start, nothing}

abbrev pub id : Reader Name
id = named name_of k.Name

abbrev pub word : Terminal → Reader (List ℕ)
word = named spelling_of

-- a chain of no operators is its first operand
abbrev pub chain : {S : Type 0} → (Expr → List S → ExprKind) → ℕ → Expr × List S → Expr
chain to at (x, []) = x
chain to at (x, t ∷ ts) = expr at (to x (t ∷ ts))

abbrev pub compared : ℕ → Expr × Option (BinaryOperator × Expr) → Expr
compared at (x, None) = x
compared at (x, Some p) = expr at (e.Compare x p.0 p.1)

abbrev pub chosen : ℕ → Expr × Option (Expr × Expr) → Expr
chosen at (x, None) = x
chosen at (x, Some p) = expr at (e.Conditional x p.0 p.1)

abbrev pub assigned : ℕ → Expr × Option (AssignOperator × Expr) → Expr
assigned at (x, None) = x
assigned at (x, Some p) = expr at (e.Assign x p.0 p.1)

abbrev pub or_empty : {A : Type 0} → Option (List A) → List A
or_empty (Some xs) = xs
or_empty None = []

abbrev pub between : Option (Expr × Option Expr) → Suffix
between None = s.All
between (Some (x, None)) = s.Index x
between (Some (x, Some y)) = s.Slice x y

abbrev pub length_of : Option Expr → Bracket
length_of None = d.Slice
length_of (Some x) = d.Fixed x

-- ---- rules with no expression inside

abbrev pub basic : Reader Base
basic = b.Basic <$> means basic_type

unfoldable pub property : Reader ExprKind
property = (λ z. e.Property z.0 z.1.1) <$> both (means basic_type) (both (mark k.Dot) id)

unfoldable pub immutable_char : Reader Base
immutable_char = (λ z. b.ImmutableChar) <$> both (mark k.Immutable) (both (mark k.LeftParen) (both (mark k.Char) (mark k.RightParen)))

unfoldable pub next_name : Reader Name
next_name = (λ z. z.1) <$> both (mark k.Comma) id

abbrev pub next_names : Reader (List Name)
next_names = many next_name

unfoldable pub slice_part : Reader Suffix
slice_part = (λ z. s.All) <$> both (mark k.LeftBracket) (mark k.RightBracket)

abbrev pub slices : Reader (List Suffix)
slices = many slice_part

abbrev pub single_by : Terminal → Reader ExprKind
single_by k.Name = (λ n. e.Symbol (symbol n None)) <$> id
single_by k.Integer = e.Integer <$> word k.Integer
single_by k.Str = e.Str <$> word k.Str
single_by k.Character = e.Character <$> word k.Character
single_by _ = nothing

unfoldable pub single : Reader ExprKind
single = λ ts. single_by (ahead ts) ts

unfoldable pub one_value : Reader (List Argument)
one_value = from_start (λ at x. a.Value (expr at x) ∷ []) single

unfoldable pub one_basic : Reader (List Argument)
one_basic = from_start (λ at y. a.OfType (type_tree at (b.Basic y) []) ∷ []) (means basic_type)

abbrev pub integer : Reader ExprKind
integer = e.Integer <$> word k.Integer

abbrev pub string : Reader ExprKind
string = e.Str <$> word k.Str

abbrev pub character : Reader ExprKind
character = e.Character <$> word k.Character

abbrev pub single_name : Reader ExprKind
single_name = (λ n. e.Symbol (symbol n None)) <$> id

abbrev pub null : Reader ExprKind
null = (λ u. e.Null) <$> mark k.Null

abbrev pub true_word : Reader ExprKind
true_word = (λ u. e.True) <$> mark k.True

abbrev pub false_word : Reader ExprKind
false_word = (λ u. e.False) <$> mark k.False

abbrev pub this : Reader ExprKind
this = (λ u. e.This) <$> mark k.This

abbrev pub dollar : Reader ExprKind
dollar = (λ u. e.Dollar) <$> mark k.Dollar

abbrev pub increment : Reader Suffix
increment = (λ u. s.Increment) <$> mark k.PlusPlus

abbrev pub decrement : Reader Suffix
decrement = (λ u. s.Decrement) <$> mark k.MinusMinus

module _ (inner : Level → Reader Expr) where
  abbrev pub whole_inner : Reader Expr
  whole_inner = inner l.Whole

  -- ---- types without names

  unfoldable pub bracket_length : Reader Bracket
  bracket_length = length_of <$> maybe whole_inner

  unfoldable pub bracket : Reader Bracket
  bracket = (λ z. z.1.0) <$> both (mark k.LeftBracket) (both bracket_length (mark k.RightBracket))

  abbrev pub brackets : Reader (List Bracket)
  brackets = many bracket

  unfoldable pub type_of : Reader Base
  type_of = (λ z. b.TypeOf z.1.1.0) <$> both (mark k.TypeOf) (both (mark k.LeftParen) (both whole_inner (mark k.RightParen)))

  abbrev pub plain_base_by : Terminal → Reader Base
  plain_base_by k.TypeOf = type_of
  plain_base_by k.Immutable = immutable_char
  plain_base_by _ = basic

  unfoldable pub plain_base : Reader Base
  plain_base = λ ts. plain_base_by (ahead ts) ts

  unfoldable pub plain_type : Reader TypeTree
  plain_type = from_start (λ at z. type_tree at z.0 z.1) (both plain_base brackets)

  -- ---- arguments, names and types

  abbrev pub of_type : Reader Argument
  of_type = a.OfType <$> plain_type

  abbrev pub value_or_type : Reader Argument
  value_or_type = either (a.Value <$> whole_inner) (a.OfType <$> plain_type)

  -- what stands behind the `)` of a `typeof` says what it is, so that nothing is read twice
  abbrev pub type_of_argument : Reader Argument
  type_of_argument = λ ts. if names_member (behind_parens ts) then (a.Value <$> whole_inner) ts else (a.OfType <$> plain_type) ts

  abbrev pub argument_by : Terminal → Reader Argument
  argument_by k.TypeOf = type_of_argument
  argument_by _ = value_or_type

  unfoldable pub argument : Reader Argument
  argument = λ ts. argument_by (ahead ts) ts

  unfoldable pub next_argument : Reader Argument
  next_argument = (λ z. z.1) <$> both (mark k.Comma) argument

  abbrev pub next_arguments : Reader (List Argument)
  next_arguments = many next_argument

  unfoldable pub arguments : Reader (List Argument)
  arguments = (λ z. z.0 ∷ z.1) <$> both argument next_arguments

  unfoldable pub some_arguments : Reader (List Argument)
  some_arguments = or_empty <$> maybe arguments

  unfoldable pub in_parens : Reader (List Argument)
  in_parens = (λ z. z.1.0) <$> both (mark k.LeftParen) (both some_arguments (mark k.RightParen))

  abbrev pub template_arguments_by : Terminal → Reader (List Argument)
  template_arguments_by k.LeftParen = in_parens
  template_arguments_by k.Name = one_value
  template_arguments_by k.Integer = one_value
  template_arguments_by k.Str = one_value
  template_arguments_by k.Character = one_value
  template_arguments_by _ = one_basic

  unfoldable pub template_arguments : Reader (List Argument)
  template_arguments = λ ts. template_arguments_by (ahead ts) ts

  unfoldable pub instance_end : Reader (List Argument)
  instance_end = (λ z. z.1) <$> both (mark k.Not) template_arguments

  unfoldable pub symbol_read : Reader Symbol
  symbol_read = (λ z. symbol z.0 z.1) <$> both id (maybe instance_end)

  abbrev pub symbol_expr : Reader ExprKind
  symbol_expr = e.Symbol <$> symbol_read

  unfoldable pub next_symbol : Reader Symbol
  next_symbol = (λ z. z.1) <$> both (mark k.Dot) symbol_read

  abbrev pub next_symbols : Reader (List Symbol)
  next_symbols = many next_symbol

  unfoldable pub named_base : Reader Base
  named_base = (λ z. b.Named (z.0 ∷ z.1)) <$> both symbol_read next_symbols

  abbrev pub base_by : Terminal → Reader Base
  base_by k.Name = named_base
  base_by _ = plain_base

  unfoldable pub base : Reader Base
  base = λ ts. base_by (ahead ts) ts

  unfoldable pub bare_type : Reader TypeTree
  bare_type = from_start (λ at x. type_tree at x []) base

  unfoldable pub type_read : Reader TypeTree
  type_read = from_start (λ at z. type_tree at z.0 z.1) (both base brackets)

  -- ---- operands

  unfoldable pub next_expr : Reader Expr
  next_expr = (λ z. z.1) <$> both (mark k.Comma) whole_inner

  abbrev pub next_exprs : Reader (List Expr)
  next_exprs = many next_expr

  unfoldable pub exprs : Reader (List Expr)
  exprs = (λ z. z.0 ∷ z.1) <$> both whole_inner next_exprs

  unfoldable pub some_exprs : Reader (List Expr)
  some_exprs = or_empty <$> maybe exprs

  unfoldable pub paren : Reader ExprKind
  paren = (λ z. e.Paren z.1.0) <$> both (mark k.LeftParen) (both whole_inner (mark k.RightParen))

  unfoldable pub array : Reader ExprKind
  array = (λ z. e.Array z.1.0) <$> both (mark k.LeftBracket) (both some_exprs (mark k.RightBracket))

  unfoldable pub type_of_property : Reader ExprKind
  type_of_property = (λ z. e.TypeOfProperty z.1.1.0 z.1.1.1.1.1) <$> both (mark k.TypeOf) (both (mark k.LeftParen) (both whole_inner (both (mark k.RightParen) (both (mark k.Dot) id))))

  unfoldable pub mixin : Reader ExprKind
  mixin = (λ z. e.Mixin z.1.1.0) <$> both (mark k.Mixin) (both (mark k.LeftParen) (both whole_inner (mark k.RightParen)))

  abbrev pub against_by : Terminal → Reader IsAgainst
  against_by k.Struct = (λ u. g.Struct) <$> mark k.Struct
  against_by _ = g.OfType <$> type_read

  unfoldable pub against : Reader IsAgainst
  against = λ ts. against_by (ahead ts) ts

  unfoldable pub is_test_read : Reader IsTest
  is_test_read = (λ z. is_test z.0 z.1.0 z.1.1) <$> both (means is_relation) (both against next_names)

  unfoldable pub is_tree_read : Reader IsTree
  is_tree_read = (λ z. is_tree z.0 z.1) <$> both type_read (maybe is_test_read)

  unfoldable pub is_expr : Reader ExprKind
  is_expr = (λ z. e.Is z.1.1.0) <$> both (mark k.Is) (both (mark k.LeftParen) (both is_tree_read (mark k.RightParen)))

  unfoldable pub traits : Reader ExprKind
  traits = (λ z. e.Traits z.1.1.0 z.1.1.1.1.0) <$> both (mark k.Traits) (both (mark k.LeftParen) (both id (both (mark k.Comma) (both arguments (mark k.RightParen)))))

  abbrev pub message : Reader (Option Expr)
  message = maybe next_expr

  unfoldable pub assert : Reader ExprKind
  assert = (λ z. e.Assert z.1.1.0 z.1.1.1.0) <$> both (mark k.Assert) (both (mark k.LeftParen) (both whole_inner (both (maybe next_expr) (mark k.RightParen))))

  abbrev pub primary_by : Terminal → Reader ExprKind
  primary_by k.Integer = e.Integer <$> word k.Integer
  primary_by k.Str = e.Str <$> word k.Str
  primary_by k.Character = e.Character <$> word k.Character
  primary_by k.Null = (λ u. e.Null) <$> mark k.Null
  primary_by k.True = (λ u. e.True) <$> mark k.True
  primary_by k.False = (λ u. e.False) <$> mark k.False
  primary_by k.This = (λ u. e.This) <$> mark k.This
  primary_by k.Dollar = (λ u. e.Dollar) <$> mark k.Dollar
  primary_by k.Name = e.Symbol <$> symbol_read
  primary_by k.LeftParen = paren
  primary_by k.LeftBracket = array
  primary_by k.TypeOf = type_of_property
  primary_by k.Mixin = mixin
  primary_by k.Is = is_expr
  primary_by k.Traits = traits
  primary_by k.Assert = assert
  primary_by _ = property

  unfoldable pub primary : Reader ExprKind
  primary = λ ts. primary_by (ahead ts) ts

  unfoldable pub operand : Reader Expr
  operand = from_start expr primary

  -- ---- what follows them

  unfoldable pub member : Reader Suffix
  member = (λ z. s.Member z.1) <$> both (mark k.Dot) symbol_read

  unfoldable pub call : Reader Suffix
  call = (λ z. s.Call z.1.0) <$> both (mark k.LeftParen) (both some_exprs (mark k.RightParen))

  unfoldable pub slice_end : Reader Expr
  slice_end = (λ z. z.1) <$> both (mark k.DotDot) whole_inner

  unfoldable pub inside : Reader Suffix
  inside = between <$> maybe (both whole_inner (maybe slice_end))

  unfoldable pub bracketed : Reader Suffix
  bracketed = (λ z. z.1.0) <$> both (mark k.LeftBracket) (both inside (mark k.RightBracket))

  abbrev pub suffix_by : Terminal → Reader Suffix
  suffix_by k.Dot = member
  suffix_by k.LeftParen = call
  suffix_by k.LeftBracket = bracketed
  suffix_by k.PlusPlus = (λ u. s.Increment) <$> mark k.PlusPlus
  suffix_by k.MinusMinus = (λ u. s.Decrement) <$> mark k.MinusMinus
  suffix_by _ = nothing

  unfoldable pub suffix : Reader Suffix
  suffix = λ ts. suffix_by (ahead ts) ts

  abbrev pub suffixes : Reader (List Suffix)
  suffixes = many suffix

  unfoldable pub length_index : Reader Suffix
  length_index = (λ z. s.Index z.1.0) <$> both (mark k.LeftBracket) (both whole_inner (mark k.RightBracket))

  unfoldable pub length_call : Reader Suffix
  length_call = (λ z. s.Call (z.1.0 ∷ [])) <$> both (mark k.LeftParen) (both whole_inner (mark k.RightParen))

  abbrev pub length_by : Terminal → Reader Suffix
  length_by k.LeftBracket = length_index
  length_by _ = length_call

  unfoldable pub length_part : Reader Suffix
  length_part = λ ts. length_by (ahead ts) ts

  unfoldable pub new_parts : Reader (List Suffix)
  new_parts = (λ z. z.0 ++ z.1.0 ∷ z.1.1) <$> both slices (both length_part suffixes)

  unfoldable pub new : Reader Expr
  new = from_start (λ at z. expr at (e.New z.1.0 z.1.1)) (both (mark k.New) (both bare_type new_parts))

  unfoldable pub plain_postfix : Reader Expr
  plain_postfix = from_start (chain e.Postfix) (both operand suffixes)

  abbrev pub postfix_by : Terminal → Reader Expr
  postfix_by k.New = new
  postfix_by _ = plain_postfix

  unfoldable pub postfix : Reader Expr
  postfix = λ ts. postfix_by (ahead ts) ts

  -- ---- operators

  unfoldable pub prefix : Reader Expr
  prefix = from_start (λ at z. expr at (e.Unary z.0 z.1)) (both (means unary_operator) (inner l.Unary))

  unfoldable pub cast : Reader Expr
  cast = from_start (λ at z. expr at (e.Cast z.1.1.0 z.1.1.1.1)) (both (mark k.Cast) (both (mark k.LeftParen) (both type_read (both (mark k.RightParen) (inner l.Unary)))))

  abbrev pub unary_by : Terminal → Reader Expr
  unary_by k.Minus = prefix
  unary_by k.Plus = prefix
  unary_by k.Not = prefix
  unary_by k.Tilde = prefix
  unary_by k.PlusPlus = prefix
  unary_by k.MinusMinus = prefix
  unary_by k.Cast = cast
  unary_by _ = postfix

  unfoldable pub unary : Reader Expr
  unary = λ ts. unary_by (ahead ts) ts

  unfoldable pub factor : Reader Step
  factor = (λ z. step z.0 z.1) <$> both (means multiplies) unary

  abbrev pub factors : Reader (List Step)
  factors = many factor

  unfoldable pub product : Reader Expr
  product = from_start (chain e.Chain) (both unary factors)

  unfoldable pub term : Reader Step
  term = (λ z. step z.0 z.1) <$> both (means adds) product

  abbrev pub terms : Reader (List Step)
  terms = many term

  unfoldable pub sum : Reader Expr
  sum = from_start (chain e.Chain) (both product terms)

  unfoldable pub shifted : Reader Step
  shifted = (λ z. step z.0 z.1) <$> both (means shifts) sum

  abbrev pub shift_steps : Reader (List Step)
  shift_steps = many shifted

  unfoldable pub shift : Reader Expr
  shift = from_start (chain e.Chain) (both sum shift_steps)

  unfoldable pub comparison_end : Reader (BinaryOperator × Expr)
  comparison_end = both (means compares) shift

  unfoldable pub comparison : Reader Expr
  comparison = from_start compared (both shift (maybe comparison_end))

  unfoldable pub bit_and_step : Reader Step
  bit_and_step = (λ z. step z.0 z.1) <$> both (means bit_and_operator) comparison

  abbrev pub bit_ands : Reader (List Step)
  bit_ands = many bit_and_step

  unfoldable pub bit_and : Reader Expr
  bit_and = from_start (chain e.Chain) (both comparison bit_ands)

  unfoldable pub bit_xor_step : Reader Step
  bit_xor_step = (λ z. step z.0 z.1) <$> both (means bit_xor_operator) bit_and

  abbrev pub bit_xors : Reader (List Step)
  bit_xors = many bit_xor_step

  unfoldable pub bit_xor : Reader Expr
  bit_xor = from_start (chain e.Chain) (both bit_and bit_xors)

  unfoldable pub bit_or_step : Reader Step
  bit_or_step = (λ z. step z.0 z.1) <$> both (means bit_or_operator) bit_xor

  abbrev pub bit_ors : Reader (List Step)
  bit_ors = many bit_or_step

  unfoldable pub bit_or : Reader Expr
  bit_or = from_start (chain e.Chain) (both bit_xor bit_ors)

  unfoldable pub and_step : Reader Step
  and_step = (λ z. step z.0 z.1) <$> both (means and_operator) bit_or

  abbrev pub ands : Reader (List Step)
  ands = many and_step

  unfoldable pub and : Reader Expr
  and = from_start (chain e.Chain) (both bit_or ands)

  unfoldable pub or_step : Reader Step
  or_step = (λ z. step z.0 z.1) <$> both (means or_operator) and

  abbrev pub ors : Reader (List Step)
  ors = many or_step

  unfoldable pub or : Reader Expr
  or = from_start (chain e.Chain) (both and ors)

  unfoldable pub conditional_end : Reader (Expr × Expr)
  conditional_end = (λ z. (z.1.0, z.1.1.1)) <$> both (mark k.Question) (both whole_inner (both (mark k.Colon) (inner l.Conditional)))

  unfoldable pub conditional : Reader Expr
  conditional = from_start chosen (both or (maybe conditional_end))

  unfoldable pub assign_end : Reader (AssignOperator × Expr)
  assign_end = both (means assign_operator) whole_inner

  unfoldable pub whole : Reader Expr
  whole = from_start assigned (both conditional (maybe assign_end))

  abbrev pub level : Level → Reader Expr
  level l.Whole = whole
  level l.Conditional = conditional
  level l.Unary = unary

-- with expressions nested no deeper than the first number
unfoldable pub expr_to : ℕ → Level → Reader Expr
expr_to zero at = nothing
expr_to (suc n) at = level (expr_to n) at

-- The depth is no bound, since each level takes a token.
abbrev pub whole_expr : Reader Expr
whole_expr = λ ts. expr_to (length ts) l.Whole ts

abbrev pub whole_type : Reader TypeTree
whole_type = λ ts. type_read (expr_to (length ts)) ts
