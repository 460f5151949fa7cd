-- The grammar of expressions and types: which lists of tokens are which trees. Each constructor is a case of a
-- rule, and `w1 · w2` is one text before another. A tree with a place has that of the first token of its text.
use Rattle.std.specs.Prelude.{◌≡◌, ℕ, List, [], ◌∷◌, ◌++◌, Option, Some, None}
use Rattle.dc_token.specs.declared.token.Token.{Token}
use Rattle.dc_ast.specs.declared.word.BasicType.{BasicType}
use Rattle.dc_ast.specs.declared.word.UnaryOperator.{UnaryOperator}
use Rattle.dc_ast.specs.declared.word.BinaryOperator.{BinaryOperator}
use Rattle.dc_ast.specs.declared.word.AssignOperator.{AssignOperator}
use Rattle.dc_ast.specs.declared.word.IsRelation.{IsRelation}
use Rattle.dc_ast.specs.declared.name.Name.{Name}
use Rattle.dc_ast.specs.declared.expression.Expr.{Expr}
use Rattle.dc_ast.specs.declared.expression.ExprKind.{ExprKind}
use Rattle.dc_ast.specs.declared.expression.ExprKind.TheVariants as e
use Rattle.dc_ast.specs.declared.expression.Step.{Step}
use Rattle.dc_ast.specs.declared.expression.Suffix.{Suffix}
use Rattle.dc_ast.specs.declared.expression.Suffix.TheVariants as s
use Rattle.dc_ast.specs.declared.expression.Symbol.{Symbol}
use Rattle.dc_ast.specs.declared.expression.Argument.{Argument}
use Rattle.dc_ast.specs.declared.expression.Argument.TheVariants as a
use Rattle.dc_ast.specs.declared.expression.IsTree.{IsTree}
use Rattle.dc_ast.specs.declared.expression.IsTest.{IsTest}
use Rattle.dc_ast.specs.declared.expression.IsAgainst.{IsAgainst}
use Rattle.dc_ast.specs.declared.expression.IsAgainst.TheVariants as g
use Rattle.dc_ast.specs.declared.types.TypeTree.{TypeTree}
use Rattle.dc_ast.specs.declared.types.Base.{Base}
use Rattle.dc_ast.specs.declared.types.Base.TheVariants as b
use Rattle.dc_ast.specs.declared.types.Bracket.{Bracket}
use Rattle.dc_ast.specs.declared.types.Bracket.TheVariants as d
use Rattle.dc_grammar.specs.declared.terminal.Terminal.{Terminal}
use Rattle.dc_grammar.specs.declared.terminal.Terminal.TheVariants as k
use Rattle.dc_grammar.specs.Terminals.{Tokens, terminal_of, start_of, basic_type, unary_operator, multiplies, adds, shifts, compares, bit_and_operator, bit_xor_operator, bit_or_operator, and_operator, or_operator, assign_operator, is_relation}
use Rattle.dc_grammar.specs.NewArrays.{NewArray, new_array}
use Rattle.dc_grammar.specs.Trees.{expr, step, symbol, type_tree, is_tree, is_test, name_of, spelling_of}

infixr 9 ◌·◌
abbrev pub ◌·◌ : Tokens → Tokens → Tokens
v · w = v ++ w

-- one token of this terminal
pub record Mark (terminal : Terminal) (w : Tokens) : Type 0 where
  pub token : Token
  pub alone : w ≡ token ∷ []
  pub is : terminal_of token ≡ terminal

-- one token of this terminal, and what it names
pub record Named {A : Type 0} (to : Token → A) (terminal : Terminal) (w : Tokens) (name : A) : Type 0 where
  pub token : Token
  pub alone : w ≡ token ∷ []
  pub is : terminal_of token ≡ terminal
  pub named : to token ≡ name

-- one token, and what its terminal stands for
pub record Means {A : Type 0} (f : Terminal → Option A) (w : Tokens) (x : A) : Type 0 where
  pub token : Token
  pub alone : w ≡ token ∷ []
  pub means : f (terminal_of token) ≡ Some x

-- a name
abbrev pub Id : Tokens → Name → Type 0
Id = Named name_of k.Name

-- a literal, and its spelling
abbrev pub Word : Terminal → Tokens → List ℕ → Type 0
Word = Named spelling_of

-- an expression at the first byte of a text
abbrev pub placed : Tokens → ExprKind → Expr
placed w kind = expr (start_of w) kind

mutual
  -- Expr = Cond [AssignOp Expr]
  pub data IsExpr : Tokens → Expr → Type 0 where
    a_conditional : {w : Tokens} {x : Expr} → IsConditional w x → IsExpr w x
    assign : {w1 w2 w3 : Tokens} {x y : Expr} {o : AssignOperator} → IsConditional w1 x → Means assign_operator w2 o → IsExpr w3 y → IsExpr (w1 · w2 · w3) (placed (w1 · w2 · w3) (e.Assign x o y))

  -- Cond = Or ["?" Expr ":" Cond]
  pub data IsConditional : Tokens → Expr → Type 0 where
    an_or : {w : Tokens} {x : Expr} → IsOr w x → IsConditional w x
    conditional : {w1 w2 w3 w4 w5 : Tokens} {x y z : Expr} → IsOr w1 x → Mark k.Question w2 → IsExpr w3 y → Mark k.Colon w4 → IsConditional w5 z
        → IsConditional (w1 · w2 · w3 · w4 · w5) (placed (w1 · w2 · w3 · w4 · w5) (e.Conditional x y z))

  -- Or = And {"||" And}
  pub data IsOr : Tokens → Expr → Type 0 where
    an_and : {w : Tokens} {x : Expr} → IsAnd w x → IsOr w x
    or : {w1 w2 : Tokens} {x : Expr} {t : Step} {ts : List Step} → IsAnd w1 x → AreOrs w2 (t ∷ ts) → IsOr (w1 · w2) (placed (w1 · w2) (e.Chain x (t ∷ ts)))

  pub data AreOrs : Tokens → List Step → Type 0 where
    no_ors : AreOrs [] []
    or_step : {w1 w2 w3 : Tokens} {o : BinaryOperator} {x : Expr} {ts : List Step} → Means or_operator w1 o → IsAnd w2 x → AreOrs w3 ts → AreOrs (w1 · w2 · w3) (step o x ∷ ts)

  -- And = Bor {"&&" Bor}
  pub data IsAnd : Tokens → Expr → Type 0 where
    a_bit_or : {w : Tokens} {x : Expr} → IsBitOr w x → IsAnd w x
    and : {w1 w2 : Tokens} {x : Expr} {t : Step} {ts : List Step} → IsBitOr w1 x → AreAnds w2 (t ∷ ts) → IsAnd (w1 · w2) (placed (w1 · w2) (e.Chain x (t ∷ ts)))

  pub data AreAnds : Tokens → List Step → Type 0 where
    no_ands : AreAnds [] []
    and_step : {w1 w2 w3 : Tokens} {o : BinaryOperator} {x : Expr} {ts : List Step} → Means and_operator w1 o → IsBitOr w2 x → AreAnds w3 ts → AreAnds (w1 · w2 · w3) (step o x ∷ ts)

  -- Bor = Xor {"|" Xor}
  pub data IsBitOr : Tokens → Expr → Type 0 where
    a_bit_xor : {w : Tokens} {x : Expr} → IsBitXor w x → IsBitOr w x
    bit_or : {w1 w2 : Tokens} {x : Expr} {t : Step} {ts : List Step} → IsBitXor w1 x → AreBitOrs w2 (t ∷ ts) → IsBitOr (w1 · w2) (placed (w1 · w2) (e.Chain x (t ∷ ts)))

  pub data AreBitOrs : Tokens → List Step → Type 0 where
    no_bit_ors : AreBitOrs [] []
    bit_or_step : {w1 w2 w3 : Tokens} {o : BinaryOperator} {x : Expr} {ts : List Step} → Means bit_or_operator w1 o → IsBitXor w2 x → AreBitOrs w3 ts → AreBitOrs (w1 · w2 · w3) (step o x ∷ ts)

  -- Xor = Band {"^" Band}
  pub data IsBitXor : Tokens → Expr → Type 0 where
    a_bit_and : {w : Tokens} {x : Expr} → IsBitAnd w x → IsBitXor w x
    bit_xor : {w1 w2 : Tokens} {x : Expr} {t : Step} {ts : List Step} → IsBitAnd w1 x → AreBitXors w2 (t ∷ ts) → IsBitXor (w1 · w2) (placed (w1 · w2) (e.Chain x (t ∷ ts)))

  pub data AreBitXors : Tokens → List Step → Type 0 where
    no_bit_xors : AreBitXors [] []
    bit_xor_step : {w1 w2 w3 : Tokens} {o : BinaryOperator} {x : Expr} {ts : List Step} → Means bit_xor_operator w1 o → IsBitAnd w2 x → AreBitXors w3 ts → AreBitXors (w1 · w2 · w3) (step o x ∷ ts)

  -- Band = Cmp {"&" Cmp}
  pub data IsBitAnd : Tokens → Expr → Type 0 where
    a_comparison : {w : Tokens} {x : Expr} → IsComparison w x → IsBitAnd w x
    bit_and : {w1 w2 : Tokens} {x : Expr} {t : Step} {ts : List Step} → IsComparison w1 x → AreBitAnds w2 (t ∷ ts) → IsBitAnd (w1 · w2) (placed (w1 · w2) (e.Chain x (t ∷ ts)))

  pub data AreBitAnds : Tokens → List Step → Type 0 where
    no_bit_ands : AreBitAnds [] []
    bit_and_step : {w1 w2 w3 : Tokens} {o : BinaryOperator} {x : Expr} {ts : List Step} → Means bit_and_operator w1 o → IsComparison w2 x → AreBitAnds w3 ts → AreBitAnds (w1 · w2 · w3) (step o x ∷ ts)

  -- Cmp = Shift [CmpOp Shift]
  pub data IsComparison : Tokens → Expr → Type 0 where
    a_shift : {w : Tokens} {x : Expr} → IsShift w x → IsComparison w x
    comparison : {w1 w2 w3 : Tokens} {x y : Expr} {o : BinaryOperator} → IsShift w1 x → Means compares w2 o → IsShift w3 y → IsComparison (w1 · w2 · w3) (placed (w1 · w2 · w3) (e.Compare x o y))

  -- Shift = Add {("<<"|">>"|">>>") Add}
  pub data IsShift : Tokens → Expr → Type 0 where
    a_sum : {w : Tokens} {x : Expr} → IsSum w x → IsShift w x
    shift : {w1 w2 : Tokens} {x : Expr} {t : Step} {ts : List Step} → IsSum w1 x → AreShiftSteps w2 (t ∷ ts) → IsShift (w1 · w2) (placed (w1 · w2) (e.Chain x (t ∷ ts)))

  pub data AreShiftSteps : Tokens → List Step → Type 0 where
    no_shift_steps : AreShiftSteps [] []
    shifted : {w1 w2 w3 : Tokens} {o : BinaryOperator} {x : Expr} {ts : List Step} → Means shifts w1 o → IsSum w2 x → AreShiftSteps w3 ts → AreShiftSteps (w1 · w2 · w3) (step o x ∷ ts)

  -- Add = Mul {("+"|"-"|"~") Mul}
  pub data IsSum : Tokens → Expr → Type 0 where
    a_product : {w : Tokens} {x : Expr} → IsProduct w x → IsSum w x
    sum : {w1 w2 : Tokens} {x : Expr} {t : Step} {ts : List Step} → IsProduct w1 x → AreTerms w2 (t ∷ ts) → IsSum (w1 · w2) (placed (w1 · w2) (e.Chain x (t ∷ ts)))

  pub data AreTerms : Tokens → List Step → Type 0 where
    no_terms : AreTerms [] []
    term : {w1 w2 w3 : Tokens} {o : BinaryOperator} {x : Expr} {ts : List Step} → Means adds w1 o → IsProduct w2 x → AreTerms w3 ts → AreTerms (w1 · w2 · w3) (step o x ∷ ts)

  -- Mul = Unary {("*"|"/"|"%") Unary}
  pub data IsProduct : Tokens → Expr → Type 0 where
    a_unary : {w : Tokens} {x : Expr} → IsUnary w x → IsProduct w x
    product : {w1 w2 : Tokens} {x : Expr} {t : Step} {ts : List Step} → IsUnary w1 x → AreFactors w2 (t ∷ ts) → IsProduct (w1 · w2) (placed (w1 · w2) (e.Chain x (t ∷ ts)))

  pub data AreFactors : Tokens → List Step → Type 0 where
    no_factors : AreFactors [] []
    factor : {w1 w2 w3 : Tokens} {o : BinaryOperator} {x : Expr} {ts : List Step} → Means multiplies w1 o → IsUnary w2 x → AreFactors w3 ts → AreFactors (w1 · w2 · w3) (step o x ∷ ts)

  -- Unary = ("-"|"+"|"!"|"~"|"++"|"--") Unary | "cast" "(" Type ")" Unary | Post
  pub data IsUnary : Tokens → Expr → Type 0 where
    prefix : {w1 w2 : Tokens} {o : UnaryOperator} {x : Expr} → Means unary_operator w1 o → IsUnary w2 x → IsUnary (w1 · w2) (placed (w1 · w2) (e.Unary o x))
    cast : {w1 w2 w3 w4 w5 : Tokens} {t : TypeTree} {x : Expr} → Mark k.Cast w1 → Mark k.LeftParen w2 → IsType w3 t → Mark k.RightParen w4 → IsUnary w5 x
        → IsUnary (w1 · w2 · w3 · w4 · w5) (placed (w1 · w2 · w3 · w4 · w5) (e.Cast t x))
    a_postfix : {w : Tokens} {x : Expr} → IsPostfix w x → IsUnary w x

  -- Post = Prim {suffix}
  pub data IsPostfix : Tokens → Expr → Type 0 where
    an_operand : {w : Tokens} {x : Expr} → IsOperand w x → IsPostfix w x
    postfix : {w1 w2 : Tokens} {x : Expr} {t : Suffix} {ts : List Suffix} → IsOperand w1 x → AreSuffixes w2 (t ∷ ts) → IsPostfix (w1 · w2) (placed (w1 · w2) (e.Postfix x (t ∷ ts)))
    -- a base and suffixes of which one is the length
    new : {w1 w2 w3 : Tokens} {t : TypeTree} {ts : List Suffix} {y : NewArray} → Mark k.New w1 → IsBareType w2 t → AreSuffixes w3 ts → new_array ts ≡ Some y
        → IsPostfix (w1 · w2 · w3) (placed (w1 · w2 · w3) (e.New t ts))

  pub data AreSuffixes : Tokens → List Suffix → Type 0 where
    no_suffixes : AreSuffixes [] []
    suffixes : {w1 w2 : Tokens} {t : Suffix} {ts : List Suffix} → IsSuffix w1 t → AreSuffixes w2 ts → AreSuffixes (w1 · w2) (t ∷ ts)

  -- "." Sym | "(" [Expr {"," Expr}] ")" | "[" "]" | "[" Expr "]" | "[" Expr ".." Expr "]" | "++" | "--"
  pub data IsSuffix : Tokens → Suffix → Type 0 where
    member : {w1 w2 : Tokens} {y : Symbol} → Mark k.Dot w1 → IsSymbol w2 y → IsSuffix (w1 · w2) (s.Member y)
    call : {w1 w2 w3 : Tokens} {xs : List Expr} → Mark k.LeftParen w1 → AreExprs w2 xs → Mark k.RightParen w3 → IsSuffix (w1 · w2 · w3) (s.Call xs)
    all : {w1 w2 : Tokens} → Mark k.LeftBracket w1 → Mark k.RightBracket w2 → IsSuffix (w1 · w2) s.All
    index : {w1 w2 w3 : Tokens} {x : Expr} → Mark k.LeftBracket w1 → IsExpr w2 x → Mark k.RightBracket w3 → IsSuffix (w1 · w2 · w3) (s.Index x)
    slice : {w1 w2 w3 w4 w5 : Tokens} {x y : Expr} → Mark k.LeftBracket w1 → IsExpr w2 x → Mark k.DotDot w3 → IsExpr w4 y → Mark k.RightBracket w5
        → IsSuffix (w1 · w2 · w3 · w4 · w5) (s.Slice x y)
    increment : {w : Tokens} → Mark k.PlusPlus w → IsSuffix w s.Increment
    decrement : {w : Tokens} → Mark k.MinusMinus w → IsSuffix w s.Decrement

  pub data IsOperand : Tokens → Expr → Type 0 where
    operand : {w : Tokens} {x : ExprKind} → IsPrimary w x → IsOperand w (placed w x)

  -- Prim, but `new`
  pub data IsPrimary : Tokens → ExprKind → Type 0 where
    integer : {w : Tokens} {n : List ℕ} → Word k.Integer w n → IsPrimary w (e.Integer n)
    string : {w : Tokens} {n : List ℕ} → Word k.Str w n → IsPrimary w (e.Str n)
    character : {w : Tokens} {n : List ℕ} → Word k.Character w n → IsPrimary w (e.Character n)
    null : {w : Tokens} → Mark k.Null w → IsPrimary w e.Null
    true_word : {w : Tokens} → Mark k.True w → IsPrimary w e.True
    false_word : {w : Tokens} → Mark k.False w → IsPrimary w e.False
    this : {w : Tokens} → Mark k.This w → IsPrimary w e.This
    dollar : {w : Tokens} → Mark k.Dollar w → IsPrimary w e.Dollar
    symbol_expr : {w : Tokens} {y : Symbol} → IsSymbol w y → IsPrimary w (e.Symbol y)
    paren : {w1 w2 w3 : Tokens} {x : Expr} → Mark k.LeftParen w1 → IsExpr w2 x → Mark k.RightParen w3 → IsPrimary (w1 · w2 · w3) (e.Paren x)
    array : {w1 w2 w3 : Tokens} {xs : List Expr} → Mark k.LeftBracket w1 → AreExprs w2 xs → Mark k.RightBracket w3 → IsPrimary (w1 · w2 · w3) (e.Array xs)
    property : {w1 w2 w3 : Tokens} {y : BasicType} {n : Name} → Means basic_type w1 y → Mark k.Dot w2 → Id w3 n → IsPrimary (w1 · w2 · w3) (e.Property y n)
    type_of_property : {w1 w2 w3 w4 w5 w6 : Tokens} {x : Expr} {n : Name} → Mark k.TypeOf w1 → Mark k.LeftParen w2 → IsExpr w3 x → Mark k.RightParen w4 → Mark k.Dot w5 → Id w6 n
        → IsPrimary (w1 · w2 · w3 · w4 · w5 · w6) (e.TypeOfProperty x n)
    mixin : {w1 w2 w3 w4 : Tokens} {x : Expr} → Mark k.Mixin w1 → Mark k.LeftParen w2 → IsExpr w3 x → Mark k.RightParen w4 → IsPrimary (w1 · w2 · w3 · w4) (e.Mixin x)
    is_expr : {w1 w2 w3 w4 : Tokens} {y : IsTree} → Mark k.Is w1 → Mark k.LeftParen w2 → IsIsTree w3 y → Mark k.RightParen w4 → IsPrimary (w1 · w2 · w3 · w4) (e.Is y)
    traits : {w1 w2 w3 w4 w5 w6 : Tokens} {n : Name} {x : Argument} {xs : List Argument} → Mark k.Traits w1 → Mark k.LeftParen w2 → Id w3 n → Mark k.Comma w4 → AreArguments w5 (x ∷ xs) → Mark k.RightParen w6
        → IsPrimary (w1 · w2 · w3 · w4 · w5 · w6) (e.Traits n (x ∷ xs))
    assert : {w1 w2 w3 w4 : Tokens} {x : Expr} → Mark k.Assert w1 → Mark k.LeftParen w2 → IsExpr w3 x → Mark k.RightParen w4 → IsPrimary (w1 · w2 · w3 · w4) (e.Assert x None)
    assert_with : {w1 w2 w3 w4 w5 w6 : Tokens} {x y : Expr} → Mark k.Assert w1 → Mark k.LeftParen w2 → IsExpr w3 x → Mark k.Comma w4 → IsExpr w5 y → Mark k.RightParen w6
        → IsPrimary (w1 · w2 · w3 · w4 · w5 · w6) (e.Assert x (Some y))

  -- Type [("=="|":") (Type|"struct") {"," Id}]
  pub data IsIsTree : Tokens → IsTree → Type 0 where
    is_type : {w : Tokens} {t : TypeTree} → IsType w t → IsIsTree w (is_tree t None)
    is_tested : {w1 w2 : Tokens} {t : TypeTree} {y : IsTest} → IsType w1 t → IsIsTest w2 y → IsIsTree (w1 · w2) (is_tree t (Some y))

  pub data IsIsTest : Tokens → IsTest → Type 0 where
    test : {w1 w2 w3 : Tokens} {r : IsRelation} {y : IsAgainst} {ns : List Name} → Means is_relation w1 r → IsAgainstWhat w2 y → MoreNames w3 ns → IsIsTest (w1 · w2 · w3) (is_test r y ns)

  pub data IsAgainstWhat : Tokens → IsAgainst → Type 0 where
    against_struct : {w : Tokens} → Mark k.Struct w → IsAgainstWhat w g.Struct
    against_type : {w : Tokens} {t : TypeTree} → IsType w t → IsAgainstWhat w (g.OfType t)

  -- {"," Id}
  pub data MoreNames : Tokens → List Name → Type 0 where
    end_names : MoreNames [] []
    more_names : {w1 w2 w3 : Tokens} {n : Name} {ns : List Name} → Mark k.Comma w1 → Id w2 n → MoreNames w3 ns → MoreNames (w1 · w2 · w3) (n ∷ ns)

  -- [Expr {"," Expr}]
  pub data AreExprs : Tokens → List Expr → Type 0 where
    no_exprs : AreExprs [] []
    exprs : {w1 w2 : Tokens} {x : Expr} {xs : List Expr} → IsExpr w1 x → MoreExprs w2 xs → AreExprs (w1 · w2) (x ∷ xs)

  pub data MoreExprs : Tokens → List Expr → Type 0 where
    end_exprs : MoreExprs [] []
    more_exprs : {w1 w2 w3 : Tokens} {x : Expr} {xs : List Expr} → Mark k.Comma w1 → IsExpr w2 x → MoreExprs w3 xs → MoreExprs (w1 · w2 · w3) (x ∷ xs)

  -- [Arg {"," Arg}]
  pub data AreArguments : Tokens → List Argument → Type 0 where
    no_arguments : AreArguments [] []
    arguments : {w1 w2 : Tokens} {x : Argument} {xs : List Argument} → IsArgument w1 x → MoreArguments w2 xs → AreArguments (w1 · w2) (x ∷ xs)

  pub data MoreArguments : Tokens → List Argument → Type 0 where
    end_arguments : MoreArguments [] []
    more_arguments : {w1 w2 w3 : Tokens} {x : Argument} {xs : List Argument} → Mark k.Comma w1 → IsArgument w2 x → MoreArguments w3 xs → MoreArguments (w1 · w2 · w3) (x ∷ xs)

  -- Arg = Type | Expr. A type that begins with a name reads as an expression too, and is one.
  pub data IsArgument : Tokens → Argument → Type 0 where
    value : {w : Tokens} {x : Expr} → IsExpr w x → IsArgument w (a.Value x)
    of_type : {w1 w2 : Tokens} {x : Base} {ts : List Bracket} → IsPlainBase w1 x → AreBrackets w2 ts → IsArgument (w1 · w2) (a.OfType (type_tree (start_of (w1 · w2)) x ts))

  -- Sym = Id ["!" TArgs]
  pub data IsSymbol : Tokens → Symbol → Type 0 where
    plain_name : {w : Tokens} {n : Name} → Id w n → IsSymbol w (symbol n None)
    instance : {w1 w2 w3 : Tokens} {n : Name} {xs : List Argument} → Id w1 n → Mark k.Not w2 → AreTemplateArguments w3 xs → IsSymbol (w1 · w2 · w3) (symbol n (Some xs))

  -- TArgs = "(" [Arg {"," Arg}] ")" | Id | Basic | Literal
  pub data AreTemplateArguments : Tokens → List Argument → Type 0 where
    in_parens : {w1 w2 w3 : Tokens} {xs : List Argument} → Mark k.LeftParen w1 → AreArguments w2 xs → Mark k.RightParen w3 → AreTemplateArguments (w1 · w2 · w3) xs
    one_value : {w : Tokens} {x : ExprKind} → IsSingle w x → AreTemplateArguments w (a.Value (placed w x) ∷ [])
    one_basic : {w : Tokens} {y : BasicType} → Means basic_type w y → AreTemplateArguments w (a.OfType (type_tree (start_of w) (b.Basic y) []) ∷ [])

  pub data IsSingle : Tokens → ExprKind → Type 0 where
    one_name : {w : Tokens} {n : Name} → Id w n → IsSingle w (e.Symbol (symbol n None))
    one_integer : {w : Tokens} {n : List ℕ} → Word k.Integer w n → IsSingle w (e.Integer n)
    one_string : {w : Tokens} {n : List ℕ} → Word k.Str w n → IsSingle w (e.Str n)
    one_character : {w : Tokens} {n : List ℕ} → Word k.Character w n → IsSingle w (e.Character n)

  -- Type = Base {"[" "]" | "[" Expr "]"}
  pub data IsType : Tokens → TypeTree → Type 0 where
    type : {w1 w2 : Tokens} {x : Base} {ts : List Bracket} → IsBase w1 x → AreBrackets w2 ts → IsType (w1 · w2) (type_tree (start_of (w1 · w2)) x ts)

  pub data IsBareType : Tokens → TypeTree → Type 0 where
    bare : {w : Tokens} {x : Base} → IsBase w x → IsBareType w (type_tree (start_of w) x [])

  -- Base = Basic | Sym {"." Sym} | "typeof" "(" Expr ")" | "immutable" "(" "char" ")"
  pub data IsBase : Tokens → Base → Type 0 where
    named : {w1 w2 : Tokens} {y : Symbol} {ys : List Symbol} → IsSymbol w1 y → MoreSymbols w2 ys → IsBase (w1 · w2) (b.Named (y ∷ ys))
    plain : {w : Tokens} {x : Base} → IsPlainBase w x → IsBase w x

  pub data MoreSymbols : Tokens → List Symbol → Type 0 where
    end_symbols : MoreSymbols [] []
    more_symbols : {w1 w2 w3 : Tokens} {y : Symbol} {ys : List Symbol} → Mark k.Dot w1 → IsSymbol w2 y → MoreSymbols w3 ys → MoreSymbols (w1 · w2 · w3) (y ∷ ys)

  pub data IsPlainBase : Tokens → Base → Type 0 where
    basic : {w : Tokens} {y : BasicType} → Means basic_type w y → IsPlainBase w (b.Basic y)
    type_of : {w1 w2 w3 w4 : Tokens} {x : Expr} → Mark k.TypeOf w1 → Mark k.LeftParen w2 → IsExpr w3 x → Mark k.RightParen w4 → IsPlainBase (w1 · w2 · w3 · w4) (b.TypeOf x)
    immutable_char : {w1 w2 w3 w4 : Tokens} → Mark k.Immutable w1 → Mark k.LeftParen w2 → Mark k.Char w3 → Mark k.RightParen w4 → IsPlainBase (w1 · w2 · w3 · w4) b.ImmutableChar

  pub data AreBrackets : Tokens → List Bracket → Type 0 where
    no_brackets : AreBrackets [] []
    open_bracket : {w1 w2 w3 : Tokens} {ts : List Bracket} → Mark k.LeftBracket w1 → Mark k.RightBracket w2 → AreBrackets w3 ts → AreBrackets (w1 · w2 · w3) (d.Slice ∷ ts)
    fixed_bracket : {w1 w2 w3 w4 : Tokens} {x : Expr} {ts : List Bracket} → Mark k.LeftBracket w1 → IsExpr w2 x → Mark k.RightBracket w3 → AreBrackets w4 ts
        → AreBrackets (w1 · w2 · w3 · w4) (d.Fixed x ∷ ts)
