-- What tokens are to the grammar.
use Rattle.std.specs.Prelude.{ℕ, Bool, if◌then◌else◌, List, [], ◌∷◌, Option, Some, None, bytes_eq}
use denote.Enum.Bare.{sameb}
use Rattle.dc_token.specs.declared.token.Token.{Token}
use Rattle.dc_token.specs.declared.token.TokenKind.{TokenKind}
use Rattle.dc_token.specs.declared.token.TokenKind.TheVariants as kind
use Rattle.dc_ast.specs.declared.word.BasicType.{BasicType}
use Rattle.dc_ast.specs.declared.word.BasicType.TheVariants as basic
use Rattle.dc_ast.specs.declared.word.UnaryOperator.{UnaryOperator}
use Rattle.dc_ast.specs.declared.word.UnaryOperator.TheVariants as un
use Rattle.dc_ast.specs.declared.word.BinaryOperator.{BinaryOperator}
use Rattle.dc_ast.specs.declared.word.BinaryOperator.TheVariants as op
use Rattle.dc_ast.specs.declared.word.AssignOperator.{AssignOperator}
use Rattle.dc_ast.specs.declared.word.AssignOperator.TheVariants as to
use Rattle.dc_ast.specs.declared.word.IsRelation.{IsRelation}
use Rattle.dc_ast.specs.declared.word.IsRelation.TheVariants as relates
use Rattle.dc_grammar.specs.contracts.terminal.Terminal.{the_type}
use Rattle.dc_grammar.specs.declared.terminal.Terminal.{Terminal}
use Rattle.dc_grammar.specs.declared.terminal.Terminal.TheVariants as k
use Rattle.dc_grammar.specs.Spellings.{words, signs}

abbrev pub Tokens : Type 0
Tokens = List Token

unfoldable pub same_terminal : Terminal → Terminal → Bool
same_terminal = sameb the_type

-- the terminal that stands beside a spelling in a table
abbrev pub find : List (List ℕ × Terminal) → List ℕ → Terminal
find [] w = k.Outside
find (row ∷ rows) w = if bytes_eq row.0 w then row.1 else find rows w

unfoldable pub word : List ℕ → Terminal
word w = find words w

unfoldable pub sign : List ℕ → Terminal
sign w = find signs w

abbrev pub terminal_by : TokenKind → List ℕ → Terminal
terminal_by kind.Id w = k.Name
terminal_by kind.Used w = word w
terminal_by kind.Integer w = k.Integer
terminal_by kind.Str w = k.Str
terminal_by kind.Character w = k.Character
terminal_by kind.Sign w = sign w
terminal_by kind.Outside w = k.Outside

unfoldable pub terminal_of : Token → Terminal
terminal_of token = terminal_by token.kind token.spelling

abbrev pub ahead : Tokens → Terminal
ahead [] = k.End
ahead (token ∷ tokens) = terminal_of token

-- the offset of the first token, 0 where there is none
abbrev pub start_of : Tokens → ℕ
start_of [] = 0
start_of (token ∷ tokens) = token.start

-- the basic types
abbrev pub basic_type : Terminal → Option BasicType
basic_type k.Void = Some basic.Void
basic_type k.Bool = Some basic.Bool
basic_type k.Char = Some basic.Char
basic_type k.Byte = Some basic.Byte
basic_type k.Ubyte = Some basic.Ubyte
basic_type k.Short = Some basic.Short
basic_type k.Ushort = Some basic.Ushort
basic_type k.Int = Some basic.Int
basic_type k.Uint = Some basic.Uint
basic_type k.Long = Some basic.Long
basic_type k.Ulong = Some basic.Ulong
basic_type _ = None

-- the operators before an operand
abbrev pub unary_operator : Terminal → Option UnaryOperator
unary_operator k.Minus = Some un.Minus
unary_operator k.Plus = Some un.Plus
unary_operator k.Not = Some un.Not
unary_operator k.Tilde = Some un.Complement
unary_operator k.PlusPlus = Some un.Increment
unary_operator k.MinusMinus = Some un.Decrement
unary_operator _ = None

-- the operators of a level between two operands
abbrev pub multiplies : Terminal → Option BinaryOperator
multiplies k.Star = Some op.Multiply
multiplies k.Slash = Some op.Divide
multiplies k.Percent = Some op.Remainder
multiplies _ = None

-- the operators of a level between two operands
abbrev pub adds : Terminal → Option BinaryOperator
adds k.Plus = Some op.Add
adds k.Minus = Some op.Subtract
adds k.Tilde = Some op.Concatenate
adds _ = None

-- the operators of a level between two operands
abbrev pub shifts : Terminal → Option BinaryOperator
shifts k.ShiftLeft = Some op.ShiftLeft
shifts k.ShiftRight = Some op.ShiftRight
shifts k.ShiftRightZeros = Some op.ShiftRightZeros
shifts _ = None

-- the operators of a level between two operands
abbrev pub compares : Terminal → Option BinaryOperator
compares k.EqualEqual = Some op.Equal
compares k.NotEqual = Some op.NotEqual
compares k.Less = Some op.Less
compares k.LessEqual = Some op.LessOrEqual
compares k.Greater = Some op.Greater
compares k.GreaterEqual = Some op.GreaterOrEqual
compares _ = None

-- the operators of a level between two operands
abbrev pub bit_and_operator : Terminal → Option BinaryOperator
bit_and_operator k.Ampersand = Some op.BitAnd
bit_and_operator _ = None

-- the operators of a level between two operands
abbrev pub bit_xor_operator : Terminal → Option BinaryOperator
bit_xor_operator k.Caret = Some op.BitXor
bit_xor_operator _ = None

-- the operators of a level between two operands
abbrev pub bit_or_operator : Terminal → Option BinaryOperator
bit_or_operator k.Bar = Some op.BitOr
bit_or_operator _ = None

-- the operators of a level between two operands
abbrev pub and_operator : Terminal → Option BinaryOperator
and_operator k.AndAnd = Some op.And
and_operator _ = None

-- the operators of a level between two operands
abbrev pub or_operator : Terminal → Option BinaryOperator
or_operator k.OrOr = Some op.Or
or_operator _ = None

-- the operators that assign
abbrev pub assign_operator : Terminal → Option AssignOperator
assign_operator k.Equals = Some to.Assign
assign_operator k.PlusEqual = Some to.Add
assign_operator k.MinusEqual = Some to.Subtract
assign_operator k.StarEqual = Some to.Multiply
assign_operator k.SlashEqual = Some to.Divide
assign_operator k.PercentEqual = Some to.Remainder
assign_operator k.AmpersandEqual = Some to.BitAnd
assign_operator k.BarEqual = Some to.BitOr
assign_operator k.CaretEqual = Some to.BitXor
assign_operator k.TildeEqual = Some to.Concatenate
assign_operator k.ShiftLeftEqual = Some to.ShiftLeft
assign_operator k.ShiftRightEqual = Some to.ShiftRight
assign_operator k.ShiftRightZerosEqual = Some to.ShiftRightZeros
assign_operator _ = None

-- what an `is` asks
abbrev pub is_relation : Terminal → Option IsRelation
is_relation k.EqualEqual = Some relates.Same
is_relation k.Colon = Some relates.Converts
is_relation _ = None
