-- The terminals that texts begin with, and those with which they go on.
use Rattle.std.proofs.Common.{Bool, true, false}
use Rattle.dc_grammar.specs.declared.terminal.Terminal.{Terminal}
use Rattle.dc_grammar.specs.declared.terminal.Terminal.TheVariants as k
use Rattle.dc_grammar.specs.Terminals.{multiplies, adds, shifts, compares, bit_and_operator, bit_xor_operator, bit_or_operator, and_operator, or_operator, assign_operator}
use Rattle.dc_grammar.proofs.Good.{or, is, given_by}

-- operands but `new`
abbrev pub begins_primary : Terminal → Bool
begins_primary k.Integer = true
begins_primary k.Str = true
begins_primary k.Character = true
begins_primary k.Null = true
begins_primary k.True = true
begins_primary k.False = true
begins_primary k.This = true
begins_primary k.Dollar = true
begins_primary k.Name = true
begins_primary k.LeftParen = true
begins_primary k.LeftBracket = true
begins_primary k.TypeOf = true
begins_primary k.Mixin = true
begins_primary k.Is = true
begins_primary k.Traits = true
begins_primary k.Assert = true
begins_primary k.Void = true
begins_primary k.Bool = true
begins_primary k.Char = true
begins_primary k.Byte = true
begins_primary k.Ubyte = true
begins_primary k.Short = true
begins_primary k.Ushort = true
begins_primary k.Int = true
begins_primary k.Uint = true
begins_primary k.Long = true
begins_primary k.Ulong = true
begins_primary _ = false

-- operands
abbrev pub begins_postfix : Terminal → Bool
begins_postfix k.Integer = true
begins_postfix k.Str = true
begins_postfix k.Character = true
begins_postfix k.Null = true
begins_postfix k.True = true
begins_postfix k.False = true
begins_postfix k.This = true
begins_postfix k.Dollar = true
begins_postfix k.Name = true
begins_postfix k.LeftParen = true
begins_postfix k.LeftBracket = true
begins_postfix k.TypeOf = true
begins_postfix k.Mixin = true
begins_postfix k.Is = true
begins_postfix k.Traits = true
begins_postfix k.Assert = true
begins_postfix k.Void = true
begins_postfix k.Bool = true
begins_postfix k.Char = true
begins_postfix k.Byte = true
begins_postfix k.Ubyte = true
begins_postfix k.Short = true
begins_postfix k.Ushort = true
begins_postfix k.Int = true
begins_postfix k.Uint = true
begins_postfix k.Long = true
begins_postfix k.Ulong = true
begins_postfix k.New = true
begins_postfix _ = false

-- expressions
abbrev pub begins_expr : Terminal → Bool
begins_expr k.Integer = true
begins_expr k.Str = true
begins_expr k.Character = true
begins_expr k.Null = true
begins_expr k.True = true
begins_expr k.False = true
begins_expr k.This = true
begins_expr k.Dollar = true
begins_expr k.Name = true
begins_expr k.LeftParen = true
begins_expr k.LeftBracket = true
begins_expr k.TypeOf = true
begins_expr k.Mixin = true
begins_expr k.Is = true
begins_expr k.Traits = true
begins_expr k.Assert = true
begins_expr k.Void = true
begins_expr k.Bool = true
begins_expr k.Char = true
begins_expr k.Byte = true
begins_expr k.Ubyte = true
begins_expr k.Short = true
begins_expr k.Ushort = true
begins_expr k.Int = true
begins_expr k.Uint = true
begins_expr k.Long = true
begins_expr k.Ulong = true
begins_expr k.New = true
begins_expr k.Minus = true
begins_expr k.Plus = true
begins_expr k.Not = true
begins_expr k.Tilde = true
begins_expr k.PlusPlus = true
begins_expr k.MinusMinus = true
begins_expr k.Cast = true
begins_expr _ = false

-- what follows an operand
abbrev pub begins_suffix : Terminal → Bool
begins_suffix k.Dot = true
begins_suffix k.LeftParen = true
begins_suffix k.LeftBracket = true
begins_suffix k.PlusPlus = true
begins_suffix k.MinusMinus = true
begins_suffix _ = false

-- types without a name
abbrev pub begins_plain_base : Terminal → Bool
begins_plain_base k.TypeOf = true
begins_plain_base k.Immutable = true
begins_plain_base k.Void = true
begins_plain_base k.Bool = true
begins_plain_base k.Char = true
begins_plain_base k.Byte = true
begins_plain_base k.Ubyte = true
begins_plain_base k.Short = true
begins_plain_base k.Ushort = true
begins_plain_base k.Int = true
begins_plain_base k.Uint = true
begins_plain_base k.Long = true
begins_plain_base k.Ulong = true
begins_plain_base _ = false

-- types
abbrev pub begins_type : Terminal → Bool
begins_type k.TypeOf = true
begins_type k.Immutable = true
begins_type k.Name = true
begins_type k.Void = true
begins_type k.Bool = true
begins_type k.Char = true
begins_type k.Byte = true
begins_type k.Ubyte = true
begins_type k.Short = true
begins_type k.Ushort = true
begins_type k.Int = true
begins_type k.Uint = true
begins_type k.Long = true
begins_type k.Ulong = true
begins_type _ = false

-- arguments
abbrev pub begins_argument : Terminal → Bool
begins_argument k.Assert = true
begins_argument k.Bool = true
begins_argument k.Byte = true
begins_argument k.Cast = true
begins_argument k.Char = true
begins_argument k.Character = true
begins_argument k.Dollar = true
begins_argument k.False = true
begins_argument k.Immutable = true
begins_argument k.Int = true
begins_argument k.Integer = true
begins_argument k.Is = true
begins_argument k.LeftBracket = true
begins_argument k.LeftParen = true
begins_argument k.Long = true
begins_argument k.Minus = true
begins_argument k.MinusMinus = true
begins_argument k.Mixin = true
begins_argument k.Name = true
begins_argument k.New = true
begins_argument k.Not = true
begins_argument k.Null = true
begins_argument k.Plus = true
begins_argument k.PlusPlus = true
begins_argument k.Short = true
begins_argument k.Str = true
begins_argument k.This = true
begins_argument k.Tilde = true
begins_argument k.Traits = true
begins_argument k.True = true
begins_argument k.TypeOf = true
begins_argument k.Ubyte = true
begins_argument k.Uint = true
begins_argument k.Ulong = true
begins_argument k.Ushort = true
begins_argument k.Void = true
begins_argument _ = false

-- what follows the `!` of an instance
abbrev pub begins_template_arguments : Terminal → Bool
begins_template_arguments k.LeftParen = true
begins_template_arguments k.Name = true
begins_template_arguments k.Integer = true
begins_template_arguments k.Str = true
begins_template_arguments k.Character = true
begins_template_arguments k.Void = true
begins_template_arguments k.Bool = true
begins_template_arguments k.Char = true
begins_template_arguments k.Byte = true
begins_template_arguments k.Ubyte = true
begins_template_arguments k.Short = true
begins_template_arguments k.Ushort = true
begins_template_arguments k.Int = true
begins_template_arguments k.Uint = true
begins_template_arguments k.Long = true
begins_template_arguments k.Ulong = true
begins_template_arguments _ = false

-- an argument that stands alone
abbrev pub begins_single : Terminal → Bool
begins_single k.Name = true
begins_single k.Integer = true
begins_single k.Str = true
begins_single k.Character = true
begins_single _ = false

-- what an operand goes on with
abbrev pub after_postfix : Terminal → Bool
after_postfix k.Not = true
after_postfix k.Dot = true
after_postfix k.LeftParen = true
after_postfix k.LeftBracket = true
after_postfix k.PlusPlus = true
after_postfix k.MinusMinus = true
after_postfix _ = false

-- what a type goes on with
abbrev pub after_type : Terminal → Bool
after_type k.Not = true
after_type k.Dot = true
after_type k.LeftBracket = true
after_type _ = false

-- what the inside of an `is` goes on with
abbrev pub after_is_tree : Terminal → Bool
after_is_tree k.Not = true
after_is_tree k.Dot = true
after_is_tree k.LeftBracket = true
after_is_tree k.EqualEqual = true
after_is_tree k.Colon = true
after_is_tree k.Comma = true
after_is_tree _ = false

abbrev pub after_product : Terminal → Bool
after_product = or after_postfix (given_by multiplies)

abbrev pub after_sum : Terminal → Bool
after_sum = or after_product (given_by adds)

abbrev pub after_shift : Terminal → Bool
after_shift = or after_sum (given_by shifts)

abbrev pub after_comparison : Terminal → Bool
after_comparison = or after_shift (given_by compares)

abbrev pub after_bit_and : Terminal → Bool
after_bit_and = or after_comparison (given_by bit_and_operator)

abbrev pub after_bit_xor : Terminal → Bool
after_bit_xor = or after_bit_and (given_by bit_xor_operator)

abbrev pub after_bit_or : Terminal → Bool
after_bit_or = or after_bit_xor (given_by bit_or_operator)

abbrev pub after_and : Terminal → Bool
after_and = or after_bit_or (given_by and_operator)

abbrev pub after_or : Terminal → Bool
after_or = or after_and (given_by or_operator)

abbrev pub after_conditional : Terminal → Bool
after_conditional = or after_or (is k.Question)

abbrev pub after_expr : Terminal → Bool
after_expr = or after_conditional (given_by assign_operator)
