-- How words and signs are spelled (D specification, "Lexical", "Keywords" and "Tokens").
use Rattle.std.specs.Prelude.{ℕ, List, [], ◌∷◌, codes}
use Rattle.dc_ast.specs.declared.word.Attribute.{Attribute}
use Rattle.dc_ast.specs.declared.word.Attribute.TheVariants as attribute
use Rattle.dc_grammar.specs.declared.terminal.Terminal.{Terminal}
use Rattle.dc_grammar.specs.declared.terminal.Terminal.TheVariants as k

-- the keywords
abbrev pub words : List (List ℕ × Terminal)
words =
    (codes "alias", k.Alias) ∷ (codes "assert", k.Assert) ∷ (codes "auto", k.Auto) ∷ (codes "bool", k.Bool) ∷ (codes "break", k.Break) ∷
    (codes "byte", k.Byte) ∷ (codes "case", k.Case) ∷ (codes "cast", k.Cast) ∷ (codes "char", k.Char) ∷ (codes "const", k.Const) ∷
    (codes "continue", k.Continue) ∷ (codes "default", k.Default) ∷ (codes "do", k.Do) ∷ (codes "else", k.Else) ∷ (codes "enum", k.Enum) ∷
    (codes "false", k.False) ∷ (codes "for", k.For) ∷ (codes "foreach", k.Foreach) ∷ (codes "if", k.If) ∷ (codes "immutable", k.Immutable) ∷
    (codes "import", k.Import) ∷ (codes "int", k.Int) ∷ (codes "is", k.Is) ∷ (codes "long", k.Long) ∷ (codes "mixin", k.Mixin) ∷
    (codes "module", k.Module) ∷ (codes "new", k.New) ∷ (codes "nothrow", k.Nothrow) ∷ (codes "null", k.Null) ∷ (codes "private", k.Private) ∷
    (codes "public", k.Public) ∷ (codes "pure", k.Pure) ∷ (codes "ref", k.Ref) ∷ (codes "return", k.Return) ∷ (codes "short", k.Short) ∷
    (codes "static", k.Static) ∷ (codes "struct", k.Struct) ∷ (codes "switch", k.Switch) ∷ (codes "template", k.Template) ∷ (codes "this", k.This) ∷
    (codes "true", k.True) ∷ (codes "typeof", k.TypeOf) ∷ (codes "ubyte", k.Ubyte) ∷ (codes "uint", k.Uint) ∷ (codes "ulong", k.Ulong) ∷
    (codes "ushort", k.Ushort) ∷ (codes "version", k.Version) ∷ (codes "void", k.Void) ∷ (codes "while", k.While) ∷ (codes "__traits", k.Traits) ∷ []

-- the signs
abbrev pub signs : List (List ℕ × Terminal)
signs =
    (codes "(", k.LeftParen) ∷ (codes ")", k.RightParen) ∷ (codes "[", k.LeftBracket) ∷ (codes "]", k.RightBracket) ∷ (codes "{", k.LeftBrace) ∷
    (codes "}", k.RightBrace) ∷ (codes ";", k.Semicolon) ∷ (codes ",", k.Comma) ∷ (codes ".", k.Dot) ∷ (codes "..", k.DotDot) ∷
    (codes ":", k.Colon) ∷ (codes "$", k.Dollar) ∷ (codes "?", k.Question) ∷ (codes "!", k.Not) ∷ (codes "@", k.At) ∷
    (codes "=", k.Equals) ∷ (codes "==", k.EqualEqual) ∷ (codes "!=", k.NotEqual) ∷ (codes "<", k.Less) ∷ (codes "<=", k.LessEqual) ∷
    (codes ">", k.Greater) ∷ (codes ">=", k.GreaterEqual) ∷ (codes "+", k.Plus) ∷ (codes "-", k.Minus) ∷ (codes "*", k.Star) ∷
    (codes "/", k.Slash) ∷ (codes "%", k.Percent) ∷ (codes "&", k.Ampersand) ∷ (codes "|", k.Bar) ∷ (codes "^", k.Caret) ∷
    (codes "~", k.Tilde) ∷ (codes "<<", k.ShiftLeft) ∷ (codes ">>", k.ShiftRight) ∷ (codes ">>>", k.ShiftRightZeros) ∷ (codes "&&", k.AndAnd) ∷
    (codes "||", k.OrOr) ∷ (codes "++", k.PlusPlus) ∷ (codes "--", k.MinusMinus) ∷ (codes "+=", k.PlusEqual) ∷ (codes "-=", k.MinusEqual) ∷
    (codes "*=", k.StarEqual) ∷ (codes "/=", k.SlashEqual) ∷ (codes "%=", k.PercentEqual) ∷ (codes "&=", k.AmpersandEqual) ∷ (codes "|=", k.BarEqual) ∷
    (codes "^=", k.CaretEqual) ∷ (codes "~=", k.TildeEqual) ∷ (codes "<<=", k.ShiftLeftEqual) ∷ (codes ">>=", k.ShiftRightEqual) ∷ (codes ">>>=", k.ShiftRightZerosEqual) ∷ []

-- the attributes that are written behind an `@`
abbrev pub at_words : List (List ℕ × Attribute)
at_words =
    (codes "safe", attribute.Safe) ∷ (codes "trusted", attribute.Trusted) ∷ (codes "system", attribute.System) ∷ (codes "nogc", attribute.NoGc) ∷ []
