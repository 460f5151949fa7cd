-- Characters and words (D specification, "Lexical", "Identifiers" and "Keywords").
use Rattle.std.specs.Prelude.{ℕ, Bool, false, ◌&&◌, ◌||◌, ◌==◌, if◌then◌else◌, List, [], ◌∷◌, codes, bytes_eq}
pub use Rattle.unicode_ident.specs.Ident.{is_xid_start, is_xid_continue}
use Rattle.dc_token.specs.Balance.{Bytes}
use Rattle.dc_token.specs.declared.vocabulary.Class.{Class}
use Rattle.dc_token.specs.declared.vocabulary.Class.TheVariants as class_is
use Rattle.dc_token.specs.declared.vocabulary.Word.{Word}
use Rattle.dc_token.specs.declared.vocabulary.Word.TheVariants as word_is

-- `_` and the XID starts
abbrev pub starts_name : ℕ → Bool
starts_name c = is_xid_start c || c == 95

-- what a character does in an identifier
abbrev pub class : ℕ → Class
class c = if starts_name c then class_is.Start else (if is_xid_continue c then class_is.Next else class_is.Neither)

abbrev pub among : List Bytes → Bytes → Bool
among [] w = false
among (x ∷ xs) w = bytes_eq x w || among xs w

-- the keywords that the compiler reads
abbrev pub used_words : List Bytes
used_words =
    codes "alias" ∷ codes "assert" ∷ codes "auto" ∷ codes "bool" ∷ codes "break" ∷ codes "byte" ∷ codes "case" ∷ codes "cast" ∷ codes "char" ∷
    codes "const" ∷ codes "continue" ∷ codes "default" ∷ codes "do" ∷ codes "else" ∷ codes "enum" ∷ codes "false" ∷ codes "for" ∷ codes "foreach" ∷
    codes "if" ∷ codes "immutable" ∷ codes "import" ∷ codes "int" ∷ codes "is" ∷ codes "long" ∷ codes "mixin" ∷ codes "module" ∷ codes "new" ∷
    codes "nothrow" ∷ codes "null" ∷ codes "private" ∷ codes "public" ∷ codes "pure" ∷ codes "ref" ∷ codes "return" ∷ codes "short" ∷
    codes "static" ∷ codes "struct" ∷ codes "switch" ∷ codes "template" ∷ codes "this" ∷ codes "true" ∷ codes "typeof" ∷ codes "ubyte" ∷
    codes "uint" ∷ codes "ulong" ∷ codes "ushort" ∷ codes "version" ∷ codes "void" ∷ codes "while" ∷ codes "__traits" ∷ []

-- the keywords of D that it leaves out
abbrev pub outside_words : List Bytes
outside_words =
    codes "abstract" ∷ codes "align" ∷ codes "asm" ∷ codes "catch" ∷ codes "cent" ∷ codes "class" ∷ codes "dchar" ∷ codes "debug" ∷
    codes "delegate" ∷ codes "delete" ∷ codes "deprecated" ∷ codes "double" ∷ codes "export" ∷ codes "extern" ∷ codes "final" ∷ codes "finally" ∷
    codes "float" ∷ codes "foreach_reverse" ∷ codes "function" ∷ codes "goto" ∷ codes "in" ∷ codes "inout" ∷ codes "interface" ∷ codes "invariant" ∷
    codes "lazy" ∷ codes "macro" ∷ codes "out" ∷ codes "override" ∷ codes "package" ∷ codes "pragma" ∷ codes "protected" ∷ codes "real" ∷
    codes "scope" ∷ codes "shared" ∷ codes "super" ∷ codes "synchronized" ∷ codes "throw" ∷ codes "try" ∷ codes "typeid" ∷ codes "ucent" ∷
    codes "union" ∷ codes "unittest" ∷ codes "wchar" ∷ codes "with" ∷ []

unfoldable pub is_used : Bytes → Bool
is_used w = among used_words w

unfoldable pub is_listed_outside : Bytes → Bool
is_listed_outside w = among outside_words w

abbrev pub begins_with_two_bars : Bytes → Bool
begins_with_two_bars [] = false
begins_with_two_bars (b ∷ []) = false
begins_with_two_bars (b ∷ c ∷ w) = b == 95 && c == 95

-- a word that the compiler uses; a word of D that it leaves out, by name or by its two first `_`; or a name
unfoldable pub word_class : Bytes → Word
word_class w = if is_used w then word_is.Used else (if is_listed_outside w || begins_with_two_bars w then word_is.Outside else word_is.Plain)
