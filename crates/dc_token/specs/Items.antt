-- Which items a text can begin with, and which of them is next.
use Rattle.std.specs.Prelude.{◌≡◌, ◌≤◌, Bool, true, false, not, ◌||◌, is_none, [], ◌∷◌, ◌++◌, ◌⊎◌, length}
use Rattle.std.specs.Str.{is_utf8}
use Rattle.dc_token.specs.Balance.{Bytes, Stands, Enclosed}
use Rattle.dc_token.specs.Bytes.{Run, is_blank, begins}
use Rattle.dc_token.specs.Comments.{IsLine, IsBlock, IsNested}
use Rattle.dc_token.specs.Names.{IsName}
use Rattle.dc_token.specs.Numbers.{IsDecimal, IsHexadecimal, IsBinary, IsFloat, IsPointFloat, IsHexFloat}
use Rattle.dc_token.specs.Strings.{IsQuoted, IsBackquoted, IsRaw, IsToQuote, IsCharacter}
use Rattle.dc_token.specs.Signs.{is_sign}
use Rattle.dc_token.specs.Literals.{integer_of}
use Rattle.dc_token.specs.declared.item.Item.{Item}
use Rattle.dc_token.specs.declared.item.Item.TheVariants as item

-- ---- all kinds but token strings

-- w is spelled as an item of this kind, where rest follows
abbrev pub PlainSpells : Item → Bytes → Bytes → Type 0
PlainSpells item.Blank w rest = Run is_blank is_blank w
PlainSpells item.LineComment w rest = IsLine w
PlainSpells item.BlockComment w rest = IsBlock w rest
PlainSpells item.NestedComment w rest = IsNested w rest
PlainSpells item.Name w rest = IsName w
PlainSpells item.Decimal w rest = IsDecimal w
PlainSpells item.Hexadecimal w rest = IsHexadecimal w
PlainSpells item.Binary w rest = IsBinary w
PlainSpells item.Float w rest = IsFloat w rest
PlainSpells item.PointFloat w rest = IsPointFloat w
PlainSpells item.HexFloat w rest = IsHexFloat w
PlainSpells item.Character w rest = IsCharacter w rest
PlainSpells item.Quoted w rest = IsQuoted w rest
PlainSpells item.Backquoted w rest = IsBackquoted w rest
PlainSpells item.Raw w rest = IsRaw w rest
PlainSpells item.TokenString w rest = ⊥
PlainSpells item.Delimited w rest = IsToQuote 113 w rest
PlainSpells item.HexString w rest = IsToQuote 120 w rest
PlainSpells item.Sign w rest = is_sign w ≡ true

-- An opener of a comment or string, and the `0x` and `0b` of an integer, begin their own item and no other.
abbrev pub allows : Bytes → Item → Bool
allows t item.Sign = not (begins 47 42 t || begins 47 43 t)
allows t item.Name = not (begins 113 123 t || begins 114 34 t || begins 113 34 t || begins 120 34 t)
allows t item.Decimal = not (begins 48 120 t || begins 48 98 t)
allows t other = true

-- Spellings that make the text unreadable: integers without a type, and comments and strings that are no UTF-8.
abbrev pub refused : Item → Bytes → Bool
refused item.Decimal w = is_none (integer_of w)
refused item.Hexadecimal w = is_none (integer_of w)
refused item.Binary w = is_none (integer_of w)
refused item.LineComment w = not (is_utf8 w)
refused item.BlockComment w = not (is_utf8 w)
refused item.NestedComment w = not (is_utf8 w)
refused item.Quoted w = not (is_utf8 w)
refused item.Backquoted w = not (is_utf8 w)
refused item.Raw w = not (is_utf8 w)
refused item.Delimited w = not (is_utf8 w)
refused item.HexString w = not (is_utf8 w)
refused other w = false

-- w is an item of the kind, in front of rest
pub record IsItem (P : Item → Bytes → Bytes → Type 0) (kind : Item) (w rest : Bytes) : Type 0 where
  pub spells : P kind w rest
  pub allowed : allows (w ++ rest) kind ≡ true

-- w is the longest item that begins t
pub record Next (P : Item → Bytes → Bytes → Type 0) (t : Bytes) (kind : Item) (w rest : Bytes) : Type 0 where
  pub parts : t ≡ w ++ rest
  pub is : IsItem P kind w rest
  pub longest : (other : Item) (v u : Bytes) → t ≡ v ++ u → IsItem P other v u → length v ≤ length w
  pub readable : refused kind w ≡ false

-- ---- token strings

abbrev pub q_brace : Bytes
q_brace = 113 ∷ 123 ∷ []

-- `{`, or `q{`, whose items and `}` follow
abbrev pub OpensBrace : Bytes → Bytes → Type 0
OpensBrace t u = (t ≡ 123 ∷ u) ⊎ (t ≡ 113 ∷ 123 ∷ u)

abbrev pub ShutsBrace : Bytes → Bytes → Type 0
ShutsBrace = Stands (125 ∷ [])

-- an item that is neither
pub record OtherItem (t u : Bytes) : Type 0 where
  pub kind : Item
  pub spelling : Bytes
  pub next : Next PlainSpells t kind spelling u
  pub opens_none : (v : Bytes) → OpensBrace t v → ⊥
  pub shuts_none : (v : Bytes) → ShutsBrace t v → ⊥

-- `q{`, items in which the braces balance, and `}`
abbrev pub IsTokenString : Bytes → Bytes → Type 0
IsTokenString = Enclosed q_brace (125 ∷ []) OpensBrace OtherItem

-- ---- all kinds

abbrev pub Spells : Item → Bytes → Bytes → Type 0
Spells item.TokenString w rest = IsTokenString w rest
Spells other w rest = PlainSpells other w rest

-- ---- token strings by all items

-- an item of any kind that is no brace
pub record AnyItem (t u : Bytes) : Type 0 where
  pub kind : Item
  pub spelling : Bytes
  pub next : Next Spells t kind spelling u
  pub opens_none : (v : Bytes) → Stands (123 ∷ []) t v → ⊥
  pub shuts_none : (v : Bytes) → ShutsBrace t v → ⊥

-- `q{`, items of all kinds in which the braces balance, and `}`
abbrev pub IsStringOfItems : Bytes → Bytes → Type 0
IsStringOfItems = Enclosed q_brace (125 ∷ []) (Stands (123 ∷ [])) AnyItem

abbrev pub StringsHoldItems : Type 0
StringsHoldItems = (w rest : Bytes) → (IsTokenString w rest → IsStringOfItems w rest) × (IsStringOfItems w rest → IsTokenString w rest)
