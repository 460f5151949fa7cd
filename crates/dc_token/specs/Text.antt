-- The tokens of a text.
use Rattle.std.specs.Prelude.{◌≡◌, ◌≢◌, ◌<◌, ◌≤◌, ◌⊎◌, ℕ, ◌+◌, Bool, true, false, ◌&&◌, ◌||◌, ◌==◌, is_some, if◌then◌else◌, List, [], ◌∷◌, ◌++◌, length, drop}
use Rattle.dc_token.specs.Balance.{Bytes}
use Rattle.dc_token.specs.Vocabulary.{word_class}
use Rattle.dc_token.specs.Literals.{last_byte, holds_entity, character_of}
use Rattle.dc_token.specs.Signs.{is_outside_sign}
use Rattle.dc_token.specs.Items.{Spells, Next}
use Rattle.dc_token.specs.declared.item.Item.{Item}
use Rattle.dc_token.specs.declared.item.Item.TheVariants as item
use Rattle.dc_token.specs.declared.vocabulary.Word.{Word}
use Rattle.dc_token.specs.declared.vocabulary.Word.TheVariants as word_is
use Rattle.dc_token.specs.declared.token.Token.{Token}
use Rattle.dc_token.specs.declared.token.TokenKind.{TokenKind}
use Rattle.dc_token.specs.declared.token.TokenKind.TheVariants as kind_is

-- ---- tokens

-- white space and comments are no tokens
abbrev pub is_token : Item → Bool
is_token item.Blank = false
is_token item.LineComment = false
is_token item.BlockComment = false
is_token item.NestedComment = false
is_token other = true

abbrev pub name_kind : Word → TokenKind
name_kind word_is.Used = kind_is.Used
name_kind word_is.Outside = kind_is.Outside
name_kind word_is.Plain = kind_is.Id

-- `w` and `d`
abbrev pub is_wide : Bytes → Bool
is_wide w = last_byte w == 119 || last_byte w == 100

abbrev pub string_kind : Bool → TokenKind
string_kind is_outside = if is_outside then kind_is.Outside else kind_is.Str

-- The kind of a token. Literals and signs that the compiler leaves out are Outside.
abbrev pub kind_of : Item → Bytes → TokenKind
kind_of item.Name w = name_kind (word_class w)
kind_of item.Decimal w = kind_is.Integer
kind_of item.Hexadecimal w = kind_is.Integer
kind_of item.Binary w = kind_is.Integer
kind_of item.Character w = if is_some (character_of w) then kind_is.Character else kind_is.Outside
kind_of item.Quoted w = string_kind (is_wide w || holds_entity w)
kind_of item.Backquoted w = string_kind (is_wide w)
kind_of item.Raw w = string_kind (is_wide w)
kind_of item.TokenString w = kind_is.Str
kind_of item.Sign w = if is_outside_sign w then kind_is.Outside else kind_is.Sign
kind_of other w = kind_is.Outside

-- the token of an item that begins at an offset
abbrev pub token : Item → Bytes → ℕ → Token
token kind w at = record { kind = kind_of kind w; spelling = w; start = at; end = at + length w }

-- ---- how a text is cut into items

-- From an offset on, the text is cut into items up to its end, and these are the tokens.
pub data Reads : ℕ → Bytes → List Token → Type 0 where
  end : {at : ℕ} → Reads at [] []
  space : {at : ℕ} {t : Bytes} {kind : Item} {w rest : Bytes} {ts : List Token} → Next Spells t kind w rest → is_token kind ≡ false → Reads (at + length w) rest ts → Reads at t ts
  token_then : {at : ℕ} {t : Bytes} {kind : Item} {w rest : Bytes} {ts : List Token} → Next Spells t kind w rest → is_token kind ≡ true → Reads (at + length w) rest ts → Reads at t (token kind w at ∷ ts)

-- The cutting comes to an offset that is not the end, and at which no item begins.
pub data Stuck : ℕ → Bytes → ℕ → Type 0 where
  here : {at : ℕ} {t : Bytes} → t ≢ [] → ((kind : Item) (w rest : Bytes) → Next Spells t kind w rest → ⊥) → Stuck at t at
  later : {at : ℕ} {t : Bytes} {kind : Item} {w rest : Bytes} {n : ℕ} → Next Spells t kind w rest → Stuck (at + length w) rest n → Stuck at t n

-- EF BB BF at offset 0 is white space, there and once
abbrev pub mark_len : Bytes → ℕ
mark_len [] = 0
mark_len (a ∷ []) = 0
mark_len (a ∷ b ∷ []) = 0
mark_len (a ∷ b ∷ c ∷ t) = if a == 239 && b == 187 && c == 191 then 3 else 0

abbrev pub ReadsAs : Bytes → List Token → Type 0
ReadsAs text ts = Reads (mark_len text) (drop (mark_len text) text) ts

abbrev pub StuckAt : Bytes → ℕ → Type 0
StuckAt text n = Stuck (mark_len text) (drop (mark_len text) text) n

-- these are the tokens of the text, and no others are
pub record IsTokens (text : Bytes) (ts : List Token) : Type 0 where
  pub reads : ReadsAs text ts
  pub only : (us : List Token) → ReadsAs text us → us ≡ ts
  pub stuck_none : (n : ℕ) → StuckAt text n → ⊥

-- the text has no tokens, and this is the first offset at which no item begins
pub record IsUnreadable (text : Bytes) (at : ℕ) : Type 0 where
  pub stuck : StuckAt text at
  pub only : (n : ℕ) → StuckAt text n → n ≡ at
  pub within : at < length text
  pub reads_none : (us : List Token) → ReadsAs text us → ⊥

-- ---- laws

-- a piece of a text, of a kind, or what no item is
abbrev pub Piece : Type 0
Piece = Item × Bytes

-- the tokens among pieces that lie one after the other
abbrev pub tokens_of : ℕ → List Piece → List Token
tokens_of at [] = []
tokens_of at (p ∷ ps) = if is_token p.0 then token p.0 p.1 at ∷ tokens_of (at + length p.1) ps else tokens_of (at + length p.1) ps

abbrev pub bytes_of : List Piece → Bytes
bytes_of [] = []
bytes_of (p ∷ ps) = p.1 ++ bytes_of ps

-- From its front on, the text is cut into these pieces, and the last text is left. Each piece is the next item where it stands.
pub data Cut : Bytes → List Piece → Bytes → Type 0 where
  none : {t : Bytes} → Cut t [] t
  more : {t : Bytes} {kind : Item} {w rest : Bytes} {ps : List Piece} {u : Bytes} → Next Spells t kind w rest → Cut rest ps u → Cut t ((kind, w) ∷ ps) u

-- Spellings and what lies between them make the text again, and all of it is items.
pub record Rebuilt (at : ℕ) (t : Bytes) (ts : List Token) : Type 0 where
  pub pieces : List Piece
  pub whole : bytes_of pieces ≡ t
  pub tokens : tokens_of at pieces ≡ ts
  pub cut : Cut t pieces []

-- Behind a first EF BB BF, the tokens and the white space and comments between them are the text.
abbrev pub Rebuilds : Type 0
Rebuilds = (text : Bytes) (ts : List Token) → ReadsAs text ts → Rebuilt (mark_len text) (drop (mark_len text) text) ts

-- The front of a text up to a text that is left is white space and comments: none, or several, each the next item where it stands.
pub data Gap : Bytes → Bytes → Type 0 where
  none : {t : Bytes} → Gap t t
  more : {t : Bytes} {kind : Item} {w rest u : Bytes} → Next Spells t kind w rest → is_token kind ≡ false → Gap rest u → Gap t u

-- the token's spelling stands between its offsets, and is the next item there
pub record StandsAt (text : Bytes) (t : Token) : Type 0 where
  pub item : Item
  pub next : Next Spells (drop t.start text) item t.spelling (drop t.end text)
  pub counts : is_token item ≡ true
  pub end : t.end ≡ t.start + length t.spelling
  pub kind : t.kind ≡ kind_of item t.spelling

-- From an offset on, the tokens stand in the text in their order, and before, between and behind them are gaps alone.
pub data Laid (text : Bytes) : ℕ → List Token → Type 0 where
  last : {from : ℕ} → Gap (drop from text) [] → Laid text from []
  next : {from : ℕ} {t : Token} {ts : List Token} → from ≤ t.start → Gap (drop from text) (drop t.start text) → StandsAt text t → Laid text t.end ts → Laid text from (t ∷ ts)

-- Behind a first EF BB BF, all that stands before, between and behind the tokens of a text is white space and comments.
abbrev pub GapsBetween : Type 0
GapsBetween = (text : Bytes) (ts : List Token) → ReadsAs text ts → Laid text (mark_len text) ts

-- a text has at most one list of tokens
abbrev pub OneReading : Type 0
OneReading = (text : Bytes) (ts us : List Token) → ReadsAs text ts → ReadsAs text us → us ≡ ts

-- a text has at most one offset at which its cutting stops
abbrev pub OneStop : Type 0
OneStop = (text : Bytes) (n m : ℕ) → StuckAt text n → StuckAt text m → m ≡ n

-- and never both
abbrev pub Apart : Type 0
Apart = (text : Bytes) (ts : List Token) (n : ℕ) → ReadsAs text ts → StuckAt text n → ⊥

-- A text has tokens, or an offset at which it is unreadable. It has not both, by the fields of the two.
abbrev pub Divides : Bytes → Type 0
Divides text = ((ts : List Token) × IsTokens text ts) ⊎ ((at : ℕ) × IsUnreadable text at)
