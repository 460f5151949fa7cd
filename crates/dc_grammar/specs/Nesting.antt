-- Tokens that the compiler leaves out, and how deep a text nests.
use Rattle.std.specs.Prelude.{◌≡◌, ℕ, zero, suc, ◌+◌, Bool, true, false, if◌then◌else◌, nat_lt, max, List, [], ◌∷◌, ◌++◌, length, ◌≤◌, ◌<◌, slice_index, Option, Some, None}
use Rattle.dc_token.specs.declared.token.Token.{Token}
use Rattle.dc_token.specs.declared.token.TokenKind.{TokenKind}
use Rattle.dc_token.specs.declared.token.TokenKind.TheVariants as kind
use Rattle.dc_grammar.specs.declared.terminal.Terminal.{Terminal}
use Rattle.dc_grammar.specs.declared.terminal.Terminal.TheVariants as k
use Rattle.dc_grammar.specs.declared.levels.Effect.{Effect}
use Rattle.dc_grammar.specs.declared.levels.Effect.TheVariants as f
use Rattle.dc_grammar.specs.Terminals.{Tokens, terminal_of}

abbrev pub is_outside : TokenKind → Bool
is_outside kind.Outside = true
is_outside other = false

-- the first token that the compiler leaves out
abbrev pub first_outside : Tokens → Option Token
first_outside [] = None
first_outside (token ∷ tokens) = if is_outside token.kind then Some token else first_outside tokens

-- a sign behind these stands between two operands
abbrev pub ends_operand : Terminal → Bool
ends_operand k.Name = true
ends_operand k.Integer = true
ends_operand k.Str = true
ends_operand k.Character = true
ends_operand k.RightParen = true
ends_operand k.RightBracket = true
ends_operand k.Dollar = true
ends_operand _ = false

abbrev pub sign_effect : Bool → Effect
sign_effect behind_operand = if behind_operand then f.Nothing else f.Count

-- What a token does to the levels, where another one stands before it. Each open bracket makes a level.
abbrev pub effect_of : Terminal → Terminal → Effect
effect_of before k.LeftParen = f.Open
effect_of before k.LeftBracket = f.Open
effect_of before k.LeftBrace = f.Open
effect_of before k.RightParen = f.Close
effect_of before k.RightBracket = f.Close
effect_of before k.RightBrace = f.CloseBrace
effect_of before k.Semicolon = f.Reset
effect_of before k.Comma = f.Reset
effect_of before k.If = f.Count
effect_of before k.While = f.Count
effect_of before k.Do = f.Count
effect_of before k.For = f.Count
effect_of before k.Foreach = f.Count
effect_of before k.Switch = f.Count
effect_of before k.Version = f.Count
effect_of before k.Cast = f.Count
effect_of before k.Question = f.Count
effect_of before k.Equals = f.Count
effect_of before k.PlusEqual = f.Count
effect_of before k.MinusEqual = f.Count
effect_of before k.StarEqual = f.Count
effect_of before k.SlashEqual = f.Count
effect_of before k.PercentEqual = f.Count
effect_of before k.AmpersandEqual = f.Count
effect_of before k.BarEqual = f.Count
effect_of before k.CaretEqual = f.Count
effect_of before k.TildeEqual = f.Count
effect_of before k.ShiftLeftEqual = f.Count
effect_of before k.ShiftRightEqual = f.Count
effect_of before k.ShiftRightZerosEqual = f.Count
effect_of before k.Minus = sign_effect (ends_operand before)
effect_of before k.Plus = sign_effect (ends_operand before)
effect_of before k.Not = sign_effect (ends_operand before)
effect_of before k.Tilde = sign_effect (ends_operand before)
effect_of before k.PlusPlus = sign_effect (ends_operand before)
effect_of before k.MinusMinus = sign_effect (ends_operand before)
effect_of before other = f.Nothing

-- The counts of the levels that are open, the innermost first. The last one is that of the text outside all brackets,
-- which is always open: a closing bracket there is passed over.
abbrev pub after : Effect → List ℕ → List ℕ
after f.Open levels = 0 ∷ levels
after f.Close (count ∷ outer ∷ levels) = outer ∷ levels
after f.CloseBrace (count ∷ outer ∷ levels) = 0 ∷ levels
after f.Reset (count ∷ levels) = 0 ∷ levels
after f.Count (count ∷ levels) = suc count ∷ levels
after other levels = levels

-- the number of open brackets, and the counts of all levels
abbrev pub number_of : List ℕ → ℕ
number_of [] = 0
number_of (count ∷ []) = count
number_of (count ∷ outer ∷ levels) = suc (count + number_of (outer ∷ levels))

-- the nesting at each token
abbrev pub numbers : Terminal → List ℕ → Tokens → List ℕ
numbers before levels [] = []
numbers before levels (token ∷ tokens) = let now = after (effect_of before (terminal_of token)) levels in number_of now ∷ numbers (terminal_of token) now tokens

abbrev pub greatest : List ℕ → ℕ
greatest [] = 0
greatest (n ∷ ns) = max n (greatest ns)

-- the nesting of a text
abbrev pub nesting : Tokens → ℕ
nesting tokens = greatest (numbers k.End (0 ∷ []) tokens)

-- the token beside the first number above the limit
abbrev pub beside_large : ℕ → List ℕ → Tokens → Option Token
beside_large limit [] tokens = None
beside_large limit (n ∷ ns) [] = None
beside_large limit (n ∷ ns) (token ∷ tokens) = if nat_lt limit n then Some token else beside_large limit ns tokens

-- the first token past the limit
abbrev pub first_past : ℕ → Tokens → Option Token
first_past limit tokens = beside_large limit (numbers k.End (0 ∷ []) tokens) tokens

-- the token ends the shortest front of the text whose nesting is above the limit
pub record IsFirstPast (limit : ℕ) (tokens : Tokens) (token : Token) : Type 0 where
  pub front : Tokens
  pub behind : Tokens
  pub is : tokens ≡ front ++ token ∷ behind
  pub within : nesting front ≤ limit
  pub past : limit < nesting (front ++ token ∷ [])

-- There is a first token past the limit exactly where the nesting of the text is above it, and it is that one.
pub record PastExactly : Type 0 where
  pub none : (limit : ℕ) (tokens : Tokens) → first_past limit tokens ≡ None → nesting tokens ≤ limit
  pub above : (limit : ℕ) (tokens : Tokens) (token : Token) → first_past limit tokens ≡ Some token → limit < nesting tokens
  pub first : (limit : ℕ) (tokens : Tokens) (token : Token) → first_past limit tokens ≡ Some token → IsFirstPast limit tokens token
  pub is : (limit : ℕ) (tokens : Tokens) (token : Token) → IsFirstPast limit tokens token → first_past limit tokens ≡ Some token

-- the counts in a table up to a place, from there back
abbrev pub stack : List ℕ → ℕ → List ℕ
stack counts zero = slice_index counts 0 ∷ []
stack counts (suc top) = slice_index counts (suc top) ∷ stack counts top

-- at most 256 brackets are open, and the number is theirs
pub record IsTable (counts : List ℕ) (top : ℕ) (number : ℕ) : Type 0 where
  pub within : top ≤ 256
  pub sized : length counts ≡ 257
  pub counted : number ≡ number_of (stack counts top)
  pub small : number ≤ 256
