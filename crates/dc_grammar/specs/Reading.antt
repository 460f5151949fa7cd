-- Readers on lists of tokens, and the steps that they are made of.
use Rattle.std.specs.Prelude.{ℕ, zero, suc, if◌then◌else◌, List, [], ◌∷◌, length, Option, Some, None}
use Rattle.dc_grammar.specs.declared.terminal.Terminal.{Terminal}
use Rattle.dc_token.specs.declared.token.Token.{Token}
use Rattle.dc_grammar.specs.Terminals.{Tokens, start_of, terminal_of, same_terminal}

abbrev pub Outcome : Type 0 → Type 0
Outcome A = Option (A × Tokens)

abbrev pub Reader : Type 0 → Type 0
Reader A = Tokens → Outcome A

abbrev pub and_then : {A B : Type 0} → Outcome A → (A → Reader B) → Outcome B
and_then (Some p) f = f p.0 p.1
and_then None f = None

infixl 10 ◌>>=◌
abbrev pub ◌>>=◌ : {A B : Type 0} → Reader A → (A → Reader B) → Reader B
p >>= f = λ ts. and_then (p ts) f

abbrev pub pure : {A : Type 0} → A → Reader A
pure a = λ ts. Some (a, ts)

abbrev pub nothing : {A : Type 0} → Reader A
nothing = λ ts. None

abbrev pub or_else : {A : Type 0} → Outcome A → Outcome A → Outcome A
or_else (Some p) other = Some p
or_else None other = other

-- ---- steps

-- one terminal
abbrev pub mark : Terminal → Reader (Unit {0})
mark terminal [] = None
mark terminal (token ∷ tokens) = if same_terminal (terminal_of token) terminal then Some (tt, tokens) else None

abbrev pub named : {A : Type 0} → (Token → A) → Terminal → Reader A
named to terminal [] = None
named to terminal (token ∷ tokens) = if same_terminal (terminal_of token) terminal then Some (to token, tokens) else None

abbrev pub given : {A : Type 0} → Option A → Tokens → Outcome A
given (Some x) tokens = Some (x, tokens)
given None tokens = None

-- a terminal that stands for something
abbrev pub means : {A : Type 0} → (Terminal → Option A) → Reader A
means f [] = None
means f (token ∷ tokens) = given (f (terminal_of token)) tokens

abbrev pub both : {A B : Type 0} → Reader A → Reader B → Reader (A × B)
both p q = p >>= (λ x. q >>= (λ y. pure (x, y)))

infixr 11 ◌<$>◌
abbrev pub ◌<$>◌ : {A B : Type 0} → (A → B) → Reader A → Reader B
f <$> p = p >>= (λ x. pure (f x))

-- what was read, and the offset at which it begins
abbrev pub from_start : {A B : Type 0} → (ℕ → A → B) → Reader A → Reader B
from_start f p = λ ts. (f (start_of ts) <$> p) ts

abbrev pub either : {A : Type 0} → Reader A → Reader A → Reader A
either p q = λ ts. or_else (p ts) (q ts)

abbrev pub if_any : {A : Type 0} → Outcome A → Tokens → Outcome (Option A)
if_any (Some p) ts = Some (Some p.0, p.1)
if_any None ts = Some (None, ts)

abbrev pub maybe : {A : Type 0} → Reader A → Reader (Option A)
maybe p = λ ts. if_any (p ts) ts

abbrev pub before : {A : Type 0} → A → Outcome (List A) → Outcome (List A)
before x (Some p) = Some (x ∷ p.0, p.1)
before x None = None

abbrev pub on_with : {A : Type 0} → Outcome A → Tokens → Reader (List A) → Outcome (List A)
on_with (Some p) ts more = before p.0 (more p.1)
on_with None ts more = Some ([], ts)

unfoldable pub many_from : {A : Type 0} → Reader A → ℕ → Reader (List A)
many_from p zero = pure []
many_from p (suc n) = λ ts. on_with (p ts) ts (many_from p n)

-- as many as there are; each takes a token
abbrev pub many : {A : Type 0} → Reader A → Reader (List A)
many p = λ ts. many_from p (length ts) ts
