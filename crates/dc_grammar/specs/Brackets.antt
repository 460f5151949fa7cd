-- What stands behind the round bracket that closes another.
use Rattle.std.specs.Prelude.{ℕ, suc, Bool, false, ◌&&◌, [], ◌∷◌, Option, Some, None}
use Rattle.dc_grammar.specs.declared.terminal.Terminal.{Terminal}
use Rattle.dc_grammar.specs.declared.terminal.Terminal.TheVariants as k
use Rattle.dc_grammar.specs.Terminals.{Tokens, terminal_of, same_terminal, ahead}

-- the number of round brackets that are open behind one more token, or none where it closes the last of them
abbrev pub open_behind : Terminal → ℕ → Option ℕ
open_behind k.LeftParen depth = Some (suc depth)
open_behind k.RightParen (suc (suc depth)) = Some (suc depth)
open_behind k.RightParen depth = None
open_behind other depth = Some depth

abbrev pub unless_closed : Option ℕ → Tokens → (ℕ → Tokens) → Tokens
unless_closed (Some depth) tokens on = on depth
unless_closed None tokens on = tokens

abbrev pub behind : ℕ → Tokens → Tokens
behind depth [] = []
behind depth (token ∷ tokens) = unless_closed (open_behind (terminal_of token) depth) tokens (λ d. behind d tokens)

-- the tokens behind the round bracket that closes the first one
abbrev pub behind_parens : Tokens → Tokens
behind_parens = behind 0

-- a dot and a name
abbrev pub names_member : Tokens → Bool
names_member [] = false
names_member (dot ∷ tokens) = same_terminal (terminal_of dot) k.Dot && same_terminal (ahead tokens) k.Name
