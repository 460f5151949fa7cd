-- The shapes that rules are put together of: what may be absent, and lists.
use Rattle.std.specs.Prelude.{Bool, true, false, List, [], ◌∷◌, Option, Some, None}
use Rattle.dc_grammar.specs.declared.terminal.Terminal.{Terminal}
use Rattle.dc_grammar.specs.declared.terminal.Terminal.TheVariants as k
use Rattle.dc_grammar.specs.Terminals.{Tokens}
use Rattle.dc_grammar.specs.Grammar.{◌·◌, Mark}

-- [P]
pub data Optional {A : Type 0} (P : Tokens → A → Type 0) : Tokens → Option A → Type 0 where
  absent : Optional P [] None
  present : {w : Tokens} {x : A} → P w x → Optional P w (Some x)

-- {P}
pub data Several {A : Type 0} (P : Tokens → A → Type 0) : Tokens → List A → Type 0 where
  finished : Several P [] []
  several : {w1 w2 : Tokens} {x : A} {xs : List A} → P w1 x → Several P w2 xs → Several P (w1 · w2) (x ∷ xs)

-- a terminal, and P
pub data After {A : Type 0} (terminal : Terminal) (P : Tokens → A → Type 0) : Tokens → A → Type 0 where
  after : {w1 w2 : Tokens} {x : A} → Mark terminal w1 → P w2 x → After terminal P (w1 · w2) x

-- P {"," P}
pub data Listed {A : Type 0} (P : Tokens → A → Type 0) : Tokens → List A → Type 0 where
  listed : {w1 w2 : Tokens} {x : A} {xs : List A} → P w1 x → Several (After k.Comma P) w2 xs → Listed P (w1 · w2) (x ∷ xs)

-- a list that may be absent
pub data Perhaps {A : Type 0} (P : Tokens → List A → Type 0) : Tokens → List A → Type 0 where
  not_there : Perhaps P [] []
  there : {w : Tokens} {x : A} {xs : List A} → P w (x ∷ xs) → Perhaps P w (x ∷ xs)

-- whether a terminal stands there
pub data Flag (terminal : Terminal) : Tokens → Bool → Type 0 where
  no_flag : Flag terminal [] false
  flag : {w : Tokens} → Mark terminal w → Flag terminal w true
