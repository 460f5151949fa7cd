-- What the parsers answer.
use Rattle.std.specs.Prelude.{◌≡◌, ℕ, List, [], ◌∷◌, ◌++◌, Option, Some, None, Result, Ok, Err}
use Rattle.dc_token.specs.declared.token.Token.{Token}
use Rattle.dc_types.specs.declared.place.Place.{Place}
use Rattle.dc_types.specs.declared.place.Step.TheVariants as at_step
use Rattle.dc_types.specs.declared.refusal.Refusal.{Refusal}
use Rattle.dc_types.specs.declared.refusal.Fail.{Fail}
use Rattle.dc_types.specs.declared.refusal.Fail.TheVariants.{Refused, NoMemory}
use Rattle.dc_grammar.specs.Terminals.{Tokens}
use Rattle.dc_grammar.specs.Refusals.{IsRefusedAt}

-- a refusal at an offset in the text at a place
abbrev pub refused : ℕ → Place → ℕ → List ℕ → Refusal
refused rule at start detail = record { rule = rule; place = record { «module» = at.module; steps = at.steps ++ at_step.At start ∷ [] }; detail = detail }

-- that refusal, or want of memory
abbrev pub IsFail : ℕ → Place → ℕ → List ℕ → Fail → Type 0
IsFail rule at start detail (Refused refusal) = refusal ≡ refused rule at start detail
IsFail rule at start detail NoMemory = Unit {0}

-- The text is no list of its kind, and rule 2 is refused at the first token behind the longest list that begins it.
pub record IsShort {A : Type 0} (P : Tokens → A → Type 0) (tokens : Tokens) (at : Place) (refusal : Refusal) : Type 0 where
  pub token : Token
  pub is : refusal ≡ refused 2 at token.start []
  pub place : IsRefusedAt P tokens token
  pub none : (tree : A) → P tokens tree → ⊥

-- The answer for a text, with its first token that the compiler leaves out and its first one that nests too deep:
-- the tree, or the rule that the text breaks, the first of the three that does; or want of memory.
abbrev pub IsAnswer : {A : Type 0} → (Tokens → A → Type 0) → Option Token → Option Token → Tokens → Place → Result A Fail → Type 0
IsAnswer P (Some token) past tokens at (Ok tree) = ⊥
IsAnswer P (Some token) past tokens at (Err fail) = IsFail 23 at token.start token.spelling fail
IsAnswer P None (Some token) tokens at (Ok tree) = ⊥
IsAnswer P None (Some token) tokens at (Err fail) = IsFail 24 at token.start [] fail
IsAnswer P None None tokens at (Ok tree) = P tokens tree
IsAnswer P None None tokens at (Err (Refused refusal)) = IsShort P tokens at refusal
IsAnswer P None None tokens at (Err NoMemory) = Unit {0}

-- ---- steps to it

-- the rules that come before the grammar
abbrev pub IsJudged : Option Token → Option Token → Place → Result (Unit {0}) Fail → Type 0
IsJudged (Some token) past at (Ok u) = ⊥
IsJudged (Some token) past at (Err fail) = IsFail 23 at token.start token.spelling fail
IsJudged None (Some token) at (Ok u) = ⊥
IsJudged None (Some token) at (Err fail) = IsFail 24 at token.start [] fail
IsJudged None None at (Ok u) = Unit {0}
IsJudged None None at (Err fail) = ⊥

-- what was read, where nothing is left behind it
abbrev pub IsWhole : {A : Type 0} → Tokens → Place → A → Result A Fail → Type 0
IsWhole [] at read (Ok tree) = tree ≡ read
IsWhole [] at read (Err fail) = ⊥
IsWhole (token ∷ rest) at read (Ok tree) = ⊥
IsWhole (token ∷ rest) at read (Err fail) = IsFail 2 at token.start [] fail
