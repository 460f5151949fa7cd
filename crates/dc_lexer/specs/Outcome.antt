-- What the lexer answers.
use Rattle.std.specs.Prelude.{◌≡◌, ℕ, List, [], ◌∷◌, ◌++◌}
use Rattle.dc_token.specs.Balance.{Bytes}
use Rattle.dc_token.specs.Text.{IsTokens, IsUnreadable}
use Rattle.dc_token.specs.declared.token.Token.{Token}
use Rattle.dc_types.specs.declared.place.Place.{Place}
use Rattle.dc_types.specs.declared.place.Step.TheVariants as step
use Rattle.dc_types.specs.declared.refusal.Fail.{Fail}
use Rattle.dc_types.specs.declared.refusal.Fail.TheVariants.{Refused, NoMemory}
use Rattle.dc_types.specs.declared.refusal.Refusal.{Refusal}

-- some list is that of the tokens of the text
abbrev pub HasTokens : Bytes → Type 0
HasTokens text = (ts : List Token) × IsTokens text ts

-- an offset in the text at a place
abbrev pub place_in : Place → ℕ → Place
place_in at offset = record { «module» = at.module; steps = at.steps ++ (step.At offset ∷ []) }

-- rule 1 at an offset in the text at a place
abbrev pub IsRefusalAt : Place → ℕ → Refusal → Type 0
IsRefusalAt at offset refusal = refusal ≡ record { rule = 1; place = place_in at offset; detail = [] }

abbrev pub IsFailAt : Place → ℕ → Fail → Type 0
IsFailAt at offset (Refused refusal) = IsRefusalAt at offset refusal
IsFailAt at offset NoMemory = Unit {0}

-- rule 1 at the first offset at which no item begins
pub record IsRefusedText (text : Bytes) (at : Place) (refusal : Refusal) : Type 0 where
  pub offset : ℕ
  pub unreadable : IsUnreadable text offset
  pub is : IsRefusalAt at offset refusal

abbrev pub IsFailure : Bytes → Place → Fail → Type 0
IsFailure text at (Refused refusal) = IsRefusedText text at refusal
IsFailure text at NoMemory = Unit {0}
