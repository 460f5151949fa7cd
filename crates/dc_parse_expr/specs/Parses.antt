-- What the parser of an expression answers.
use Rattle.std.specs.Prelude.{◌≡◌, ℕ, List, [], ◌∷◌, ◌++◌, Option, Some, None, Result, Ok, Err}
use Rattle.dc_token.specs.declared.token.Token.{Token}
use Rattle.dc_types.specs.declared.place.Place.{Place}
use Rattle.dc_types.specs.declared.place.Step.TheVariants as at_step
use Rattle.dc_types.specs.declared.refusal.Refusal.{Refusal}
use Rattle.dc_types.specs.declared.refusal.Fail.{Fail}
use Rattle.dc_types.specs.declared.refusal.Fail.TheVariants.{Refused, NoMemory}
use Rattle.dc_ast.specs.declared.expression.Expr.{Expr}
use Rattle.dc_grammar.specs.Terminals.{Tokens, start_of}
use Rattle.dc_grammar.specs.Grammar.{IsExpr}

-- a refusal at an offset in the text at a place
abbrev pub refused : ℕ → Place → ℕ → List ℕ → Refusal
refused rule at start detail = record { rule = rule; place = record { «module» = at.module; steps = at.steps ++ at_step.At start ∷ [] }; detail = detail }

-- that refusal, or want of memory
abbrev pub IsFail : ℕ → Place → ℕ → List ℕ → Fail → Type 0
IsFail rule at start detail (Refused refusal) = refusal ≡ refused rule at start detail
IsFail rule at start detail NoMemory = Unit {0}

-- The answer for a text, with its first token that the compiler leaves out and its first one that nests too deep:
-- the tree, or the rule that the text breaks, the first of the three that does; or want of memory.
abbrev pub IsAnswer : Option Token → Option Token → Tokens → Place → Result Expr Fail → Type 0
IsAnswer (Some token) past tokens at (Ok tree) = ⊥
IsAnswer (Some token) past tokens at (Err fail) = IsFail 23 at token.start token.spelling fail
IsAnswer None (Some token) tokens at (Ok tree) = ⊥
IsAnswer None (Some token) tokens at (Err fail) = IsFail 24 at token.start [] fail
IsAnswer None None tokens at (Ok tree) = IsExpr tokens tree
IsAnswer None None tokens at (Err (Refused refusal)) = (refusal ≡ refused 2 at (start_of tokens) []) × ((tree : Expr) → IsExpr tokens tree → ⊥)
IsAnswer None None tokens at (Err NoMemory) = Unit {0}
