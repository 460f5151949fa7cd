-- Which refusals judging gives: of what rules, where, and with what detail.
use Rattle.std.specs.Prelude.{◌≡◌, ℕ, Bool, true, ◌||◌, nat_eq, List, [], ◌∷◌, Err}
use Rattle.dc_types.specs.declared.place.Step.TheVariants.{At}
use Rattle.dc_types.specs.declared.refusal.Refusal.{Refusal}
use Rattle.dc_token.specs.declared.token.Token.{Token}
use Rattle.dc_ast.specs.declared.declaration.ModuleTree.{ModuleTree}
use Rattle.core_front.specs.JudgingStatements.{no_main}
use Rattle.core_front.specs.Front.{unbuilt, judged_of}

-- the rules that speak of a name: that it isn't there, that it is declared twice, and that its call has the wrong arguments
abbrev pub is_of_name : ℕ → Bool
is_of_name rule = nat_eq rule 5 || (nat_eq rule 7 || nat_eq rule 11)

-- the rules that speak of none: that something else is wanted there, that a function weighs too much, and that one may come
-- to its end
abbrev pub is_bare : ℕ → Bool
is_bare rule = nat_eq rule 10 || (nat_eq rule 18 || nat_eq rule 25)

-- the refusal by a rule at an offset in the module of a name
abbrev pub refusal_at : List ℕ → ℕ → ℕ → List ℕ → Refusal
refusal_at home rule at detail = record { rule = rule; place = record { «module» = home; steps = At at ∷ [] }; detail = detail }

-- a rule of names, types or flow is broken at one offset
pub data IsBroken (home : List ℕ) (r : Refusal) : Type 0 where
  OfName : (rule at : ℕ) (name : List ℕ) → is_of_name rule ≡ true → r ≡ refusal_at home rule at name → IsBroken home r
  Bare : (rule at : ℕ) → is_bare rule ≡ true → r ≡ refusal_at home rule at [] → IsBroken home r

-- a form isn't built yet, a rule is broken, or no `main` without parameters is there
pub data IsOfFront (home : List ℕ) (tokens : List Token) (r : Refusal) : Type 0 where
  Unbuilt : (at : ℕ) → r ≡ unbuilt home tokens at → IsOfFront home tokens r
  Broken : IsBroken home r → IsOfFront home tokens r
  NoMain : r ≡ no_main → IsOfFront home tokens r

-- each refusal of a module is one of these
abbrev pub RefusalsAreOfFront : Type 0
RefusalsAreOfFront = (home : List ℕ) (tokens : List Token) (tree : ModuleTree) (r : Refusal) → judged_of home tokens tree ≡ Err r → IsOfFront home tokens r
