-- Which candidate a call chooses (D specification, "Functions", "Function Overloading").
use Rattle.std.specs.Prelude.{◌≡◌, ◌<◌, ◌+◌, ◌⊎◌, ◌↔◌, ℕ, suc, min, Bool, true, false, not, ◌&&◌, List, [], ◌∷◌, ◌++◌, length, map, unwrap_or, if◌then◌else◌}
use Rattle.std.specs.List.{slice_get, slice_index_or, flat_map, All, Contains}
use Rattle.dc_candidate.specs.declared.range.Source.{Source, out-Source}
use Rattle.dc_candidate.specs.declared.candidate.CallParam.{CallParam}
use Rattle.dc_candidate.specs.declared.candidate.Candidate.{Candidate}
use Rattle.dc_types.specs.Same as same
use Rattle.dc_convert.specs.Levels.{type_of, level}

-- the level of an argument: a parameter that is marked `ref` takes only a place of its own type
abbrev pub arg_level : CallParam → Source → ℕ
arg_level p s = if p.by_ref then (if (out-Source s).place && same.ty (type_of s) p.ty then 2 else 0) else level s p.ty

-- The level of a call: the worst of its arguments, the highest where there are none, and 0 where there are more or fewer
-- than parameters.
abbrev pub call_level : List CallParam → List Source → ℕ
call_level [] [] = 2
call_level (p ∷ ps) (s ∷ ss) = min (arg_level p s) (call_level ps ss)
call_level _ _ = 0

-- a candidate with the number of its overload set, and its own among those of all sets
pub record Numbered : Type 0 where
  pub set : ℕ
  pub number : ℕ
  pub candidate : Candidate

abbrev pub of_set : ℕ → ℕ → List Candidate → List Numbered
of_set s n [] = []
of_set s n (c ∷ cs) = record { set = s; number = n; candidate = c } ∷ of_set s (suc n) cs

abbrev pub of_sets : ℕ → ℕ → List (List Candidate) → List Numbered
of_sets s n [] = []
of_sets s n (set ∷ sets) = of_set s n set ++ of_sets (suc s) (n + length set) sets

-- the candidates of all sets, in order
abbrev pub numbered : List (List Candidate) → List Numbered
numbered sets = of_sets 0 0 sets

abbrev pub level_of : List Source → Numbered → ℕ
level_of args c = call_level c.candidate.params args

-- the first is at least as specialised as the second
abbrev pub is_above : Numbered → Numbered → Bool
is_above a b = unwrap_or (slice_get a.candidate.above b.number) false

-- it is so, and the second isn't so as it
abbrev pub is_more_special : Numbered → Numbered → Bool
is_more_special a b = is_above a b && not (is_above b a)

-- whether a candidate goes before another at one level, by whether each is a plain function: it goes before an instance of a
-- template, and of two of a sort the more specialised one goes first
abbrev pub before_by : (plain other_plain special : Bool) → Bool
before_by true false special = true
before_by false true special = false
before_by true true special = special
before_by false false special = special

abbrev pub goes_before : Numbered → Numbered → Bool
goes_before a b = before_by a.candidate.plain b.candidate.plain (is_more_special a b)

abbrev pub Beats : List Source → Numbered → Numbered → Type 0
Beats args a b = (level_of args b < level_of args a) ⊎ ((level_of args a ≡ level_of args b) × (goes_before a b ≡ true))

-- The best of the candidates: one that matches, that beats each other one and is beaten by none, and outside whose set
-- none matches.
pub record IsBest (sets : List (List Candidate)) (args : List Source) (best : Numbered) : Type 0 where
  pub stands : Contains (numbered sets) best
  pub matches : 0 < level_of args best
  pub beats : All (λ other. (other.number ≡ best.number) ⊎ Beats args best other) (numbered sets)
  pub unbeaten : All (λ other. Beats args other best → ⊥) (numbered sets)
  pub alone : All (λ other. (other.set ≡ best.set) ⊎ (level_of args other ≡ 0)) (numbered sets)

-- one of the candidates is the best
pub record HasBest (sets : List (List Candidate)) (args : List Source) : Type 0 where
  pub best : Numbered
  pub is_best : IsBest sets args best

-- no candidate matches
abbrev pub NoMatch : List (List Candidate) → List Source → Type 0
NoMatch sets args = All (λ c. level_of args c ≡ 0) (numbered sets)

-- some candidate matches, and none is the best
pub record Ambiguous (sets : List (List Candidate)) (args : List Source) : Type 0 where
  pub some : Numbered
  pub stands : Contains (numbered sets) some
  pub matches : 0 < level_of args some
  pub none : (c : Numbered) → IsBest sets args c → ⊥

-- ---- laws

-- the candidates of all sets stand there once, in order, each with its number
pub record AreNumbered (sets : List (List Candidate)) : Type 0 where
  pub all : map (λ c. c.candidate) (numbered sets) ≡ flat_map (λ set. set) sets
  pub numbers : (k : ℕ) (d : Numbered) → k < length (numbered sets) → (slice_index_or (numbered sets) k d).number ≡ k
  pub distinct : (a b : Numbered) → Contains (numbered sets) a → Contains (numbered sets) b → a.number ≡ b.number → a ≡ b

abbrev pub Numbers : Type 0
Numbers = (sets : List (List Candidate)) → AreNumbered sets

-- of two candidates at most one beats the other
abbrev pub OneBeats : Type 0
OneBeats = (args : List Source) (a b : Numbered) → Beats args a b → Beats args b a → ⊥

-- at most one candidate is the best
abbrev pub OneBest : Type 0
OneBest = (sets : List (List Candidate)) (args : List Source) (a b : Numbered) → IsBest sets args a → IsBest sets args b → a ≡ b

-- of the three outcomes exactly one holds
pub record OneHolds (sets : List (List Candidate)) (args : List Source) : Type 0 where
  pub one : HasBest sets args ⊎ (NoMatch sets args ⊎ Ambiguous sets args)
  pub not_best_and_none : HasBest sets args → NoMatch sets args → ⊥
  pub not_best_and_ambiguous : HasBest sets args → Ambiguous sets args → ⊥
  pub not_none_and_ambiguous : NoMatch sets args → Ambiguous sets args → ⊥

abbrev pub OneOutcome : Type 0
OneOutcome = (sets : List (List Candidate)) (args : List Source) → OneHolds sets args

-- the candidate beats each other one
abbrev pub BeatsAll : List (List Candidate) → List Source → Numbered → Type 0
BeatsAll sets args c = All (λ other. (other.number ≡ c.number) ⊎ Beats args c other) (numbered sets)

-- candidates of two sets match
pub record MatchInTwo (sets : List (List Candidate)) (args : List Source) : Type 0 where
  pub a : Numbered
  pub b : Numbered
  pub a_stands : Contains (numbered sets) a
  pub b_stands : Contains (numbered sets) b
  pub a_matches : 0 < level_of args a
  pub b_matches : 0 < level_of args b
  pub apart : a.set ≡ b.set → ⊥

-- A call is ambiguous exactly where a candidate matches, and none beats all others or candidates of two sets match.
pub record IsUndecided (sets : List (List Candidate)) (args : List Source) : Type 0 where
  pub some : Numbered
  pub stands : Contains (numbered sets) some
  pub matches : 0 < level_of args some
  pub cause : All (λ c. BeatsAll sets args c → ⊥) (numbered sets) ⊎ MatchInTwo sets args

abbrev pub Causes : Type 0
Causes = (sets : List (List Candidate)) (args : List Source) → Ambiguous sets args ↔ IsUndecided sets args
