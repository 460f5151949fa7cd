-- A call is ambiguous exactly where a candidate matches, and none beats all others or candidates of two sets match.
use Rattle.std.proofs.Common.{◌≡◌, ◌∙◌, refl, sym, subst, ℕ, zero, suc, ◌<◌, ◌⊎◌, inl, inr, List, arith}
use Rattle.std.specs.List.{All, Contains}
use Rattle.std.proofs.lemmas.List.Elements.{All-contains, All-contains_itself}
use Rattle.dc_candidate.specs.declared.range.Source.{Source}
use Rattle.dc_candidate.specs.declared.candidate.Candidate.{Candidate}
use Rattle.dc_convert.specs.Best.{Numbered, numbered, level_of, Beats, IsBest, Ambiguous, BeatsAll, MatchInTwo, IsUndecided, Causes}
use Rattle.dc_convert.proofs.Numbering.{are_numbered}
use Rattle.dc_convert.proofs.Choosing.{one_beats}
use Rattle.dc_convert.proofs.Outcomes.{Decided, both, either, neither_holds, less, equal, of_all, one_or_none, beats_or_not}

module _ (sets : List (List Candidate)) (args : List Source) where
  abbrev all : List Numbered
  all = numbered sets

  abbrev stand : All (Contains all) all
  stand = All-contains_itself all

  -- what is shown of each that stands there holds of all
  of_each : (P : Numbered → Type 0) → ((c : Numbered) → Contains all c → P c) → (xs : List Numbered) → All (Contains all) xs → All P xs
  of_each P f xs in_all k d low = f _ (in_all k d low)

  beats_all_or_not : (c : Numbered) → Contains all c → Decided (BeatsAll sets args c)
  beats_all_or_not c stands = of_all (λ other. either (equal other.number c.number) (beats_or_not sets args c other)) all

  -- one that beats all others matches where any does
  first_matches : (c some : Numbered) → Contains all c → BeatsAll sets args c → Contains all some → 0 < level_of args some → 0 < level_of args c
  first_matches c some stands beats some_stands matches =
      by (All-contains (λ other. (other.number ≡ c.number) ⊎ Beats args c other) all some beats some_stands)
    where
      by : (some.number ≡ c.number) ⊎ Beats args c some → 0 < level_of args c
      by (inl same) = subst (λ v. 0 < level_of args v) ((are_numbered sets).distinct some c some_stands stands same) matches
      by (inr (inl more)) = omega (arith, matches, more)
      by (inr (inr (as_well, before))) = omega (arith, matches, as_well)

  -- and none beats it
  first_unbeaten : (c : Numbered) → Contains all c → BeatsAll sets args c → All (λ other. Beats args other c → ⊥) all
  first_unbeaten c stands beats = of_each (λ other. Beats args other c → ⊥) (λ other there. by other there (All-contains (λ other. (other.number ≡ c.number) ⊎ Beats args c other) all other beats there)) all stand
    where
      by : (other : Numbered) → Contains all other → (other.number ≡ c.number) ⊎ Beats args c other → Beats args other c → ⊥
      by other there (inl same) back =
          let e = (are_numbered sets).distinct other c there stands same in
          let again : Beats args c c = subst (λ v. Beats args v c) e back in
          one_beats args c c again again
      by other there (inr beaten) back = one_beats args c other beaten back

  abbrev Stranger : Numbered → Numbered → Type 0
  Stranger c other = (other.set ≡ c.set → ⊥) × (0 < level_of args other)

  no_stranger : (c other : Numbered) → Decided (other.set ≡ c.set) → (Stranger c other → ⊥) → (other.set ≡ c.set) ⊎ (level_of args other ≡ 0)
  no_stranger c other (inl same) n = inl same
  no_stranger c other (inr differs) n = inr (by (less 0 (level_of args other)))
    where
      by : Decided (0 < level_of args other) → level_of args other ≡ 0
      by (inl above) = absurd (n (differs, above))
      by (inr low) = by_number (level_of args other) low
        where
          by_number : (k : ℕ) → (0 < k → ⊥) → k ≡ 0
          by_number zero f = refl
          by_number (suc k) f = absurd (f (omega arith))

  cause_of : Ambiguous sets args → All (λ c. BeatsAll sets args c → ⊥) all ⊎ MatchInTwo sets args
  cause_of is = by (one_or_none all beats_all_or_not all stand)
    where
      two : (c : Numbered) → Contains all c → BeatsAll sets args c → ((other : Numbered) × Contains all other × Stranger c other) ⊎ All (λ other. Stranger c other → ⊥) all → MatchInTwo sets args
      two c stands beats (inl found) = record {
        a = found.0;
        b = c;
        a_stands = found.1;
        b_stands = stands;
        a_matches = found.2.1;
        b_matches = first_matches c is.some stands beats is.stands is.matches;
        apart = found.2.0;
      }
      two c stands beats (inr none) = absurd (is.none c (record {
        stands = stands;
        matches = first_matches c is.some stands beats is.stands is.matches;
        beats = beats;
        unbeaten = first_unbeaten c stands beats;
        alone = of_each (λ other. (other.set ≡ c.set) ⊎ (level_of args other ≡ 0)) (λ other there. no_stranger c other (equal other.set c.set) (All-contains (λ other. Stranger c other → ⊥) all other none there)) all stand;
      }))

      by : ((c : Numbered) × Contains all c × BeatsAll sets args c) ⊎ All (λ c. BeatsAll sets args c → ⊥) all → All (λ c. BeatsAll sets args c → ⊥) all ⊎ MatchInTwo sets args
      by (inr none) = inl none
      by (inl (c, stands, beats)) = inr (two c stands beats (one_or_none all (λ other s. both (neither_holds (equal other.set c.set)) (less 0 (level_of args other))) all stand))

  no_best : IsUndecided sets args → (c : Numbered) → IsBest sets args c → ⊥
  no_best is c best = by is.cause
    where
      own : (a : Numbered) → Contains all a → 0 < level_of args a → a.set ≡ c.set
      own a stands matches = elim (All-contains (λ other. (other.set ≡ c.set) ⊎ (level_of args other ≡ 0)) all a best.alone stands) [
        | inl same ↦ same
        | inr low ↦ absurd (omega (arith, low, matches))
      ]

      by : All (λ c. BeatsAll sets args c → ⊥) all ⊎ MatchInTwo sets args → ⊥
      by (inl none) = All-contains (λ c. BeatsAll sets args c → ⊥) all c none best.stands best.beats
      by (inr m) = m.apart (own m.a m.a_stands m.a_matches ∙ sym (own m.b m.b_stands m.b_matches))

pub causes : Causes
causes sets args = (
  λ is. record { some = is.some; stands = is.stands; matches = is.matches; cause = cause_of sets args is },
  λ is. record { some = is.some; stands = is.stands; matches = is.matches; none = no_best sets args is },
)
