-- Each call has exactly one outcome, since all that makes a candidate the best can be tested.
use Rattle.std.proofs.Common.{◌≡◌, refl, ℕ, zero, suc, ◌==◌, ◌<◌, ◌≤◌, ◌⊎◌, inl, inr, Bool, true, false, List, [], ◌∷◌, arith, nat_lt}
use Rattle.std.specs.List.{All, Contains}
use Rattle.std.proofs.lemmas.Bool.Decides.{nat_tests}
use Rattle.std.proofs.lemmas.List.Elements.{All-nil, All-cons, All-head, All-tail, All-contains, All-contains_itself, All-weaker}
use Rattle.dc_candidate.specs.declared.range.Source.{Source}
use Rattle.dc_candidate.specs.declared.candidate.Candidate.{Candidate}
use Rattle.dc_convert.specs.Best.{Numbered, numbered, level_of, goes_before, Beats, IsBest, HasBest, NoMatch, Ambiguous, OneHolds, OneOutcome}

-- P holds or doesn't
abbrev pub Decided : Type 0 → Type 0
Decided P = P ⊎ (P → ⊥)

pub both : {P Q : Type 0} → Decided P → Decided Q → Decided (P × Q)
both (inl p) (inl q) = inl (p, q)
both (inl p) (inr n) = inr (λ pq. n pq.1)
both (inr n) q = inr (λ pq. n pq.0)

pub either : {P Q : Type 0} → Decided P → Decided Q → Decided (P ⊎ Q)
either (inl p) q = inl (inl p)
either (inr m) (inl q) = inl (inr q)
either {P = P} {Q = Q} (inr m) (inr n) = inr neither
  where
    neither : P ⊎ Q → ⊥
    neither (inl p) = m p
    neither (inr q) = n q

pub neither_holds : {P : Type 0} → Decided P → Decided (P → ⊥)
neither_holds (inl p) = inr (λ n. n p)
neither_holds (inr n) = inl n

is_true : (b : Bool) → Decided (b ≡ true)
is_true true = inl refl
is_true false = inr (λ e. cc)

pub less : (m n : ℕ) → Decided (m < n)
less m n = by (nat_lt m n) refl
  where
    by : (t : Bool) → nat_lt m n ≡ t → Decided (m < n)
    by true e = inl (grind (arith, nat_tests))
    by false e = let high : n ≤ m = grind (arith, nat_tests) in inr (λ l. omega (arith, high, l))

pub equal : (m n : ℕ) → Decided (m ≡ n)
equal m n = by (m == n) refl
  where
    by : (t : Bool) → (m == n) ≡ t → Decided (m ≡ n)
    by true e = inl (grind (arith, nat_tests))
    by false e = inr (λ same. grind (arith, nat_tests))

pub of_all : {P : Numbered → Type 0} → ((c : Numbered) → Decided (P c)) → (xs : List Numbered) → Decided (All P xs)
of_all {P = P} test [] = inl (All-nil P)
of_all {P = P} test (x ∷ xs) = by (test x) (of_all test xs)
  where
    by : Decided (P x) → Decided (All P xs) → Decided (All P (x ∷ xs))
    by (inl p) (inl all) = inl (All-cons P x xs p all)
    by (inl p) (inr n) = inr (λ all. n (All-tail P x xs all))
    by (inr n) all = inr (λ all. n (All-head P x xs all))

-- one of the list is such a one, or none is
pub one_or_none : {P : Numbered → Type 0} (among : List Numbered) → ((c : Numbered) → Contains among c → Decided (P c)) → (xs : List Numbered) → All (Contains among) xs → ((c : Numbered) × Contains among c × P c) ⊎ All (λ c. P c → ⊥) xs
one_or_none {P = P} among test [] stand = inr (All-nil (λ c. P c → ⊥))
one_or_none {P = P} among test (x ∷ xs) stand = by (test x (All-head (Contains among) x xs stand)) (one_or_none among test xs (All-tail (Contains among) x xs stand))
  where
    by : Decided (P x) → ((c : Numbered) × Contains among c × P c) ⊎ All (λ c. P c → ⊥) xs → ((c : Numbered) × Contains among c × P c) ⊎ All (λ c. P c → ⊥) (x ∷ xs)
    by (inl p) more = inl (x, All-head (Contains among) x xs stand, p)
    by (inr n) (inl found) = inl found
    by (inr n) (inr none) = inr (All-cons (λ c. P c → ⊥) x xs n none)

module _ (sets : List (List Candidate)) (args : List Source) where
  pub beats_or_not : (a b : Numbered) → Decided (Beats args a b)
  beats_or_not a b = either (less (level_of args b) (level_of args a)) (both (equal (level_of args a) (level_of args b)) (is_true (goes_before a b)))

  best_or_not : (c : Numbered) → Contains (numbered sets) c → Decided (IsBest sets args c)
  best_or_not c stands =
      by (less 0 (level_of args c))
      (of_all (λ other. either (equal other.number c.number) (beats_or_not c other)) (numbered sets))
      (of_all (λ other. neither_holds (beats_or_not other c)) (numbered sets))
      (of_all (λ other. either (equal other.set c.set) (equal (level_of args other) 0)) (numbered sets))
    where
      by : Decided (0 < level_of args c) → Decided (All (λ other. (other.number ≡ c.number) ⊎ Beats args c other) (numbered sets)) → Decided (All (λ other. Beats args other c → ⊥) (numbered sets)) → Decided (All (λ other. (other.set ≡ c.set) ⊎ (level_of args other ≡ 0)) (numbered sets)) → Decided (IsBest sets args c)
      by (inl m) (inl b) (inl u) (inl a) = inl (record { stands = stands; matches = m; beats = b; unbeaten = u; alone = a })
      by (inr n) b u a = inr (λ is. n is.matches)
      by (inl m) (inr n) u a = inr (λ is. n is.beats)
      by (inl m) (inl b) (inr n) a = inr (λ is. n is.unbeaten)
      by (inl m) (inl b) (inl u) (inr n) = inr (λ is. n is.alone)

  abbrev Outcome : Type 0
  Outcome = HasBest sets args ⊎ (NoMatch sets args ⊎ Ambiguous sets args)

  abbrev Matching : Type 0
  Matching = (c : Numbered) × Contains (numbered sets) c × (0 < level_of args c)

  outcome : ((c : Numbered) × Contains (numbered sets) c × IsBest sets args c) ⊎ All (λ c. IsBest sets args c → ⊥) (numbered sets) → Matching ⊎ All (λ c. 0 < level_of args c → ⊥) (numbered sets) → Outcome
  outcome (inl found) some = inl (record { best = found.0; is_best = found.2 })
  outcome (inr none) (inr low) = inr (inl (All-weaker (λ c. 0 < level_of args c → ⊥) (λ c. level_of args c ≡ 0) (λ c n. not_above (level_of args c) n) (numbered sets) low))
    where
      not_above : (n : ℕ) → (0 < n → ⊥) → n ≡ 0
      not_above n f = by_zero n f
        where
          by_zero : (n : ℕ) → (0 < n → ⊥) → n ≡ 0
          by_zero zero f = refl
          by_zero (suc n) f = absurd (f (omega arith))
  outcome (inr none) (inl found) = inr (inr (record {
    some = found.0;
    stands = found.1;
    matches = found.2;
    none = λ c is. All-contains (λ c. IsBest sets args c → ⊥) (numbered sets) c none is.stands is;
  }))

  abbrev stand : All (Contains (numbered sets)) (numbered sets)
  stand = All-contains_itself (numbered sets)

  unmatched : (c : Numbered) → Contains (numbered sets) c → 0 < level_of args c → NoMatch sets args → ⊥
  unmatched c stands matches none = let zero_it_is = All-contains (λ c. level_of args c ≡ 0) (numbered sets) c none stands in absurd (omega (arith, zero_it_is, matches))

  pub one_holds : OneHolds sets args
  one_holds = record {
    one = outcome
        (one_or_none (numbered sets) best_or_not (numbered sets) stand)
        (one_or_none (numbered sets) (λ c s. less 0 (level_of args c)) (numbered sets) stand);
    not_best_and_none = λ has none. unmatched has.best has.is_best.stands has.is_best.matches none;
    not_best_and_ambiguous = λ has is. is.none has.best has.is_best;
    not_none_and_ambiguous = λ none is. unmatched is.some is.stands is.matches none;
  }

pub one_outcome : OneOutcome
one_outcome sets args = one_holds sets args
