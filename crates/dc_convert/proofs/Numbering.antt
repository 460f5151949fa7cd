-- The candidates of all sets are numbered in order.
use Rattle.std.proofs.Common.{◌≡◌, ◌∙◌, refl, sym, ap, ap₂, subst, ℕ, zero, suc, ◌+◌, ◌<◌, List, [], ◌∷◌, ◌++◌, length, map, arith}
use Rattle.std.specs.List.{slice_index_or, flat_map, Contains}
use Rattle.std.proofs.lemmas.List.{map-append}
use Rattle.std.proofs.Math.ListN.{get_or}
use Rattle.dc_candidate.specs.declared.candidate.Candidate.{Candidate}
use Rattle.dc_convert.specs.Best.{Numbered, of_set, of_sets, numbered, Numbers}

-- the numbers go up by one from n
abbrev GoUp : ℕ → List Numbered → Type 0
GoUp n [] = Unit {0}
GoUp n (c ∷ cs) = (c.number ≡ n) × GoUp (suc n) cs

set_length : (s n : ℕ) (cs : List Candidate) → length (of_set s n cs) ≡ length cs
set_length s n [] = refl
set_length s n (c ∷ cs) = ap suc (set_length s (suc n) cs)

set_up : (s n : ℕ) (cs : List Candidate) → GoUp n (of_set s n cs)
set_up s n [] = tt
set_up s n (c ∷ cs) = (refl, set_up s (suc n) cs)

up_append : (n : ℕ) (xs ys : List Numbered) → GoUp n xs → GoUp (n + length xs) ys → GoUp n (xs ++ ys)
up_append n [] ys up more = let e : n + 0 ≡ n = omega arith in subst (λ k. GoUp k ys) e more
up_append n (x ∷ xs) ys up more =
    let e : n + suc (length xs) ≡ suc n + length xs = omega arith in
    (up.0, up_append (suc n) xs ys up.1 (subst (λ k. GoUp k ys) e more))

sets_up : (s n : ℕ) (sets : List (List Candidate)) → GoUp n (of_sets s n sets)
sets_up s n [] = tt
sets_up s n (set ∷ sets) = up_append n (of_set s n set) (of_sets (suc s) (n + length set) sets) (set_up s n set) (subst (λ k. GoUp (n + k) (of_sets (suc s) (n + length set) sets)) (sym (set_length s n set)) (sets_up (suc s) (n + length set) sets))

number_at : (n : ℕ) (xs : List Numbered) → GoUp n xs → (k : ℕ) (d : Numbered) → k < length xs → (slice_index_or xs k d).number ≡ n + k
number_at n [] up k d low = absurd (omega arith)
number_at n (x ∷ xs) up zero d low = up.0 ∙ omega arith
number_at n (x ∷ xs) up (suc k) d low = number_at (suc n) xs up.1 k d (omega arith) ∙ omega arith

numbers_are : (sets : List (List Candidate)) (k : ℕ) (d : Numbered) → k < length (numbered sets) → (slice_index_or (numbered sets) k d).number ≡ k
numbers_are sets k d low = number_at 0 (numbered sets) (sets_up 0 0 sets) k d low ∙ omega arith

-- what stands at a place doesn't depend on the answer past the end
at_place : (xs : List Numbered) (k : ℕ) (c d : Numbered) → k < length xs → slice_index_or xs k c ≡ slice_index_or xs k d
at_place [] k c d low = absurd (omega arith)
at_place (x ∷ xs) zero c d low = refl
at_place (x ∷ xs) (suc k) c d low = at_place xs k c d (omega arith)

one_number : (sets : List (List Candidate)) (a b : Numbered) → Contains (numbered sets) a → Contains (numbered sets) b → a.number ≡ b.number → a ≡ b
one_number sets a b (j, low, is) (k, below, at) same =
    let first : a.number ≡ j = sym (ap (λ c. c.number) is) ∙ numbers_are sets j a low in
    let second : b.number ≡ k = sym (ap (λ c. c.number) at) ∙ numbers_are sets k b below in
    let e : j ≡ k = sym first ∙ same ∙ second in
    sym is ∙ subst (λ i. slice_index_or (numbered sets) j a ≡ slice_index_or (numbered sets) i b) e (at_place (numbered sets) j a b low) ∙ at

set_candidates : (s n : ℕ) (cs : List Candidate) → map (λ c. c.candidate) (of_set s n cs) ≡ cs
set_candidates s n [] = refl
set_candidates s n (c ∷ cs) = ap (λ v. c ∷ v) (set_candidates s (suc n) cs)

all_candidates : (s n : ℕ) (sets : List (List Candidate)) → map (λ c. c.candidate) (of_sets s n sets) ≡ flat_map (λ set. set) sets
all_candidates s n [] = refl
all_candidates s n (set ∷ sets) =
    map-append (λ c. c.candidate) (of_set s n set) (of_sets (suc s) (n + length set) sets)
    ∙ ap₂ (λ v w. v ++ w) (set_candidates s n set) (all_candidates (suc s) (n + length set) sets)

pub are_numbered : Numbers
are_numbered sets = record { all = all_candidates 0 0 sets; numbers = numbers_are sets; distinct = one_number sets }
