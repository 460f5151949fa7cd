-- The table of the counts of levels.
use Rattle.std.proofs.Common.{◌≡◌, ℕ, zero, suc, ◌+◌, ◌-◌, ◌<◌, ◌≤◌, List, [], ◌∷◌, length, slice_index, slice_set, refl, sym, ap, ◌∙◌, arith, rules}
use Rattle.dc_grammar.specs.Nesting.{stack, number_of, after, IsTable}
use Rattle.dc_grammar.specs.declared.levels.Effect.TheVariants as f

pub set_length : (i v : ℕ) (xs : List ℕ) → length (slice_set xs i v) ≡ length xs
set_length i v xs = search rules

pub set_same : (xs : List ℕ) (i v : ℕ) → i < length xs → slice_index (slice_set xs i v) i ≡ v
set_same xs i v h = search rules

pub set_other : (xs : List ℕ) (i j v : ℕ) → j < i → slice_index (slice_set xs i v) j ≡ slice_index xs j
set_other xs i j v h = search rules

pub stack_above : (xs : List ℕ) (i v top : ℕ) → top < i → stack (slice_set xs i v) top ≡ stack xs top
stack_above xs i v zero h = ap (λ (n : ℕ). n ∷ []) (set_other xs i 0 v h)
stack_above xs i v (suc top) h = rw (set_other xs i (suc top) v h, stack_above xs i v top (omega arith)) refl

pub number_on : (c : ℕ) (xs : List ℕ) (top : ℕ) → number_of (c ∷ stack xs top) ≡ suc (c + number_of (stack xs top))
number_on c xs zero = refl
number_on c xs (suc top) = refl

top_below : (xs : List ℕ) (top : ℕ) → top ≤ number_of (stack xs top)
top_below xs zero = omega arith
top_below xs (suc top) = let h = top_below xs top in let e = number_on (slice_index xs (suc top)) xs top in omega arith

head_of : (xs : List ℕ) (top : ℕ) → (levels : List ℕ) × (stack xs top ≡ slice_index xs top ∷ levels)
head_of xs zero = ([], refl)
head_of xs (suc top) = (stack xs top, refl)

-- the table with another count at its top
module _ (xs : List ℕ) (v : ℕ) where
  pub put : (top : ℕ) → top < length xs → (levels : List ℕ) → stack xs top ≡ slice_index xs top ∷ levels → stack (slice_set xs top v) top ≡ v ∷ levels
  put zero h levels e =
      let same : slice_index (slice_set xs 0 v) 0 ≡ v = set_same xs 0 v h in
      let empty : [] ≡ levels = cc in
      rw (same, ← empty) refl
  put (suc top) h levels e =
      let same : slice_index (slice_set xs (suc top) v) (suc top) ≡ v = set_same xs (suc top) v h in
      let below : stack (slice_set xs (suc top) v) top ≡ stack xs top = stack_above xs (suc top) v top (omega arith) in
      let rest : stack xs top ≡ levels = cc in
      rw (same, below, rest) refl

number_put : (c v : ℕ) (levels : List ℕ) → number_of (v ∷ levels) + c ≡ number_of (c ∷ levels) + v
number_put c v [] = omega arith
number_put c v (d ∷ levels) = omega arith

module _ (xs : List ℕ) (top n : ℕ) (t : IsTable xs top n) where
  pub begun_levels : n < 256 → stack (slice_set xs (top + 1) 0) (top + 1) ≡ 0 ∷ stack xs top
  begun_levels room =
      let below = top_below xs top in
      let counted = t.counted in
      let sized = t.sized in
      let next : top + 1 ≡ suc top = omega arith in
      let same : slice_index (slice_set xs (suc top) 0) (suc top) ≡ 0 = set_same xs (suc top) 0 (omega arith) in
      let above : stack (slice_set xs (suc top) 0) top ≡ stack xs top = stack_above xs (suc top) 0 top (omega arith) in
      ap (λ (m : ℕ). stack (slice_set xs m 0) m) next ∙ rw (same, above) refl

  pub begun : n < 256 → IsTable (slice_set xs (top + 1) 0) (top + 1) (n + 1)
  begun room =
      let below = top_below xs top in
      let counted = t.counted in
      let e = number_on 0 xs top in
      record { within = omega arith; sized = set_length (top + 1) 0 xs ∙ t.sized; counted = rw (begun_levels room) (omega arith); small = omega arith }

  pub put_levels : (v : ℕ) → (levels : List ℕ) → stack xs top ≡ slice_index xs top ∷ levels → stack (slice_set xs top v) top ≡ v ∷ levels
  put_levels v levels e = let sized = t.sized in let within = t.within in put xs v top (omega arith) levels e

  pub put_table : (v m : ℕ) → m + slice_index xs top ≡ n + v → m ≤ 256 → IsTable (slice_set xs top v) top m
  put_table v m count small =
      let h = head_of xs top in
      let e = put_levels v h.0 h.1 in
      let counted : n ≡ number_of (slice_index xs top ∷ h.0) = t.counted ∙ ap number_of h.1 in
      let sum = number_put (slice_index xs top) v h.0 in
      record { within = t.within; sized = set_length top v xs ∙ t.sized; counted = rw e (omega arith); small = small }

  pub reset_levels : stack (slice_set xs top 0) top ≡ after f.Reset (stack xs top)
  reset_levels = let h = head_of xs top in put_levels 0 h.0 h.1 ∙ rw (h.1) refl

  pub count_levels : stack (slice_set xs top (slice_index xs top + 1)) top ≡ after f.Count (stack xs top)
  count_levels = let h = head_of xs top in put_levels (slice_index xs top + 1) h.0 h.1 ∙ (let next : slice_index xs top + 1 ≡ suc (slice_index xs top) = omega arith in rw (h.1, next) refl)

  -- the count at the top is part of the number
  pub part : slice_index xs top ≤ n
  part = let h = head_of xs top in let counted : n ≡ number_of (slice_index xs top ∷ h.0) = t.counted ∙ ap number_of h.1 in let sum = number_put (slice_index xs top) 0 h.0 in omega arith

-- the level that a closing bracket ends
ended_on : (c : ℕ) (xs : List ℕ) (top : ℕ) → stack xs top ≡ after f.Close (c ∷ stack xs top)
ended_on c xs zero = refl
ended_on c xs (suc top) = refl

ended_brace_on : (c : ℕ) (xs : List ℕ) (top : ℕ) → after f.Reset (stack xs top) ≡ after f.CloseBrace (c ∷ stack xs top)
ended_brace_on c xs zero = refl
ended_brace_on c xs (suc top) = refl

before_top : (top : ℕ) → 0 < top → top ≡ suc (top - 1)
before_top top h = omega arith

pub ended : (xs : List ℕ) (top : ℕ) → 0 < top → stack xs (top - 1) ≡ after f.Close (stack xs top)
ended xs top h = ended_on (slice_index xs (suc (top - 1))) xs (top - 1) ∙ ap (λ (m : ℕ). after f.Close (stack xs m)) (sym (before_top top h))

pub ended_brace : (xs : List ℕ) (top : ℕ) → 0 < top → after f.Reset (stack xs (top - 1)) ≡ after f.CloseBrace (stack xs top)
ended_brace xs top h = ended_brace_on (slice_index xs (suc (top - 1))) xs (top - 1) ∙ ap (λ (m : ℕ). after f.CloseBrace (stack xs m)) (sym (before_top top h))
