use Rattle.std.proofs.Common.{◌≡◌, ℕ, suc, ◌+◌, ◌<◌, ◌≤◌, Bool, true, false, cond, ◌&&◌, [], ◌∷◌, ◌++◌, length, take, refl, arith}
use Rattle.std.specs.List.{prefix_len, list_all}
use Rattle.std.proofs.lemmas.List.Sums.{prefix_len-le-length}
use Rattle.dc_token.specs.Balance.{Bytes}
use Rattle.dc_token.specs.Bytes.{Run}
use Rattle.dc_lexer.specs.Fronts.{run, Longest}

pub taken : (g : ℕ → Bool) (t : Bytes) → list_all g (take (prefix_len g t) t) ≡ true
taken g [] = refl
taken g (b ∷ t) = go (g b) refl (taken g t)
  where
    go : (x : Bool) → g b ≡ x → list_all g (take (prefix_len g t) t) ≡ true → list_all g (take (cond x (1 + prefix_len g t) 0) (b ∷ t)) ≡ true
    go true e more = let s : 1 + prefix_len g t ≡ suc (prefix_len g t) = omega arith in rw (s, e) more
    go false e more = refl

pub reach : (g : ℕ → Bool) (tail u : Bytes) → list_all g tail ≡ true → length tail ≤ prefix_len g (tail ++ u)
reach g [] u h = omega arith
reach g (b ∷ tail) u h = go (g b) h (reach g tail u)
  where
    go : (x : Bool) → (x && list_all g tail) ≡ true → (list_all g tail ≡ true → length tail ≤ prefix_len g (tail ++ u)) → suc (length tail) ≤ cond x (1 + prefix_len g (tail ++ u)) 0
    go true h more = let r = more h in omega arith
    go false h more = cc

run_is : (f g : ℕ → Bool) (b : ℕ) (t : Bytes) (x : Bool) → f b ≡ x → 0 < cond x (1 + prefix_len g t) 0 → Run f g (take (cond x (1 + prefix_len g t) 0) (b ∷ t))
run_is f g b t true e h = let s : 1 + prefix_len g t ≡ suc (prefix_len g t) = omega arith in rw s (record { head = b; tail = take (prefix_len g t) t; parts = refl; begins = e; goes = taken g t })
run_is f g b t false e h = absurd (omega arith)

run_within : (f g : ℕ → Bool) (b : ℕ) (t : Bytes) (x : Bool) → cond x (1 + prefix_len g t) 0 ≤ suc (length t)
run_within f g b t true = let e = prefix_len-le-length g t in omega arith
run_within f g b t false = omega arith

run_reach : (f g : ℕ → Bool) (t w u : Bytes) → t ≡ w ++ u → Run f g w → length w ≤ run f g t
run_reach f g t w u parts r = rw (parts, r.parts, r.begins) (let e = reach g r.tail u r.goes in omega arith)

pub run_longest : (f g : ℕ → Bool) (t : Bytes) → Longest (λ w u. Run f g w) t (run f g t)
run_longest f g [] = record { within = omega arith; is = λ h. absurd (omega arith); longest = run_reach f g [] }
run_longest f g (b ∷ t) = record { within = run_within f g b t (f b); is = run_is f g b t (f b) refl; longest = run_reach f g (b ∷ t) }
