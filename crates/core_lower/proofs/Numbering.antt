-- Tables that are filled from the last place to the first.
use Rattle.std.proofs.Common.{◌≡◌, ℕ, zero, suc, ◌+◌, ◌-◌, ◌<◌, ◌≤◌, Bool, true, false, cond, List, [], ◌∷◌, ◌++◌, length, map, drop, get_or, Option, Some, None, refl, sym, ap, ap₂, ◌∙◌, arith}
use Rattle.std.specs.Prelude.{if◌then◌else◌}
use Rattle.std.proofs.lemmas.List.{map-append, length-map}
use Rattle.dc_types.specs.declared.place.Place.{Place}
use Rattle.dc_types.specs.Same as same
use Rattle.core_lower.specs.Lowered.{found_from}
use Rattle.core_lower.specs.Choice.{else_found}

pub drop_cons : {X : Type 0} (xs : List X) (i : ℕ) (d : X) → 0 < i → i ≤ length xs → drop (i - 1) xs ≡ get_or xs (i - 1) d ∷ drop i xs
drop_cons xs zero d some le = absurd (omega arith)
drop_cons [] (suc i) d some le = absurd (omega arith)
drop_cons (x ∷ xs) (suc zero) d some le = refl
drop_cons (x ∷ xs) (suc (suc i)) d some le =
    let e : suc (suc i) - 1 ≡ suc (suc i - 1) = omega arith in
    ap (λ k. drop k (x ∷ xs)) e ∙ drop_cons xs (suc i) d (omega arith) (omega arith) ∙ ap (λ k. get_or (x ∷ xs) k d ∷ drop (suc i) xs) (sym e)

chosen : (b : Bool) (n : ℕ) (found other : Option ℕ) → cond b (Some n) (else_found found other) ≡ else_found (if b then Some n else found) other
chosen true n found other = refl
chosen false n found other = refl

-- one more place before those that have numbers
pub put_before : (X : Type 0) (at : X → Place) (xs : List X) (i n number : ℕ) (x : X) (key q : Place) (new cur old : Option ℕ) → 0 < i → i ≤ length xs → key ≡ at (get_or xs (i - 1) x) → number ≡ n + (i - 1) →
    new ≡ cond (same.place key q) (Some number) cur → cur ≡ else_found (found_from (n + i) q (map at (drop i xs))) old → new ≡ else_found (found_from (n + (i - 1)) q (map at (drop (i - 1) xs))) old
put_before X at xs i n number x key q new cur old some le k m e f =
    let g = found_from (n + i) q (map at (drop i xs)) in
    let step : n + (i - 1) + 1 ≡ n + i = omega arith in
    e ∙ ap (λ c. cond (same.place key q) (Some number) c) f ∙ chosen (same.place key q) number g old
    ∙ ap₂ (λ p k. else_found (if same.place p q then Some k else g) old) k m
    ∙ ap (λ k. else_found (if same.place (at (get_or xs (i - 1) x)) q then Some (n + (i - 1)) else found_from k q (map at (drop i xs))) old) (sym step)
    ∙ ap (λ l. else_found (found_from (n + (i - 1)) q (map at l)) old) (sym (drop_cons xs i x some le))

-- numbers of one list, and behind them those of another
pub found_append : (q : Place) (n : ℕ) (xs ys : List Place) → else_found (found_from n q xs) (found_from (n + length xs) q ys) ≡ found_from n q (xs ++ ys)
found_append q n [] ys = ap (λ k. found_from k q ys) (omega arith)
found_append q n (x ∷ xs) ys =
    let e : n + length (x ∷ xs) ≡ n + 1 + length xs = omega arith in
    ap (λ k. else_found (if same.place x q then Some n else found_from (n + 1) q xs) (found_from k q ys)) e
    ∙ sym (chosen (same.place x q) n (found_from (n + 1) q xs) (found_from (n + 1 + length xs) q ys))
    ∙ ap (λ o. cond (same.place x q) (Some n) o) (found_append q (n + 1) xs ys)

-- none behind
pub else_none : (found : Option ℕ) → else_found found None ≡ found
else_none None = refl
else_none (Some n) = refl

-- the parameters' slots, and behind them those of the others
pub both_numbered : {X : Type 0} (at : X → Place) (q : Place) (params locals : List X) (first : ℕ) (new mid old : Option ℕ) → first ≡ length params → new ≡ else_found (found_from 0 q (map at params)) mid → mid ≡ else_found (found_from first q (map at locals)) old → old ≡ None → new ≡ found_from 0 q (map at (params ++ locals))
both_numbered at q params locals first new mid old n e f g =
    let len : first ≡ 0 + length (map at params) = omega (arith, n, length-map params at) in
    e ∙ ap (else_found (found_from 0 q (map at params))) (f ∙ ap (else_found (found_from first q (map at locals))) g ∙ else_none (found_from first q (map at locals)) ∙ ap (λ k. found_from k q (map at locals)) len)
    ∙ found_append q 0 (map at params) (map at locals) ∙ ap (found_from 0 q) (sym (map-append at params locals))
