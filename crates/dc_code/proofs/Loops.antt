-- One more item of a list.
use Rattle.std.proofs.Common.{◌≡◌, ℕ, ◌+◌, ◌<◌, List, Some, sym, ap, ◌∙◌, subst, arith, ⊎_elim}
use Rattle.std.specs.Prelude.{slice_get}
use Rattle.std.proofs.lemmas.Bool.{cases_lt}
use Rattle.dc_code.proofs.Words.{some_is}

pub one_more : {A : Type 0} (xs : List A) (n : ℕ) (x : A) (P : ℕ → A → Type 0) → slice_get xs n ≡ Some x → P n x → ((k : ℕ) (y : A) → k < n → slice_get xs k ≡ Some y → P k y) → (k : ℕ) (y : A) → k < n + 1 → slice_get xs k ≡ Some y → P k y
one_more {A} xs n x P there here below k y lt is = ⊎_elim (λ h. below k y h is) (λ h.
    let e : n ≡ k = omega arith in
    let same : x ≡ y = some_is x y (sym there ∙ ap (slice_get xs) e ∙ is) in
    let Q : A → Type 0 = P k in
    let R : ℕ → Type 0 = λ k. P k x in
    subst Q same (subst R e here)) (cases_lt k n)
