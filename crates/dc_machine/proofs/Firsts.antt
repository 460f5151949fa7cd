-- The first of some words.
use Rattle.std.proofs.Common.{◌≡◌, ℕ, zero, suc, ◌<◌, List, length, take, drop, get_or, refl, sym, ap, ◌∙◌, drop-cons}
use Rattle.dc_machine.specs.Runs.{first_of}

pub first_at : (xs : List ℕ) (at n w : ℕ) → (n ≡ 0 → ⊥) → at < length xs → w ≡ get_or xs at w → w ≡ first_of (take n (drop at xs))
first_at xs at zero w some lt e = absurd (some refl)
first_at xs at (suc n) w some lt e = e ∙ ap (λ l. first_of (take (suc n) l)) (sym (drop-cons xs at w lt))
