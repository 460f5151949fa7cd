-- Loops of at most so many turns.
use Rattle.std.proofs.Common.{◌≡◌, ◌∙◌, refl, sym, ap, ℕ, suc, zero, ◌+◌, ◌-◌, ◌<◌, ◌≤◌, Bool, true, false, List, [], ◌∷◌, ◌++◌, arith, if◌then◌else◌}
use Rattle.std.proofs.Common.{◌==◌, nat_lt, length}
use Rattle.std.proofs.lemmas.Bool.{lt-ltb, le-ltb, eq-eqb, ne_eqb}
use Rattle.dc_key.specs.KeyTexts.{Bytes}
use Rattle.dc_key.specs.KeyReading.{turns}

pub turn : {S : Type 0} (test : S → Bool) (next : S → S) (len i : ℕ) (s t end : S) → i < len → test s ≡ true → t ≡ next s → turns test next (len - i) s ≡ end → turns test next (len - (i + 1)) t ≡ end
turn test next len i s t end h yes_ is so_far =
    let one : len - i ≡ suc (len - (i + 1)) = omega arith in
    ap (turns test next (len - (i + 1))) is
    ∙ sym (ap (λ b. if b then turns test next (len - (i + 1)) (next s) else s) yes_)
    ∙ ap (λ n. turns test next n s) (sym one) ∙ so_far

pub stopped : {S : Type 0} (test : S → Bool) (next : S → S) (n : ℕ) (s : S) → test s ≡ false → turns test next n s ≡ s
stopped test next zero s no_ = refl
stopped test next (suc n) s no_ = ap (λ b. if b then turns test next n (next s) else s) no_

pub stop : {S : Type 0} (test : S → Bool) (next : S → S) (n : ℕ) (s end : S) → test s ≡ false → turns test next n s ≡ end → s ≡ end
stop test next n s end no_ so_far = sym (stopped test next n s no_) ∙ so_far

pub over : {S : Type 0} (test : S → Bool) (next : S → S) (len i : ℕ) (s end : S) → len ≤ i → turns test next (len - i) s ≡ end → s ≡ end
over test next len i s end h so_far =
    let none : len - i ≡ 0 = omega arith in
    sym (ap (λ n. turns test next n s) none) ∙ so_far

-- an item is read, and put behind the others
pub grown : {A : Type 0} (acc pushed : List A) (x : A) (rest : Bytes) (r : A × Bytes) → (x, rest) ≡ r → pushed ≡ acc ++ x ∷ [] → ◌≡◌ {A = List A × Bytes} (pushed, rest) (acc ++ r.0 ∷ [], r.1)
grown {A} acc pushed x rest r e p =
    let with_rest : List A → List A × Bytes = λ l. (l, rest) in
    let put : A × Bytes → List A × Bytes = λ y. (acc ++ y.0 ∷ [], y.1) in
    ap with_rest p ∙ ap put e

-- what a test of the code says
pub is_equal : (a b : ℕ) → (a ≡ b) → (a == b) ≡ true
is_equal a b h = eq-eqb a b h

pub is_other : (a b : ℕ) → (a ≡ b → ⊥) → (a == b) ≡ false
is_other a b h = ne_eqb a b h

pub is_some_left : (w : Bytes) (n : ℕ) → n ≡ length w → (n ≡ 0 → ⊥) → nat_lt 0 (length w) ≡ true
is_some_left w n e h = lt-ltb 0 (length w) (omega arith)

pub is_none_left : (w : Bytes) (n : ℕ) → n ≡ length w → n ≡ 0 → nat_lt 0 (length w) ≡ false
is_none_left w n e h = le-ltb 0 (length w) (omega arith)
