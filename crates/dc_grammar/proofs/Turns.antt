-- A loop that reads as many items as there are.
use Rattle.std.proofs.Common.{◌≡◌, ℕ, suc, ◌+◌, ◌-◌, ◌<◌, ◌≤◌, List, [], ◌∷◌, ◌++◌, Some, None, refl, sym, ap, ◌∙◌, append_assoc, arith}
use Rattle.dc_grammar.specs.Terminals.{Tokens}
use Rattle.dc_grammar.specs.Reading.{Outcome, Reader, before, many_from}
use Rattle.dc_grammar.specs.Loops.{with_front}

pub start : {A : Type 0} (whole : Outcome (List A)) → with_front [] whole ≡ whole
start (Some p) = refl
start None = refl

append_nil : {A : Type 0} (xs : List A) → xs ++ [] ≡ xs
append_nil [] = refl
append_nil (x ∷ xs) = ap (λ t. x ∷ t) (append_nil xs)

shift : {A : Type 0} (found : List A) (x : A) (r : Outcome (List A)) → with_front (found ++ x ∷ []) r ≡ with_front found (before x r)
shift found x (Some p) = rw append_assoc refl
shift found x None = refl

pub turn_more : {A : Type 0} (p : Reader A) (n at : ℕ) (found : List A) (rest : Tokens) (x : A) (after : Tokens) (whole : Outcome (List A))
    → at < n → with_front found (many_from p (n - at) rest) ≡ whole → p rest ≡ Some (x, after) → with_front (found ++ x ∷ []) (many_from p (n - (at + 1)) after) ≡ whole
unfolding many_from
turn_more p n at found rest x after whole below e read =
    let turn : n - at ≡ suc (n - (at + 1)) = omega arith in
    let step : many_from p (suc (n - (at + 1))) rest ≡ before x (many_from p (n - (at + 1)) after) = rw read refl in
    shift found x (many_from p (n - (at + 1)) after) ∙ ap (with_front found) (sym step) ∙ ap (λ (k : ℕ). with_front found (many_from p k rest)) (sym turn) ∙ e

pub turn_stop : {A : Type 0} (p : Reader A) (n at : ℕ) (found : List A) (rest : Tokens) (whole : Outcome (List A))
    → at < n → with_front found (many_from p (n - at) rest) ≡ whole → p rest ≡ None → whole ≡ Some (found, rest)
unfolding many_from
turn_stop p n at found rest whole below e read =
    let turn : n - at ≡ suc (n - (at + 1)) = omega arith in
    let step : many_from p (suc (n - (at + 1))) rest ≡ Some ([], rest) = rw read refl in
    sym e ∙ ap (λ (k : ℕ). with_front found (many_from p k rest)) turn ∙ ap (with_front found) step ∙ simp append_nil

pub turn_done : {A : Type 0} (p : Reader A) (n at : ℕ) (found : List A) (rest : Tokens) (whole : Outcome (List A))
    → n ≤ at → with_front found (many_from p (n - at) rest) ≡ whole → whole ≡ Some (found, rest)
unfolding many_from
turn_done p n at found rest whole done e = let turn : n - at ≡ 0 = omega arith in sym e ∙ ap (λ (k : ℕ). with_front found (many_from p k rest)) turn ∙ simp append_nil

pub deeper : {X : Type 0} (f : ℕ → X) (n : ℕ) → 0 < n → f n ≡ f (suc (n - 1))
deeper f n some = let e : n ≡ suc (n - 1) = omega arith in ap f e
