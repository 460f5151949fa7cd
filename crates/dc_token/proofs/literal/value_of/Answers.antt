use Rattle.std.proofs.Common.{◌≡◌, ℕ, ◌∷◌, [], ◌+◌, ◌<◌, ◌≤◌, ◌^◌, Some, None, length, drop, get_or, arith, refl, sym, ap, ◌∙◌, length-drop}
use Rattle.dc_token.specs.Balance.{Bytes}
use Rattle.dc_token.specs.Literals.{value_from, next_value, fitting}
use Rattle.dc_token.proofs.Lists.{one_more}
use Rattle.dc_token.proofs.Values.{front_too_large, fits}
use Rattle.dc_token.proofs.literal.value_of.Goals as goal

stops : (z : Bytes) (base n i total : ℕ) → value_from base n (drop i z) ≡ total → i < length z → 2 ≤ base → fitting (next_value base n (get_or z i 0)) ≡ None → fitting total ≡ None
stops z base n i total so_far lt h bad =
    ap fitting (sym so_far ∙ ap (λ (x : Bytes). value_from base n x) (one_more z i lt)) ∙ front_too_large base (next_value base n (get_or z i 0)) (drop (i + 1) z) h bad

empty : (t : Bytes) (base n : ℕ) → length t ≡ 0 → value_from base n t ≡ n
empty [] base n h = refl
empty (b ∷ t) base n h = absurd (omega arith)

ends : (z : Bytes) (base n i total : ℕ) → value_from base n (drop i z) ≡ total → length z ≤ i → n < 2 ^ 64 → Some n ≡ fitting total
ends z base n i total so_far past small =
    let l : length (drop i z) ≡ 0 = length-drop i z ∙ (omega arith) in
    let e : n ≡ total = sym (empty (drop i z) base n l) ∙ so_far in
    sym (ap fitting (sym e) ∙ fits n small)

pub returns-in_err-value : goal.returns-in_err-value
returns-in_err-value c =
    let z = c.args.digits.now in
    c.from_residual.ensures ∙ sym (stops z c.args.base c.loop-b.value c.loop-b.b-index (value_from c.args.base 0 z) c.loop-b.invariant.0 c.loop-b-test.true c.requires (sym c.next_value.ensures ∙ c.in_err-value.was))

pub returns : goal.returns
returns c =
    let z = c.args.digits.now in
    ends z c.args.base c.loop-b.value c.loop-b.b-index (value_from c.args.base 0 z) c.loop-b.invariant.0 c.loop-b-test.false c.loop-b.invariant.1
