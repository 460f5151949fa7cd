-- How the code reduces: by masks, which give the residues.
use Rattle.std.proofs.Common.{◌≡◌, ℕ, ◌-◌, ◌^◌, ◌<◌, ◌≤◌, Bool, true, false, cond, ℤ, pos, ◌-ℤ◌, bit_and, refl, sym, ap, ◌∙◌, arith, subst, lt-ltb, le-ltb}
use Rattle.std.specs.Int.{cast_unsigned, cast_signed, w128}
use Rattle.std.specs.Int.RustNames.{FitsSigned, int_lt}
use Rattle.std.proofs.Math.Pow.{pow_mono}
use Rattle.std.proofs.lemmas.Int.{ints, to_z-of_z, to_z_pos}
use Rattle.std.proofs.lemmas.Nat.{and_mask}
use Rattle.std.proofs.lemmas.Bool.Decides.{Decides-int_eq}
use Rattle.std.specs.Ordering.{int_eq}
use borrow.Author.Differences.{fits_in}
use Rattle.dc_types.specs.declared.kind.Kind.{Kind}
use Rattle.dc_types.specs.declared.kind.Kind.TheVariants as kind
use Rattle.dc_types.specs.Integers.{residue, signed_residue, truth, wrap}
use Rattle.dc_types.proofs.Integers.{mod-cast_unsigned, residue_below}

pub residue_is : (bits u p : ℕ) (v : ℤ) → FitsSigned w128 v → bits ≤ 64 → u ≡ cast_unsigned w128 v → p ≡ 2 ^ bits → bit_and u (p - 1) ≡ residue bits v
residue_is bits u p v f h e d = (λ i. bit_and (e i) (d i - 1)) ∙ and_mask _ bits ∙ mod-cast_unsigned w128 bits (128 - bits) (omega arith) v f

power_small : (k : ℕ) → k ≤ 64 → 2 ^ k ≤ 2 ^ 64
power_small k h = pow_mono h

back : (z : ℤ) (n : ℕ) → z ≡ pos n → n < 2 ^ 127 → cast_signed w128 (cast_unsigned w128 z) ≡ pos n
back z n e h = ap (λ y. cast_signed w128 (cast_unsigned w128 y)) e ∙ to_z_pos w128 n h

pub signed_low : (bits n p : ℕ) (v r : ℤ) → bits ≤ 64 → n ≡ residue bits v → r ≡ pos n → p ≡ 2 ^ (bits - 1) → int_lt (cast_signed w128 (cast_unsigned w128 r)) (cast_signed w128 p) ≡ true → cast_signed w128 (cast_unsigned w128 r) ≡ signed_residue bits v
unfolding signed_residue
signed_low bits n p v r h e d q t =
    let s = residue_below bits v in
    let small = power_small bits h in
    let half = power_small (bits - 1) (omega arith) in
    let below : n < 2 ^ (bits - 1) = omega (arith, ints) in
    back r n d (omega arith) ∙ ap pos e ∙ sym (ap (λ t. cond t (pos (residue bits v)) (pos (residue bits v) -ℤ pos (2 ^ bits))) (lt-ltb _ _ (subst (λ m. m < 2 ^ (bits - 1)) e below)))

pub signed_high : (bits n p q : ℕ) (v r : ℤ) → bits ≤ 64 → n ≡ residue bits v → r ≡ pos n → p ≡ 2 ^ (bits - 1) → q ≡ 2 ^ bits → int_lt (cast_signed w128 (cast_unsigned w128 r)) (cast_signed w128 p) ≡ false → cast_signed w128 (cast_unsigned w128 (cast_signed w128 (cast_unsigned w128 r) -ℤ cast_signed w128 q)) ≡ signed_residue bits v
unfolding signed_residue
signed_high bits n p q v r h e d i j t =
    let s = residue_below bits v in
    let small = power_small bits h in
    let half = power_small (bits - 1) (omega arith) in
    let above : 2 ^ (bits - 1) ≤ n = omega (arith, ints) in
    let whole : cast_signed w128 q ≡ pos (2 ^ bits) = omega (arith, ints) in
    let first = back r n d (omega arith) in
    (λ k. cast_signed w128 (cast_unsigned w128 (first k -ℤ whole k))) ∙ to_z-of_z w128 (pos n -ℤ pos (2 ^ bits)) (omega (arith, fits_in, ints))
    ∙ ap (λ m. pos m -ℤ pos (2 ^ bits)) e
    ∙ sym (ap (λ t. cond t (pos (residue bits v)) (pos (residue bits v) -ℤ pos (2 ^ bits))) (le-ltb _ _ (subst (λ m. 2 ^ (bits - 1) ≤ m) e above)))

pub truth_zero : (k : Kind) (v : ℤ) → FitsSigned w128 v → k ≡ kind.Bool → cast_unsigned w128 v ≡ 0 → pos 0 ≡ wrap k v
unfolding wrap truth
truth_zero k v f e z = let is : v ≡ pos 0 = omega (arith, ints) in sym ((λ i. wrap (e i) (is i)))

pub truth_other : (k : Kind) (v : ℤ) → k ≡ kind.Bool → (cast_unsigned w128 v ≡ 0 → ⊥) → pos 1 ≡ wrap k v
unfolding wrap truth
truth_other k v e ne = by (int_eq v (pos 0)) refl ∙ sym (ap (λ j. wrap j v) e)
  where
    by : (t : Bool) → int_eq v (pos 0) ≡ t → pos 1 ≡ cond t (pos 0) (pos 1)
    by true h = absurd (ne (ap (cast_unsigned w128) ((Decides-int_eq v (pos 0)).0 h)))
    by false h = refl
