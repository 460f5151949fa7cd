use Rattle.std.proofs.Common.{◌≡◌, ℕ, ◌-◌, ◌≤◌, true, false, ◌==◌, nat_le, count_by, take, drop, get_or, arith, refl, sym, subst, ◌∙◌}
use Rattle.std.specs.List.{list_any, list_all, prefix_len}
use Rattle.dc_token.specs.Balance.{Bytes}
use Rattle.dc_token.specs.Bytes.{is_hex}
use Rattle.dc_token.specs.Numbers.{is_power, is_hex_or_point}
use Rattle.dc_token.proofs.Lists.{inside}
use Rattle.dc_lexer.specs.Fronts.{past, IsPowerMark}
use Rattle.dc_lexer.specs.declared.set.Set.TheVariants as set
use Rattle.dc_lexer.proofs.Runs.{taken}
use Rattle.dc_lexer.proofs.number.is_power_mark.Goals as goal
use Rattle.dc_lexer.proofs.number.is_power_mark.Goals.{else-mark-ne112-via-then-mark-ne112+else-mark-ne80, else-mark-ne112-via-else-mark-ne112}

of_run : (z : Bytes) (n : ℕ) → n ≡ past set.HexOrPoint z 2 → list_all is_hex_or_point (take (n - 2) (drop 2 z)) ≡ true
of_run z n is =
    let k : ℕ = prefix_len is_hex_or_point (drop 2 z) in
    let e : n - 2 ≡ k = omega arith in
    subst (λ j. list_all is_hex_or_point (take j (drop 2 z)) ≡ true) (sym e) (taken is_hex_or_point (drop 2 z))

is_mark : (z : Bytes) (n : ℕ) → 2 ≤ n → n ≡ past set.HexOrPoint z 2 → is_power (get_or z n 0) ≡ true → list_any is_hex (take (n - 2) (drop 2 z)) ≡ true → nat_le (count_by (λ b. b == 46) (take (n - 2) (drop 2 z))) 1 ≡ true → IsPowerMark z n
is_mark z n from is mark some points = record {
  from = from;
  within = inside z n (λ e. absurd (let k : is_power 0 ≡ true = subst (λ x. is_power x ≡ true) e mark in let l : false ≡ true = k in cc));
  mantissa = record { goes = of_run z n is; some = some; points = points };
  marks = mark;
}

power : (b : ℕ) → b ≡ 112 → is_power b ≡ true
power b e = rw e refl

big_power : (b : ℕ) → b ≡ 80 → is_power b ≡ true
big_power b e = rw e refl

pub returns-then-has_hex-clause-yes : goal.returns-then-has_hex-clause-yes
returns-then-has_hex-clause-yes c is =
    let z = c.args.z.now in
    is_mark z c.args.end c.requires.bounds.0 c.requires.digits
    (elim c.else-mark-ne112.branch [
      | else-mark-ne112-via-then-mark-ne112+else-mark-ne80 w ↦ big_power _ (sym c.byte-mark.ensures.value ∙ w.if-mark-ne80.false)
      | else-mark-ne112-via-else-mark-ne112 w ↦ power _ (sym c.byte-mark.ensures.value ∙ w.if-mark-ne112.false)
    ])
    (sym c.has_hex.ensures ∙ c.if-has_hex.true) (sym c.has_one_point.ensures ∙ is)
