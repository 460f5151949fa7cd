use Rattle.std.proofs.Common.{◌≡◌, ◌≢◌, ℕ, ◌+◌, ◌-◌, ◌<◌, true, false, not, ◌&&◌, ◌==◌, ◌++◌, drop, length, get_or, arith, refl, sym, ap, ◌∙◌, append_assoc}
use Rattle.std.proofs.lemmas.Bool.Decides.{nat_tests}
use Rattle.dc_token.specs.Balance.{Bytes}
use Rattle.dc_token.specs.Escapes.{escape, escape_bytes, unescaped}
use Rattle.dc_token.proofs.Lists.{rest_of, one_more, drop_more}
use Rattle.dc_token.proofs.Values.{escaped_bytes}
use Rattle.dc_token.proofs.literal.unescaped.Goals as goal

step : (z out more : Bytes) (at n : ℕ) → unescaped 0 z ≡ out ++ unescaped 0 (drop at z) → at < length z → get_or z at 0 ≡ 92 → n ≡ escape (drop (at + 1) z) → n ≢ 0 → more ≡ out ++ escape_bytes (drop (at + 1) z)
    → unescaped 0 z ≡ more ++ unescaped 0 (drop (at + 1 + (n - 1)) z)
step z out more at n so_far lt back is some grown =
    let t : Bytes = drop (at + 1) z in
    let a : (get_or z at 0 == 92) ≡ true = grind (arith, nat_tests) in
    let b : (escape t == 0) ≡ false = grind (arith, nat_tests) in
    let both : (get_or z at 0 == 92 && not (escape t == 0)) ≡ true = rw (a, b) refl in
    let one : unescaped 0 (drop at z) ≡ escape_bytes t ++ unescaped 0 (drop (escape t - 1) t) = ap (λ (x : Bytes). unescaped 0 x) (one_more z at lt) ∙ escaped_bytes (get_or z at 0) t both in
    let far : drop (escape t - 1) t ≡ drop (at + 1 + (n - 1)) z = ap (λ k. drop (k - 1) t) (sym is) ∙ drop_more (n - 1) (at + 1) z in
    so_far ∙ ap (λ (x : Bytes). out ++ x) (one ∙ ap (λ (x : Bytes). escape_bytes t ++ unescaped 0 x) far) ∙ sym (append_assoc out (escape_bytes t) (unescaped 0 (drop (at + 1 + (n - 1)) z))) ∙ ap (λ (x : Bytes). x ++ unescaped 0 (drop (at + 1 + (n - 1)) z)) (sym grown)

pub loop-at-preserved-then-escape-ne0 : goal.loop-at-preserved-then-escape-ne0
loop-at-preserved-then-escape-ne0 c =
    let z = c.args.z.now in let at = c.loop-at.at in
    let r = rest_of z (at + 1) in
    step z c.loop-at.bytes.items c.push_value.new.out.items at c.escape_at-escape.result.len c.loop-at.invariant c.loop-at-test.true c.if-b-eq92.true
    (c.escape_at-escape.ensures.len ∙ ap (λ (x : Bytes). escape x) r) c.if-escape-ne0.true (c.in_ok-push_value.ensures ∙ ap (λ (x : Bytes). c.loop-at.bytes.items ++ escape_bytes x) r)
