use Rattle.std.proofs.Common.{◌≡◌, ℕ, ◌≢◌, false, ◌==◌, inl, inr, drop, get_or, arith, sym, ap, ◌∙◌}
use Rattle.std.proofs.lemmas.Bool.Decides.{nat_tests}
use Rattle.dc_token.specs.Balance.{Bytes}
use Rattle.dc_token.specs.Escapes.{escape, escape_value, is_character_escape}
use Rattle.dc_token.proofs.Lists.{rest_of}
use Rattle.dc_token.proofs.Values.{plain_character, wide_character, writes_none, no_escape, an_entity, wide_escape, writes_one}
use Rattle.dc_token.proofs.literal.character.Goals as goal
use Rattle.dc_token.proofs.literal.character.Goals.{then-escape-eq0-via-then-escape-eq0, then-escape-eq0-via-else-escape-eq0+then-byte-eq38, else-is_character_escape-via-then-is_character_escape+else-escape-ge128, else-is_character_escape-via-else-is_character_escape}

not_zero : (n : ℕ) → n ≢ 0 → (n == 0) ≡ false
not_zero n h = grind (arith, nat_tests)

not_it : (n k : ℕ) → n ≢ k → (n == k) ≡ false
not_it n k h = grind (arith, nat_tests)

pub returns-then-first-lt128 : goal.returns-then-first-lt128
returns-then-first-lt128 c = plain_character c.args.spelling.now c.byte-first.result c.byte-first.ensures.value c.if-first-ne92.true c.if-first-lt128.true

pub returns-else-first-lt128 : goal.returns-else-first-lt128
returns-else-first-lt128 c = wide_character c.args.spelling.now c.byte-first.result c.byte-first.ensures.value c.if-first-ne92.true c.if-first-lt128.false

pub returns-then-escape-eq0 : goal.returns-then-escape-eq0
returns-then-escape-eq0 c =
    let w = c.args.spelling.now in
    let r = rest_of w 2 in
    writes_none w (sym c.byte-first.ensures.value ∙ c.if-first-ne92.false)
    (elim c.then-escape-eq0.branch [
      | then-escape-eq0-via-then-escape-eq0 b ↦ no_escape (drop 2 w) (ap (λ (x : Bytes). escape x) (sym r) ∙ sym c.escape_at-escape.ensures.len ∙ b.if-escape-eq0.true)
      | then-escape-eq0-via-else-escape-eq0+then-byte-eq38 b ↦ an_entity (drop 2 w) (ap (λ (x : Bytes). get_or x 0 0) (sym r) ∙ sym b.byte.ensures.value ∙ b.if-byte-eq38.true)
    ])

pub returns-then-escape-ge128 : goal.returns-then-escape-ge128
returns-then-escape-ge128 c =
    let w = c.args.spelling.now in
    let r = rest_of w 2 in
    let v : c.escape_at-escape.result.value ≡ escape_value (drop 2 w) = c.escape_at-escape.ensures.value c.if-escape-eq0.false ∙ ap (λ (x : Bytes). escape_value x) r in
    writes_none w (sym c.byte-first.ensures.value ∙ c.if-first-ne92.false)
    (wide_escape (drop 2 w) (ap (λ (x : Bytes). is_character_escape x) (sym r) ∙ sym c.is_character_escape.ensures ∙ c.if-is_character_escape.true) (let h = c.if-escape-ge128.true in omega arith))

pub returns : goal.returns
returns c =
    let w = c.args.spelling.now in
    let r = rest_of w 2 in
    let v : c.escape_at-escape.result.value ≡ escape_value (drop 2 w) = c.escape_at-escape.ensures.value c.if-escape-eq0.false ∙ ap (λ (x : Bytes). escape_value x) r in
    writes_one w c.escape_at-escape.result.value (sym c.byte-first.ensures.value ∙ c.if-first-ne92.false)
    (ap (λ (x : Bytes). escape x == 0) (sym r) ∙ ap (λ x. x == 0) (sym c.escape_at-escape.ensures.len) ∙ not_zero _ c.if-escape-eq0.false)
    (ap (λ (x : Bytes). get_or x 0 0 == 38) (sym r) ∙ ap (λ x. x == 38) (sym c.byte.ensures.value) ∙ not_it _ 38 c.if-byte-eq38.false)
    v
    (elim c.else-is_character_escape.branch [
      | else-is_character_escape-via-then-is_character_escape+else-escape-ge128 b ↦ inr (ap (λ (x : Bytes). is_character_escape x) (sym r) ∙ sym c.is_character_escape.ensures ∙ b.if-is_character_escape.true, (let h = b.if-escape-ge128.false in omega arith))
      | else-is_character_escape-via-else-is_character_escape b ↦ inl (ap (λ (x : Bytes). is_character_escape x) (sym r) ∙ sym c.is_character_escape.ensures ∙ b.if-is_character_escape.false)
    ])
