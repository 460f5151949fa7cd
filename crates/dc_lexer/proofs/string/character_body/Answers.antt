use Rattle.std.proofs.Common.{◌≡◌, ◌≢◌, ℕ, ◌-◌, length, take, drop, get_or, arith, sym, ap, ◌∙◌, length-drop}
use Rattle.dc_token.specs.Balance.{Bytes}
use Rattle.dc_token.specs.Escapes.{escape}
use Rattle.dc_token.proofs.Lists.{rest_of, inside}
use Rattle.dc_lexer.proofs.Quotes.{escape_body, plain_body, bad_body, quote_body}
use Rattle.dc_lexer.proofs.string.character_body.Goals as goal

not_back : (z : Bytes) (b : ℕ) → b ≡ get_or z 0 0 → b ≢ 92 → get_or z 0 0 ≢ 92
not_back z b e n h = n (e ∙ h)

pub returns-then-byte-eq92 : goal.returns-then-byte-eq92
returns-then-byte-eq92 c =
    let z = c.args.z.now in
    let first : get_or z 0 0 ≡ 92 = sym c.byte.ensures.value ∙ c.if-byte-eq92.true in
    let r = rest_of z 1 in
    let lt = inside z 0 (λ e. absurd (let k : 92 ≡ 0 = sym first ∙ e in cc)) in
    let size : length (take (length z - 1) (drop 1 z)) ≡ length z - 1 = ap (λ (x : Bytes). length x) r ∙ length-drop 1 z in
    let w = c.escape_len.ensures.within in
    escape_body z c.escape_len.result first (c.escape_len.ensures.value ∙ ap (λ (x : Bytes). escape x) r) (omega arith)

pub returns-in_default : goal.returns-in_default
returns-in_default c = bad_body c.args.z.now (sym c.decode-found.ensures.char ∙ c.in_default.is) (not_back c.args.z.now c.byte.result c.byte.ensures.value c.if-byte-eq92.false)

pub returns-then-c-eq39 : goal.returns-then-c-eq39
returns-then-c-eq39 c = quote_body c.args.z.now c.in-Some.c (sym c.decode-found.ensures.char ∙ c.in-Some.is) c.if-c-eq39.true (not_back c.args.z.now c.byte.result c.byte.ensures.value c.if-byte-eq92.false)

pub returns-else-c-eq39 : goal.returns-else-c-eq39
returns-else-c-eq39 c = plain_body c.args.z.now c.in-Some.c c.decode-found.result.1 (sym c.decode-found.ensures.char ∙ c.in-Some.is) (sym c.decode-found.ensures.size) c.if-c-eq39.false (not_back c.args.z.now c.byte.result c.byte.ensures.value c.if-byte-eq92.false)
