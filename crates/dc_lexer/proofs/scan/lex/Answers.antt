use Rattle.std.proofs.Common.{◌≡◌, ℕ, ◌+◌, ◌-◌, ◌<◌, List, [], ◌∷◌, ◌++◌, take, drop, arith, ◌∙◌, sym, ap, subst}
use Rattle.dc_types.specs.declared.place.Place.{Place}
use Rattle.dc_types.specs.declared.refusal.Fail.{Fail}
use Rattle.dc_types.specs.declared.refusal.Fail.TheVariants as fail_is
use Rattle.dc_token.specs.Balance.{Bytes}
use Rattle.dc_token.specs.Items.{Spells}
use Rattle.dc_token.specs.Text.{IsUnreadable, token}
use Rattle.dc_token.specs.declared.item.Item.{Item}
use Rattle.dc_token.specs.declared.token.Token.{Token}
use Rattle.dc_token.proofs.Lists.{rest_of}
use Rattle.dc_lexer.specs.Fronts.{Found}
use Rattle.dc_lexer.specs.Outcome.{IsFailAt, IsFailure}
use Rattle.dc_lexer.proofs.Scanning.{Scan, scan_start, scan_space, scan_token, scan_end, scan_stuck}
use Rattle.dc_lexer.proofs.scan.lex.Goals as goal

failure : (text : Bytes) (at : Place) (n : ℕ) (fail : Fail) → IsUnreadable text n → IsFailAt at n fail → IsFailure text at fail
failure text at n (fail_is.Refused r) u is = record { offset = n; unreadable = u; is = is }
failure text at n fail_is.NoMemory u is = tt

one_token : (z : Bytes) (at size : ℕ) (kind : Item) (found more : List Token) (t : Token) → t ≡ token kind (take (at + size - at) (drop at z)) at → more ≡ found ++ (t ∷ []) → more ≡ found ++ (token kind (take size (drop at z)) at ∷ [])
one_token z at size kind found more t is grown =
    let e : at + size - at ≡ size = omega arith in
    grown ∙ ap (λ x. found ++ (x ∷ [])) (is ∙ ap (λ n. token kind (take n (drop at z)) at) e)

pub returns-then-len-eq0-clause-failed : goal.returns-then-len-eq0-clause-failed
returns-then-len-eq0-clause-failed c =
    let z = c.args.bytes.now in let at = c.loop-offset.offset in let r = c.next_item-item.result in
    failure z c.args.at.now at c.unreadable.result
    (scan_stuck z at c.loop-offset.tokens r.0 c.loop-offset.invariant c.loop-offset-test.true (subst (λ n. Found Spells (drop at z) (r.0, n)) c.if-len-eq0.true (subst (λ x. Found Spells x (r.0, r.1)) (rest_of z at) c.next_item-item.ensures)))
    c.unreadable.ensures

pub loop-offset-init : goal.loop-offset-init
loop-offset-init c = subst (λ ts. Scan c.args.bytes.now c.mark_len-offset.result ts) (sym c.new-tokens.ensures) (scan_start c.args.bytes.now c.mark_len-offset.result c.mark_len-offset.ensures)

pub loop-offset-preserved-then-not-is_token : goal.loop-offset-preserved-then-not-is_token
loop-offset-preserved-then-not-is_token c =
    let z = c.args.bytes.now in let at = c.loop-offset.offset in let r = c.next_item-item.result in
    let some : 0 < r.1 = (let no = c.if-len-eq0.false in omega arith) in
    scan_space z at r.1 r.0 c.loop-offset.tokens c.loop-offset.invariant (subst (λ x. Found Spells x (r.0, r.1)) (rest_of z at) c.next_item-item.ensures) some (sym c.is_token.ensures ∙ c.if-not-is_token.true)

pub loop-offset-preserved : goal.loop-offset-preserved
loop-offset-preserved c =
    let z = c.args.bytes.now in let at = c.loop-offset.offset in let r = c.next_item-item.result in
    let some : 0 < r.1 = (let no = c.if-len-eq0.false in omega arith) in
    let grown = one_token z at r.1 r.0 c.loop-offset.tokens c.push.new.self c.in_ok-token.field-0 c.in_ok-token.ensures c.in_ok-push.ensures.ok in
    subst (λ ts. Scan z (at + r.1) ts) (sym grown) (scan_token z at r.1 r.0 c.loop-offset.tokens c.loop-offset.invariant (subst (λ x. Found Spells x (r.0, r.1)) (rest_of z at) c.next_item-item.ensures) some (sym c.is_token.ensures ∙ c.if-not-is_token.false))

pub returns-clause-tokens : goal.returns-clause-tokens
returns-clause-tokens c = scan_end c.args.bytes.now c.loop-offset.offset c.loop-offset.tokens c.loop-offset.invariant c.loop-offset-test.false
