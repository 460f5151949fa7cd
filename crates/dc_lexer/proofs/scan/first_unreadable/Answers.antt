use Rattle.std.proofs.Common.{◌≡◌, ℕ, ◌+◌, ◌-◌, ◌<◌, Bool, true, false, List, [], ◌∷◌, ◌++◌, inl, inr, length, take, drop, arith, refl, sym, subst}
use Rattle.dc_token.specs.Balance.{Bytes}
use Rattle.dc_token.specs.Items.{Spells}
use Rattle.dc_token.specs.Text.{IsUnreadable, is_token, token}
use Rattle.dc_token.specs.declared.item.Item.{Item}
use Rattle.dc_token.specs.declared.token.Token.{Token}
use Rattle.dc_token.proofs.Lists.{rest_of}
use Rattle.dc_lexer.specs.Fronts.{Found}
use Rattle.dc_lexer.proofs.Scanning.{Scan, scan_start, scan_space, scan_token, scan_end, scan_stuck}
use Rattle.dc_lexer.proofs.scan.first_unreadable.Goals as goal

-- the tokens so far, whatever the next item is
record Going (z : Bytes) (at : ℕ) : Type 0 where
  found : List Token
  scan : Scan z at found

goes_on : (z : Bytes) (at size : ℕ) (kind : Item) (found : List Token) → Scan z at found → Found Spells (drop at z) (kind, size) → 0 < size → Going z (at + size)
goes_on z at size kind found s f some = by (is_token kind) refl
  where
    by : (x : Bool) → is_token kind ≡ x → Going z (at + size)
    by true e = record { found = found ++ (token kind (take size (drop at z)) at ∷ []); scan = scan_token z at size kind found s f some e }
    by false e = record { found = found; scan = scan_space z at size kind found s f some e }

stops : (z : Bytes) (at size : ℕ) (kind : Item) (found : List Token) → Scan z at found → at < length z → size ≡ 0 → Found Spells (take (length z - at) (drop at z)) (kind, size) → IsUnreadable z at
stops z at size kind found s less none f = scan_stuck z at found kind s less (subst (λ n. Found Spells (drop at z) (kind, n)) none (subst (λ x. Found Spells x (kind, size)) (rest_of z at) f))

pub returns-then-len-eq0-clause-offset : goal.returns-then-len-eq0-clause-offset
returns-then-len-eq0-clause-offset c =
    let r = c.next_item-len.result in
    stops c.args.bytes.now c.loop-from.from r.1 r.0 c.loop-from.invariant.found c.loop-from.invariant.scan c.loop-from-test.true c.if-len-eq0.true c.next_item-len.ensures

pub returns-then-len-eq0-clause-divides : goal.returns-then-len-eq0-clause-divides
returns-then-len-eq0-clause-divides c = inr (c.loop-from.from, returns-then-len-eq0-clause-offset c)

pub loop-from-preserved : goal.loop-from-preserved
loop-from-preserved c =
    let z = c.args.bytes.now in let at = c.loop-from.from in let r = c.next_item-len.result in
    let some : 0 < r.1 = (let no = c.if-len-eq0.false in omega arith) in
    let g = goes_on z at r.1 r.0 c.loop-from.invariant.found c.loop-from.invariant.scan (subst (λ x. Found Spells x (r.0, r.1)) (rest_of z at) c.next_item-len.ensures) some in
    record { found = g.found; scan = g.scan }

pub returns-clause-tokens : goal.returns-clause-tokens
returns-clause-tokens c = λ e. (c.loop-from.invariant.found, scan_end c.args.bytes.now c.loop-from.from c.loop-from.invariant.found c.loop-from.invariant.scan c.loop-from-test.false)

pub returns-clause-divides : goal.returns-clause-divides
returns-clause-divides c = inl (c.loop-from.invariant.found, scan_end c.args.bytes.now c.loop-from.from c.loop-from.invariant.found c.loop-from.invariant.scan c.loop-from-test.false)
