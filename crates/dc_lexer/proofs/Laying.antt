-- What stands before, between and behind the tokens of a text.
use Rattle.std.proofs.Common.{◌≡◌, ℕ, ◌+◌, ◌≤◌, false, List, [], ◌++◌, length, drop, refl, sym, ap, subst, ◌∙◌, arith}
use Rattle.dc_token.specs.Balance.{Bytes}
use Rattle.dc_token.specs.Items.{Next, Spells}
use Rattle.dc_token.specs.Text.{is_token, token, Reads, Gap, Laid}
use Rattle.dc_token.specs.declared.item.Item.{Item}
use Rattle.dc_token.specs.declared.token.Token.{Token}
use Rattle.dc_token.proofs.Lists.{drop_front, drop_more}

-- an item that is no token, in front of what is laid
widened : (text : Bytes) (from more : ℕ) (ts : List Token) (k : Item) (w : Bytes) → Next Spells (drop from text) k w (drop more text) → is_token k ≡ false → from ≤ more → Laid text more ts → Laid text from ts
widened text from more ts k w n nay le (Laid.last g) = Laid.last (Gap.more n nay g)
widened text from more ts k w n nay le (Laid.next h g s l) = Laid.next (omega arith) (Gap.more n nay g) s l

behind : (text : Bytes) (at : ℕ) (t w rest : Bytes) → t ≡ drop at text → t ≡ w ++ rest → rest ≡ drop (at + length w) text
behind text at t w rest e parts = sym (drop_front w rest) ∙ ap (λ (x : Bytes). drop (length w) x) (sym parts ∙ e) ∙ drop_more (length w) at text

next_there : (text : Bytes) (at : ℕ) (t : Bytes) (k : Item) (w rest : Bytes) → t ≡ drop at text → Next Spells t k w rest → Next Spells (drop at text) k w (drop (at + length w) text)
next_there text at t k w rest e n = subst (λ (x : Bytes). Next Spells (drop at text) k w x) (behind text at t w rest e n.parts) (subst (λ (x : Bytes). Next Spells x k w rest) e n)

pub laid : (text : Bytes) (at : ℕ) (t : Bytes) (ts : List Token) → t ≡ drop at text → Reads at t ts → Laid text at ts
laid text at t ts e Reads.end = Laid.last (subst (λ (x : Bytes). Gap x []) e Gap.none)
laid text at t ts e (Reads.space {kind = k} {w = w} {rest = rest} n nay r) =
    widened text at (at + length w) ts k w (next_there text at t k w rest e n) nay (omega arith) (laid text (at + length w) rest ts (behind text at t w rest e n.parts) r)
laid text at t ts e (Reads.token_then {kind = k} {w = w} {rest = rest} {ts = us} n yea r) =
    Laid.next {t = token k w at} (omega arith) Gap.none (record { item = k; next = next_there text at t k w rest e n; counts = yea; end = refl; kind = refl }) (laid text (at + length w) rest us (behind text at t w rest e n.parts) r)
