-- No two tokens of a text begin at one offset.
use Rattle.std.proofs.Common.{◌≡◌, ◌==◌, ◌∙◌, ap, subst, ℕ, ◌<◌, ◌≤◌, zero, suc, true, false, cond, List, [], ◌∷◌, get_or, length, drop, refl, arith}
use Rattle.std.proofs.lemmas.Bool.Decides.{nat_tests}
use Rattle.dc_token.specs.Balance.{Bytes}
use Rattle.dc_token.specs.declared.token.Token.{Token}
use Rattle.dc_token.specs.Text.{Laid, StandsAt, mark_len}
use Rattle.dc_token.specs.Text as x
use Rattle.dc_lexer.proofs.Laying.{laid}
use Rattle.dc_lexer.proofs.Placed.{next_some}
use Rattle.core_front.specs.Front.{spelling_at}
use Rattle.dc_top.specs.Spellings.{SpellsEach}

-- a token takes at least a byte
rises : (text : Bytes) (t : Token) → StandsAt text t → t.start < t.end
rises text t s = let some = next_some (drop t.start text) s.item t.spelling (drop t.end text) s.next in let e = s.end in omega arith

-- the tokens begin from this offset on
past : (text : Bytes) (from : ℕ) (ts : List Token) (t : Token) (k : ℕ) → Laid text from ts → k < length ts → get_or ts k t ≡ t → from ≤ t.start
past text from [] t k l less e = absurd (omega arith)
past text from (u ∷ us) t zero (x.next a g s l) less e = subst (λ (v : Token). from ≤ v.start) e a
past text from (u ∷ us) t (suc k) (x.next a g s l) less e =
    let later = past text u.end us t k l (omega arith) e in let up = rises text u s in omega arith

here : (token : Token) (offset : ℕ) (other : Bytes) → token.start ≡ offset → cond (token.start == offset) token.spelling other ≡ token.spelling
here token offset other e = let yes : (token.start == offset) ≡ true = grind (arith, nat_tests) in rw yes refl

there : (token : Token) (offset : ℕ) (other : Bytes) → token.start < offset → cond (token.start == offset) token.spelling other ≡ other
there token offset other less = let no : (token.start == offset) ≡ false = grind (arith, nat_tests) in rw no refl

spelled : (text : Bytes) (from : ℕ) (ts : List Token) (t : Token) (k : ℕ) → Laid text from ts → k < length ts → get_or ts k t ≡ t → spelling_at ts t.start ≡ t.spelling
spelled text from [] t k l less e = absurd (omega arith)
spelled text from (u ∷ us) t zero (x.next a g s l) less e = here u t.start (spelling_at us t.start) (ap (λ (v : Token). v.start) e) ∙ ap (λ (v : Token). v.spelling) e
spelled text from (u ∷ us) t (suc k) (x.next a g s l) less e =
    let later = past text u.end us t k l (omega arith) e in let up = rises text u s in
    there u t.start (spelling_at us t.start) (omega arith) ∙ spelled text u.end us t k l (omega arith) e

stands : (text : Bytes) (from : ℕ) (ts : List Token) (t : Token) (k : ℕ) → Laid text from ts → k < length ts → get_or ts k t ≡ t → StandsAt text t
stands text from [] t k l less e = absurd (omega arith)
stands text from (u ∷ us) t zero (x.next a g s l) less e = subst (λ (v : Token). StandsAt text v) e s
stands text from (u ∷ us) t (suc k) (x.next a g s l) less e = stands text u.end us t k l (omega arith) e

pub spells_each : SpellsEach
spells_each text ts t is in_them =
    let lies = laid text (mark_len text) (drop (mark_len text) text) ts refl is.reads in
    let s = stands text (mark_len text) ts t in_them.0 lies in_them.1 in_them.2 in
    record { spelled = spelled text (mark_len text) ts t in_them.0 lies in_them.1 in_them.2; stands = s.next.parts }
