-- A comment up to the end of its line, where white space is added behind it.
use Rattle.std.proofs.Common.{◌≡◌, ℕ, zero, suc, ◌+◌, ◌<◌, ◌≤◌, Bool, true, false, not, [], ◌∷◌, ◌++◌, ◌⊎◌, inl, inr, length, get_or, ⊎_elim, refl, sym, ap, subst, ◌∙◌, append_assoc, arith, length-append}
use Rattle.std.proofs.lemmas.Bool.{and_parts, cases_lt}
use Rattle.std.proofs.lemmas.Bool.Decides.{nat_tests}
use Rattle.std.proofs.lemmas.Str.{IsUtf8-append, IsUtf8-from_ascii, IsUtf8-from_is_utf8, is_utf8-from_IsUtf8}
use Rattle.std.specs.Str.{IsAscii, is_utf8}
use Rattle.std.specs.List.{list_all}
use Rattle.dc_token.specs.Balance.{Bytes}
use Rattle.dc_token.specs.Bytes.{begins, is_blank, is_not_line_feed}
use Rattle.dc_token.specs.Items.{Spells, IsItem, Next}
use Rattle.dc_token.specs.declared.item.Item.{Item}
use Rattle.dc_token.specs.declared.item.Item.TheVariants as item
use Rattle.dc_lexer.proofs.Signs.{sign_longest}
use Rattle.dc_lexer.proofs.Finding.{line_sign}
use Rattle.dc_lexer.proofs.Agreeing.{agrees}
use Rattle.dc_lexer.proofs.Solid.{heads_are}
use Rattle.dc_lexer.proofs.Kept.{grown, line_byte, line_adds}

-- ---- white space up to the end of a line

pub record Lined (s : Bytes) : Type 0 where
  pub front : Bytes
  pub rest : Bytes
  pub parts : s ≡ front ++ rest
  pub same_line : list_all is_not_line_feed front ≡ true
  pub ends : (h : ℕ) (x : Bytes) → rest ≡ h ∷ x → is_not_line_feed h ≡ false

pub lined : (s : Bytes) → Lined s
lined [] = record { front = []; rest = []; parts = refl; same_line = refl; ends = λ h x e. cc }
lined (b ∷ s) = by (is_not_line_feed b) refl (lined s)
  where
    by : (x : Bool) → is_not_line_feed b ≡ x → Lined s → Lined (b ∷ s)
    by true e l = record { front = b ∷ l.front; rest = l.rest; parts = ap (λ (x : Bytes). b ∷ x) l.parts; same_line = rw e l.same_line; ends = l.ends }
    by false e l = record { front = []; rest = b ∷ s; parts = refl; same_line = refl; ends = λ h x f. subst (λ n. is_not_line_feed n ≡ false) (heads_are b h s x f) e }

pub all_front : (f : ℕ → Bool) (v w : Bytes) → list_all f (v ++ w) ≡ true → list_all f v ≡ true
all_front f [] w h = refl
all_front f (b ∷ v) w h = let p = and_parts (f b) (list_all f (v ++ w)) h in rw p.0 (all_front f v w p.1)

blank_low : (b : ℕ) → is_blank b ≡ true → b < 128
blank_low b h = grind (arith, nat_tests)

pub blank_ascii : (s : Bytes) → list_all is_blank s ≡ true → IsAscii s
blank_ascii [] h i = omega arith
blank_ascii (b ∷ s) h zero = blank_low b (and_parts (is_blank b) (list_all is_blank s) h).0
blank_ascii (b ∷ s) h (suc i) = blank_ascii s (and_parts (is_blank b) (list_all is_blank s) h).1 i

-- ---- the comment that takes it up

text_grows : (w a : Bytes) → not (is_utf8 w) ≡ false → IsAscii a → not (is_utf8 (w ++ a)) ≡ false
text_grows w a h ascii =
    let t : is_utf8 w ≡ true = of (is_utf8 w) h in
    let g = is_utf8-from_IsUtf8 (w ++ a) (IsUtf8-append w a (IsUtf8-from_is_utf8 w t) (IsUtf8-from_ascii a ascii)) in rw g refl
  where
    of : (x : Bool) → not x ≡ false → x ≡ true
    of true e = refl
    of false e = absurd (let k : true ≡ false = e in cc)

-- behind it stands the end of the line or of the text
pub line_end : (w u : Bytes) → Next Spells (w ++ u) item.LineComment w u → (h : ℕ) (x : Bytes) → u ≡ h ∷ x → is_not_line_feed h ≡ false
line_end w u n h x e = by (is_not_line_feed h) refl
  where
    by : (y : Bool) → is_not_line_feed h ≡ y → y ≡ false
    by false f = refl
    by true f =
        let i : IsItem Spells item.LineComment (w ++ (h ∷ [])) x = record { spells = line_adds w (h ∷ []) n.is.spells (rw f refl); allowed = refl } in
        let long = n.longest item.LineComment (w ++ (h ∷ [])) x (ap (λ (y : Bytes). w ++ y) e ∙ sym (append_assoc w (h ∷ []) x)) i in
        let l = length-append w (h ∷ []) in absurd (omega arith)

pub line_next : (w u a b : Bytes) → Next Spells (w ++ u) item.LineComment w u → list_all is_not_line_feed a ≡ true → IsAscii a → ((h : ℕ) (x : Bytes) → b ++ u ≡ h ∷ x → is_not_line_feed h ≡ false) → Next Spells (w ++ (a ++ (b ++ u))) item.LineComment (w ++ a) (b ++ u)
line_next w u a b n all ascii ends = record { parts = parts; is = here; longest = longest; readable = text_grows w a n.readable ascii }
  where
    t : Bytes
    t = w ++ (a ++ (b ++ u))

    parts : t ≡ (w ++ a) ++ (b ++ u)
    parts = sym (append_assoc w a (b ++ u))

    here : IsItem Spells item.LineComment (w ++ a) (b ++ u)
    here = record { spells = line_adds w a n.is.spells all; allowed = refl }

    line_ends : (v y : Bytes) → t ≡ v ++ y → Spells item.LineComment v y → length (w ++ a) < length v → ⊥
    line_ends v y e s more =
        let g = grown v (w ++ a) (b ++ u) y (sym parts ∙ e) more in
        let o = ends g.byte (g.left ++ y) g.rest in
        absurd (let k : false ≡ true = sym o ∙ line_byte (w ++ a) v g.left g.byte here.spells s g.front in cc)

    short_sign : (v y : Bytes) → t ≡ v ++ y → Spells item.Sign v y → length v ≤ length (w ++ a)
    short_sign v y e s =
        let l = n.is.spells in
        let one = line_sign t (rw l.parts refl) in
        let m = (sign_longest t).longest v y e s in
        let k : length w ≡ suc (suc (length l.tail)) = ap (λ (x : Bytes). length x) l.parts in
        let o = length-append w a in omega arith

    longest : (j : Item) (v y : Bytes) → t ≡ v ++ y → IsItem Spells j v y → length v ≤ length (w ++ a)
    longest j v y e i = ⊎_elim
        (λ same. ⊎_elim (λ more. absurd (line_ends v y e (subst (λ k. Spells k v y) same i.spells) more)) (λ le. le) (cases_lt (length (w ++ a)) (length v)))
        (λ p. short_sign v y e (subst (λ k. Spells k v y) p.0 i.spells))
        (agrees t j v y e i item.LineComment (w ++ a) (b ++ u) parts here refl)
