-- Items that end by a mark of their own, where white space is added behind them.
use Rattle.std.proofs.Common.{◌≡◌, ℕ, suc, ◌+◌, ◌<◌, ◌≤◌, Bool, true, false, ◌||◌, ◌==◌, [], ◌∷◌, ◌++◌, ◌⊎◌, inl, inr, length, drop, ⊎_elim, refl, sym, ap, subst, ◌∙◌, append_assoc, append-nil, arith, length-append}
use Rattle.std.proofs.lemmas.Bool.{and_parts}
use Rattle.std.proofs.lemmas.Str.{encode_same, char_from_byte}
use Rattle.std.specs.List.{list_all}
use Rattle.std.specs.Char.{encode_utf8}
use Rattle.dc_token.specs.Balance.{Bytes}
use Rattle.dc_token.specs.Bytes.{Run, is_not_line_feed, is_not_quote}
use Rattle.dc_token.specs.Comments.{IsLine}
use Rattle.dc_token.specs.Escapes.{escape}
use Rattle.dc_token.specs.Strings.{Suffixed, IsBody, IsToQuote, IsCharacter, IsOneCharacter, IsOneEscape, is_suffix, is_suffix_byte}
use Rattle.dc_token.specs.declared.item.Item.{Item}
use Rattle.dc_token.specs.declared.item.Item.TheVariants as item
use Rattle.dc_lexer.specs.Cuts.{is_unfinished}
use Rattle.dc_lexer.proofs.Solid.{heads_are, tails_are, leaves, before, all_append}
use Rattle.dc_lexer.proofs.Gaps.{all_behind}
use Rattle.dc_lexer.proofs.Swapped.{same_rest_length}
use Rattle.dc_lexer.proofs.Quoting.{escape_stays, body_swapped, one_body}

-- the items that may go on in what follows
abbrev pub goes_on : Item → Bytes → Bool
goes_on item.Blank w = true
goes_on item.LineComment w = true
goes_on other w = is_unfinished other w

-- a longer front has one more byte
pub record Grown (v w r y : Bytes) : Type 0 where
  pub byte : ℕ
  pub left : Bytes
  pub front : v ≡ w ++ (byte ∷ left)
  pub rest : r ≡ byte ∷ (left ++ y)

pub grown : (v w r y : Bytes) → w ++ r ≡ v ++ y → length w < length v → Grown v w r y
grown v w r y e longer = by l.left l.front l.rest
  where
    l : Rattle.dc_lexer.proofs.Solid.Leaves v w y r
    l = leaves v w y r (sym e) (omega arith)

    by : (left : Bytes) → v ≡ w ++ left → r ≡ left ++ y → Grown v w r y
    by [] front rest = absurd (let k : length v ≡ length w = ap (λ (x : Bytes). length x) (front ∙ append-nil w) in omega arith)
    by (b ∷ left) front rest = record { byte = b; left = left; front = front; rest = rest }

pub run_more : (f : ℕ → Bool) (w v left : Bytes) (h : ℕ) → Run f f w → Run f f v → v ≡ w ++ (h ∷ left) → Run f f (w ++ (h ∷ []))
run_more f w v left h a b e =
    let whole : a.head ∷ (a.tail ++ (h ∷ left)) ≡ b.head ∷ b.tail = sym (e ∙ ap (λ (x : Bytes). x ++ (h ∷ left)) a.parts) ∙ b.parts in
    let tail : a.tail ++ (h ∷ left) ≡ b.tail = tails_are a.head b.head (a.tail ++ (h ∷ left)) b.tail whole in
    let all : list_all f (a.tail ++ (h ∷ left)) ≡ true = subst (λ (x : Bytes). list_all f x ≡ true) (sym tail) b.goes in
    let one : f h ≡ true = (and_parts (f h) (list_all f left) (all_behind f a.tail (h ∷ left) all)).0 in
    record { head = a.head; tail = a.tail ++ (h ∷ []); parts = ap (λ (x : Bytes). x ++ (h ∷ [])) a.parts; begins = a.begins; goes = all_append f a.tail (h ∷ []) a.goes (rw one refl) }

pub line_byte : (w v left : Bytes) (h : ℕ) → IsLine w → IsLine v → v ≡ w ++ (h ∷ left) → is_not_line_feed h ≡ true
line_byte w v left h a b e =
    let whole : 47 ∷ 47 ∷ (a.tail ++ (h ∷ left)) ≡ 47 ∷ 47 ∷ b.tail = sym (e ∙ ap (λ (x : Bytes). x ++ (h ∷ left)) a.parts) ∙ b.parts in
    let tail : a.tail ++ (h ∷ left) ≡ b.tail = tails_are 47 47 (a.tail ++ (h ∷ left)) b.tail (tails_are 47 47 (47 ∷ (a.tail ++ (h ∷ left))) (47 ∷ b.tail) whole) in
    let all : list_all is_not_line_feed (a.tail ++ (h ∷ left)) ≡ true = subst (λ (x : Bytes). list_all is_not_line_feed x ≡ true) (sym tail) b.is in
    (and_parts (is_not_line_feed h) (list_all is_not_line_feed left) (all_behind is_not_line_feed a.tail (h ∷ left) all)).0

pub line_adds : (w a : Bytes) → IsLine w → list_all is_not_line_feed a ≡ true → IsLine (w ++ a)
line_adds w a l all = record { tail = l.tail ++ a; parts = ap (λ (x : Bytes). x ++ a) l.parts; is = all_append is_not_line_feed l.tail a l.is all }

pub line_more : (w v left : Bytes) (h : ℕ) → IsLine w → IsLine v → v ≡ w ++ (h ∷ left) → IsLine (w ++ (h ∷ []))
line_more w v left h a b e = let one = line_byte w v left h a b e in line_adds w (h ∷ []) a (rw one refl)

-- ---- `q"` and `x"`

-- no second quote stands in the string
abbrev pub Unfinished : Bytes → Type 0
Unfinished w = list_all is_not_quote (drop 2 w) ≡ true

unfinished : (letter : ℕ) (w r : Bytes) (s : IsToQuote letter w r) → s.closer ≡ [] → Unfinished w
unfinished letter w r s e =
    let i : w ≡ letter ∷ 34 ∷ s.inside = s.parts ∙ ap (λ (x : Bytes). letter ∷ 34 ∷ (s.inside ++ x)) e ∙ ap (λ (x : Bytes). letter ∷ 34 ∷ x) (append-nil s.inside) in
    subst (λ (x : Bytes). list_all is_not_quote (drop 2 x) ≡ true) (sym i) s.goes

pub quote_stays : (letter : ℕ) (w r p : Bytes) → (Unfinished w → 0 < length r) → IsToQuote letter w r → IsToQuote letter w p
quote_stays letter w r p some s = record { inside = s.inside; closer = s.closer; parts = s.parts; goes = s.goes; closes = ⊎_elim (λ e. inl e) (λ e. absurd (let k : length r ≡ 0 = ap (λ (x : Bytes). length x) e.1 in let l = some (unfinished letter w r s e.0) in omega arith)) s.closes }

pub quote_only : (letter : ℕ) (w r v y : Bytes) → (Unfinished w → 0 < length r) → IsToQuote letter w r → IsToQuote letter v y → w ++ r ≡ v ++ y → length v ≤ length w
quote_only letter w r v y some a b e = ⊎_elim closed (λ f. absurd (let k : length r ≡ 0 = ap (λ (x : Bytes). length x) f.1 in let l = some (unfinished letter w r a f.0) in omega arith)) a.closes
  where
    size : (s : IsToQuote letter v y) → length v ≤ 3 + length s.inside
    size s =
        let l : length v ≡ suc (suc (length (s.inside ++ s.closer))) = ap (λ (x : Bytes). length x) s.parts in
        let m = length-append s.inside s.closer in
        ⊎_elim (λ f. (let k : length s.closer ≡ 1 = ap (λ (x : Bytes). length x) f in omega arith)) (λ f. (let k : length s.closer ≡ 0 = ap (λ (x : Bytes). length x) f.0 in omega arith)) s.closes

    closed : a.closer ≡ 34 ∷ [] → length v ≤ length w
    closed f =
        let i : w ≡ letter ∷ 34 ∷ (a.inside ++ (34 ∷ [])) = a.parts ∙ ap (λ (x : Bytes). letter ∷ 34 ∷ (a.inside ++ x)) f in
        let whole : letter ∷ 34 ∷ (a.inside ++ (34 ∷ r)) ≡ letter ∷ 34 ∷ (b.inside ++ (b.closer ++ y)) =
        ap (λ (x : Bytes). letter ∷ 34 ∷ x) (sym (append_assoc a.inside (34 ∷ []) r)) ∙ sym (ap (λ (x : Bytes). x ++ r) i) ∙ e ∙ ap (λ (x : Bytes). x ++ y) b.parts ∙ ap (λ (x : Bytes). letter ∷ 34 ∷ x) (append_assoc b.inside b.closer y) in
        let inner : a.inside ++ (34 ∷ r) ≡ b.inside ++ (b.closer ++ y) = tails_are 34 34 _ _ (tails_are letter letter _ _ whole) in
        let short = before is_not_quote a.inside b.inside 34 r (b.closer ++ y) refl b.goes inner in
        let l : length w ≡ suc (suc (length (a.inside ++ (34 ∷ [])))) = ap (λ (x : Bytes). length x) i in
        let m = length-append a.inside (34 ∷ []) in
        let n = size b in omega arith

-- ---- characters

pub character_stays : (w r p : Bytes) → IsCharacter w r → IsCharacter w p
character_stays w r p s = record { inside = s.inside; parts = s.parts; one = ⊎_elim (λ a. inl a) (λ a. inr (record { tail = a.tail; parts = a.parts; whole = escape_stays a.tail p r 39 refl refl refl ∙ a.whole })) s.one }

not_backslash : (i j a b : Bytes) → IsOneCharacter i → IsOneEscape j (39 ∷ b) → i ++ (39 ∷ a) ≡ j ++ (39 ∷ b) → ⊥
not_backslash i j a b s t e =
    let whole : 92 ∷ (t.tail ++ (39 ∷ b)) ≡ encode_utf8 s.char ++ (39 ∷ a) = sym (e ∙ ap (λ (x : Bytes). x ++ (39 ∷ b)) t.parts) ∙ ap (λ (x : Bytes). x ++ (39 ∷ a)) s.parts in
    let is : s.char ≡ 92 = char_from_byte (92 ∷ (t.tail ++ (39 ∷ b))) (39 ∷ a) s.char whole (omega arith) (omega arith) in
    let k : (92 == 39 || 92 == 92) ≡ false = subst (λ n. (n == 39 || n == 92) ≡ false) is s.apart in absurd (let l : true ≡ false = k in cc)

inside_only : (i j a b : Bytes) → IsOneCharacter i ⊎ IsOneEscape i (39 ∷ a) → IsOneCharacter j ⊎ IsOneEscape j (39 ∷ b) → i ++ (39 ∷ a) ≡ j ++ (39 ∷ b) → length j ≤ length i
inside_only i j a b (inl s) (inl t) e =
    let whole : encode_utf8 s.char ++ (39 ∷ a) ≡ encode_utf8 t.char ++ (39 ∷ b) = sym (ap (λ (x : Bytes). x ++ (39 ∷ a)) s.parts) ∙ e ∙ ap (λ (x : Bytes). x ++ (39 ∷ b)) t.parts in
    let same = encode_same s.char t.char (39 ∷ a) (39 ∷ b) whole in
    let k : length j ≡ length i = ap (λ (x : Bytes). length x) (t.parts ∙ sym (ap encode_utf8 same.0) ∙ sym s.parts) in omega arith
inside_only i j a b (inl s) (inr t) e = absurd (not_backslash i j a b s t e)
inside_only i j a b (inr s) (inl t) e = absurd (not_backslash j i b a t s (sym e))
inside_only i j a b (inr s) (inr t) e =
    let whole : 92 ∷ (s.tail ++ (39 ∷ a)) ≡ 92 ∷ (t.tail ++ (39 ∷ b)) = sym (ap (λ (x : Bytes). x ++ (39 ∷ a)) s.parts) ∙ e ∙ ap (λ (x : Bytes). x ++ (39 ∷ b)) t.parts in
    let k : 1 + length s.tail ≡ 1 + length t.tail = sym s.whole ∙ ap escape (tails_are 92 92 (s.tail ++ (39 ∷ a)) (t.tail ++ (39 ∷ b)) whole) ∙ t.whole in
    let l : length i ≡ suc (length s.tail) = ap (λ (x : Bytes). length x) s.parts in
    let m : length j ≡ suc (length t.tail) = ap (λ (x : Bytes). length x) t.parts in omega arith

pub character_only : (w r v y : Bytes) → IsCharacter w r → IsCharacter v y → w ++ r ≡ v ++ y → length v ≤ length w
character_only w r v y a b e =
    let whole : 39 ∷ (a.inside ++ (39 ∷ r)) ≡ 39 ∷ (b.inside ++ (39 ∷ y)) =
    ap (λ (x : Bytes). 39 ∷ x) (sym (append_assoc a.inside (39 ∷ []) r)) ∙ sym (ap (λ (x : Bytes). x ++ r) a.parts) ∙ e ∙ ap (λ (x : Bytes). x ++ y) b.parts ∙ ap (λ (x : Bytes). 39 ∷ x) (append_assoc b.inside (39 ∷ []) y) in
    let short = inside_only a.inside b.inside r y a.one b.one (tails_are 39 39 (a.inside ++ (39 ∷ r)) (b.inside ++ (39 ∷ y)) whole) in
    let l : length w ≡ suc (length (a.inside ++ (39 ∷ []))) = ap (λ (x : Bytes). length x) a.parts in
    let m : length v ≡ suc (length (b.inside ++ (39 ∷ []))) = ap (λ (x : Bytes). length x) b.parts in
    let p = length-append a.inside (39 ∷ []) in let q = length-append b.inside (39 ∷ []) in omega arith

-- ---- strings with suffixes

-- a string with one more suffix
pub record Suffixable (P : Bytes → Bytes → Type 0) (w r : Bytes) : Type 0 where
  pub byte : ℕ
  pub more : Bytes
  pub rest : r ≡ byte ∷ more
  pub ends : is_suffix_byte byte ≡ true
  pub whole : P w r

short_suffix : (s : Bytes) → is_suffix s ≡ true → length s ≤ 1
short_suffix [] h = omega arith
short_suffix (b ∷ []) h = omega arith
short_suffix (b ∷ c ∷ s) h = absurd (let k : false ≡ true = h in cc)

module _ (opener : Bytes) (quote : ℕ) (escapes : Bool) (same : (q a b : Bytes) → escapes ≡ true → escape (q ++ (quote ∷ a)) ≡ escape (q ++ (quote ∷ b))) where
  abbrev Body : Bytes → Bytes → Type 0
  Body = IsBody opener quote escapes

  pub string_stays : (w r p : Bytes) → Suffixed Body w r → Suffixed Body w p
  string_stays w r p s = record { body = s.body; suffix = s.suffix; parts = s.parts; is = body_swapped quote escapes same (s.suffix ++ r) (s.suffix ++ p) opener s.body s.is; ends = s.ends }

  -- a longer string with the same opener has a suffix where the shorter one has none
  pub string_grows : (w r v y : Bytes) → Suffixed Body w r → Suffixed Body v y → w ++ r ≡ v ++ y → length w < length v → Suffixable Body w r
  string_grows w r v y a b e longer =
      let p : w ++ r ≡ a.body ++ (a.suffix ++ r) = ap (λ (x : Bytes). x ++ r) a.parts ∙ append_assoc a.body a.suffix r in
      let q : w ++ r ≡ b.body ++ (b.suffix ++ y) = e ∙ ap (λ (x : Bytes). x ++ y) b.parts ∙ append_assoc b.body b.suffix y in
      let rest : a.suffix ++ r ≡ b.suffix ++ y = one_body opener quote escapes (w ++ r) a.body (a.suffix ++ r) b.body (b.suffix ++ y) p q a.is b.is in
      let less = same_rest_length a.body b.body (a.suffix ++ r) (b.suffix ++ y) (sym p ∙ q) rest in
      let more = same_rest_length b.body a.body (b.suffix ++ y) (a.suffix ++ r) (sym q ∙ p) (sym rest) in
      let l : length w ≡ length a.body + length a.suffix = ap (λ (x : Bytes). length x) a.parts ∙ length-append a.body a.suffix in
      let m : length v ≡ length b.body + length b.suffix = ap (λ (x : Bytes). length x) b.parts ∙ length-append b.body b.suffix in
      let short = short_suffix b.suffix b.ends in
      go a.suffix b.suffix refl rest b.ends (omega arith) (omega arith)
    where
      go : (s t : Bytes) → a.suffix ≡ s → s ++ r ≡ t ++ y → is_suffix t ≡ true → length s < length t → length t ≤ 1 → Suffixable Body w r
      go s [] i f ends lt le = absurd (omega arith)
      go [] (d ∷ []) i f ends lt le =
          let is : a.body ≡ w = sym (append-nil a.body) ∙ sym (ap (λ (x : Bytes). a.body ++ x) i) ∙ sym a.parts in
          record { byte = d; more = y; rest = f; ends = ends; whole = subst (λ (x : Bytes). Body x r) is (subst (λ (x : Bytes). Body a.body (x ++ r)) i a.is) }
      go (s ∷ ss) (d ∷ t) i f ends lt le = absurd (omega arith)
      go [] (d ∷ g ∷ t) i f ends lt le = absurd (omega arith)
