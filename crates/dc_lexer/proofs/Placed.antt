-- White space in front of a text, and behind pieces of one.
use Rattle.std.proofs.Common.{◌≡◌, ℕ, ◌+◌, ◌/◌, ◌%◌, ◌<◌, ◌≤◌, Bool, true, false, not, nat_lt, if◌then◌else◌, List, [], ◌∷◌, ◌++◌, ◌⊎◌, inl, inr, length, ⊎_elim, refl, sym, ap, subst, ◌∙◌, append_assoc, append-nil, arith, length-append}
use Rattle.std.proofs.lemmas.Bool.{and_parts, cases_lt}
use Rattle.std.proofs.lemmas.Bool.Decides.{nat_tests}
use Rattle.std.specs.List.{list_all}
use Rattle.std.specs.Char.{encode_utf8}
use Rattle.std.specs.Str.{encode_utf8_all}
use Rattle.dc_token.specs.Balance.{Bytes}
use Rattle.dc_token.specs.Bytes.{Run, is_blank, is_letter, is_digit_or_bar, is_not_line_feed}
use Rattle.dc_token.specs.Items.{Spells, IsItem, Next}
use Rattle.dc_token.specs.Text.{Piece, Cut, bytes_of, tokens_of, is_token, token, Reads}
use Rattle.dc_token.specs.declared.token.Token.{Token}
use Rattle.dc_token.specs.declared.item.Item.{Item}
use Rattle.dc_token.specs.declared.item.Item.TheVariants as item
use Rattle.dc_lexer.specs.Leads.{lead, can_begin}
use Rattle.dc_lexer.specs.declared.lead.Lead.TheVariants as lead_is
use Rattle.dc_lexer.specs.Cuts.{is_unfinished, is_point, is_float_apart, has_room, IsSpace, moved}
use Rattle.dc_lexer.proofs.Starts.{starts, letter_class, positive}
use Rattle.dc_lexer.proofs.Agreeing.{agrees}
use Rattle.dc_lexer.proofs.Solid.{heads_are, tails_are, all_append, is_inner}
use Rattle.dc_lexer.proofs.Gaps.{IsApart, all_behind, blank_tail}
use Rattle.dc_lexer.proofs.Kept.{goes_on, grown}
use Rattle.dc_lexer.proofs.Stays.{next_stays}
use Rattle.dc_lexer.proofs.Lines.{lined, all_front, blank_ascii, line_end, line_next}
use Rattle.dc_lexer.proofs.Braced.{token_string_stays, grows}

-- ---- a text that can be read does not begin inside a character

first_byte : (c h : ℕ) (tail : Bytes) → encode_utf8 c ≡ h ∷ tail → is_inner h ≡ false
unfolding encode_utf8
first_byte c h tail = by (nat_lt c 128) (nat_lt c 2048) (nat_lt c 65536) refl
  where
    low : (n : ℕ) → nat_lt n 128 ≡ true → is_inner n ≡ false
    low n h = grind (arith, nat_tests)

    high : (n : ℕ) → 192 ≤ n → is_inner n ≡ false
    high n h = grind (arith, nat_tests)

    by : (x y z : Bool) → nat_lt c 128 ≡ x
        → (if x then (c ∷ []) else (if y then ((192 + c / 64) ∷ (128 + c % 64) ∷ []) else (if z then ((224 + c / 4096) ∷ (128 + (c / 64) % 64) ∷ (128 + c % 64) ∷ []) else ((240 + c / 262144) ∷ (128 + (c / 4096) % 64) ∷ (128 + (c / 64) % 64) ∷ (128 + c % 64) ∷ [])))) ≡ h ∷ tail → is_inner h ≡ false
    by true y z is e = subst (λ n. is_inner n ≡ false) (heads_are _ _ _ _ e) (low c is)
    by false true z is e = subst (λ n. is_inner n ≡ false) (heads_are _ _ _ _ e) (high (192 + c / 64) (omega arith))
    by false false true is e = subst (λ n. is_inner n ≡ false) (heads_are _ _ _ _ e) (high (224 + c / 4096) (omega arith))
    by false false false is e = subst (λ n. is_inner n ≡ false) (heads_are _ _ _ _ e) (high (240 + c / 262144) (omega arith))

name_byte : (c b : ℕ) (more v : Bytes) → encode_utf8 c ++ more ≡ b ∷ v → 1 ≤ length (encode_utf8 c) → is_inner b ≡ false
name_byte c b more v e some = by (encode_utf8 c) refl e some
  where
    by : (bytes : Bytes) → encode_utf8 c ≡ bytes → bytes ++ more ≡ b ∷ v → 1 ≤ length bytes → is_inner b ≡ false
    by [] is e some = absurd (omega arith)
    by (h ∷ tail) is e some = subst (λ n. is_inner n ≡ false) (heads_are h b (tail ++ more) v e) (first_byte c h tail is)

is_not : (x : Bool) → (x ≡ true → ⊥) → x ≡ false
is_not true h = absurd (h refl)
is_not false h = refl

-- the first byte of an item that a name can't be confused with
other_byte : (k : Item) (b : ℕ) → can_begin (lead b) k ≡ true → can_begin lead_is.Letter k ≡ false → is_inner b ≡ false
other_byte k b can none = is_not (is_inner b) (λ h.
    let letter : is_letter b ≡ true = grind (arith, nat_tests) in
    let g : can_begin lead_is.Letter k ≡ true = subst (λ c. can_begin c k ≡ true) (letter_class b letter) can in
    absurd (let l : false ≡ true = sym none ∙ g in cc))

opener_byte : (a b : ℕ) (x v w : Bytes) → w ≡ a ∷ x → w ≡ b ∷ v → is_inner a ≡ false → is_inner b ≡ false
opener_byte a b x v w p q h = subst (λ n. is_inner n ≡ false) (heads_are a b x v (sym p ∙ q)) h

item_byte : (k : Item) (w rest : Bytes) → Spells k w rest → (b : ℕ) (v : Bytes) → w ≡ b ∷ v → is_inner b ≡ false
item_byte item.Name w rest s b v e = name_byte s.first b (encode_utf8_all s.more) v (sym s.parts ∙ e) (positive s.first)
item_byte item.TokenString w rest s b v e = opener_byte 113 b _ v w s.parts e refl
item_byte item.Delimited w rest s b v e = opener_byte 113 b _ v w s.parts e refl
item_byte item.HexString w rest s b v e = opener_byte 120 b _ v w s.parts e refl
item_byte item.Raw w rest s b v e = opener_byte 114 b _ v w (s.parts ∙ ap (λ (x : Bytes). x ++ s.suffix) s.is.parts) e refl
item_byte other w rest s b v e =
    let g = starts other w rest s in
    let is : g.head ≡ b = heads_are g.head b g.tail v (sym g.parts ∙ e) in
    other_byte other b (subst (λ n. can_begin (lead n) other ≡ true) is g.can) refl

next_byte : (t : Bytes) (k : Item) (w rest : Bytes) → Next Spells t k w rest → IsApart t
next_byte t k w rest n b v e =
    let g = starts k w rest n.is.spells in
    let whole : g.head ∷ (g.tail ++ rest) ≡ b ∷ v = sym (n.parts ∙ ap (λ (x : Bytes). x ++ rest) g.parts) ∙ e in
    subst (λ m. is_inner m ≡ false) (heads_are g.head b (g.tail ++ rest) v whole) (item_byte k w rest n.is.spells g.head g.tail g.parts)

pub read_apart : (at : ℕ) (t : Bytes) (ts : List Token) → Reads at t ts → IsApart t
read_apart at t ts Reads.end = λ b v e. cc
read_apart at t ts (Reads.space {kind = k} {w = w} {rest = rest} n nay r) = next_byte t k w rest n
read_apart at t ts (Reads.token_then {kind = k} {w = w} {rest = rest} n yea r) = next_byte t k w rest n

-- ---- tokens that move

pub shifted : (n at : ℕ) (t : Bytes) (ts : List Token) → Reads at t ts → Reads (at + n) t (moved n ts)
shifted n at t ts Reads.end = Reads.end
shifted n at t ts (Reads.space {kind = k} {w = w} {rest = rest} m nay r) =
    let e : at + length w + n ≡ at + n + length w = omega arith in
    Reads.space m nay (subst (λ i. Reads i rest (moved n ts)) e (shifted n (at + length w) rest ts r))
shifted n at t ts (Reads.token_then {kind = k} {w = w} {rest = rest} {ts = us} m yea r) =
    let e : at + length w + n ≡ at + n + length w = omega arith in
    subst (λ i. Reads (at + n) t (record { kind = (token k w at).kind; spelling = w; start = at + n; end = i } ∷ moved n us)) (sym e)
    (Reads.token_then m yea (subst (λ i. Reads i rest (moved n us)) e (shifted n (at + length w) rest us r)))

-- ---- white space in front of a text

-- white space and what blanks follow it are one item
blank_next : (s w rest : Bytes) → 0 < length s → list_all is_blank (s ++ w) ≡ true → ((h : ℕ) (x : Bytes) → rest ≡ h ∷ x → is_blank h ≡ true → ⊥) → Next Spells (s ++ (w ++ rest)) item.Blank (s ++ w) rest
blank_next [] w rest some all ends = absurd (omega arith)
blank_next (b ∷ s) w rest some all ends = record { parts = parts; is = here; longest = longest; readable = refl }
  where
    parts : (b ∷ s) ++ (w ++ rest) ≡ ((b ∷ s) ++ w) ++ rest
    parts = sym (append_assoc (b ∷ s) w rest)

    run : Run is_blank is_blank ((b ∷ s) ++ w)
    run = let p = and_parts (is_blank b) (list_all is_blank (s ++ w)) all in record { head = b; tail = s ++ w; parts = refl; begins = p.0; goes = p.1 }

    here : IsItem Spells item.Blank ((b ∷ s) ++ w) rest
    here = record { spells = run; allowed = refl }

    run_ends : (v y : Bytes) → ((b ∷ s) ++ w) ++ rest ≡ v ++ y → Run is_blank is_blank v → length ((b ∷ s) ++ w) < length v → ⊥
    run_ends v y e r more =
        let g = grown v ((b ∷ s) ++ w) rest y e more in
        let whole : b ∷ ((s ++ w) ++ (g.byte ∷ g.left)) ≡ r.head ∷ r.tail = sym g.front ∙ r.parts in
        let tail = tails_are b r.head ((s ++ w) ++ (g.byte ∷ g.left)) r.tail whole in
        let blanks : list_all is_blank ((s ++ w) ++ (g.byte ∷ g.left)) ≡ true = subst (λ (x : Bytes). list_all is_blank x ≡ true) (sym tail) r.goes in
        ends g.byte (g.left ++ y) g.rest (and_parts (is_blank g.byte) (list_all is_blank g.left) (all_behind is_blank (s ++ w) (g.byte ∷ g.left) blanks)).0

    only : (j : Item) (v y : Bytes) → (b ∷ s) ++ (w ++ rest) ≡ v ++ y → IsItem Spells j v y → j ≡ item.Blank
    only j v y e i = ⊎_elim (λ same. same) (λ p. absurd (let k : item.Blank ≡ item.LineComment = p.1 in cc)) (agrees ((b ∷ s) ++ (w ++ rest)) j v y e i item.Blank ((b ∷ s) ++ w) rest parts here refl)

    longest : (j : Item) (v y : Bytes) → (b ∷ s) ++ (w ++ rest) ≡ v ++ y → IsItem Spells j v y → length v ≤ length ((b ∷ s) ++ w)
    longest j v y e i = ⊎_elim
        (λ more. absurd (run_ends v y (sym parts ∙ e) (subst (λ k. Spells k v y) (only j v y e i) i.spells) more))
        (λ le. le) (cases_lt (length ((b ∷ s) ++ w)) (length v))

-- a text whose next item is no white space begins with none
not_blank : (t : Bytes) (k : Item) (w rest : Bytes) → Next Spells t k w rest → (k ≡ item.Blank → ⊥) → (h : ℕ) (x : Bytes) → t ≡ h ∷ x → is_blank h ≡ true → ⊥
not_blank t k w rest n other h x e blank =
    let i : IsItem Spells item.Blank (h ∷ []) x = record { spells = record { head = h; tail = []; parts = refl; begins = blank; goes = refl }; allowed = refl } in
    ⊎_elim other (λ p. absurd (let g : item.Blank ≡ item.LineComment = p.1 in cc)) (agrees t k w rest n.parts n.is item.Blank (h ∷ []) x e i refl)

-- and so does what stands behind white space
behind_blank : (w rest : Bytes) → Next Spells (w ++ rest) item.Blank w rest → (h : ℕ) (x : Bytes) → rest ≡ h ∷ x → is_blank h ≡ true → ⊥
behind_blank w rest n h x e blank =
    let r = n.is.spells in
    let i : IsItem Spells item.Blank (w ++ (h ∷ [])) x = record { spells = record { head = r.head; tail = r.tail ++ (h ∷ []); parts = ap (λ (y : Bytes). y ++ (h ∷ [])) r.parts; begins = r.begins; goes = all_append is_blank r.tail (h ∷ []) r.goes (rw blank refl) }; allowed = refl } in
    let long = n.longest item.Blank (w ++ (h ∷ [])) x (ap (λ (y : Bytes). w ++ y) e ∙ sym (append_assoc w (h ∷ []) x)) i in
    let l = length-append w (h ∷ []) in absurd (omega arith)

is_blank_item : (k : Item) → (k ≡ item.Blank) ⊎ (k ≡ item.Blank → ⊥)
is_blank_item item.Blank = inl refl
is_blank_item other = inr (λ e. cc)

module _ (s : Bytes) (space : IsSpace s) where
  alone : (at : ℕ) (t : Bytes) (ts : List Token) → Reads at t ts → ((h : ℕ) (x : Bytes) → t ≡ h ∷ x → is_blank h ≡ true → ⊥) → Reads at (s ++ t) (moved (length s) ts)
  alone at t ts r ends =
      let all : list_all is_blank (s ++ []) ≡ true = subst (λ (x : Bytes). list_all is_blank x ≡ true) (sym (append-nil s)) space.blank in
      let e : at + length s ≡ at + length (s ++ []) = ap (λ (x : Bytes). at + length x) (sym (append-nil s)) in
      Reads.space (blank_next s [] t space.some all ends) refl (subst (λ i. Reads i t (moved (length s) ts)) e (shifted (length s) at t ts r))

  together : (at : ℕ) (t w rest : Bytes) (ts : List Token) → Next Spells t item.Blank w rest → Reads (at + length w) rest ts → Reads at (s ++ t) (moved (length s) ts)
  together at t w rest ts n r =
      let run = n.is.spells in
      let blank : list_all is_blank w ≡ true = rw (run.parts, run.begins) run.goes in
      let all = all_append is_blank s w space.blank blank in
      let m : Next Spells (w ++ rest) item.Blank w rest = subst (λ (x : Bytes). Next Spells x item.Blank w rest) n.parts n in
      let size : at + length w + length s ≡ at + length (s ++ w) = (let l = length-append s w in omega arith) in
      let i = blank_next s w rest space.some all (behind_blank w rest m) in
      subst (λ (x : Bytes). Reads at (s ++ x) (moved (length s) ts)) (sym n.parts)
      (Reads.space i refl (subst (λ k. Reads k rest (moved (length s) ts)) size (shifted (length s) (at + length w) rest ts r)))

  space_or : (at : ℕ) (t : Bytes) (k : Item) (w rest : Bytes) (ts : List Token) → Next Spells t k w rest → is_token k ≡ false → Reads (at + length w) rest ts → (k ≡ item.Blank) ⊎ (k ≡ item.Blank → ⊥) → Reads at (s ++ t) (moved (length s) ts)
  space_or at t k w rest ts n nay r (inl e) = together at t w rest ts (subst (λ k. Next Spells t k w rest) e n) r
  space_or at t k w rest ts n nay r (inr other) = alone at t ts (Reads.space n nay r) (not_blank t k w rest n other)

  pub in_front : (at : ℕ) (t : Bytes) (ts : List Token) → Reads at t ts → Reads at (s ++ t) (moved (length s) ts)
  in_front at t ts Reads.end = alone at [] [] Reads.end (λ h x e b. cc)
  in_front at t ts (Reads.space {kind = k} {w = w} {rest = rest} n nay r) = space_or at t k w rest ts n nay r (is_blank_item k)
  in_front at t ts (Reads.token_then {kind = k} {w = w} {rest = rest} n yea r) =
      alone at t ts (Reads.token_then n yea r) (not_blank t k w rest n (λ e. absurd (let g : false ≡ true = subst (λ k. is_token k ≡ true) e yea in cc)))

-- ---- behind pieces

pub cut_parts : (t : Bytes) (ps : List Piece) (u : Bytes) → Cut t ps u → t ≡ bytes_of ps ++ u
cut_parts t ps u Cut.none = refl
cut_parts t ps u (Cut.more {w = w} {rest = rest} {ps = qs} n c) = n.parts ∙ ap (λ (x : Bytes). w ++ x) (cut_parts rest qs u c) ∙ sym (append_assoc w (bytes_of qs) u)

pub next_some : (t : Bytes) (k : Item) (w rest : Bytes) → Next Spells t k w rest → 0 < length w
next_some t k w rest n = let b = starts k w rest n.is.spells in rw b.parts (omega arith)

-- the last piece is white space
abbrev pub ends_blank : List Piece → Bool
ends_blank [] = false
ends_blank ((item.Blank, w) ∷ []) = true
ends_blank ((other, w) ∷ []) = false
ends_blank (p ∷ q ∷ ps) = ends_blank (q ∷ ps)

-- where there is room, what the step asks for
record Room (k : Item) (w x : Bytes) (ps : List Piece) : Type 0 where
  behind : goes_on k w ≡ true → 0 < length x
  no_point : k ≡ item.Decimal → list_all is_digit_or_bar w ≡ true → x ≡ 46 ∷ [] → ⊥
  later : has_room ps ≡ true
  later_ends : ends_blank ps ≡ false

not_true : (x : Bool) → not x ≡ true → x ≡ true → ⊥
not_true true h e = absurd (let l : false ≡ true = h in cc)
not_true false h e = absurd (let l : false ≡ true = e in cc)

point_bytes : (w : Bytes) → w ++ [] ≡ 46 ∷ [] → is_point w ≡ true
point_bytes w e = let f : w ≡ 46 ∷ [] = sym (append-nil w) ∙ e in rw f refl

last_takes : (k : Item) (w : Bytes) → ends_blank ((k, w) ∷ []) ≡ false → (k ≡ item.LineComment → ⊥) → is_unfinished k w ≡ false → goes_on k w ≡ false
last_takes item.Blank w e line h = absurd (let l : true ≡ false = e in cc)
last_takes item.LineComment w e line h = absurd (line refl)
last_takes other w e line h = h

not_false : (x : Bool) → not x ≡ true → x ≡ false
not_false true h = absurd (let l : false ≡ true = h in cc)
not_false false h = refl

room_last : (k : Item) (w : Bytes) → has_room ((k, w) ∷ []) ≡ true → ends_blank ((k, w) ∷ []) ≡ false → (k ≡ item.LineComment → ⊥) → Room k w [] []
room_last k w h ends line = record { behind = λ e. absurd (let g = last_takes k w ends line (not_false (is_unfinished k w) h) in let l : false ≡ true = sym g ∙ e in cc); no_point = λ e d f. cc; later = refl; later_ends = refl }

rooms : (k : Item) (w : Bytes) (t : Bytes) (p : Piece) (ps : List Piece) (u : Bytes) → Cut t (p ∷ ps) u → has_room ((k, w) ∷ p ∷ ps) ≡ true → ends_blank ((k, w) ∷ p ∷ ps) ≡ false → Room k w (bytes_of (p ∷ ps)) (p ∷ ps)
rooms k w t p ps u (Cut.more {kind = j} {w = v} n Cut.none) h ends =
    let p = and_parts (not (is_unfinished j v)) (not (is_float_apart (k, w) (j, v))) h in
    record {
      behind = λ e. (let some = next_some _ j v _ n in let l = length-append v [] in omega arith);
      no_point = λ e d f. not_true (is_float_apart (k, w) (j, v)) p.1 (subst (λ i. is_float_apart (i, w) (j, v) ≡ true) (sym e) (rw d (point_bytes v f)));
      later = p.0;
      later_ends = ends;
    }
rooms k w t p ps u (Cut.more {kind = j} {w = v} n (Cut.more {kind = i} {w = x} {ps = qs} m c)) h ends =
    let one = next_some _ j v _ n in
    let two = next_some _ i x _ m in
    let l = length-append v (x ++ bytes_of qs) in
    let r = length-append x (bytes_of qs) in
    record {
      behind = λ e. omega arith;
      no_point = λ e d f. absurd (let size : length (v ++ (x ++ bytes_of qs)) ≡ 1 = ap (λ (y : Bytes). length y) f in omega arith);
      later = h;
      later_ends = ends;
    }

-- ---- a comment up to the end of the line

is_line_item : (k : Item) → (k ≡ item.LineComment) ⊎ (k ≡ item.LineComment → ⊥)
is_line_item item.LineComment = inl refl
is_line_item other = inr (λ e. cc)

moved_twice : (n m : ℕ) (ts : List Token) → moved n (moved m ts) ≡ moved (m + n) ts
moved_twice n m [] = refl
moved_twice n m (t ∷ ts) =
    let e : t.start + m + n ≡ t.start + (m + n) = omega arith in
    let f : t.end + m + n ≡ t.end + (m + n) = omega arith in
    rw (e, f, moved_twice n m ts) refl

-- white space in front of a text, or none
some_in_front : (b : Bytes) → list_all is_blank b ≡ true → (at : ℕ) (t : Bytes) (ts : List Token) → Reads at t ts → Reads at (b ++ t) (moved (length b) ts)
some_in_front [] h at t ts r = let e : at + 0 ≡ at = omega arith in subst (λ i. Reads i t (moved 0 ts)) e (shifted 0 at t ts r)
some_in_front (c ∷ b) h at t ts r = in_front (c ∷ b) (record { some = omega arith; blank = h }) at t ts r

module _ (s : Bytes) (space : IsSpace s) (u : Bytes) (ts : List Token) where
  -- white space as its first byte and more
  record Spaced : Type 0 where
    first : ℕ
    more : Bytes
    parts : s ++ u ≡ first ∷ more
    blank : is_blank first ≡ true

  spaced : (x : Bytes) → s ≡ x → 0 < length x → list_all is_blank x ≡ true → Spaced
  spaced [] e some all = absurd (omega arith)
  spaced (c ∷ x) e some all = record { first = c; more = x ++ u; parts = ap (λ (y : Bytes). y ++ u) e; blank = (and_parts (is_blank c) (list_all is_blank x) all).0 }

  step : (at : ℕ) (k : Item) (w : Bytes) (ps : List Piece) (us : List Token) → Next Spells (w ++ (bytes_of ps ++ (s ++ u))) k w (bytes_of ps ++ (s ++ u)) → Reads (at + length w) (bytes_of ps ++ (s ++ u)) us → (x : Bool) → is_token k ≡ x
      → Reads at (w ++ (bytes_of ps ++ (s ++ u))) (if x then token k w at ∷ us else us)
  step at k w ps us n r true e = Reads.token_then n e r
  step at k w ps us n r false e = Reads.space n e r

  -- ---- behind white space

  record LastBlank (w : Bytes) : Type 0 where
    front : Bytes
    byte : ℕ
    parts : w ≡ front ++ (byte ∷ [])
    blank : is_blank byte ≡ true

  last_byte : (h : ℕ) (w : Bytes) → is_blank h ≡ true → list_all is_blank w ≡ true → LastBlank (h ∷ w)
  last_byte h [] b all = record { front = []; byte = h; parts = refl; blank = b }
  last_byte h (g ∷ w) b all =
      let p = and_parts (is_blank g) (list_all is_blank w) all in
      let r = last_byte g w p.0 p.1 in
      record { front = h ∷ r.front; byte = r.byte; parts = ap (λ (x : Bytes). h ∷ x) r.parts; blank = r.blank }

  run_last : (w : Bytes) → Run is_blank is_blank w → LastBlank (w ++ [])
  run_last w r =
      let l = last_byte r.head r.tail r.begins r.goes in
      record { front = l.front; byte = l.byte; parts = append-nil w ∙ r.parts ∙ l.parts; blank = l.blank }

  cut_last : (t : Bytes) (ps : List Piece) → Cut t ps u → ends_blank ps ≡ true → LastBlank (bytes_of ps)
  cut_last t ps Cut.none e = absurd (let l : false ≡ true = e in cc)
  cut_last t ps (Cut.more {kind = k} {w = w} n Cut.none) e = of_kind k w t u n e
    where
      of_kind : (k : Item) (w t rest : Bytes) → Next Spells t k w rest → ends_blank ((k, w) ∷ []) ≡ true → LastBlank (w ++ [])
      of_kind item.Blank w t rest n e = run_last w n.is.spells
      of_kind other w t rest n e = absurd (let l : false ≡ true = e in cc)
  cut_last t ps (Cut.more {w = w} {rest = rest} {ps = qs} n (Cut.more m c)) e =
      let l = cut_last rest qs (Cut.more m c) e in
      record { front = w ++ l.front; byte = l.byte; parts = ap (λ (x : Bytes). w ++ x) l.parts ∙ sym (append_assoc w l.front (l.byte ∷ [])); blank = l.blank }

  tokens : (x : Bool) (t : Token) (us : List Token) → (if x then t ∷ (us ++ moved (length s) ts) else (us ++ moved (length s) ts)) ≡ (if x then t ∷ us else us) ++ moved (length s) ts
  tokens true t us = refl
  tokens false t us = refl

  -- the next item before pieces that go on with white space
  piece_on : (at : ℕ) (k : Item) (w : Bytes) (qs : List Piece) → Next Spells (w ++ (bytes_of qs ++ (s ++ u))) k w (bytes_of qs ++ (s ++ u)) → Reads (at + length w) (bytes_of qs ++ (s ++ u)) (tokens_of (at + length w) qs ++ moved (length s) ts)
      → Reads at (bytes_of ((k, w) ∷ qs) ++ (s ++ u)) (tokens_of at ((k, w) ∷ qs) ++ moved (length s) ts)
  piece_on at k w qs m later =
      let all = step at k w qs (tokens_of (at + length w) qs ++ moved (length s) ts) m later (is_token k) refl in
      subst (λ (x : Bytes). Reads at x (tokens_of at ((k, w) ∷ qs) ++ moved (length s) ts)) (sym (append_assoc w (bytes_of qs) (s ++ u)))
      (subst (λ (x : List Token). Reads at (w ++ (bytes_of qs ++ (s ++ u))) x) (tokens (is_token k) (token k w at) (tokens_of (at + length w) qs)) all)

  blank_on : (at : ℕ) (k : Item) (w t : Bytes) → Next Spells t k w u → ends_blank ((k, w) ∷ []) ≡ true → Reads (at + length (w ++ [])) u ts → Reads at ((w ++ []) ++ (s ++ u)) (tokens_of at ((k, w) ∷ []) ++ moved (length s) ts)
  blank_on at item.Blank w t n e r =
      let run = n.is.spells in
      let blank : list_all is_blank w ≡ true = rw (run.parts, run.begins) run.goes in
      let m : Next Spells (w ++ u) item.Blank w u = subst (λ (x : Bytes). Next Spells x item.Blank w u) n.parts n in
      let i = blank_next w s u (next_some t item.Blank w u n) (all_append is_blank w s blank space.blank) (behind_blank w u m) in
      let size : at + length (w ++ []) + length s ≡ at + length (w ++ s) = (let l = length-append w [] in let o = length-append w s in omega arith) in
      subst (λ (x : Bytes). Reads at (x ++ (s ++ u)) (moved (length s) ts)) (sym (append-nil w))
      (Reads.space i refl (subst (λ k. Reads k u (moved (length s) ts)) size (shifted (length s) (at + length (w ++ [])) u ts r)))
  blank_on at other w t n e r = absurd (let l : false ≡ true = e in cc)

  behind_space : (at : ℕ) (t : Bytes) (ps : List Piece) → Cut t ps u → ends_blank ps ≡ true → Reads (at + length (bytes_of ps)) u ts → Reads at (bytes_of ps ++ (s ++ u)) (tokens_of at ps ++ moved (length s) ts)
  behind_space at t ps Cut.none e r = absurd (let l : false ≡ true = e in cc)
  behind_space at t ps (Cut.more {kind = k} {w = w} n Cut.none) e r = blank_on at k w t n e r
  behind_space at t ps (Cut.more {kind = k} {w = w} {rest = rest} {ps = qs} n (Cut.more m c)) e r =
      let d : Cut rest qs u = Cut.more m c in
      let l = cut_last rest qs d e in
      let i : at + length (w ++ bytes_of qs) ≡ at + length w + length (bytes_of qs) = (let o = length-append w (bytes_of qs) in omega arith) in
      let parts : rest ≡ (l.front ++ (l.byte ∷ [])) ++ u = cut_parts rest qs u d ∙ ap (λ (x : Bytes). x ++ u) l.parts in
      let old : Next Spells (w ++ ((l.front ++ (l.byte ∷ [])) ++ u)) k w ((l.front ++ (l.byte ∷ [])) ++ u) = subst (λ (x : Bytes). Next Spells (w ++ x) k w x) parts (subst (λ (x : Bytes). Next Spells x k w rest) n.parts n) in
      let new = grows k w l.front u (s ++ u) l.byte l.blank old in
      let o : Next Spells (w ++ (bytes_of qs ++ (s ++ u))) k w (bytes_of qs ++ (s ++ u)) = subst (λ (x : Bytes). Next Spells (w ++ (x ++ (s ++ u))) k w (x ++ (s ++ u))) (sym l.parts) new in
      piece_on at k w qs o (behind_space (at + length w) rest qs (Cut.more m c) e (subst (λ i. Reads i u ts) i r))

  -- the comment takes up white space on its line
  line_on : (at : ℕ) (w t : Bytes) → Next Spells t item.LineComment w u → Reads (at + length w) u ts → Reads at (w ++ (s ++ u)) (moved (length s) ts)
  line_on at w t n r =
      let l = lined s in
      let blank : list_all is_blank (l.front ++ l.rest) ≡ true = subst (λ (x : Bytes). list_all is_blank x ≡ true) l.parts space.blank in
      let ascii = blank_ascii l.front (all_front is_blank l.front l.rest blank) in
      let i = line_next w u l.front l.rest old l.same_line ascii (ends l.rest l.ends) in
      let later = shifted (length l.front) (at + length w) (l.rest ++ u) (moved (length l.rest) ts) (some_in_front l.rest (all_behind is_blank l.front l.rest blank) (at + length w) u ts r) in
      let size : length l.rest + length l.front ≡ length s = (let k : length s ≡ length l.front + length l.rest = ap (λ (x : Bytes). length x) l.parts ∙ length-append l.front l.rest in omega arith) in
      let all : moved (length l.front) (moved (length l.rest) ts) ≡ moved (length s) ts = moved_twice (length l.front) (length l.rest) ts ∙ ap (λ n. moved n ts) size in
      let place : at + length w + length l.front ≡ at + length (w ++ l.front) = (let k = length-append w l.front in omega arith) in
      let text : w ++ (l.front ++ (l.rest ++ u)) ≡ w ++ (s ++ u) = ap (λ (x : Bytes). w ++ x) (sym (append_assoc l.front l.rest u) ∙ ap (λ (x : Bytes). x ++ u) (sym l.parts)) in
      subst (λ (x : Bytes). Reads at x (moved (length s) ts)) text
      (Reads.space i refl (subst (λ k. Reads k (l.rest ++ u) (moved (length s) ts)) place (subst (λ (x : List Token). Reads (at + length w + length l.front) (l.rest ++ u) x) all later)))
    where
      old : Next Spells (w ++ u) item.LineComment w u
      old = subst (λ (x : Bytes). Next Spells x item.LineComment w u) n.parts n

      ends : (b : Bytes) → ((h : ℕ) (x : Bytes) → b ≡ h ∷ x → is_not_line_feed h ≡ false) → (h : ℕ) (x : Bytes) → b ++ u ≡ h ∷ x → is_not_line_feed h ≡ false
      ends [] g h x e = line_end w u old h x e
      ends (d ∷ b) g h x e = subst (λ n. is_not_line_feed n ≡ false) (heads_are d h (b ++ u) x e) (g d b refl)

  -- an item with room behind it is the next one where the white space stands
  pub one_on : (at : ℕ) (k : Item) (w t rest : Bytes) (qs : List Piece) → Next Spells t k w rest → Cut rest qs u → (goes_on k w ≡ true → 0 < length (bytes_of qs)) → (k ≡ item.Decimal → list_all is_digit_or_bar w ≡ true → bytes_of qs ≡ 46 ∷ [] → ⊥) → Reads at u ts → Next Spells (w ++ (bytes_of qs ++ (s ++ u))) k w (bytes_of qs ++ (s ++ u))
  one_on at k w t rest qs n c behind no_point r =
      let parts = cut_parts rest qs u c in
      let old : Next Spells (w ++ (bytes_of qs ++ u)) k w (bytes_of qs ++ u) = subst (λ (x : Bytes). Next Spells (w ++ x) k w x) parts (subst (λ (x : Bytes). Next Spells x k w rest) n.parts n) in
      let sp = spaced s refl space.some space.blank in
      let tail = blank_tail k w (bytes_of qs) u old sp.more sp.first sp.blank (read_apart at u ts r) no_point in
      let new = next_stays (sp.first ∷ sp.more) k w (bytes_of qs) u old tail (λ e. token_string_stays w (bytes_of qs ++ u) (bytes_of qs ++ (sp.first ∷ sp.more))) behind in
      subst (λ (x : Bytes). Next Spells (w ++ (bytes_of qs ++ x)) k w (bytes_of qs ++ x)) (sym sp.parts) new

  last_on : (at : ℕ) (k : Item) (w t : Bytes) → Next Spells t k w u → has_room ((k, w) ∷ []) ≡ true → ends_blank ((k, w) ∷ []) ≡ false → Reads (at + length w) u ts → (k ≡ item.LineComment) ⊎ (k ≡ item.LineComment → ⊥)
      → Reads at ((w ++ []) ++ (s ++ u)) (tokens_of at ((k, w) ∷ []) ++ moved (length s) ts)
  last_on at k w t n h ends r (inl e) =
      let l = line_on at w t (subst (λ k. Next Spells t k w u) e n) r in
      subst (λ k. Reads at ((w ++ []) ++ (s ++ u)) (tokens_of at ((k, w) ∷ []) ++ moved (length s) ts)) (sym e)
      (subst (λ (x : Bytes). Reads at (x ++ (s ++ u)) (moved (length s) ts)) (sym (append-nil w)) l)
  last_on at k w t n h ends r (inr other) =
      let room = room_last k w h ends other in
      piece_on at k w [] (one_on (at + length w) k w t u [] n Cut.none room.behind room.no_point r) (in_front s space (at + length w) u ts r)

  behind : (at : ℕ) (t : Bytes) (ps : List Piece) → Cut t ps u → has_room ps ≡ true → ends_blank ps ≡ false → Reads (at + length (bytes_of ps)) u ts → Reads at (bytes_of ps ++ (s ++ u)) (tokens_of at ps ++ moved (length s) ts)
  behind at t ps Cut.none h ends r = let e : at + 0 ≡ at = omega arith in in_front s space at u ts (subst (λ i. Reads i u ts) e r)
  behind at t ps (Cut.more {kind = k} {w = w} n Cut.none) h ends r =
      let e : at + length (w ++ []) ≡ at + length w = (let l = length-append w [] in omega arith) in
      last_on at k w t n h ends (subst (λ i. Reads i u ts) e r) (is_line_item k)
  behind at t ps (Cut.more {kind = k} {w = w} {rest = rest} n (Cut.more {kind = j} {w = v} {ps = qs} m c)) h ends r =
      let d : Cut rest ((j, v) ∷ qs) u = Cut.more m c in
      let room = rooms k w rest (j, v) qs u d h ends in
      let e : at + length (w ++ (v ++ bytes_of qs)) ≡ at + length w + length (v ++ bytes_of qs) = (let l = length-append w (v ++ bytes_of qs) in omega arith) in
      let later = behind (at + length w) rest ((j, v) ∷ qs) (Cut.more m c) room.later room.later_ends (subst (λ i. Reads i u ts) e r) in
      piece_on at k w ((j, v) ∷ qs) (one_on (at + length (w ++ (v ++ bytes_of qs))) k w t rest ((j, v) ∷ qs) n d room.behind room.no_point r) later

  pub placed : (x : Bool) (at : ℕ) (t : Bytes) (ps : List Piece) → ends_blank ps ≡ x → Cut t ps u → has_room ps ≡ true → Reads (at + length (bytes_of ps)) u ts → Reads at (bytes_of ps ++ (s ++ u)) (tokens_of at ps ++ moved (length s) ts)
  placed true at t ps e c h r = behind_space at t ps c e r
  placed false at t ps e c h r = behind at t ps c h e r
