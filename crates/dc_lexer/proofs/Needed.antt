-- White space that changes tokens: behind an unfinished string, and behind a point behind a decimal integer without a suffix.
use Rattle.std.proofs.Common.{◌≡◌, ℕ, ◌+◌, ◌<◌, ◌≤◌, Bool, true, false, not, ◌&&◌, if◌then◌else◌, List, [], ◌∷◌, ◌++◌, ◌⊎◌, inl, inr, length, take, drop, ⊎_elim, refl, sym, ap, subst, ◌∙◌, append_assoc, append-nil, arith, length-append}
use Rattle.std.proofs.lemmas.Bool.{and_parts}
use Rattle.std.proofs.lemmas.Bool.Decides.{nat_tests}
use Rattle.std.proofs.Math.Seq.{take-append_seam}
use Rattle.std.specs.List.{list_all}
use Rattle.std.specs.Char.{is_ascii_digit}
use Rattle.dc_token.specs.Balance.{Bytes}
use Rattle.dc_token.specs.Bytes.{Run, is_blank, is_digit_or_bar, is_not_quote}
use Rattle.dc_token.specs.Numbers.{EndsPoint, IsDecimal, IsFloat}
use Rattle.dc_token.specs.Strings.{IsToQuote}
use Rattle.dc_token.specs.Items.{Spells, IsItem, Next}
use Rattle.dc_token.specs.Text.{Piece, Cut, bytes_of, tokens_of, is_token, token, Reads, mark_len, ReadsAs}
use Rattle.dc_token.specs.declared.token.Token.{Token}
use Rattle.dc_token.specs.declared.item.Item.{Item}
use Rattle.dc_token.specs.declared.item.Item.TheVariants as item
use Rattle.dc_lexer.specs.Cuts.{is_unfinished, is_point, is_float_apart, has_room, IsSpace, moved, with_space, count, RoomNeeded}
use Rattle.dc_lexer.proofs.OneKind.{then_space, then_token}
use Rattle.dc_lexer.proofs.Solid.{all_append}
use Rattle.dc_lexer.proofs.Agreeing.{is_closed, agrees}
use Rattle.dc_lexer.proofs.Gaps.{all_behind, blank_ends}
use Rattle.dc_lexer.proofs.Kept.{Unfinished}
use Rattle.dc_lexer.proofs.Placed.{one_on, next_some}
use Rattle.dc_lexer.proofs.WholeText.{cut_reads, counted, stays_unmarked, Marked, mark_or}

-- ---- an item that is longer than the first token

closed : (k : Item) → is_token k ≡ false → is_closed k ≡ true
closed item.Blank h = refl
closed item.LineComment h = refl
closed item.BlockComment h = refl
closed item.NestedComment h = refl
closed other h = absurd (let g : true ≡ false = h in cc)

abbrev first_spelling : List Token → Bytes
first_spelling [] = []
first_spelling (t ∷ ts) = t.spelling

too_long : (t : Bytes) (k : Item) (w r : Bytes) → t ≡ w ++ r → IsItem Spells k w r → is_token k ≡ true → (k ≡ item.Sign → ⊥) → (at : ℕ) (us : List Token) → Reads at t us → (first : Token) (more : List Token) → us ≡ first ∷ more → length first.spelling < length w → ⊥
too_long t k w r parts i yea no_sign at us Reads.end first more e less = absurd (cc)
too_long t k w r parts i yea no_sign at us (Reads.space {kind = j} {w = v} {rest = rest} n nay s) first more e less = ⊎_elim
    (λ same. absurd (let g : is_token j ≡ true = subst (λ i. is_token i ≡ true) same yea in let h : false ≡ true = sym nay ∙ g in cc))
    (λ p. no_sign p.0)
    (agrees t k w r parts i j v rest n.parts n.is (closed j nay))
too_long t k w r parts i yea no_sign at us (Reads.token_then {kind = j} {w = v} {rest = rest} n is s) first more e less =
    let f : v ≡ first.spelling = ap first_spelling e in
    let g : length v ≡ length first.spelling = ap (λ (x : Bytes). length x) f in
    let long = n.longest k w r parts i in omega arith

-- ---- an unfinished string

no_quote : (b : ℕ) → is_blank b ≡ true → is_not_quote b ≡ true
no_quote b h = grind (arith, nat_tests)

no_quotes : (s : Bytes) → list_all is_blank s ≡ true → list_all is_not_quote s ≡ true
no_quotes [] h = refl
no_quotes (b ∷ s) h = let p = and_parts (is_blank b) (list_all is_blank s) h in rw (no_quote b p.0) (no_quotes s p.1)

string_more : (letter : ℕ) (w u s : Bytes) → list_all is_blank s ≡ true → IsToQuote letter w u → Unfinished w → IsToQuote letter (w ++ s) u
string_more letter w u s blank q unshut = ⊎_elim (λ e. absurd (shut e)) (λ e. more e.0 e.1) q.closes
  where
    shut : q.closer ≡ 34 ∷ [] → ⊥
    shut e =
        let i : w ≡ letter ∷ 34 ∷ (q.inside ++ (34 ∷ [])) = q.parts ∙ ap (λ (x : Bytes). letter ∷ 34 ∷ (q.inside ++ x)) e in
        let all : list_all is_not_quote (q.inside ++ (34 ∷ [])) ≡ true = subst (λ (x : Bytes). list_all is_not_quote (drop 2 x) ≡ true) i unshut in
        let one : false ≡ true = all_behind is_not_quote q.inside (34 ∷ []) all in absurd (cc)

    more : q.closer ≡ [] → u ≡ [] → IsToQuote letter (w ++ s) u
    more e none =
        let i : w ≡ letter ∷ 34 ∷ q.inside = q.parts ∙ ap (λ (x : Bytes). letter ∷ 34 ∷ (q.inside ++ x)) e ∙ ap (λ (x : Bytes). letter ∷ 34 ∷ x) (append-nil q.inside) in
        record { inside = q.inside ++ s; closer = []; parts = ap (λ (x : Bytes). x ++ s) i ∙ ap (λ (x : Bytes). letter ∷ 34 ∷ x) (sym (append-nil (q.inside ++ s))); goes = all_append is_not_quote q.inside s q.goes (no_quotes s blank); closes = inr (refl, none) }

long_quote : (letter : ℕ) (w u : Bytes) → IsToQuote letter w u → 1 < length w
long_quote letter w u q = rw q.parts (omega arith)

long_string : (k : Item) (w u : Bytes) → is_unfinished k w ≡ true → Spells k w u → 1 < length w
long_string item.Delimited w u h s = long_quote 113 w u s
long_string item.HexString w u h s = long_quote 120 w u s
long_string other w u h s = absurd (let g : false ≡ true = h in cc)

not_false : (x : Bool) → not x ≡ false → x ≡ true
not_false true h = refl
not_false false h = absurd (let l : true ≡ false = h in cc)

second_false : (x y : Bool) → not x && not y ≡ false → x ≡ false → y ≡ true
second_false x true h e = refl
second_false true false h e = absurd (let l : true ≡ false = e in cc)
second_false false false h e = absurd (let l : true ≡ false = h in cc)

point_is : (v : Bytes) → is_point v ≡ true → v ≡ 46 ∷ []
point_is [] h = absurd (let g : false ≡ true = h in cc)
point_is (b ∷ []) h = let e : b ≡ 46 = grind (arith, nat_tests) in cc
point_is (b ∷ c ∷ v) h = absurd (let g : false ≡ true = h in cc)

abbrev tail_of : List Token → List Token
tail_of [] = []
tail_of (t ∷ ts) = ts

module _ (s : Bytes) (space : IsSpace s) (u : Bytes) where
  longer : (w : Bytes) → length w < length (w ++ s)
  longer w = let l = length-append w s in let some = space.some in omega arith

  behind : (w : Bytes) → (w ++ []) ++ (s ++ u) ≡ (w ++ s) ++ u
  behind w = ap (λ (x : Bytes). x ++ (s ++ u)) (append-nil w) ∙ sym (append_assoc w s u)

  unfinished_changes : (k : Item) (w t : Bytes) → Next Spells t k w u → is_unfinished k w ≡ true → (at : ℕ) (more : List Token) → Reads at ((w ++ []) ++ (s ++ u)) (tokens_of at ((k, w) ∷ []) ++ more) → ⊥
  unfinished_changes item.Delimited w t n unshut at more r =
      let i : IsItem Spells item.Delimited (w ++ s) u = record { spells = string_more 113 w u s space.blank n.is.spells unshut; allowed = refl } in
      too_long ((w ++ []) ++ (s ++ u)) item.Delimited (w ++ s) u (behind w) i refl (λ e. cc) at _ r (token item.Delimited w at) more refl (longer w)
  unfinished_changes item.HexString w t n unshut at more r =
      let i : IsItem Spells item.HexString (w ++ s) u = record { spells = string_more 120 w u s space.blank n.is.spells unshut; allowed = refl } in
      too_long ((w ++ []) ++ (s ++ u)) item.HexString (w ++ s) u (behind w) i refl (λ e. cc) at _ r (token item.HexString w at) more refl (longer w)
  unfinished_changes other w t n unshut at more r = absurd (let g : false ≡ true = unshut in cc)

  -- ---- a point behind a decimal integer

  ends_there : (x : Bytes) → s ≡ x → 0 < length x → list_all is_blank x ≡ true → EndsPoint (s ++ u)
  ends_there [] e some all = absurd (omega arith)
  ends_there (c ∷ x) e some all = subst (λ (y : Bytes). EndsPoint (y ++ u)) (sym e) (blank_ends c (x ++ u) (and_parts (is_blank c) (list_all is_blank x) all).0)

  all_digits : (w : Bytes) → IsDecimal w → list_all is_digit_or_bar w ≡ true → Run is_ascii_digit is_digit_or_bar w
  all_digits w d all =
      let r = d.run in
      let i : w ≡ r.head ∷ (r.tail ++ d.suffix) = d.parts ∙ ap (λ (x : Bytes). x ++ d.suffix) r.parts in
      let a : list_all is_digit_or_bar (r.head ∷ (r.tail ++ d.suffix)) ≡ true = subst (λ (x : Bytes). list_all is_digit_or_bar x ≡ true) i all in
      record { head = r.head; tail = r.tail ++ d.suffix; parts = i; begins = r.begins; goes = (and_parts (is_digit_or_bar r.head) (list_all is_digit_or_bar (r.tail ++ d.suffix)) a).1 }

  float_there : (w : Bytes) → Run is_ascii_digit is_digit_or_bar w → IsItem Spells item.Float (w ++ (46 ∷ [])) (s ++ u)
  float_there w r =
      let f : IsFloat (w ++ (46 ∷ [])) (s ++ u) = record { digits = w; mark = 46; tail = []; parts = refl; run = r; marks = inr (refl, ends_there s refl space.some space.blank); goes = refl } in
      record { spells = f; allowed = refl }

  float_changes : (k j : Item) (w v t rest : Bytes) → Next Spells t k w rest → is_float_apart (k, w) (j, v) ≡ true → (at : ℕ) (more : List Token) → Reads at ((w ++ (v ++ [])) ++ (s ++ u)) (tokens_of at ((k, w) ∷ (j, v) ∷ []) ++ more) → ⊥
  float_changes item.Decimal j w v t rest n h at more r =
      let p = and_parts (list_all is_digit_or_bar w) (is_point v) h in
      let e : v ++ [] ≡ 46 ∷ [] = append-nil v ∙ point_is v p.1 in
      let i = float_there w (all_digits w n.is.spells p.0) in
      too_long ((w ++ (v ++ [])) ++ (s ++ u)) item.Float (w ++ (46 ∷ [])) (s ++ u) (ap (λ (x : Bytes). (w ++ x) ++ (s ++ u)) e) i refl (λ e. cc) at _ r (token item.Decimal w at) (tokens_of (at + length w) ((j, v) ∷ []) ++ more) refl (let l = length-append w (46 ∷ []) in omega arith)
  float_changes other j w v t rest n h at more r = absurd (let g : false ≡ true = h in cc)

  -- ---- what is read behind the first piece

  step_back : (at : ℕ) (k : Item) (w : Bytes) (qs : List Piece) (more : List Token) → Next Spells (w ++ (bytes_of qs ++ (s ++ u))) k w (bytes_of qs ++ (s ++ u)) → Reads at ((w ++ bytes_of qs) ++ (s ++ u)) (tokens_of at ((k, w) ∷ qs) ++ more) → Reads (at + length w) (bytes_of qs ++ (s ++ u)) (tokens_of (at + length w) qs ++ more)
  step_back at k w qs more n r = by (is_token k) refl (subst (λ (x : Bytes). Reads at x (tokens_of at ((k, w) ∷ qs) ++ more)) (append_assoc w (bytes_of qs) (s ++ u)) r)
    where
      by : (x : Bool) → is_token k ≡ x → Reads at (w ++ (bytes_of qs ++ (s ++ u))) ((if x then token k w at ∷ tokens_of (at + length w) qs else tokens_of (at + length w) qs) ++ more) → Reads (at + length w) (bytes_of qs ++ (s ++ u)) (tokens_of (at + length w) qs ++ more)
      by true yea r =
          let b = then_token at (w ++ (bytes_of qs ++ (s ++ u))) k w (bytes_of qs ++ (s ++ u)) (token k w at ∷ (tokens_of (at + length w) qs ++ more)) n yea r in
          subst (λ (x : List Token). Reads (at + length w) (bytes_of qs ++ (s ++ u)) x) (sym (ap tail_of b.parts)) b.reads
      by false nay r = then_space at (w ++ (bytes_of qs ++ (s ++ u))) k w (bytes_of qs ++ (s ++ u)) (tokens_of (at + length w) qs ++ more) n nay r

  module _ (i : ℕ) (ts : List Token) (readable : Reads i u ts) where
    changes : (at : ℕ) (t : Bytes) (ps : List Piece) → Cut t ps u → has_room ps ≡ false → (more : List Token) → Reads at (bytes_of ps ++ (s ++ u)) (tokens_of at ps ++ more) → ⊥
    changes at t ps Cut.none h more r = absurd (let g : true ≡ false = h in cc)
    changes at t ps (Cut.more {kind = k} {w = w} n Cut.none) h more r = unfinished_changes k w t n (not_false (is_unfinished k w) h) at more r
    changes at t ps (Cut.more {kind = k} {w = w} {rest = rest} n (Cut.more {kind = j} {w = v} m Cut.none)) h more r = by (is_unfinished j v) refl
      where
        by : (x : Bool) → is_unfinished j v ≡ x → ⊥
        by true e =
            let l = long_string j v u e m.is.spells in
            let o = length-append v [] in
            let one = one_on s space u ts i k w t rest ((j, v) ∷ []) n (Cut.more m Cut.none) (λ g. omega arith) (λ f d g. absurd (let k : length (v ++ []) ≡ 1 = ap (λ (x : Bytes). length x) g in omega arith)) readable in
            unfinished_changes j v rest m e (at + length w) more (step_back at k w ((j, v) ∷ []) more one r)
        by false e = float_changes k j w v t rest n (second_false (is_unfinished j v) (is_float_apart (k, w) (j, v)) h e) at more r
    changes at t ps (Cut.more {kind = k} {w = w} {rest = rest} n (Cut.more {kind = j} {w = v} m (Cut.more {kind = g} {w = x} {ps = qs} o c))) h more r =
        let a = next_some _ j v _ m in
        let b = next_some _ g x _ o in
        let l = length-append v (x ++ bytes_of qs) in
        let p = length-append x (bytes_of qs) in
        let one = one_on s space u ts i k w t rest ((j, v) ∷ (g, x) ∷ qs) n (Cut.more m (Cut.more o c)) (λ e. omega arith) (λ f d e. absurd (let size : length (v ++ (x ++ bytes_of qs)) ≡ 1 = ap (λ (y : Bytes). length y) e in omega arith)) readable in
        changes (at + length w) rest ((j, v) ∷ (g, x) ∷ qs) (Cut.more m (Cut.more o c)) h more (step_back at k w ((j, v) ∷ (g, x) ∷ qs) more one r)

-- ---- the law

module _ (s : Bytes) (space : IsSpace s) (ps : List Piece) (u : Bytes) (none : has_room ps ≡ false) where
  -- from an offset on
  from : (at : ℕ) (t : Bytes) (ts more : List Token) → Reads at t ts → Cut t ps u → Reads at (bytes_of ps ++ (s ++ u)) (take (count ps) ts ++ more) → ⊥
  from at t ts more r c x =
      let d = cut_reads at t ps u c ts r in
      let n = counted at ps in
      let first : take (count ps) ts ≡ tokens_of at ps = ap (λ i. take i ts) (sym n) ∙ ap (λ (x : List Token). take (length (tokens_of at ps)) x) d.parts ∙ take-append_seam (tokens_of at ps) d.rest in
      changes s space u (at + length (bytes_of ps)) d.rest d.reads at t ps c none more (subst (λ (y : List Token). Reads at (bytes_of ps ++ (s ++ u)) (y ++ more)) first x)

  unmarked : (text : Bytes) (ts more : List Token) → mark_len text ≡ 0 → ReadsAs text ts → Cut (drop (mark_len text) text) ps u → ReadsAs (with_space text ps s u) (take (count ps) ts ++ more) → ⊥
  unmarked text ts more e r c x =
      let r0 : Reads 0 text ts = subst (λ i. Reads i (drop i text) ts) e r in
      let c0 : Cut text ps u = subst (λ i. Cut (drop i text) ps u) e c in
      let m = stays_unmarked s space ps u text e c0 in
      let x0 : ReadsAs (bytes_of ps ++ (s ++ u)) (take (count ps) ts ++ more) = subst (λ i. ReadsAs (take i text ++ (bytes_of ps ++ (s ++ u))) (take (count ps) ts ++ more)) e x in
      from 0 text ts more r0 c0 (subst (λ i. Reads i (drop i (bytes_of ps ++ (s ++ u))) (take (count ps) ts ++ more)) m x0)

  by_mark : (text : Bytes) (ts more : List Token) → (mark_len text ≡ 0) ⊎ Marked text → ReadsAs text ts → Cut (drop (mark_len text) text) ps u → ReadsAs (with_space text ps s u) (take (count ps) ts ++ more) → ⊥
  by_mark text ts more (inl e) r c x = unmarked text ts more e r c x
  by_mark text ts more (inr m) r c x =
      from 3 m.rest ts more (subst (λ (y : Bytes). ReadsAs y ts) m.parts r) (subst (λ (y : Bytes). Cut (drop (mark_len y) y) ps u) m.parts c)
      (subst (λ (y : Bytes). ReadsAs (with_space y ps s u) (take (count ps) ts ++ more)) m.parts x)

pub room_needed : RoomNeeded
room_needed text ts ps u s r c none space x = by_mark s space ps u none text ts (moved (length s) (drop (count ps) ts)) (mark_or text) r c x
