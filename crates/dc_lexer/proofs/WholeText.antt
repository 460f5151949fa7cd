-- White space in a whole text.
use Rattle.std.proofs.Common.{◌≡◌, ℕ, ◌+◌, ◌<◌, Bool, true, false, ◌&&◌, ◌==◌, if◌then◌else◌, List, [], ◌∷◌, ◌++◌, ◌⊎◌, inl, inr, length, take, drop, refl, sym, ap, subst, ◌∙◌, arith, length-append}
use Rattle.std.proofs.lemmas.Bool.{and_parts}
use Rattle.std.proofs.Math.Seq.{take-append_seam, drop-append_seam}
use Rattle.std.specs.List.{list_all}
use Rattle.dc_token.specs.Balance.{Bytes}
use Rattle.dc_token.specs.Bytes.{is_blank}
use Rattle.dc_token.specs.Text.{Piece, Cut, bytes_of, tokens_of, is_token, token, Reads, mark_len, ReadsAs}
use Rattle.dc_token.specs.declared.token.Token.{Token}
use Rattle.dc_lexer.specs.Cuts.{has_room, IsSpace, moved, with_space, count, SpaceMoves}
use Rattle.dc_lexer.proofs.SignTable.{equal}
use Rattle.dc_lexer.proofs.OneKind.{then_space, then_token}
use Rattle.dc_lexer.proofs.Placed.{cut_parts, ends_blank, placed}

-- ---- the tokens of pieces are the first ones

pub record Read (at : ℕ) (ps : List Piece) (u : Bytes) (ts : List Token) : Type 0 where
  pub rest : List Token
  pub parts : ts ≡ tokens_of at ps ++ rest
  pub reads : Reads (at + length (bytes_of ps)) u rest

pub cut_reads : (at : ℕ) (t : Bytes) (ps : List Piece) (u : Bytes) → Cut t ps u → (ts : List Token) → Reads at t ts → Read at ps u ts
cut_reads at t ps u Cut.none ts r = let e : at ≡ at + 0 = omega arith in record { rest = ts; parts = refl; reads = subst (λ i. Reads i u ts) e r }
cut_reads at t ps u (Cut.more {kind = k} {w = w} {rest = rest} {ps = qs} n c) ts r = by (is_token k) refl (cut_reads (at + length w) rest qs u c)
  where
    size : at + length w + length (bytes_of qs) ≡ at + length (w ++ bytes_of qs)
    size = let l = length-append w (bytes_of qs) in omega arith

    by : (x : Bool) → is_token k ≡ x → ((us : List Token) → Reads (at + length w) rest us → Read (at + length w) qs u us) → Read at ((k, w) ∷ qs) u ts
    by true yea later =
        let b = then_token at t k w rest ts n yea r in
        let l = later b.more b.reads in
        record { rest = l.rest; parts = rw yea (b.parts ∙ ap (λ (x : List Token). token k w at ∷ x) l.parts); reads = subst (λ i. Reads i u l.rest) size l.reads }
    by false nay later =
        let l = later ts (then_space at t k w rest ts n nay r) in
        record { rest = l.rest; parts = rw nay l.parts; reads = subst (λ i. Reads i u l.rest) size l.reads }

pub counted : (at : ℕ) (ps : List Piece) → length (tokens_of at ps) ≡ count ps
counted at [] = refl
counted at (p ∷ ps) = by (is_token p.0) (counted (at + length p.1) ps)
  where
    by : (x : Bool) → length (tokens_of (at + length p.1) ps) ≡ count ps → length (if x then token p.0 p.1 at ∷ tokens_of (at + length p.1) ps else tokens_of (at + length p.1) ps) ≡ (if x then 1 + count ps else count ps)
    by true e = omega arith
    by false e = e

-- ---- the mark at the front

-- one of the three bytes is white space
record HasBlank (a b c : ℕ) : Type 0 where
  is : (is_blank a ≡ true) ⊎ ((is_blank b ≡ true) ⊎ (is_blank c ≡ true))

no_marks : (a b c : ℕ) → HasBlank a b c → (a == 239 && b == 187 && c == 191) ≡ false
no_marks a b c h = by (a == 239 && b == 187 && c == 191) refl h.is
  where
    blank : (n k : ℕ) → (n == k) ≡ true → is_blank n ≡ true → is_blank k ≡ true
    blank n k e b = subst (λ i. is_blank i ≡ true) (equal n k e) b

    by : (x : Bool) → (a == 239 && b == 187 && c == 191) ≡ x → (is_blank a ≡ true) ⊎ ((is_blank b ≡ true) ⊎ (is_blank c ≡ true)) → x ≡ false
    by false e o = refl
    by true e o = let p = and_parts (a == 239 && b == 187) (c == 191) e in let q = and_parts (a == 239) (b == 187) p.0 in absurd (of q.0 q.1 p.1 o)
      where
        of : (a == 239) ≡ true → (b == 187) ≡ true → (c == 191) ≡ true → (is_blank a ≡ true) ⊎ ((is_blank b ≡ true) ⊎ (is_blank c ≡ true)) → ⊥
        of i j k (inl o) = absurd (let g : false ≡ true = blank a 239 i o in cc)
        of i j k (inr (inl o)) = absurd (let g : false ≡ true = blank b 187 j o in cc)
        of i j k (inr (inr o)) = absurd (let g : false ≡ true = blank c 191 k o in cc)

no_mark : (p u z : Bytes) (c : ℕ) → is_blank c ≡ true → mark_len (p ++ u) ≡ 0 → mark_len (p ++ (c ∷ z)) ≡ 0
no_mark [] u [] c b e = refl
no_mark [] u (d ∷ []) c b e = refl
no_mark [] u (d ∷ f ∷ z) c b e = rw (no_marks c d f (record { is = inl b })) refl
no_mark (g ∷ []) u [] c b e = refl
no_mark (g ∷ []) u (d ∷ z) c b e = rw (no_marks g c d (record { is = inr (inl b) })) refl
no_mark (g ∷ h ∷ []) u z c b e = rw (no_marks g h c (record { is = inr (inr b) })) refl
no_mark (g ∷ h ∷ i ∷ p) u z c b e = e

-- a text has the mark or not
pub record Marked (text : Bytes) : Type 0 where
  pub rest : Bytes
  pub parts : text ≡ 239 ∷ 187 ∷ 191 ∷ rest

abbrev three_or_none : Bool → ℕ
three_or_none x = if x then 3 else 0

pub mark_or : (text : Bytes) → (mark_len text ≡ 0) ⊎ Marked text
mark_or [] = inl refl
mark_or (a ∷ []) = inl refl
mark_or (a ∷ b ∷ []) = inl refl
mark_or (a ∷ b ∷ c ∷ t) = by (a == 239 && b == 187 && c == 191) refl
  where
    by : (x : Bool) → (a == 239 && b == 187 && c == 191) ≡ x → (three_or_none x ≡ 0) ⊎ Marked (a ∷ b ∷ c ∷ t)
    by false e = inl refl
    by true e =
        let p = and_parts (a == 239 && b == 187) (c == 191) e in
        let q = and_parts (a == 239) (b == 187) p.0 in
        inr (record { rest = t; parts = (let i = equal a 239 q.0 in let j = equal b 187 q.1 in let k = equal c 191 p.1 in cc) })

pub stays_unmarked : (s : Bytes) → IsSpace s → (ps : List Piece) (u text : Bytes) → mark_len text ≡ 0 → Cut text ps u → mark_len (bytes_of ps ++ (s ++ u)) ≡ 0
stays_unmarked s space ps u text none c = by s refl space.some space.blank
  where
    by : (x : Bytes) → s ≡ x → 0 < length x → list_all is_blank x ≡ true → mark_len (bytes_of ps ++ (s ++ u)) ≡ 0
    by [] e some all = absurd (omega arith)
    by (b ∷ x) e some all =
        let old : mark_len (bytes_of ps ++ u) ≡ 0 = ap mark_len (sym (cut_parts text ps u c)) ∙ none in
        ap (λ (y : Bytes). mark_len (bytes_of ps ++ (y ++ u))) e ∙ no_mark (bytes_of ps) u (x ++ u) b (and_parts (is_blank b) (list_all is_blank x) all).0 old

-- ---- the law

module _ (s : Bytes) (space : IsSpace s) (ps : List Piece) (u : Bytes) (room : has_room ps ≡ true) where
  -- from an offset on
  from : (at : ℕ) (t : Bytes) (ts : List Token) → Reads at t ts → Cut t ps u → Reads at (bytes_of ps ++ (s ++ u)) (take (count ps) ts ++ moved (length s) (drop (count ps) ts))
  from at t ts r c =
      let d = cut_reads at t ps u c ts r in
      let n = counted at ps in
      let first : take (count ps) ts ≡ tokens_of at ps = ap (λ i. take i ts) (sym n) ∙ ap (λ (x : List Token). take (length (tokens_of at ps)) x) d.parts ∙ take-append_seam (tokens_of at ps) d.rest in
      let last : drop (count ps) ts ≡ d.rest = ap (λ i. drop i ts) (sym n) ∙ ap (λ (x : List Token). drop (length (tokens_of at ps)) x) d.parts ∙ drop-append_seam (tokens_of at ps) d.rest in
      let all = placed s space u d.rest (ends_blank ps) at t ps refl c room d.reads in
      subst (λ (x : List Token). Reads at (bytes_of ps ++ (s ++ u)) (x ++ moved (length s) (drop (count ps) ts))) (sym first)
      (subst (λ (x : List Token). Reads at (bytes_of ps ++ (s ++ u)) (tokens_of at ps ++ moved (length s) x)) (sym last) all)

  unmarked : (text : Bytes) (ts : List Token) → mark_len text ≡ 0 → ReadsAs text ts → Cut (drop (mark_len text) text) ps u → ReadsAs (with_space text ps s u) (take (count ps) ts ++ moved (length s) (drop (count ps) ts))
  unmarked text ts none r c =
      let r0 : Reads 0 text ts = subst (λ i. Reads i (drop i text) ts) none r in
      let c0 : Cut text ps u = subst (λ i. Cut (drop i text) ps u) none c in
      let m = stays_unmarked s space ps u text none c0 in
      subst (λ i. ReadsAs (take i text ++ (bytes_of ps ++ (s ++ u))) (take (count ps) ts ++ moved (length s) (drop (count ps) ts))) (sym none)
      (subst (λ i. Reads i (drop i (bytes_of ps ++ (s ++ u))) (take (count ps) ts ++ moved (length s) (drop (count ps) ts))) (sym m) (from 0 text ts r0 c0))

  marked : (rest : Bytes) (ts : List Token) → ReadsAs (239 ∷ 187 ∷ 191 ∷ rest) ts → Cut rest ps u → ReadsAs (with_space (239 ∷ 187 ∷ 191 ∷ rest) ps s u) (take (count ps) ts ++ moved (length s) (drop (count ps) ts))
  marked rest ts r c = from 3 rest ts r c

  by_mark : (text : Bytes) (ts : List Token) → (mark_len text ≡ 0) ⊎ Marked text → ReadsAs text ts → Cut (drop (mark_len text) text) ps u → ReadsAs (with_space text ps s u) (take (count ps) ts ++ moved (length s) (drop (count ps) ts))
  by_mark text ts (inl none) r c = unmarked text ts none r c
  by_mark text ts (inr m) r c =
      subst (λ (x : Bytes). ReadsAs (with_space x ps s u) (take (count ps) ts ++ moved (length s) (drop (count ps) ts))) (sym m.parts)
      (marked m.rest ts (subst (λ (x : Bytes). ReadsAs x ts) m.parts r) (subst (λ (x : Bytes). Cut (drop (mark_len x) x) ps u) m.parts c))

pub space_moves : SpaceMoves
space_moves text ts ps u s r c room space = by_mark s space ps u room text ts (mark_or text) r c
