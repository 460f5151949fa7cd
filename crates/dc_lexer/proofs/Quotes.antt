-- Strings up to a quote, and characters.
use Rattle.std.proofs.Common.{◌≡◌, ◌≢◌, ℕ, suc, ◌+◌, ◌-◌, ◌<◌, ◌≤◌, Bool, true, false, cond, not, ◌||◌, ◌==◌, ◌⊎◌, inl, inr, Option, Some, None, [], ◌∷◌, ◌++◌, length, take, drop, get_or, ⊎_elim, refl, sym, ap, subst, ◌∙◌, append_assoc, append-nil, lit<, arith, length-append, length-drop}
use Rattle.std.proofs.lemmas.Bool.Decides.{nat_tests}
use Rattle.std.proofs.lemmas.Str.{encode_same, encode_ascii, char_from_byte}
use Rattle.std.proofs.lemmas.List.{take-append-drop, length-take-le}
use Rattle.std.proofs.lemmas.List.Sums.{prefix_len-le-length}
use Rattle.std.specs.List.{prefix_len, list_all}
use Rattle.std.specs.Char.{encode_utf8}
use Rattle.bstr.specs.Utf8.{decoded}
use Rattle.bstr.proofs.lemmas.EncodeLemmas.{decoded-encode}
use Rattle.bstr.proofs.lemmas.SoundLemmas.{SpellsChar-decoded}
use Rattle.dc_token.specs.Balance.{Bytes}
use Rattle.dc_token.specs.Bytes.{begins, is_not_quote}
use Rattle.dc_token.specs.Escapes.{escape}
use Rattle.dc_token.specs.Strings.{IsToQuote, IsOneCharacter, IsOneEscape, IsCharacter}
use Rattle.dc_token.proofs.Lists.{inside, one_more, drop_more, take_more, take_front}
use Rattle.dc_lexer.specs.Fronts.{Longest, CharacterBody, past}
use Rattle.dc_lexer.specs.declared.set.Set.TheVariants as set
use Rattle.dc_lexer.proofs.Runs.{taken, reach}
use Rattle.dc_lexer.proofs.Comments.{begun}
use Rattle.dc_lexer.proofs.Numbers.{prefix_stops}
use Rattle.dc_lexer.proofs.Names.{positive}

-- ---- to the next quote

quote_tail : (a : ℕ) (t w u v : Bytes) → a ∷ 34 ∷ t ≡ w ++ u → w ≡ a ∷ 34 ∷ v → t ≡ v ++ u
quote_tail a t w u v p q = let e : a ∷ 34 ∷ t ≡ a ∷ 34 ∷ (v ++ u) = p ∙ ap (λ (x : Bytes). x ++ u) q in cc

-- the byte behind the run is a quote
run_ends : (t : Bytes) → prefix_len is_not_quote t < length t → get_or t (prefix_len is_not_quote t) 0 ≡ 34
run_ends [] h = absurd (omega arith)
run_ends (b ∷ t) h = go (b == 34) refl h (run_ends t)
  where
    go : (x : Bool) → (b == 34) ≡ x → cond (not x) (1 + prefix_len is_not_quote t) 0 < suc (length t) → (prefix_len is_not_quote t < length t → get_or t (prefix_len is_not_quote t) 0 ≡ 34) → get_or (b ∷ t) (cond (not x) (1 + prefix_len is_not_quote t) 0) 0 ≡ 34
    go true e h more = grind (arith, nat_tests)
    go false e h more = let s : 1 + prefix_len is_not_quote t ≡ suc (prefix_len is_not_quote t) = omega arith in rw s (more (omega arith))

module _ (a : ℕ) (t : Bytes) where
  abbrev run : ℕ
  run = prefix_len is_not_quote t

  reaches : (w u : Bytes) → (s : IsToQuote a w u) → a ∷ 34 ∷ t ≡ w ++ u → (length w ≡ suc (suc (length s.inside + length s.closer))) × (t ≡ s.inside ++ (s.closer ++ u))
  reaches w u s parts = (
    ap (λ (x : Bytes). length x) s.parts ∙ ap (λ k. suc (suc k)) (length-append s.inside s.closer),
    quote_tail a t w u (s.inside ++ s.closer) parts s.parts ∙ append_assoc s.inside s.closer u,
  )

  stops : (inside x : Bytes) → t ≡ inside ++ (34 ∷ x) → list_all is_not_quote inside ≡ true → run ≡ length inside
  stops inside x parts goes = ap (λ (y : Bytes). prefix_len is_not_quote y) parts ∙ prefix_stops is_not_quote inside x 34 goes refl

  all_of : (inside : Bytes) → t ≡ inside → list_all is_not_quote inside ≡ true → length inside ≤ run
  all_of inside parts goes = subst (λ (y : Bytes). length inside ≤ prefix_len is_not_quote y) (append-nil inside ∙ sym parts) (reach is_not_quote inside [] goes)

  with_quote : run < length t → Longest (IsToQuote a) (a ∷ 34 ∷ t) (2 + run + 1)
  with_quote lt =
      let e : 2 + run + 1 ≡ suc (suc (run + 1)) = omega arith in
      let one : take 1 (drop run t) ≡ 34 ∷ [] = ap (λ (x : Bytes). take 1 x) (one_more t run lt) ∙ ap (λ b. b ∷ []) (run_ends t lt) in
      record {
        within = omega arith;
        is = λ _. rw e (record { inside = take run t; closer = 34 ∷ []; parts = ap (λ (x : Bytes). a ∷ 34 ∷ x) (take_more run 1 t ∙ ap (λ (x : Bytes). take run t ++ x) one); goes = taken is_not_quote t; closes = inl refl });
        longest = λ w u parts s. (let r = reaches w u s parts in longest w u s r.0 r.1 s.closes);
      }
    where
      longest : (w u : Bytes) → (s : IsToQuote a w u) → length w ≡ suc (suc (length s.inside + length s.closer)) → t ≡ s.inside ++ (s.closer ++ u) → (s.closer ≡ 34 ∷ []) ⊎ ((s.closer ≡ []) × (u ≡ [])) → length w ≤ 2 + run + 1
      longest w u s size whole (inl c) =
          let p : t ≡ s.inside ++ (34 ∷ u) = whole ∙ ap (λ (x : Bytes). s.inside ++ (x ++ u)) c in
          let q = stops s.inside u p s.goes in let l : length s.closer ≡ 1 = ap (λ (x : Bytes). length x) c in omega arith
      longest w u s size whole (inr c) =
          let p : t ≡ s.inside = whole ∙ ap (λ (x : Bytes). s.inside ++ (x ++ u)) c.0 ∙ ap (λ (x : Bytes). s.inside ++ x) c.1 ∙ append-nil s.inside in
          let q = all_of s.inside p s.goes in let l : length s.closer ≡ 0 = ap (λ (x : Bytes). length x) c.0 in omega arith

  to_end : length t ≤ run → Longest (IsToQuote a) (a ∷ 34 ∷ t) (2 + run)
  to_end past =
      let short = prefix_len-le-length is_not_quote t in
      let e : 2 + run ≡ suc (suc run) = omega arith in
      record {
        within = omega arith;
        is = λ _. rw e (record { inside = take run t; closer = []; parts = ap (λ (x : Bytes). a ∷ 34 ∷ x) (sym (append-nil (take run t))); goes = taken is_not_quote t; closes = inr (refl, none short) });
        longest = λ w u parts s. (let r = reaches w u s parts in longest w u s r.0 r.1 s.closes);
      }
    where
      none : run ≤ length t → drop run t ≡ []
      none short = empty (drop run t) (length-drop run t ∙ (omega arith))
        where
          empty : (x : Bytes) → length x ≡ 0 → x ≡ []
          empty [] h = refl
          empty (b ∷ x) h = absurd (omega arith)

      longest : (w u : Bytes) → (s : IsToQuote a w u) → length w ≡ suc (suc (length s.inside + length s.closer)) → t ≡ s.inside ++ (s.closer ++ u) → (s.closer ≡ 34 ∷ []) ⊎ ((s.closer ≡ []) × (u ≡ [])) → length w ≤ 2 + run
      longest w u s size whole (inl c) =
          let p : t ≡ s.inside ++ (34 ∷ u) = whole ∙ ap (λ (x : Bytes). s.inside ++ (x ++ u)) c in
          let q = stops s.inside u p s.goes in
          let l : length t ≡ length s.inside + suc (length u) = ap (λ (x : Bytes). length x) p ∙ length-append s.inside (34 ∷ u) in absurd (omega arith)
      longest w u s size whole (inr c) =
          let p : t ≡ s.inside = whole ∙ ap (λ (x : Bytes). s.inside ++ (x ++ u)) c.0 ∙ ap (λ (x : Bytes). s.inside ++ x) c.1 ∙ append-nil s.inside in
          let q = all_of s.inside p s.goes in let l : length s.closer ≡ 0 = ap (λ (x : Bytes). length x) c.0 in omega arith

opener : (z : Bytes) (a : ℕ) → get_or z 0 0 ≡ a → begins a 34 z ≡ true → z ≡ get_or z 0 0 ∷ 34 ∷ drop 2 z
opener z a e h = begun a 34 z h ∙ ap (λ b. b ∷ 34 ∷ drop 2 z) (sym e)

pub quote_found : (z : Bytes) (n : ℕ) → begins (get_or z 0 0) 34 z ≡ true → n ≡ past set.NotQuote z 2 → n < length z → Longest (IsToQuote (get_or z 0 0)) z (n + 1)
quote_found z n h is lt =
    let a : ℕ = get_or z 0 0 in
    let whole = opener z a refl h in
    let size : length z ≡ suc (suc (length (drop 2 z))) = ap (λ (x : Bytes). length x) whole in
    let l = with_quote a (drop 2 z) (omega arith) in
    subst (λ k. Longest (IsToQuote a) z (k + 1)) (sym is) (subst (λ (x : Bytes). Longest (IsToQuote a) x (2 + prefix_len is_not_quote (drop 2 z) + 1)) (sym whole) l)

pub quote_open : (z : Bytes) (n : ℕ) → begins (get_or z 0 0) 34 z ≡ true → n ≡ past set.NotQuote z 2 → length z ≤ n → Longest (IsToQuote (get_or z 0 0)) z n
quote_open z n h is past_end =
    let a : ℕ = get_or z 0 0 in
    let whole = opener z a refl h in
    let size : length z ≡ suc (suc (length (drop 2 z))) = ap (λ (x : Bytes). length x) whole in
    let l = to_end a (drop 2 z) (omega arith) in
    subst (λ k. Longest (IsToQuote a) z k) (sym is) (subst (λ (x : Bytes). Longest (IsToQuote a) x (2 + prefix_len is_not_quote (drop 2 z))) (sym whole) l)

-- ---- what stands between the quotes of a character

head_92 : (t w u v : Bytes) (c : ℕ) → t ≡ w ++ u → w ≡ c ∷ v → get_or t 0 0 ≡ c
head_92 t w u v c p q = rw (p, q) refl

same_some : (a b : ℕ) (r : Option ℕ) → r ≡ Some a → r ≡ Some b → a ≡ b
same_some a b r e h = cc

some_none : (b : ℕ) (r : Option ℕ) → r ≡ None → r ≡ Some b → ⊥
some_none b r e h = cc

-- the head of a character's bytes is no backslash
back_char : (c : ℕ) (t u : Bytes) → t ≡ encode_utf8 c ++ u → get_or t 0 0 ≡ 92 → c ≡ 92
back_char c t u parts h =
    let some : 0 < length t = (let p = positive c in let l : length t ≡ length (encode_utf8 c) + length u = ap (λ (x : Bytes). length x) parts ∙ length-append (encode_utf8 c) u in omega arith) in
    let low : get_or t 0 0 < 128 = omega arith in
    char_from_byte t u c parts low some ∙ h

no_escape_there : (t w u : Bytes) → get_or t 0 0 ≢ 92 → t ≡ w ++ u → IsOneEscape w u → ⊥
no_escape_there t w u not_back parts e = not_back (head_92 t w u e.tail 92 parts e.parts)

pub escape_body : (t : Bytes) (n : ℕ) → get_or t 0 0 ≡ 92 → n ≡ escape (drop 1 t) → n ≤ length t → CharacterBody t n
escape_body t n h is within = record {
  within = within;
  found = λ some. inr (record { tail = take (n - 1) (drop 1 t); parts = split some; whole = whole some within });
  only = λ w u parts one. ⊎_elim (λ c. absurd (not_char w u parts c)) (λ e. an_escape w u parts e) one;
}
  where
    start : 0 < n → t ≡ 92 ∷ drop 1 t
    start some = one_more t 0 (omega arith) ∙ ap (λ b. b ∷ drop 1 t) h

    split : 0 < n → take n t ≡ 92 ∷ take (n - 1) (drop 1 t)
    split some = let e : n ≡ 1 + (n - 1) = omega arith in ap (λ k. take k t) e ∙ take_more 1 (n - 1) t ∙ ap (λ (x : Bytes). x ++ take (n - 1) (drop 1 t)) (ap (λ (x : Bytes). take 1 x) (start some))

    whole : 0 < n → n ≤ length t → escape (take (n - 1) (drop 1 t) ++ drop n t) ≡ 1 + length (take (n - 1) (drop 1 t))
    whole some fits =
        let e : drop n t ≡ drop (n - 1) (drop 1 t) = ap (λ k. drop k t) (let k : n ≡ 1 + (n - 1) = omega arith in k) ∙ sym (drop_more (n - 1) 1 t) in
        let l : length (take (n - 1) (drop 1 t)) ≡ n - 1 = length-take-le (n - 1) (drop 1 t) (let d = length-drop 1 t in omega arith) in
        let a : take (n - 1) (drop 1 t) ++ drop n t ≡ drop 1 t = ap (λ (x : Bytes). take (n - 1) (drop 1 t) ++ x) e ∙ take-append-drop (n - 1) (drop 1 t) in
        ap (λ (x : Bytes). escape x) a ∙ sym is ∙ (omega arith)

    not_char : (w u : Bytes) → t ≡ w ++ u → IsOneCharacter w → ⊥
    not_char w u parts c =
        let e : c.char ≡ 92 = back_char c.char t u (parts ∙ ap (λ (x : Bytes). x ++ u) c.parts) h in
        let k : (92 == 39 || 92 == 92) ≡ false = subst (λ x. (x == 39 || x == 92) ≡ false) e c.apart in absurd (let l : true ≡ false = k in cc)

    an_escape : (w u : Bytes) → t ≡ w ++ u → IsOneEscape w u → (0 < n) × (length w ≡ n)
    an_escape w u parts e =
        let d : drop 1 t ≡ e.tail ++ u = ap (λ (x : Bytes). drop 1 x) (parts ∙ ap (λ (x : Bytes). x ++ u) e.parts) in
        let k : n ≡ 1 + length e.tail = is ∙ ap (λ (x : Bytes). escape x) d ∙ e.whole in
        let l : length w ≡ suc (length e.tail) = ap (λ (x : Bytes). length x) e.parts in
        (omega arith, omega arith)

pub plain_body : (t : Bytes) (c n : ℕ) → (decoded t).char ≡ Some c → (decoded t).size ≡ n → c ≢ 39 → get_or t 0 0 ≢ 92 → CharacterBody t n
plain_body t c n is size no_quote no_back =
    let s = SpellsChar-decoded t c is in
    let bytes : t ≡ encode_utf8 c ++ drop n t = subst (λ k. t ≡ encode_utf8 c ++ drop k t) size s.bytes in
    let width : length (encode_utf8 c) ≡ n = s.width ∙ size in
    let whole : length t ≡ length (encode_utf8 c) + length (drop n t) = ap (λ (x : Bytes). length x) bytes ∙ length-append (encode_utf8 c) (drop n t) in
    record {
      within = omega arith;
      found = λ some. inl (record { char = c; scalar_value = s.scalar; apart = apart bytes; parts = ap (λ k. take k t) (sym width) ∙ ap (λ (x : Bytes). take (length (encode_utf8 c)) x) bytes ∙ take_front (encode_utf8 c) (drop n t) });
      only = λ w u parts one. ⊎_elim (λ d. same bytes width w u parts d) (λ e. absurd (no_escape_there t w u no_back parts e)) one;
    }
  where
    apart : t ≡ encode_utf8 c ++ drop n t → (c == 39 || c == 92) ≡ false
    apart bytes =
        let q : (c == 39) ≡ false = grind (arith, nat_tests) in
        let not_back : c ≢ 92 = λ e. no_back (ap (λ (x : Bytes). get_or x 0 0) bytes ∙ ap (λ k. get_or (encode_utf8 k ++ drop n t) 0 0) e ∙ ap (λ (x : Bytes). get_or (x ++ drop n t) 0 0) (encode_ascii 92 (lit< tt))) in
        let b : (c == 92) ≡ false = grind (arith, nat_tests) in
        rw (q, b) refl

    same : t ≡ encode_utf8 c ++ drop n t → length (encode_utf8 c) ≡ n → (w u : Bytes) → t ≡ w ++ u → IsOneCharacter w → (0 < n) × (length w ≡ n)
    same bytes width w u parts d =
        let e = encode_same d.char c u (drop n t) (ap (λ (x : Bytes). x ++ u) (sym d.parts) ∙ sym parts ∙ bytes) in
        let l : length w ≡ length (encode_utf8 c) = ap (λ (x : Bytes). length x) d.parts ∙ ap (λ k. length (encode_utf8 k)) e.0 in
        let p = positive c in (omega arith, omega arith)

decodes : (t w u : Bytes) → t ≡ w ++ u → (d : IsOneCharacter w) → (decoded t).char ≡ Some d.char
decodes t w u parts d = ap (λ (x : Bytes). (decoded x).char) (parts ∙ ap (λ (x : Bytes). x ++ u) d.parts) ∙ ap (λ p. p.char) (decoded-encode d.char u d.scalar_value)

no_body : (t : Bytes) → ((w u : Bytes) → t ≡ w ++ u → IsOneCharacter w → ⊥) → get_or t 0 0 ≢ 92 → CharacterBody t 0
no_body t none no_back = record {
  within = omega arith;
  found = λ some. absurd (omega arith);
  only = λ w u parts one. absurd (⊎_elim (λ d. none w u parts d) (λ e. no_escape_there t w u no_back parts e) one);
}

pub bad_body : (t : Bytes) → (decoded t).char ≡ None → get_or t 0 0 ≢ 92 → CharacterBody t 0
bad_body t is no_back = no_body t (λ w u parts d. some_none d.char (decoded t).char is (decodes t w u parts d)) no_back

pub quote_body : (t : Bytes) (c : ℕ) → (decoded t).char ≡ Some c → c ≡ 39 → get_or t 0 0 ≢ 92 → CharacterBody t 0
quote_body t c is quote no_back = no_body t (λ w u parts d. (
    let e : d.char ≡ 39 = same_some d.char c (decoded t).char (decodes t w u parts d) is ∙ quote in
    let k : (39 == 39 || 39 == 92) ≡ false = subst (λ x. (x == 39 || x == 92) ≡ false) e d.apart in absurd (let l : true ≡ false = k in cc))) no_back

-- ---- characters

at_front : (w x : Bytes) (c : ℕ) → get_or (w ++ (c ∷ x)) (length w) 0 ≡ c
at_front [] x c = refl
at_front (b ∷ w) x c = at_front w x c

character_size : (z : Bytes) (n : ℕ) → CharacterBody (drop 1 z) n → (w u : Bytes) → z ≡ w ++ u → IsCharacter w u → (0 < n) × (length w ≡ n + 2) × (get_or z (n + 1) 0 ≡ 39)
character_size z n b w u parts c =
    let whole : z ≡ 39 ∷ (c.inside ++ (39 ∷ u)) = parts ∙ ap (λ (x : Bytes). x ++ u) c.parts ∙ ap (λ (x : Bytes). 39 ∷ x) (append_assoc c.inside (39 ∷ []) u) in
    let o = b.only c.inside (39 ∷ u) (ap (λ (x : Bytes). drop 1 x) whole) c.one in
    let l : length w ≡ suc (length c.inside + 1) = ap (λ (x : Bytes). length x) c.parts ∙ ap (λ k. suc k) (length-append c.inside (39 ∷ [])) in
    let same = o.1 in
    let place : n + 1 ≡ suc (length c.inside) = omega arith in
    (o.0, omega arith, ap (λ k. get_or z k 0) place ∙ ap (λ (x : Bytes). get_or x (suc (length c.inside)) 0) whole ∙ at_front c.inside u 39)

pub character_none : (z : Bytes) (n : ℕ) → CharacterBody (drop 1 z) n → (n ≡ 0) ⊎ (get_or z (n + 1) 0 ≢ 39) → Longest IsCharacter z 0
character_none z n b neither = record {
  within = omega arith;
  is = λ h. absurd (omega arith);
  longest = λ w u parts c. (let s = character_size z n b w u parts c in absurd (⊎_elim (λ e. (let some = s.0 in omega arith)) (λ e. e s.2) neither));
}

pub character_some : (z : Bytes) (n : ℕ) → get_or z 0 0 ≡ 39 → CharacterBody (drop 1 z) n → n ≢ 0 → get_or z (n + 1) 0 ≡ 39 → Longest IsCharacter z (n + 2)
character_some z n first b some last =
    let lt : n + 1 < length z = inside z (n + 1) (λ e. absurd (let k : 39 ≡ 0 = sym last ∙ e in cc)) in
    let start : z ≡ 39 ∷ drop 1 z = one_more z 0 (omega arith) ∙ ap (λ x. x ∷ drop 1 z) first in
    let two : n + 1 + 1 ≡ n + 2 = omega arith in
    let rest : drop n (drop 1 z) ≡ 39 ∷ drop (n + 2) z = drop_more n 1 z ∙ ap (λ k. drop k z) (let k : 1 + n ≡ n + 1 = omega arith in k) ∙ one_more z (n + 1) lt ∙ ap (λ x. x ∷ drop (n + 1 + 1) z) last ∙ ap (λ k. 39 ∷ drop k z) two in
    let size : n + 2 ≡ 1 + (n + 1) = omega arith in
    let spelled : take (n + 2) z ≡ 39 ∷ (take n (drop 1 z) ++ (39 ∷ [])) =
    ap (λ k. take k z) size ∙ take_more 1 (n + 1) z ∙ ap (λ (x : Bytes). x ++ take (n + 1) (drop 1 z)) (ap (λ (x : Bytes). take 1 x) start) ∙ ap (λ (x : Bytes). 39 ∷ x) (take_more n 1 (drop 1 z) ∙ ap (λ (x : Bytes). take n (drop 1 z) ++ take 1 x) rest) in
    record {
      within = omega arith;
      is = λ _. record { inside = take n (drop 1 z); parts = spelled; one = subst (λ (x : Bytes). IsOneCharacter (take n (drop 1 z)) ⊎ IsOneEscape (take n (drop 1 z)) x) rest (b.found (let s = some in omega arith)) };
      longest = λ w u parts c. (let s = character_size z n b w u parts c in let e = s.1 in omega arith);
    }
