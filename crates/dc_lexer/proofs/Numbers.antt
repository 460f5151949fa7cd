-- Integers and floats.
use Rattle.std.proofs.Common.{◌≡◌, ℕ, suc, ◌+◌, ◌-◌, ◌<◌, ◌≤◌, Bool, true, false, cond, ◌&&◌, ◌||◌, ◌⊎◌, inl, inr, [], ◌∷◌, ◌++◌, length, take, drop, get_or, refl, sym, ap, subst, ◌∙◌, append_assoc, append-nil, arith, length-append, length-drop}
use Rattle.std.proofs.lemmas.Bool.Decides.{nat_tests}
use Rattle.std.proofs.lemmas.List.{take-append-drop}
use Rattle.std.proofs.lemmas.List.Sums.{prefix_len-le-length}
use Rattle.std.specs.List.{prefix_len, list_all}
use Rattle.std.specs.Char.{is_ascii_digit, encode_utf8}
use Rattle.dc_token.specs.Balance.{Bytes}
use Rattle.dc_token.specs.Bytes.{begins, is_digit_or_bar, is_word, Run}
use Rattle.dc_token.specs.Numbers.{is_number_suffix, is_long, is_unsigned, is_exponent, IsDecimal, IsFloat, EndsPoint}
use Rattle.dc_token.specs.Items.{PlainSpells, IsItem}
use Rattle.dc_lexer.specs.Leads.{can_begin}
use Rattle.dc_lexer.specs.Fronts.{Best, run, past, number_suffix, IsMark, Longest}
use Rattle.dc_lexer.proofs.Starts.{digit_class}
use Rattle.dc_lexer.proofs.Runs.{run_longest, taken, reach}
use Rattle.dc_token.proofs.Lists.{drop_front, one_more, drop_more, take_more}
use Rattle.dc_lexer.proofs.Finding.{best, first_can, run_past}
use Rattle.dc_lexer.proofs.Names.{positive}
use Rattle.dc_lexer.specs.declared.set.Set.TheVariants as set
use Rattle.dc_lexer.specs.declared.lead.Lead.TheVariants as lead_is
use Rattle.dc_token.specs.declared.item.Item.{Item}
use Rattle.dc_token.specs.declared.item.Item.TheVariants as item

abbrev pub digits_run : Bytes → ℕ
digits_run = run is_ascii_digit is_digit_or_bar

pub prefix_stops : (g : ℕ → Bool) (tail x : Bytes) (c : ℕ) → list_all g tail ≡ true → g c ≡ false → prefix_len g (tail ++ (c ∷ x)) ≡ length tail
prefix_stops g [] x c h stop = rw stop refl
prefix_stops g (b ∷ tail) x c h stop = go (g b) h (λ k. prefix_stops g tail x c k stop)
  where
    go : (y : Bool) → (y && list_all g tail) ≡ true → (list_all g tail ≡ true → prefix_len g (tail ++ (c ∷ x)) ≡ length tail) → cond y (1 + prefix_len g (tail ++ (c ∷ x))) 0 ≡ suc (length tail)
    go true h more = let e = more h in omega arith
    go false h more = absurd (let k : false ≡ true = h in cc)

-- the digits end where something else stands
digits_stop : (digits x : Bytes) (c : ℕ) → Run is_ascii_digit is_digit_or_bar digits → is_digit_or_bar c ≡ false → digits_run (digits ++ (c ∷ x)) ≡ length digits
digits_stop digits x c r stop = rw (r.parts, r.begins) (let e = prefix_stops is_digit_or_bar r.tail x c r.goes stop in omega arith)

-- what stands behind the digits
pub record Behind (t : Bytes) (n : ℕ) (digits x : Bytes) (c : ℕ) : Type 0 where
  pub size : length digits ≡ n
  pub mark : get_or t n 0 ≡ c
  pub rest : drop n t ≡ c ∷ x

pub at_front : (w x : Bytes) (c : ℕ) → get_or (w ++ (c ∷ x)) (length w) 0 ≡ c
at_front [] x c = refl
at_front (b ∷ w) x c = at_front w x c

behind : (t : Bytes) (n : ℕ) (digits x : Bytes) (c : ℕ) → n ≡ digits_run t → t ≡ digits ++ (c ∷ x) → Run is_ascii_digit is_digit_or_bar digits → is_digit_or_bar c ≡ false → Behind t n digits x c
behind t n digits x c is parts r stop =
    let size : length digits ≡ n = sym (is ∙ ap (λ (y : Bytes). digits_run y) parts ∙ digits_stop digits x c r stop) in
    record {
      size = size;
      mark = ap (λ (k : ℕ). get_or t k 0) (sym size) ∙ ap (λ (y : Bytes). get_or y (length digits) 0) parts ∙ at_front digits x c;
      rest = ap (λ (k : ℕ). drop k t) (sym size) ∙ ap (λ (y : Bytes). drop (length digits) y) parts ∙ drop_front digits (c ∷ x);
    }

-- ---- suffixes of integers

suffix_one : (b : ℕ) (x : Bool) (t : Bytes) → is_long b || is_unsigned b ≡ x → (cond x 1 0 ≤ suc (length t)) × (is_number_suffix (take (cond x 1 0) (b ∷ t)) ≡ true)
suffix_one b true t h = (omega arith, h)
suffix_one b false t h = (omega arith, refl)

suffix_two : (b c : ℕ) (x : Bool) (t : Bytes) → ((is_long b && is_unsigned c) || (is_unsigned b && is_long c)) ≡ x
    → (cond x 2 (cond (is_long b || is_unsigned b) 1 0) ≤ suc (suc (length t))) × (is_number_suffix (take (cond x 2 (cond (is_long b || is_unsigned b) 1 0)) (b ∷ c ∷ t)) ≡ true)
suffix_two b c true t h = (omega arith, h)
suffix_two b c false t h = suffix_one b (is_long b || is_unsigned b) (c ∷ t) refl

none_after : (x y : Bool) → ((x && false) || (y && false)) ≡ false
none_after true true = refl
none_after true false = refl
none_after false true = refl
none_after false false = refl

pub suffix_is : (t : Bytes) → (number_suffix t ≤ length t) × (is_number_suffix (take (number_suffix t) t) ≡ true)
unfolding number_suffix
suffix_is [] = (omega arith, refl)
suffix_is (b ∷ []) = rw (none_after (is_long b) (is_unsigned b)) (suffix_one b (is_long b || is_unsigned b) [] refl)
suffix_is (b ∷ c ∷ t) = suffix_two b c ((is_long b && is_unsigned c) || (is_unsigned b && is_long c)) t refl

pub suffix_reach : (s u : Bytes) → is_number_suffix s ≡ true → length s ≤ number_suffix (s ++ u)
unfolding number_suffix
suffix_reach [] u h = omega arith
suffix_reach (b ∷ []) u h = rw h (go ((is_long b && is_unsigned (get_or u 0 0)) || (is_unsigned b && is_long (get_or u 0 0))))
  where
    go : (x : Bool) → 1 ≤ cond x 2 1
    go true = omega arith
    go false = omega arith
suffix_reach (b ∷ c ∷ []) u h = rw h (omega arith)
suffix_reach (b ∷ c ∷ d ∷ s) u h = absurd (let k : false ≡ true = h in cc)

pub suffix_head : (b : ℕ) (s : Bytes) → is_number_suffix (b ∷ s) ≡ true → is_digit_or_bar b ≡ false
suffix_head b [] h = grind (arith, nat_tests)
suffix_head b (c ∷ []) h = grind (arith, nat_tests)
suffix_head b (c ∷ d ∷ s) h = absurd (let k : false ≡ true = h in cc)

pub decimal_longest : (t : Bytes) (n : ℕ) → n ≡ digits_run t → 1 ≤ n → Longest (λ w u. IsDecimal w) t (n + number_suffix (drop n t))
decimal_longest t n is some =
    let l = run_longest is_ascii_digit is_digit_or_bar t in
    let s = suffix_is (drop n t) in
    let size = length-drop n t in
    let within : n ≤ length t = subst (λ k. k ≤ length t) (sym is) l.within in
    let ran : Run is_ascii_digit is_digit_or_bar (take n t) = subst (λ k. Run is_ascii_digit is_digit_or_bar (take k t)) (sym is) (l.is (omega arith)) in
    let fits = s.0 in
    record {
      within = omega arith;
      is = λ _. record { digits = take n t; suffix = take (number_suffix (drop n t)) (drop n t); parts = take_more n (number_suffix (drop n t)) t; run = ran; ends = s.1 };
      longest = λ w u parts d. longest w u d.digits d.suffix (parts ∙ ap (λ (x : Bytes). x ++ u) d.parts ∙ append_assoc d.digits d.suffix u) d.parts d.run d.ends;
    }
  where
    longest : (w u digits suffix : Bytes) → t ≡ digits ++ (suffix ++ u) → w ≡ digits ++ suffix → Run is_ascii_digit is_digit_or_bar digits → is_number_suffix suffix ≡ true → length w ≤ n + number_suffix (drop n t)
    longest w u digits [] parts whole r ends =
        let a = (run_longest is_ascii_digit is_digit_or_bar t).longest digits u parts r in
        let b : length w ≡ length digits = ap (λ (x : Bytes). length x) (whole ∙ append-nil digits) in omega arith
    longest w u digits (c ∷ s) parts whole r ends =
        let b = behind t n digits (s ++ u) c is parts r (suffix_head c s ends) in
        let size : length w ≡ length digits + length (c ∷ s) = ap (λ (x : Bytes). length x) whole ∙ length-append digits (c ∷ s) in
        let z = b.size in
        let far : length (c ∷ s) ≤ number_suffix (drop n t) = subst (λ (x : Bytes). length (c ∷ s) ≤ number_suffix x) (sym b.rest) (suffix_reach (c ∷ s) u ends) in omega arith

-- ---- floats

pub mark_stops : (b : ℕ) → is_exponent b ≡ true → is_digit_or_bar b ≡ false
mark_stops b h = grind (arith, nat_tests)

float_mark : (w rest : Bytes) → (f : IsFloat w rest) → is_digit_or_bar f.mark ≡ false
float_mark w rest f = go f.marks
  where
    go : (is_exponent f.mark ≡ true) ⊎ ((f.mark ≡ 46) × EndsPoint (f.tail ++ rest)) → is_digit_or_bar f.mark ≡ false
    go (inl h) = mark_stops f.mark h
    go (inr h) = rw h.0 refl

pub float_behind : (t : Bytes) (n : ℕ) (w u : Bytes) → n ≡ digits_run t → t ≡ w ++ u → (f : IsFloat w u) → Behind t n f.digits (f.tail ++ u) f.mark
float_behind t n w u is parts f =
    behind t n f.digits (f.tail ++ u) f.mark is (parts ∙ ap (λ (x : Bytes). x ++ u) f.parts ∙ append_assoc f.digits (f.mark ∷ f.tail) u) f.run (float_mark w u f)

pub rest_after : (t : Bytes) (n c : ℕ) (x : Bytes) → drop n t ≡ c ∷ x → (drop (n + 1) t ≡ x) × (n < length t)
rest_after t n c x e = (sym (drop_more 1 n t) ∙ ap (λ (y : Bytes). drop 1 y) e, let l : length t - n ≡ suc (length x) = sym (length-drop n t) ∙ ap (λ (y : Bytes). length y) e in omega arith)

pub float_not : (t : Bytes) (n : ℕ) → n ≡ digits_run t → (IsMark t n → ⊥) → (w u : Bytes) → t ≡ w ++ u → IsFloat w u → ⊥
float_not t n is none w u parts f =
    let b = float_behind t n w u is parts f in
    let a = rest_after t n f.mark (f.tail ++ u) b.rest in
    none (record { within = a.1; marks = go b.mark a.0 f.marks })
  where
    go : get_or t n 0 ≡ f.mark → drop (n + 1) t ≡ f.tail ++ u → (is_exponent f.mark ≡ true) ⊎ ((f.mark ≡ 46) × EndsPoint (f.tail ++ u)) → (is_exponent (get_or t n 0) ≡ true) ⊎ ((get_or t n 0 ≡ 46) × EndsPoint (drop (n + 1) t))
    go m r (inl h) = inl (subst (λ x. is_exponent x ≡ true) (sym m) h)
    go m r (inr h) = inr (m ∙ h.0, subst (λ x. EndsPoint x) (sym r) h.1)

pub float_longest : (t : Bytes) (n : ℕ) → n ≡ digits_run t → 1 ≤ n → IsMark t n → Longest IsFloat t (n + 1 + prefix_len is_word (drop (n + 1) t))
float_longest t n is some m =
    let l = run_longest is_ascii_digit is_digit_or_bar t in
    let k : ℕ = prefix_len is_word (drop (n + 1) t) in
    let lt = m.within in
    let size = length-drop (n + 1) t in
    let short = prefix_len-le-length is_word (drop (n + 1) t) in
    let ran : Run is_ascii_digit is_digit_or_bar (take n t) = subst (λ k. Run is_ascii_digit is_digit_or_bar (take k t)) (sym is) (l.is (omega arith)) in
    let one : take 1 (drop n t) ≡ get_or t n 0 ∷ [] = ap (λ (x : Bytes). take 1 x) (one_more t n lt) in
    let e : n + 1 + k ≡ n + (1 + k) = omega arith in
    let whole : take (n + 1 + k) t ≡ take n t ++ (get_or t n 0 ∷ take k (drop (n + 1) t)) =
    take_more (n + 1) k t ∙ ap (λ (x : Bytes). x ++ take k (drop (n + 1) t)) (take_more n 1 t ∙ ap (λ (x : Bytes). take n t ++ x) one) ∙ append_assoc (take n t) (get_or t n 0 ∷ []) (take k (drop (n + 1) t)) in
    let back : take k (drop (n + 1) t) ++ drop (n + 1 + k) t ≡ drop (n + 1) t = ap (λ (x : Bytes). take k (drop (n + 1) t) ++ x) (sym (drop_more k (n + 1) t)) ∙ take-append-drop k (drop (n + 1) t) in
    record {
      within = omega arith;
      is = λ _. record {
        digits = take n t;
        mark = get_or t n 0;
        tail = take k (drop (n + 1) t);
        parts = whole;
        run = ran;
        marks = subst (λ (x : Bytes). (is_exponent (get_or t n 0) ≡ true) ⊎ ((get_or t n 0 ≡ 46) × EndsPoint x)) (sym back) m.marks;
        goes = taken is_word (drop (n + 1) t);
      };
      longest = λ w u parts f. (
          let b = float_behind t n w u is parts f in
          let a = rest_after t n f.mark (f.tail ++ u) b.rest in
          let r : length f.tail ≤ k = subst (λ (x : Bytes). length f.tail ≤ prefix_len is_word x) (sym a.0) (reach is_word f.tail u f.goes) in
          let s : length w ≡ length f.digits + suc (length f.tail) = ap (λ (x : Bytes). length x) f.parts ∙ length-append f.digits (f.mark ∷ f.tail) in
          let z = b.size in omega arith);
    }

-- ---- which of the two

pub prefix_is : (kind : Item) → Bytes → Bool
prefix_is item.Hexadecimal t = begins 48 120 t
prefix_is item.HexFloat t = begins 48 120 t
prefix_is item.Binary t = begins 48 98 t
prefix_is other t = true

pub prefixed : (kind : Item) (t w u : Bytes) → t ≡ w ++ u → IsItem PlainSpells kind w u → prefix_is kind t ≡ true
unfolding prefix_is
prefixed item.Hexadecimal t w u parts i = let s = i.spells in rw (parts, s.parts) refl
prefixed item.HexFloat t w u parts i = let s = i.spells in rw (parts, s.parts) refl
prefixed item.Binary t w u parts i = let s = i.spells in rw (parts, s.parts) refl
prefixed other t w u parts i = refl

pub only_number : (t : Bytes) → begins 48 120 t ≡ false → begins 48 98 t ≡ false → (kind : Item) → prefix_is kind t ≡ true → can_begin lead_is.Digit kind ≡ true → (kind ≡ item.Decimal) ⊎ (kind ≡ item.Float)
unfolding prefix_is
only_number t a b item.Decimal p h = inl refl
only_number t a b item.Float p h = inr refl
only_number t a b item.Hexadecimal p h = absurd (let k : false ≡ true = sym a ∙ p in cc)
only_number t a b item.HexFloat p h = absurd (let k : false ≡ true = sym a ∙ p in cc)
only_number t a b item.Binary p h = absurd (let k : false ≡ true = sym b ∙ p in cc)
only_number t a b other p h = absurd (let k : false ≡ true = h in cc)

at_digit : (t : Bytes) → is_ascii_digit (get_or t 0 0) ≡ true → begins 48 120 t ≡ false → begins 48 98 t ≡ false → (kind : Item) (w u : Bytes) → t ≡ w ++ u → IsItem PlainSpells kind w u → (kind ≡ item.Decimal) ⊎ (kind ≡ item.Float)
at_digit t d a b kind w u parts i = only_number t a b kind (prefixed kind t w u parts i) (first_can t lead_is.Digit (digit_class (get_or t 0 0) d) kind w u parts i)

pub decimal_found : (t : Bytes) (n m : ℕ) → is_ascii_digit (get_or t 0 0) ≡ true → begins 48 120 t ≡ false → begins 48 98 t ≡ false → n ≡ digits_run t → 1 ≤ n → (IsMark t n → ⊥) → m ≡ n + number_suffix (drop n t) → Best PlainSpells t (item.Decimal, m)
decimal_found t n m digit a b is some none eq =
    best PlainSpells t item.Decimal m (subst (λ k. Longest (λ w u. IsDecimal w) t k) (sym eq) (decimal_longest t n is some)) (rw (a, b) refl)
    (λ other w u parts i. go other w u parts i (at_digit t digit a b other w u parts i))
  where
    go : (other : Item) (w u : Bytes) → t ≡ w ++ u → IsItem PlainSpells other w u → (other ≡ item.Decimal) ⊎ (other ≡ item.Float) → (other ≡ item.Decimal) ⊎ (length w < m)
    go other w u parts i (inl e) = inl e
    go other w u parts i (inr e) = absurd (float_not t n is none w u parts (subst (λ k. PlainSpells k w u) e i.spells))

abbrev suffix_by : ℕ → ℕ → ℕ
suffix_by b c = cond ((is_long b && is_unsigned c) || (is_unsigned b && is_long c)) 2 (cond (is_long b || is_unsigned b) 1 0)

pub no_suffix_at : (t : Bytes) (n : ℕ) → IsMark t n → number_suffix (drop n t) ≡ 0
unfolding number_suffix
no_suffix_at t n m = rw (one_more t n m.within) (go m.marks)
  where
    go : (is_exponent (get_or t n 0) ≡ true) ⊎ ((get_or t n 0 ≡ 46) × EndsPoint (drop (n + 1) t)) → suffix_by (get_or t n 0) (get_or (drop (n + 1) t) 0 0) ≡ 0
    go (inl h) = let e : is_long (get_or t n 0) ≡ false = grind (arith, nat_tests) in let f : is_unsigned (get_or t n 0) ≡ false = grind (arith, nat_tests) in rw (e, f) refl
    go (inr h) = rw h.0 refl

pub float_found : (t : Bytes) (n m : ℕ) → is_ascii_digit (get_or t 0 0) ≡ true → begins 48 120 t ≡ false → begins 48 98 t ≡ false → n ≡ digits_run t → 1 ≤ n → IsMark t n → m ≡ past set.Word t (n + 1) → Best PlainSpells t (item.Float, m)
float_found t n m digit a b is some mark eq =
    best PlainSpells t item.Float m (subst (λ k. Longest IsFloat t k) (sym eq) (float_longest t n is some mark)) refl
    (λ other w u parts i. go other w u parts i (at_digit t digit a b other w u parts i))
  where
    go : (other : Item) (w u : Bytes) → t ≡ w ++ u → IsItem PlainSpells other w u → (other ≡ item.Decimal) ⊎ (other ≡ item.Float) → (other ≡ item.Float) ⊎ (length w < m)
    go other w u parts i (inr e) = inl e
    go other w u parts i (inl e) =
        let a = (decimal_longest t n is some).longest w u parts (subst (λ k. PlainSpells k w u) e i.spells) in
        let z = no_suffix_at t n mark in inr (omega arith)

-- ---- the test for a float

pub mark_last : (t : Bytes) (n : ℕ) → get_or t n 0 ≡ 46 → n + 1 ≡ length t → IsMark t n
mark_last t n h e =
    let l : length (drop (n + 1) t) ≡ 0 = length-drop (n + 1) t ∙ (omega arith) in
    record { within = omega arith; marks = inr (h, record { no_point = λ u o. absurd (let k = ap length o in omega arith); no_name = λ c u s g o. absurd (let k : length (drop (n + 1) t) ≡ length (encode_utf8 c) + length u = ap (λ (x : Bytes). length x) o ∙ length-append (encode_utf8 c) u in let p = positive c in omega arith) }) }

pub digits_within : (t : Bytes) → is_ascii_digit (get_or t 0 0) ≡ true → (1 ≤ digits_run t) × (digits_run t ≤ length t)
digits_within t h = (some t h, (run_longest is_ascii_digit is_digit_or_bar t).within)
  where
    some : (t : Bytes) → is_ascii_digit (get_or t 0 0) ≡ true → 1 ≤ digits_run t
    some [] h = absurd (let k : false ≡ true = h in cc)
    some (b ∷ t) h = rw h (omega arith)

pub digits_past : (t : Bytes) (n : ℕ) → is_ascii_digit (get_or t 0 0) ≡ true → n ≡ past set.DigitOrBar t 1 → n ≡ digits_run t
digits_past t n h e = e ∙ sym (run_past is_ascii_digit is_digit_or_bar t h (let w = digits_within t h in omega arith))
