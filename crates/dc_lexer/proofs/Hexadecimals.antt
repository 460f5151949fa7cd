-- Integers and floats behind `0x` and `0b`.
use Rattle.std.proofs.Common.{◌≡◌, ℕ, suc, ◌+◌, ◌-◌, ◌<◌, ◌≤◌, Bool, true, false, cond, not, ◌&&◌, ◌||◌, ◌⊎◌, inl, inr, [], ◌∷◌, ◌++◌, length, take, drop, get_or, refl, sym, ap, subst, ◌∙◌, append_assoc, append-nil, arith, length-append, length-drop}
use Rattle.std.proofs.lemmas.Bool.Decides.{nat_tests}
use Rattle.std.proofs.lemmas.Bool.{and_parts}
use Rattle.std.proofs.lemmas.List.Sums.{prefix_len-le-length}
use Rattle.std.specs.List.{prefix_len, list_all, list_any}
use Rattle.dc_token.specs.Balance.{Bytes}
use Rattle.dc_token.specs.Bytes.{begins, is_hex, is_hex_or_bar, is_binary, is_binary_or_bar, is_digit_or_bar, is_word}
use Rattle.dc_token.specs.Numbers.{is_number_suffix, is_power, is_exponent, is_hex_or_point, IsPrefixed, IsHexadecimal, IsBinary, IsHexFloat, IsMantissa, IsFloat, EndsPoint}
use Rattle.dc_token.specs.Items.{PlainSpells, IsItem}
use Rattle.dc_token.specs.declared.item.Item.{Item}
use Rattle.dc_token.specs.declared.item.Item.TheVariants as item
use Rattle.dc_token.proofs.Lists.{drop_front, take_front, one_more, drop_more, take_more}
use Rattle.dc_lexer.specs.Fronts.{Longest, Best, past, number_suffix, IsPowerMark}
use Rattle.dc_lexer.specs.Leads.{can_begin}
use Rattle.dc_lexer.specs.declared.lead.Lead.TheVariants as lead_is
use Rattle.dc_lexer.specs.declared.set.Set.TheVariants as set
use Rattle.dc_lexer.proofs.Runs.{taken, reach}
use Rattle.dc_lexer.proofs.Comments.{begun}
use Rattle.dc_lexer.proofs.Numbers.{prefix_stops, suffix_is, suffix_reach, digits_run, float_behind}
use Rattle.dc_lexer.proofs.Finding.{best, first_can}

-- ---- digits behind a prefix

-- digits of a class and a suffix, of which none begins with such a digit
module _ (more : ℕ → Bool) (apart : (b : ℕ) (s : Bytes) → is_number_suffix (b ∷ s) ≡ true → more b ≡ false) where
  size_of : (t digits suffix u : Bytes) → t ≡ digits ++ (suffix ++ u) → list_all more digits ≡ true → is_number_suffix suffix ≡ true
      → length digits + length suffix ≤ prefix_len more t + number_suffix (drop (prefix_len more t) t)
  size_of t digits [] u parts goes ends = let r = reach more digits u goes in let e : prefix_len more t ≡ prefix_len more (digits ++ u) = ap (λ (x : Bytes). prefix_len more x) parts in omega arith
  size_of t digits (c ∷ s) u parts goes ends =
      let e : prefix_len more t ≡ length digits = ap (λ (x : Bytes). prefix_len more x) parts ∙ prefix_stops more digits (s ++ u) c goes (apart c s ends) in
      let rest : drop (prefix_len more t) t ≡ c ∷ (s ++ u) = ap (λ k. drop k t) e ∙ ap (λ (x : Bytes). drop (length digits) x) parts ∙ drop_front digits (c ∷ (s ++ u)) in
      let far : length (c ∷ s) ≤ number_suffix (drop (prefix_len more t) t) = subst (λ (x : Bytes). length (c ∷ s) ≤ number_suffix x) (sym rest) (suffix_reach (c ∷ s) u ends) in
      omega arith

any_front : (p : ℕ → Bool) (xs ys : Bytes) → list_any p xs ≡ true → list_any p (xs ++ ys) ≡ true
any_front p [] ys h = absurd (let k : false ≡ true = h in cc)
any_front p (x ∷ xs) ys h = go (p x) h (any_front p xs ys)
  where
    go : (b : Bool) → (b || list_any p xs) ≡ true → (list_any p xs ≡ true → list_any p (xs ++ ys) ≡ true) → (b || list_any p (xs ++ ys)) ≡ true
    go true h more = refl
    go false h more = more h

-- digits at the front are a front of the longest run
front_of_run : (more : ℕ → Bool) (digits x : Bytes) → list_all more digits ≡ true → (r : Bytes) × (take (prefix_len more (digits ++ x)) (digits ++ x) ≡ digits ++ r)
front_of_run more [] x h = (take (prefix_len more x) x, refl)
front_of_run more (b ∷ digits) x h = go (more b) h (front_of_run more digits x)
  where
    go : (y : Bool) → (y && list_all more digits) ≡ true → (list_all more digits ≡ true → (r : Bytes) × (take (prefix_len more (digits ++ x)) (digits ++ x) ≡ digits ++ r)) → (r : Bytes) × (take (cond y (1 + prefix_len more (digits ++ x)) 0) (b ∷ (digits ++ x)) ≡ b ∷ (digits ++ r))
    go true h more_of = let m = more_of h in let s : 1 + prefix_len more (digits ++ x) ≡ suc (prefix_len more (digits ++ x)) = omega arith in (m.0, rw s (ap (λ (y : Bytes). b ∷ y) m.1))
    go false h more_of = absurd (let k : false ≡ true = h in cc)

some_in_run : (digit more : ℕ → Bool) (t digits x : Bytes) → t ≡ digits ++ x → list_all more digits ≡ true → list_any digit digits ≡ true → list_any digit (take (prefix_len more t) t) ≡ true
some_in_run digit more t digits x parts goes some =
    let f = front_of_run more digits x goes in
    ap (λ (y : Bytes). list_any digit (take (prefix_len more y) y)) parts ∙ ap (λ (y : Bytes). list_any digit y) f.1 ∙ any_front digit digits f.0 some

prefix_tail : (a b : ℕ) (t w u v : Bytes) → a ∷ b ∷ t ≡ w ++ u → w ≡ a ∷ b ∷ v → t ≡ v ++ u
prefix_tail a b t w u v p q = let e : a ∷ b ∷ t ≡ a ∷ b ∷ (v ++ u) = p ∙ ap (λ (x : Bytes). x ++ u) q in cc

-- the longest integer behind a prefix, on the text behind it
module _ (letter : ℕ) (digit more : ℕ → Bool) (apart : (b : ℕ) (s : Bytes) → is_number_suffix (b ∷ s) ≡ true → more b ≡ false) where
  abbrev P : Bytes → Bytes → Type 0
  P w u = IsPrefixed letter digit more w

  prefixed_of : (t : Bytes) → list_any digit (take (prefix_len more t) t) ≡ true → Longest P (48 ∷ letter ∷ t) (2 + prefix_len more t + number_suffix (drop (prefix_len more t) t))
  prefixed_of t some =
      let n : ℕ = prefix_len more t in
      let k : n ≤ length t = prefix_len-le-length more t in
      let s = suffix_is (drop n t) in
      let fits = s.0 in
      let l = length-drop n t in
      let e : 2 + n + number_suffix (drop n t) ≡ suc (suc (n + number_suffix (drop n t))) = omega arith in
      record {
        within = omega arith;
        is = λ p. rw e (record { digits = take n t; suffix = take (number_suffix (drop n t)) (drop n t); parts = ap (λ (x : Bytes). 48 ∷ letter ∷ x) (take_more n (number_suffix (drop n t)) t); goes = taken more t; some = some; ends = s.1 });
        longest = λ w u parts i. (
            let tail : t ≡ (i.digits ++ i.suffix) ++ u = prefix_tail 48 letter t w u (i.digits ++ i.suffix) parts i.parts in
            let z = size_of more apart t i.digits i.suffix u (tail ∙ append_assoc i.digits i.suffix u) i.goes i.ends in
            let size : length w ≡ suc (suc (length i.digits + length i.suffix)) = ap (λ (x : Bytes). length x) i.parts ∙ ap (λ k. suc (suc k)) (length-append i.digits i.suffix) in
            omega arith);
      }

  prefixed_none : (t : Bytes) → list_any digit (take (prefix_len more t) t) ≡ false → Longest P (48 ∷ letter ∷ t) 0
  prefixed_none t none = record {
    within = omega arith;
    is = λ h. absurd (omega arith);
    longest = λ w u parts i. absurd (
        let tail : t ≡ (i.digits ++ i.suffix) ++ u = prefix_tail 48 letter t w u (i.digits ++ i.suffix) parts i.parts in
        let g = some_in_run digit more t i.digits (i.suffix ++ u) (tail ∙ append_assoc i.digits i.suffix u) i.goes i.some in
        let k : false ≡ true = sym none ∙ g in cc);
  }

  pub prefixed_longest : (z : Bytes) (n m : ℕ) → begins 48 letter z ≡ true → n ≡ 2 + prefix_len more (drop 2 z) → list_any digit (take (n - 2) (drop 2 z)) ≡ true → m ≡ n + number_suffix (drop n z) → Longest P z m
  prefixed_longest z n m h is some eq =
      let whole = begun 48 letter z h in
      let t : Bytes = drop 2 z in
      let k : ℕ = prefix_len more t in
      let a : n - 2 ≡ k = omega arith in
      let b : drop n z ≡ drop k t = ap (λ j. drop j z) is ∙ sym (drop_more k 2 z) in
      let size : 2 + k + number_suffix (drop k t) ≡ m = ap (λ j. j + number_suffix (drop k t)) (sym is) ∙ ap (λ (x : Bytes). n + number_suffix x) (sym b) ∙ sym eq in
      subst (λ j. Longest P z j) size (subst (λ (x : Bytes). Longest P x (2 + k + number_suffix (drop k t))) (sym whole) (prefixed_of t (subst (λ j. list_any digit (take j t) ≡ true) a some)))

  pub prefixed_nothing : (z : Bytes) (n : ℕ) → begins 48 letter z ≡ true → n ≡ 2 + prefix_len more (drop 2 z) → list_any digit (take (n - 2) (drop 2 z)) ≡ false → Longest P z 0
  prefixed_nothing z n h is none =
      let whole = begun 48 letter z h in
      let t : Bytes = drop 2 z in
      let a : n - 2 ≡ prefix_len more t = omega arith in
      subst (λ (x : Bytes). Longest P x 0) (sym whole) (prefixed_none t (subst (λ j. list_any digit (take j t) ≡ false) a none))

pub hex_apart : (b : ℕ) (s : Bytes) → is_number_suffix (b ∷ s) ≡ true → is_hex_or_bar b ≡ false
hex_apart b [] h = grind (arith, nat_tests)
hex_apart b (c ∷ []) h = grind (arith, nat_tests)
hex_apart b (c ∷ d ∷ s) h = absurd (let k : false ≡ true = h in cc)

pub binary_apart : (b : ℕ) (s : Bytes) → is_number_suffix (b ∷ s) ≡ true → is_binary_or_bar b ≡ false
binary_apart b [] h = grind (arith, nat_tests)
binary_apart b (c ∷ []) h = grind (arith, nat_tests)
binary_apart b (c ∷ d ∷ s) h = absurd (let k : false ≡ true = h in cc)

point_apart : (b : ℕ) (s : Bytes) → is_number_suffix (b ∷ s) ≡ true → is_hex_or_point b ≡ false
point_apart b [] h = grind (arith, nat_tests)
point_apart b (c ∷ []) h = grind (arith, nat_tests)
point_apart b (c ∷ d ∷ s) h = absurd (let k : false ≡ true = h in cc)

pub hexadecimal_longest : (z : Bytes) (n m : ℕ) → begins 48 120 z ≡ true → n ≡ past set.HexOrBar z 2 → list_any is_hex (take (n - 2) (drop 2 z)) ≡ true → m ≡ n + number_suffix (drop n z) → Longest (λ w u. IsHexadecimal w) z m
hexadecimal_longest = prefixed_longest 120 is_hex is_hex_or_bar hex_apart

pub hexadecimal_nothing : (z : Bytes) (n : ℕ) → begins 48 120 z ≡ true → n ≡ past set.HexOrBar z 2 → list_any is_hex (take (n - 2) (drop 2 z)) ≡ false → Longest (λ w u. IsHexadecimal w) z 0
hexadecimal_nothing = prefixed_nothing 120 is_hex is_hex_or_bar hex_apart

pub binary_longest : (z : Bytes) (n m : ℕ) → begins 48 98 z ≡ true → n ≡ past set.BinaryOrBar z 2 → list_any is_binary (take (n - 2) (drop 2 z)) ≡ true → m ≡ n + number_suffix (drop n z) → Longest (λ w u. IsBinary w) z m
binary_longest = prefixed_longest 98 is_binary is_binary_or_bar binary_apart

pub binary_nothing : (z : Bytes) (n : ℕ) → begins 48 98 z ≡ true → n ≡ past set.BinaryOrBar z 2 → list_any is_binary (take (n - 2) (drop 2 z)) ≡ false → Longest (λ w u. IsBinary w) z 0
binary_nothing = prefixed_nothing 98 is_binary is_binary_or_bar binary_apart

-- ---- hexadecimal floats

power_stops : (b : ℕ) → is_power b ≡ true → is_hex_or_point b ≡ false
power_stops b h = grind (arith, nat_tests)

pub record FloatParts (z : Bytes) (n : ℕ) (digits x : Bytes) (mark : ℕ) : Type 0 where
  pub run : n ≡ 2 + length digits
  pub here : get_or z n 0 ≡ mark
  pub rest : drop (n + 1) z ≡ x
  pub digits_are : take (n - 2) (drop 2 z) ≡ digits
  pub within : n < length z

at_front : (w x : Bytes) (c : ℕ) → get_or (w ++ (c ∷ x)) (length w) 0 ≡ c
at_front [] x c = refl
at_front (b ∷ w) x c = at_front w x c

drop_mark : (w x : Bytes) (c : ℕ) → drop (length w + 1) (w ++ (c ∷ x)) ≡ x
drop_mark [] x c = refl
drop_mark (b ∷ w) x c = let e : suc (length w) + 1 ≡ suc (length w + 1) = omega arith in rw e (drop_mark w x c)

-- where a hexadecimal float stands, the run of its digits ends at its mark
pub float_parts : (z : Bytes) (n : ℕ) (w u : Bytes) → n ≡ past set.HexOrPoint z 2 → z ≡ w ++ u → (f : IsHexFloat w) → FloatParts z n f.digits (f.tail ++ u) f.mark
float_parts z n w u is parts f =
    let whole : z ≡ 48 ∷ 120 ∷ (f.digits ++ (f.mark ∷ (f.tail ++ u))) = parts ∙ ap (λ (x : Bytes). x ++ u) f.parts ∙ ap (λ (x : Bytes). 48 ∷ 120 ∷ x) (append_assoc f.digits (f.mark ∷ f.tail) u) in
    let tail : drop 2 z ≡ f.digits ++ (f.mark ∷ (f.tail ++ u)) = ap (λ (x : Bytes). drop 2 x) whole in
    let r : prefix_len is_hex_or_point (drop 2 z) ≡ length f.digits = ap (λ (x : Bytes). prefix_len is_hex_or_point x) tail ∙ prefix_stops is_hex_or_point f.digits (f.tail ++ u) f.mark f.mantissa.goes (power_stops f.mark f.marks) in
    let run : n ≡ 2 + length f.digits = is ∙ ap (λ k. 2 + k) r in
    let two : 2 + length f.digits ≡ suc (suc (length f.digits)) = omega arith in
    let next : 2 + length f.digits + 1 ≡ suc (suc (length f.digits + 1)) = omega arith in
    let less : n - 2 ≡ length f.digits = omega arith in
    let size : length z ≡ suc (suc (length f.digits + suc (length (f.tail ++ u)))) = ap (λ (x : Bytes). length x) whole ∙ ap (λ k. suc (suc k)) (length-append f.digits (f.mark ∷ (f.tail ++ u))) in
    record {
      run = run;
      here = ap (λ k. get_or z k 0) (run ∙ two) ∙ ap (λ (x : Bytes). get_or x (suc (suc (length f.digits))) 0) whole ∙ at_front f.digits (f.tail ++ u) f.mark;
      rest = ap (λ k. drop (k + 1) z) run ∙ ap (λ k. drop k z) next ∙ ap (λ (x : Bytes). drop (suc (suc (length f.digits + 1))) x) whole ∙ drop_mark f.digits (f.tail ++ u) f.mark;
      digits_are = ap (λ k. take k (drop 2 z)) less ∙ ap (λ (x : Bytes). take (length f.digits) x) tail ∙ take_front f.digits (f.mark ∷ (f.tail ++ u));
      within = omega arith;
    }

pub hex_float_not : (z : Bytes) (n : ℕ) → n ≡ past set.HexOrPoint z 2 → (IsPowerMark z n → ⊥) → (w u : Bytes) → z ≡ w ++ u → IsHexFloat w → ⊥
hex_float_not z n is none w u parts f =
    let p = float_parts z n w u is parts f in
    let r = p.run in
    none (record { from = omega arith; within = p.within; mantissa = subst (λ (x : Bytes). IsMantissa x) (sym p.digits_are) f.mantissa; marks = subst (λ b. is_power b ≡ true) (sym p.here) f.marks })

two_and : (z : Bytes) (n : ℕ) → 2 ≤ n → take n z ≡ take 2 z ++ take (n - 2) (drop 2 z)
two_and z n h = let e : n ≡ 2 + (n - 2) = omega arith in ap (λ k. take k z) e ∙ take_more 2 (n - 2) z

hex_float_longest : (z : Bytes) (n : ℕ) → begins 48 120 z ≡ true → n ≡ past set.HexOrPoint z 2 → IsPowerMark z n → Longest (λ w u. IsHexFloat w) z (n + 1 + prefix_len is_word (drop (n + 1) z))
hex_float_longest z n h is m =
    let k : ℕ = prefix_len is_word (drop (n + 1) z) in
    let lt = m.within in let from = m.from in
    let size = length-drop (n + 1) z in
    let short = prefix_len-le-length is_word (drop (n + 1) z) in
    let opener : take 2 z ≡ 48 ∷ 120 ∷ [] = rw (begun 48 120 z h) refl in
    let digits : Bytes = take (n - 2) (drop 2 z) in
    let one : take 1 (drop n z) ≡ get_or z n 0 ∷ [] = ap (λ (x : Bytes). take 1 x) (one_more z n lt) in
    let front : take n z ≡ 48 ∷ 120 ∷ digits = two_and z n from ∙ ap (λ (x : Bytes). x ++ digits) opener in
    let whole : take (n + 1 + k) z ≡ 48 ∷ 120 ∷ (digits ++ (get_or z n 0 ∷ take k (drop (n + 1) z))) =
    take_more (n + 1) k z ∙ ap (λ (x : Bytes). x ++ take k (drop (n + 1) z)) (take_more n 1 z ∙ ap (λ (x : Bytes). take n z ++ x) one ∙ ap (λ (x : Bytes). x ++ (get_or z n 0 ∷ [])) front) ∙ ap (λ (x : Bytes). 48 ∷ 120 ∷ x) (append_assoc digits (get_or z n 0 ∷ []) (take k (drop (n + 1) z))) in
    record {
      within = omega arith;
      is = λ _. record { digits = digits; mark = get_or z n 0; tail = take k (drop (n + 1) z); parts = whole; mantissa = m.mantissa; marks = m.marks; goes = taken is_word (drop (n + 1) z) };
      longest = λ w u parts f. (
          let p = float_parts z n w u is parts f in
          let r : length f.tail ≤ k = subst (λ (x : Bytes). length f.tail ≤ prefix_len is_word x) (sym p.rest) (reach is_word f.tail u f.goes) in
          let s : length w ≡ suc (suc (length f.digits + suc (length f.tail))) = ap (λ (x : Bytes). length x) f.parts ∙ ap (λ k. suc (suc k)) (length-append f.digits (f.mark ∷ f.tail)) in
          let run = p.run in omega arith);
    }

-- ---- which of them

not_a_mark : (x : ℕ) (T : Type 0) → is_exponent x ≡ false → (x ≡ 46 → ⊥) → (is_exponent x ≡ true) ⊎ ((x ≡ 46) × T) → ⊥
not_a_mark x T no_exponent no_point (inl e) = let k : false ≡ true = sym no_exponent ∙ e in absurd (cc)
not_a_mark x T no_exponent no_point (inr e) = no_point e.0

-- a float in decimal digits doesn't begin with `0` and this letter
float_prefix : (letter : ℕ) (z r w u : Bytes) → is_digit_or_bar letter ≡ false → is_exponent letter ≡ false → (letter ≡ 46 → ⊥) → z ≡ 48 ∷ letter ∷ r → z ≡ w ++ u → IsFloat w u → ⊥
float_prefix letter z r w u stops no_exponent no_point whole parts f =
    let one : 1 ≡ digits_run z = sym (ap (λ (x : Bytes). digits_run x) whole ∙ run_one letter r stops) in
    let b = float_behind z 1 w u one parts f in
    let e : letter ≡ f.mark = sym (ap (λ (x : Bytes). get_or x 1 0) whole) ∙ b.mark in
    not_a_mark letter (EndsPoint (f.tail ++ u)) no_exponent no_point (subst (λ x. (is_exponent x ≡ true) ⊎ ((x ≡ 46) × EndsPoint (f.tail ++ u))) (sym e) f.marks)
  where
    run_one : (letter : ℕ) (r : Bytes) → is_digit_or_bar letter ≡ false → digits_run (48 ∷ letter ∷ r) ≡ 1
    run_one letter r h = rw h refl

-- which kinds stand where `0x` or `0b` does
opens : Item → Bytes → Bool
opens item.Hexadecimal t = begins 48 120 t
opens item.HexFloat t = begins 48 120 t
opens item.Binary t = begins 48 98 t
opens item.Decimal t = not (begins 48 120 t || begins 48 98 t)
opens item.Float t = true
opens other t = false

opened : (kind : Item) (t w u : Bytes) → t ≡ w ++ u → IsItem PlainSpells kind w u → can_begin lead_is.Digit kind ≡ true → opens kind t ≡ true
unfolding opens
opened item.Hexadecimal t w u parts i c = let s = i.spells in rw (parts, s.parts) refl
opened item.HexFloat t w u parts i c = let s = i.spells in rw (parts, s.parts) refl
opened item.Binary t w u parts i c = let s = i.spells in rw (parts, s.parts) refl
opened item.Decimal t w u parts i c = rw parts i.allowed
opened item.Float t w u parts i c = refl
opened other t w u parts i c = absurd (let k : false ≡ true = c in cc)

digit_can : (z r : Bytes) (letter : ℕ) → z ≡ 48 ∷ letter ∷ r → (kind : Item) (w u : Bytes) → z ≡ w ++ u → IsItem PlainSpells kind w u → opens kind (48 ∷ letter ∷ r) ≡ true
digit_can z r letter whole kind w u parts i = subst (λ (x : Bytes). opens kind x ≡ true) whole (opened kind z w u parts i (first_can z lead_is.Digit (rw whole refl) kind w u parts i))

at_hex : (r w u : Bytes) (kind : Item) → opens kind (48 ∷ 120 ∷ r) ≡ true → (kind ≡ item.Float → ⊥) → (kind ≡ item.Hexadecimal) ⊎ (kind ≡ item.HexFloat)
unfolding opens
at_hex r w u item.Hexadecimal o n = inl refl
at_hex r w u item.HexFloat o n = inr refl
at_hex r w u item.Float o n = absurd (n refl)
at_hex r w u item.Binary o n = absurd (let k : false ≡ true = o in cc)
at_hex r w u item.Decimal o n = absurd (let k : false ≡ true = o in cc)
at_hex r w u other o n = absurd (let k : false ≡ true = o in cc)

at_binary : (r w u : Bytes) (kind : Item) → opens kind (48 ∷ 98 ∷ r) ≡ true → (kind ≡ item.Float → ⊥) → kind ≡ item.Binary
unfolding opens
at_binary r w u item.Binary o n = refl
at_binary r w u item.Hexadecimal o n = absurd (let k : false ≡ true = o in cc)
at_binary r w u item.HexFloat o n = absurd (let k : false ≡ true = o in cc)
at_binary r w u item.Float o n = absurd (n refl)
at_binary r w u item.Decimal o n = absurd (let k : false ≡ true = o in cc)
at_binary r w u other o n = absurd (let k : false ≡ true = o in cc)

no_float : (letter : ℕ) (z r w u : Bytes) (kind : Item) → is_digit_or_bar letter ≡ false → is_exponent letter ≡ false → (letter ≡ 46 → ⊥) → z ≡ 48 ∷ letter ∷ r → z ≡ w ++ u → IsItem PlainSpells kind w u → kind ≡ item.Float → ⊥
no_float letter z r w u kind a b c whole parts i e = float_prefix letter z r w u a b c whole parts (subst (λ k. PlainSpells k w u) e i.spells)

pub hex_kinds : (z : Bytes) → begins 48 120 z ≡ true → (kind : Item) (w u : Bytes) → z ≡ w ++ u → IsItem PlainSpells kind w u → (kind ≡ item.Hexadecimal) ⊎ (kind ≡ item.HexFloat)
hex_kinds z h kind w u parts i =
    let whole = begun 48 120 z h in
    at_hex (drop 2 z) w u kind (digit_can z (drop 2 z) 120 whole kind w u parts i) (no_float 120 z (drop 2 z) w u kind refl refl (λ e. absurd (omega arith)) whole parts i)

pub binary_kinds : (z : Bytes) → begins 48 98 z ≡ true → (kind : Item) (w u : Bytes) → z ≡ w ++ u → IsItem PlainSpells kind w u → kind ≡ item.Binary
binary_kinds z h kind w u parts i =
    let whole = begun 48 98 z h in
    at_binary (drop 2 z) w u kind (digit_can z (drop 2 z) 98 whole kind w u parts i) (no_float 98 z (drop 2 z) w u kind refl refl (λ e. absurd (omega arith)) whole parts i)

pub binary_found : (z : Bytes) (m : ℕ) → begins 48 98 z ≡ true → Longest (λ w u. IsBinary w) z m → Best PlainSpells z (item.Binary, m)
binary_found z m h l = best PlainSpells z item.Binary m l refl (λ other w u parts i. inl (binary_kinds z h other w u parts i))

pub hexadecimal_found : (z : Bytes) (n m : ℕ) → begins 48 120 z ≡ true → n ≡ past set.HexOrPoint z 2 → (IsPowerMark z n → ⊥) → Longest (λ w u. IsHexadecimal w) z m → Best PlainSpells z (item.Hexadecimal, m)
hexadecimal_found z n m h is none l =
    best PlainSpells z item.Hexadecimal m l refl (λ other w u parts i. go other w u parts i (hex_kinds z h other w u parts i))
  where
    go : (other : Item) (w u : Bytes) → z ≡ w ++ u → IsItem PlainSpells other w u → (other ≡ item.Hexadecimal) ⊎ (other ≡ item.HexFloat) → (other ≡ item.Hexadecimal) ⊎ (length w < m)
    go other w u parts i (inl e) = inl e
    go other w u parts i (inr e) = absurd (hex_float_not z n is none w u parts (subst (λ k. PlainSpells k w u) e i.spells))

all_points : (digits : Bytes) → list_all is_hex_or_bar digits ≡ true → list_all is_hex_or_point digits ≡ true
all_points [] h = refl
all_points (b ∷ digits) h = let p = and_parts (is_hex_or_bar b) (list_all is_hex_or_bar digits) h in let e : is_hex_or_point b ≡ true = rw p.0 refl in rw e (all_points digits p.1)

power_apart : (b : ℕ) (s : Bytes) → is_number_suffix (b ∷ s) ≡ true → is_power b ≡ false
power_apart b [] h = grind (arith, nat_tests)
power_apart b (c ∷ []) h = grind (arith, nat_tests)
power_apart b (c ∷ d ∷ s) h = absurd (let k : false ≡ true = h in cc)

-- where a hexadecimal float stands, an integer ends before its mark
pub short_integer : (z : Bytes) (n : ℕ) (w u digits suffix : Bytes) → n ≡ past set.HexOrPoint z 2 → IsPowerMark z n → z ≡ 48 ∷ 120 ∷ (digits ++ (suffix ++ u)) → w ≡ 48 ∷ 120 ∷ (digits ++ suffix)
    → list_all is_hex_or_bar digits ≡ true → is_number_suffix suffix ≡ true → length w ≤ n
short_integer z n w u digits [] is m whole spelled goes ends =
    let tail : drop 2 z ≡ digits ++ u = ap (λ (x : Bytes). drop 2 x) whole in
    let r : length digits ≤ prefix_len is_hex_or_point (drop 2 z) = subst (λ (x : Bytes). length digits ≤ prefix_len is_hex_or_point x) (sym tail) (reach is_hex_or_point digits u (all_points digits goes)) in
    let size : length w ≡ suc (suc (length digits)) = ap (λ (x : Bytes). length x) (spelled ∙ ap (λ (x : Bytes). 48 ∷ 120 ∷ x) (append-nil digits)) in
    omega arith
short_integer z n w u digits (c ∷ s) is m whole spelled goes ends =
    let tail : drop 2 z ≡ digits ++ (c ∷ (s ++ u)) = ap (λ (x : Bytes). drop 2 x) whole in
    let r : prefix_len is_hex_or_point (drop 2 z) ≡ length digits = ap (λ (x : Bytes). prefix_len is_hex_or_point x) tail ∙ prefix_stops is_hex_or_point digits (s ++ u) c (all_points digits goes) (point_apart c s ends) in
    let run : n ≡ suc (suc (length digits)) = is ∙ ap (λ k. 2 + k) r ∙ (omega arith) in
    let here : get_or z n 0 ≡ c = ap (λ k. get_or z k 0) run ∙ ap (λ (x : Bytes). get_or x (suc (suc (length digits))) 0) whole ∙ at_front digits (s ++ u) c in
    absurd (let k : false ≡ true = sym (power_apart c s ends) ∙ ap is_power (sym here) ∙ m.marks in cc)

pub hex_float_found : (z : Bytes) (n m : ℕ) → begins 48 120 z ≡ true → n ≡ past set.HexOrPoint z 2 → IsPowerMark z n → m ≡ past set.Word z (n + 1) → Best PlainSpells z (item.HexFloat, m)
hex_float_found z n m h is mark eq =
    best PlainSpells z item.HexFloat m (subst (λ k. Longest (λ w u. IsHexFloat w) z k) (sym eq) (hex_float_longest z n h is mark)) refl (λ other w u parts i. go other w u parts i (hex_kinds z h other w u parts i))
  where
    go : (other : Item) (w u : Bytes) → z ≡ w ++ u → IsItem PlainSpells other w u → (other ≡ item.Hexadecimal) ⊎ (other ≡ item.HexFloat) → (other ≡ item.HexFloat) ⊎ (length w < m)
    go other w u parts i (inr e) = inl e
    go other w u parts i (inl e) =
        let s : IsHexadecimal w = subst (λ k. PlainSpells k w u) e i.spells in
        let whole : z ≡ 48 ∷ 120 ∷ (s.digits ++ (s.suffix ++ u)) = parts ∙ ap (λ (x : Bytes). x ++ u) s.parts ∙ ap (λ (x : Bytes). 48 ∷ 120 ∷ x) (append_assoc s.digits s.suffix u) in
        let l = short_integer z n w u s.digits s.suffix is mark whole s.parts s.goes s.ends in
        inr (omega arith)
