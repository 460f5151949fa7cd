-- The tests of signs byte by byte are the table of signs.
use Rattle.std.proofs.Common.{◌≡◌, ℕ, Bool, true, false, ◌&&◌, ◌||◌, ◌==◌, ◌⊎◌, inl, inr, List, [], ◌∷◌, bytes_eq, ⊎_elim, refl, sym, subst, arith}
use Rattle.std.proofs.lemmas.Bool.Decides.{nat_tests}
use Rattle.std.proofs.lemmas.Bool.{and_parts}
use Rattle.std.specs.List.{list_all, list_any}
use Rattle.dc_token.specs.Balance.{Bytes}
use Rattle.dc_token.specs.Vocabulary.{among}
use Rattle.dc_token.specs.Signs.{used_signs, outside_signs, is_sign, is_outside_sign}
use Rattle.dc_lexer.specs.SignBytes.{singles, single, before_equals, takes_equals, doubled, doubles, double, triple, quadruple, is_sign_by_bytes}

pub or_split : (x y : Bool) → x || y ≡ true → (x ≡ true) ⊎ (y ≡ true)
or_split true y h = inl refl
or_split false y h = inr h

pub equal : (b k : ℕ) → (b == k) ≡ true → b ≡ k
equal b k h = grind (arith, nat_tests)

-- what holds of each number of a list holds of one that is among them
pub pick : (ks : List ℕ) (b : ℕ) (p : ℕ → Bool) → list_any (λ k. b == k) ks ≡ true → list_all p ks ≡ true → p b ≡ true
pick [] b p h g = absurd (let k : false ≡ true = h in cc)
pick (k ∷ ks) b p h g = go (or_split (b == k) (list_any (λ j. b == j) ks) h) (and_parts (p k) (list_all p ks) g) (pick ks b p)
  where
    go : ((b == k) ≡ true) ⊎ (list_any (λ j. b == j) ks ≡ true) → (p k ≡ true) × (list_all p ks ≡ true) → (list_any (λ j. b == j) ks ≡ true → list_all p ks ≡ true → p b ≡ true) → p b ≡ true
    go (inl e) parts more = subst (λ x. p x ≡ true) (sym (equal b k e)) parts.0
    go (inr e) parts more = more e parts.1

at_single : list_all (λ k. is_sign (k ∷ [])) singles ≡ true
unfolding is_sign is_outside_sign
at_single = refl

at_equals : list_all (λ k. is_sign (k ∷ 61 ∷ [])) before_equals ≡ true
unfolding is_sign is_outside_sign
at_equals = refl

at_doubled : list_all (λ k. is_sign (k ∷ k ∷ [])) doubled ≡ true
unfolding is_sign is_outside_sign
at_doubled = refl

arrow : (b c : ℕ) → c ≡ 62 → b ≡ 61 → is_sign (b ∷ c ∷ []) ≡ true
unfolding is_sign is_outside_sign
arrow b c p q = rw (p, q) refl

two : (b c : ℕ) → double b c ≡ true → is_sign (b ∷ c ∷ []) ≡ true
two b c h = first (or_split ((c == 61 && takes_equals b) || (c == 62 && b == 61)) (doubles c && c == b) h)
  where
    second : ((c == 61 && takes_equals b) ≡ true) ⊎ ((c == 62 && b == 61) ≡ true) → is_sign (b ∷ c ∷ []) ≡ true
    second (inl e) = let p = and_parts (c == 61) (takes_equals b) e in subst (λ x. is_sign (b ∷ x ∷ []) ≡ true) (sym (equal c 61 p.0)) (pick before_equals b (λ k. is_sign (k ∷ 61 ∷ [])) p.1 at_equals)
    second (inr e) = let p = and_parts (c == 62) (b == 61) e in arrow b c (equal c 62 p.0) (equal b 61 p.1)

    first : (((c == 61 && takes_equals b) || (c == 62 && b == 61)) ≡ true) ⊎ ((doubles c && c == b) ≡ true) → is_sign (b ∷ c ∷ []) ≡ true
    first (inl e) = second (or_split (c == 61 && takes_equals b) (c == 62 && b == 61) e)
    first (inr e) = let p = and_parts (doubles c) (c == b) e in subst (λ x. is_sign (x ∷ c ∷ []) ≡ true) (equal c b p.1) (pick doubled c (λ k. is_sign (k ∷ k ∷ [])) p.0 at_doubled)

abbrev thrice : List ℕ
thrice = 46 ∷ 62 ∷ []

abbrev twice_equals : List ℕ
twice_equals = 60 ∷ 62 ∷ 94 ∷ []

at_thrice : list_all (λ k. is_sign (k ∷ k ∷ k ∷ [])) thrice ≡ true
unfolding is_sign is_outside_sign
at_thrice = refl

at_twice : list_all (λ k. is_sign (k ∷ k ∷ 61 ∷ [])) twice_equals ≡ true
unfolding is_sign is_outside_sign
at_twice = refl

in_two : (d j k : ℕ) → (d == j || d == k) ≡ true → list_any (λ x. d == x) (j ∷ k ∷ []) ≡ true
in_two d j k h = ⊎_elim (λ e. rw e refl) (λ e. rw e (go (d == j))) (or_split (d == j) (d == k) h)
  where
    go : (x : Bool) → (x || (true || false)) ≡ true
    go true = refl
    go false = refl

in_three : (d i j k : ℕ) → (d == i || d == j || d == k) ≡ true → list_any (λ x. d == x) (i ∷ j ∷ k ∷ []) ≡ true
in_three d i j k h = ⊎_elim (λ e. ⊎_elim (λ f. rw f refl) (λ f. rw f (go (d == i) (d == k))) (or_split (d == i) (d == j) e)) (λ e. rw e (far (d == i) (d == j))) (or_split (d == i || d == j) (d == k) h)
  where
    go : (x y : Bool) → (x || (true || (y || false))) ≡ true
    go true y = refl
    go false y = refl

    far : (x y : Bool) → (x || (y || (true || false))) ≡ true
    far true y = refl
    far false true = refl
    far false false = refl

three : (b c d : ℕ) → triple b c d ≡ true → is_sign (b ∷ c ∷ d ∷ []) ≡ true
three b c d h = go (or_split ((d == 46 || d == 62) && c == d && b == d) (d == 61 && c == b && (b == 60 || b == 62 || b == 94)) h)
  where
    go : (((d == 46 || d == 62) && c == d && b == d) ≡ true) ⊎ ((d == 61 && c == b && (b == 60 || b == 62 || b == 94)) ≡ true) → is_sign (b ∷ c ∷ d ∷ []) ≡ true
    go (inl e) =
        let p = and_parts ((d == 46 || d == 62) && c == d) (b == d) e in
        let q = and_parts (d == 46 || d == 62) (c == d) p.0 in
        let r = pick thrice d (λ k. is_sign (k ∷ k ∷ k ∷ [])) (in_two d 46 62 q.0) at_thrice in
        subst (λ x. is_sign (x ∷ c ∷ d ∷ []) ≡ true) (sym (equal b d p.1)) (subst (λ x. is_sign (d ∷ x ∷ d ∷ []) ≡ true) (sym (equal c d q.1)) r)
    go (inr e) =
        let p = and_parts (d == 61 && c == b) (b == 60 || b == 62 || b == 94) e in
        let q = and_parts (d == 61) (c == b) p.0 in
        let r = pick twice_equals b (λ k. is_sign (k ∷ k ∷ 61 ∷ [])) (in_three b 60 62 94 p.1) at_twice in
        subst (λ x. is_sign (b ∷ x ∷ d ∷ []) ≡ true) (sym (equal c b q.1)) (subst (λ x. is_sign (b ∷ b ∷ x ∷ []) ≡ true) (sym (equal d 61 q.0)) r)

longest_sign : (b c d e : ℕ) → e ≡ 61 → b ≡ 62 → c ≡ 62 → d ≡ 62 → is_sign (b ∷ c ∷ d ∷ e ∷ []) ≡ true
unfolding is_sign is_outside_sign
longest_sign b c d e w x y z = rw (w, x, y, z) refl

four : (b c d e : ℕ) → quadruple b c d e ≡ true → is_sign (b ∷ c ∷ d ∷ e ∷ []) ≡ true
four b c d e h =
    let p = and_parts (e == 61 && b == 62 && c == 62) (d == 62) h in
    let q = and_parts (e == 61 && b == 62) (c == 62) p.0 in
    let r = and_parts (e == 61) (b == 62) q.0 in
    longest_sign b c d e (equal e 61 r.0) (equal b 62 r.1) (equal c 62 q.1) (equal d 62 p.1)

-- ---- a front of a sign is a sign

pub double_single : (b c : ℕ) → double b c ≡ true → single b ≡ true
double_single b c h = first (or_split ((c == 61 && takes_equals b) || (c == 62 && b == 61)) (doubles c && c == b) h)
  where
    second : ((c == 61 && takes_equals b) ≡ true) ⊎ ((c == 62 && b == 61) ≡ true) → single b ≡ true
    second (inl e) = pick before_equals b single (and_parts (c == 61) (takes_equals b) e).1 refl
    second (inr e) = subst (λ x. single x ≡ true) (sym (equal b 61 (and_parts (c == 62) (b == 61) e).1)) refl

    first : (((c == 61 && takes_equals b) || (c == 62 && b == 61)) ≡ true) ⊎ ((doubles c && c == b) ≡ true) → single b ≡ true
    first (inl e) = second (or_split (c == 61 && takes_equals b) (c == 62 && b == 61) e)
    first (inr e) = let p = and_parts (doubles c) (c == b) e in subst (λ x. single x ≡ true) (equal c b p.1) (pick doubled c single p.0 refl)

pub triple_double : (b c d : ℕ) → triple b c d ≡ true → double b c ≡ true
triple_double b c d h = go (or_split ((d == 46 || d == 62) && c == d && b == d) (d == 61 && c == b && (b == 60 || b == 62 || b == 94)) h)
  where
    go : (((d == 46 || d == 62) && c == d && b == d) ≡ true) ⊎ ((d == 61 && c == b && (b == 60 || b == 62 || b == 94)) ≡ true) → double b c ≡ true
    go (inl e) =
        let p = and_parts ((d == 46 || d == 62) && c == d) (b == d) e in
        let q = and_parts (d == 46 || d == 62) (c == d) p.0 in
        let r = pick thrice d (λ k. double k k) (in_two d 46 62 q.0) refl in
        subst (λ x. double x c ≡ true) (sym (equal b d p.1)) (subst (λ x. double d x ≡ true) (sym (equal c d q.1)) r)
    go (inr e) =
        let p = and_parts (d == 61 && c == b) (b == 60 || b == 62 || b == 94) e in
        let q = and_parts (d == 61) (c == b) p.0 in
        let r = pick twice_equals b (λ k. double k k) (in_three b 60 62 94 p.1) refl in
        subst (λ x. double b x ≡ true) (sym (equal c b q.1)) r

pub quadruple_triple : (b c d e : ℕ) → quadruple b c d e ≡ true → triple b c d ≡ true
quadruple_triple b c d e h =
    let p = and_parts (e == 61 && b == 62 && c == 62) (d == 62) h in
    let q = and_parts (e == 61 && b == 62) (c == 62) p.0 in
    let r = and_parts (e == 61) (b == 62) q.0 in
    rw (equal b 62 r.1, equal c 62 q.1, equal d 62 p.1) refl

-- ---- the table

pub in_table : (w : Bytes) → is_sign_by_bytes w ≡ true → is_sign w ≡ true
unfolding is_sign_by_bytes
in_table [] h = absurd (let k : false ≡ true = h in cc)
in_table (b ∷ []) h = pick singles b (λ k. is_sign (k ∷ [])) h at_single
in_table (b ∷ c ∷ []) h = two b c h
in_table (b ∷ c ∷ d ∷ []) h = three b c d h
in_table (b ∷ c ∷ d ∷ e ∷ []) h = four b c d e h
in_table (b ∷ c ∷ d ∷ e ∷ f ∷ w) h = absurd (let k : false ≡ true = h in cc)

-- ---- and back

same_bytes : (x w : Bytes) → bytes_eq x w ≡ true → x ≡ w
same_bytes [] [] h = refl
same_bytes [] (b ∷ w) h = absurd (let k : false ≡ true = h in cc)
same_bytes (a ∷ x) [] h = absurd (let k : false ≡ true = h in cc)
same_bytes (a ∷ x) (b ∷ w) h = let p = and_parts (a == b) (bytes_eq x w) h in let e = equal a b p.0 in let f = same_bytes x w p.1 in cc

pub among_all : (xs : List Bytes) (w : Bytes) (p : Bytes → Bool) → among xs w ≡ true → list_all p xs ≡ true → p w ≡ true
among_all [] w p h g = absurd (let k : false ≡ true = h in cc)
among_all (x ∷ xs) w p h g = go (or_split (bytes_eq x w) (among xs w) h) (and_parts (p x) (list_all p xs) g) (among_all xs w p)
  where
    go : (bytes_eq x w ≡ true) ⊎ (among xs w ≡ true) → (p x ≡ true) × (list_all p xs ≡ true) → (among xs w ≡ true → list_all p xs ≡ true → p w ≡ true) → p w ≡ true
    go (inl e) parts more = subst (λ (y : Bytes). p y ≡ true) (same_bytes x w e) parts.0
    go (inr e) parts more = more e parts.1

used_by_bytes : list_all is_sign_by_bytes used_signs ≡ true
unfolding is_sign_by_bytes
used_by_bytes = refl

outside_by_bytes : list_all is_sign_by_bytes outside_signs ≡ true
unfolding is_sign_by_bytes
outside_by_bytes = refl

pub by_bytes : (w : Bytes) → is_sign w ≡ true → is_sign_by_bytes w ≡ true
unfolding is_sign is_outside_sign
by_bytes w h = ⊎_elim (λ e. among_all used_signs w is_sign_by_bytes e used_by_bytes) (λ e. among_all outside_signs w is_sign_by_bytes e outside_by_bytes) (or_split (among used_signs w) (among outside_signs w) h)
