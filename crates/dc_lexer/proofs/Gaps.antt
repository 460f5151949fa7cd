-- What white space behind an item changes of what can be an item there.
use Rattle.std.proofs.Common.{◌≡◌, ℕ, suc, ◌+◌, ◌<◌, ◌≤◌, Bool, true, false, not, ◌&&◌, ◌||◌, ◌==◌, [], ◌∷◌, ◌++◌, ◌⊎◌, inl, inr, length, drop, ⊎_elim, refl, sym, ap, subst, ◌∙◌, append_assoc, append-nil, arith, length-append}
use Rattle.std.proofs.lemmas.Bool.{and_parts, cases_lt}
use Rattle.std.proofs.lemmas.Bool.Decides.{nat_tests}
use Rattle.std.proofs.lemmas.Str.{char_from_byte}
use Rattle.std.specs.List.{list_all}
use Rattle.std.specs.Char.{encode_utf8, is_ascii_digit}
use Rattle.dc_token.specs.Balance.{Bytes}
use Rattle.dc_token.specs.Bytes.{Run, begins, is_blank, is_digit_or_bar}
use Rattle.dc_token.specs.Vocabulary.{starts_name}
use Rattle.dc_token.specs.Numbers.{EndsPoint, IsDecimal, IsFloat}
use Rattle.dc_token.specs.Strings.{is_suffix_byte}
use Rattle.dc_token.specs.Items.{PlainSpells, Spells, IsItem, Next, allows}
use Rattle.dc_token.specs.declared.item.Item.{Item}
use Rattle.dc_token.specs.declared.item.Item.TheVariants as item
use Rattle.dc_lexer.proofs.Starts.{starts}
use Rattle.dc_lexer.proofs.OneKind.{one_kind}
use Rattle.dc_lexer.proofs.Solid.{heads_are, tails_are, leaves, is_solid, before, is_inner, inner_bytes, start_solid, is_lean, solid}

-- ---- characters across a seam

-- the text does not begin inside a character
abbrev pub IsApart : Bytes → Type 0
IsApart u = (b : ℕ) (v : Bytes) → u ≡ b ∷ v → is_inner b ≡ false

pub all_behind : (f : ℕ → Bool) (v w : Bytes) → list_all f (v ++ w) ≡ true → list_all f w ≡ true
all_behind f [] w h = h
all_behind f (b ∷ v) w h = all_behind f v w (and_parts (f b) (list_all f (v ++ w)) h).1

-- where a character goes on behind a seam, the text there begins inside a character
crosses : (q v u : Bytes) (d : ℕ) → 0 < length q → length q < length (encode_utf8 d) → q ++ u ≡ encode_utf8 d ++ v → IsApart u → ⊥
crosses [] v u d some less e apart = absurd (omega arith)
crosses (h ∷ q) v u d some less e apart = go l.left l.front l.rest
  where
    go : (left : Bytes) → encode_utf8 d ≡ (h ∷ q) ++ left → u ≡ left ++ v → ⊥
    go [] front rest = absurd (let k : length (encode_utf8 d) ≡ suc (length (q ++ [])) = ap (λ (x : Bytes). length x) front in let m : length (q ++ []) ≡ length q = ap (λ (x : Bytes). length x) (append-nil q) in omega arith)
    go (b ∷ left) front rest =
        let all : list_all is_inner (q ++ (b ∷ left)) ≡ true = subst (λ (x : Bytes). list_all is_inner (drop 1 x) ≡ true) front (inner_bytes d) in
        let inner : is_inner b ≡ true = (and_parts (is_inner b) (list_all is_inner left) (all_behind is_inner q (b ∷ left) all)).0 in
        absurd (let o = apart b (left ++ v) rest in let k : false ≡ true = sym o ∙ inner in cc)

    l : Rattle.dc_lexer.proofs.Solid.Leaves (encode_utf8 d) (h ∷ q) v u
    l = leaves (encode_utf8 d) (h ∷ q) v u (sym e) (omega arith)

-- `.` and names stand at one side of a seam where they stand at the other
pub seam : (q a b : Bytes) → 0 < length q → IsApart b → EndsPoint (q ++ a) → EndsPoint (q ++ b)
seam [] a b some apart p = absurd (omega arith)
seam (h ∷ q) a b some apart p = record {
  no_point = λ v e. p.no_point (q ++ a) (ap (λ (x : ℕ). x ∷ (q ++ a)) (heads_are h 46 (q ++ b) v e));
  no_name = λ d v sc st e. ⊎_elim
      (λ less. crosses (h ∷ q) v b d (omega arith) less e apart)
      (λ le. let l = leaves (h ∷ q) (encode_utf8 d) b v e le in p.no_name d (l.left ++ a) sc st (ap (λ (x : Bytes). x ++ a) l.front ∙ append_assoc (encode_utf8 d) l.left a))
      (cases_lt (suc (length q)) (length (encode_utf8 d)));
}

pub blank_apart : (c : ℕ) (z : Bytes) → is_blank c ≡ true → IsApart (c ∷ z)
blank_apart c z blank b v e = let i = heads_are c b z v e in let k : is_inner c ≡ false = grind (arith, nat_tests) in subst (λ x. is_inner x ≡ false) i k

pub blank_ends : (c : ℕ) (z : Bytes) → is_blank c ≡ true → EndsPoint (c ∷ z)
blank_ends c z blank = record {
  no_point = λ v e. (let i = heads_are c 46 z v e in absurd (let k : is_blank 46 ≡ true = subst (λ x. is_blank x ≡ true) i blank in let l : false ≡ true = k in cc));
  no_name = λ d v sc st e.
      let low : c < 128 = grind (arith, nat_tests) in
      let is : d ≡ c = char_from_byte (c ∷ z) v d e low (omega arith) in
      let s : is_solid c ≡ true = start_solid c (subst (λ x. starts_name x ≡ true) is st) low in
      absurd (let k : not (is_blank c) ≡ true = s in let l : false ≡ true = subst (λ x. not x ≡ true) blank k in cc);
}

-- a float stays one where white space follows
pub float_stays : (w x u z : Bytes) (c : ℕ) → is_blank c ≡ true → IsFloat w (x ++ u) → IsFloat w (x ++ (c ∷ z))
float_stays w x u z c blank f = record {
  digits = f.digits;
  mark = f.mark;
  tail = f.tail;
  parts = f.parts;
  run = f.run;
  marks = ⊎_elim (λ e. inl e) (λ e. inr (e.0, go (f.tail ++ x) refl e.1)) f.marks;
  goes = f.goes;
}
  where
    go : (q : Bytes) → q ≡ f.tail ++ x → EndsPoint (f.tail ++ (x ++ u)) → EndsPoint (f.tail ++ (x ++ (c ∷ z)))
    go q is p =
        let old : EndsPoint (q ++ u) = subst (λ (y : Bytes). EndsPoint (y ++ u)) (sym is) (subst EndsPoint (sym (append_assoc f.tail x u)) p) in
        subst EndsPoint (ap (λ (y : Bytes). y ++ (c ∷ z)) is ∙ append_assoc f.tail x (c ∷ z)) (new q old)
      where
        new : (q : Bytes) → EndsPoint (q ++ u) → EndsPoint (q ++ (c ∷ z))
        new [] old = blank_ends c z blank
        new (h ∷ q) old = seam (h ∷ q) u (c ∷ z) (omega arith) (blank_apart c z blank) old

-- ---- what the first two bytes allow

not_two : (h c a : ℕ) → is_blank c ≡ true → is_blank a ≡ false → (h == a && c == a) ≡ false
not_two h c a p q = grind (arith, nat_tests)

second_blank : (h c a b : ℕ) (z : Bytes) → is_blank c ≡ true → is_blank b ≡ false → begins a b (h ∷ c ∷ z) ≡ false
second_blank h c a b z p q = go (c == b) refl
  where
    go : (y : Bool) → (c == b) ≡ y → ((h == a) && (c == b)) ≡ false
    go true e = absurd (let i : c ≡ b = grind (arith, nat_tests) in let k : is_blank b ≡ true = subst (λ x. is_blank x ≡ true) i p in let l : false ≡ true = sym q ∙ k in cc)
    go false e = rw e (last (h == a))
      where
        last : (x : Bool) → (x && false) ≡ false
        last true = refl
        last false = refl

-- White space behind a front allows what was allowed there.
pub allows_blank : (k : Item) (p u z : Bytes) (c : ℕ) → is_blank c ≡ true → 0 < length p → allows (p ++ u) k ≡ true → allows (p ++ (c ∷ z)) k ≡ true
allows_blank k [] u z c blank some h = absurd (omega arith)
allows_blank item.Sign (a ∷ []) u z c blank some h = rw (second_blank a c 47 42 z blank refl, second_blank a c 47 43 z blank refl) refl
allows_blank item.Name (a ∷ []) u z c blank some h = rw (second_blank a c 113 123 z blank refl, second_blank a c 114 34 z blank refl, second_blank a c 113 34 z blank refl, second_blank a c 120 34 z blank refl) refl
allows_blank item.Decimal (a ∷ []) u z c blank some h = rw (second_blank a c 48 120 z blank refl, second_blank a c 48 98 z blank refl) refl
allows_blank item.Sign (a ∷ b ∷ p) u z c blank some h = h
allows_blank item.Name (a ∷ b ∷ p) u z c blank some h = h
allows_blank item.Decimal (a ∷ b ∷ p) u z c blank some h = h
allows_blank other (a ∷ p) u z c blank some h = refl

-- Behind two bytes and more nothing is looked at.
pub allows_same : (k : Item) (p a b : Bytes) → 1 < length p → allows (p ++ a) k ≡ true → allows (p ++ b) k ≡ true
allows_same k [] a b some h = absurd (omega arith)
allows_same k (x ∷ []) a b some h = absurd (omega arith)
allows_same item.Sign (x ∷ y ∷ p) a b some h = h
allows_same item.Name (x ∷ y ∷ p) a b some h = h
allows_same item.Decimal (x ∷ y ∷ p) a b some h = h
allows_same other (x ∷ y ∷ p) a b some h = refl

-- ---- a point directly behind a decimal integer

no_base : (h d : ℕ) → (is_digit_or_bar d ≡ true) ⊎ (d ≡ 46) → not (((h == 48) && (d == 120)) || ((h == 48) && (d == 98))) ≡ true
no_base h d (inl e) = grind (arith, nat_tests)
no_base h d (inr e) = grind (arith, nat_tests)

digits_allowed : (digits u : Bytes) → Run is_ascii_digit is_digit_or_bar digits → allows (digits ++ (46 ∷ u)) item.Decimal ≡ true
digits_allowed digits u r = rw r.parts (go r.tail r.goes)
  where
    go : (tail : Bytes) → list_all is_digit_or_bar tail ≡ true → allows ((r.head ∷ tail) ++ (46 ∷ u)) item.Decimal ≡ true
    go [] h = no_base r.head 46 (inr refl)
    go (d ∷ tail) h = no_base r.head d (inl (and_parts (is_digit_or_bar d) (list_all is_digit_or_bar tail) h).0)

digit_counts : (b : ℕ) → is_ascii_digit b ≡ true → is_digit_or_bar b ≡ true
digit_counts b h = grind (arith, nat_tests)

digits_all : (digits : Bytes) → Run is_ascii_digit is_digit_or_bar digits → list_all is_digit_or_bar digits ≡ true
digits_all digits r = let h = digit_counts r.head r.begins in rw (r.parts, h) r.goes

pub same_fronts : (w v a b : Bytes) → w ++ a ≡ v ++ b → length w ≡ length v → (w ≡ v) × (a ≡ b)
same_fronts [] [] a b e h = (refl, e)
same_fronts [] (d ∷ v) a b e h = absurd (omega arith)
same_fronts (c ∷ w) [] a b e h = absurd (omega arith)
same_fronts (c ∷ w) (d ∷ v) a b e h =
    let r = same_fronts w v a b (tails_are c d (w ++ a) (v ++ b) e) (omega arith) in
    let i = heads_are c d (w ++ a) (v ++ b) e in
    (let f = r.0 in cc, r.1)

-- What is asked of texts u and b behind w and x, where w was the next item in front of x and u: whatever white space
-- ends stands before b; and of allowed items, floats, and a first byte of b, that b changes none.
pub record Tail (k : Item) (w x u b : Bytes) : Type 0 where
  pub within : (j : Item) (v y : Bytes) → is_lean j ≡ true → PlainSpells j v y → (w ++ x) ++ b ≡ v ++ y → length w < length v → length v ≤ length (w ++ x)
  pub allowed : allows (w ++ (x ++ u)) k ≡ true → allows (w ++ (x ++ b)) k ≡ true
  pub float_new : IsFloat w (x ++ u) → IsFloat w (x ++ b)
  pub float_old : (v left : Bytes) → length w < length v → w ++ x ≡ v ++ left → IsFloat v (left ++ b) → IsFloat v (left ++ u)
  pub stops : x ≡ [] → (h : ℕ) (y : Bytes) → b ≡ h ∷ y → (is_suffix_byte h ≡ false) × (h ≡ 47 → ⊥)
  pub some : 0 < length (x ++ b)

-- the next item of a text is w, of this kind, and x and then u stand behind it
module _ (k : Item) (w x u : Bytes) (n : Next Spells (w ++ (x ++ u)) k w (x ++ u)) where
  pub some_byte : 0 < length w
  some_byte = let b = starts k w (x ++ u) n.is.spells in rw b.parts (omega arith)

  -- digits and a point that make up w and x: w is a decimal integer, and x the point
  point_apart : (digits : Bytes) → Run is_ascii_digit is_digit_or_bar digits → w ++ x ≡ digits ++ (46 ∷ []) → length w ≤ length digits → (k ≡ item.Decimal) × ((list_all is_digit_or_bar w ≡ true) × (x ≡ 46 ∷ []))
  point_apart digits r e short =
      let t : w ++ (x ++ u) ≡ digits ++ (46 ∷ u) = sym (append_assoc w x u) ∙ ap (λ (y : Bytes). y ++ u) e ∙ append_assoc digits (46 ∷ []) u in
      let d : IsDecimal digits = record { digits = digits; suffix = []; parts = sym (append-nil digits); run = r; ends = refl } in
      let i : IsItem Spells item.Decimal digits (46 ∷ u) = record { spells = d; allowed = digits_allowed digits u r } in
      let long = n.longest item.Decimal digits (46 ∷ u) t i in
      let same = same_fronts w digits (x ++ u) (46 ∷ u) t (omega arith) in
      let f = same_fronts w digits x (46 ∷ []) e (omega arith) in
      let j : IsItem Spells item.Decimal w (x ++ u) = subst (λ (y : Bytes). IsItem Spells item.Decimal w y) (sym same.1) (subst (λ (y : Bytes). IsItem Spells item.Decimal y (46 ∷ u)) (sym same.0) i) in
      (one_kind (w ++ (x ++ u)) w (x ++ u) refl (begins 113 123 (w ++ (x ++ u))) refl k item.Decimal n.is j, (subst (λ (y : Bytes). list_all is_digit_or_bar y ≡ true) (sym same.0) (digits_all digits r), f.1))

  module _ (b : Bytes) (f : Tail k w x u b) where
    old_spells : (j : Item) (v y left : Bytes) → is_lean j ≡ true → length w < length v → w ++ x ≡ v ++ left → y ≡ left ++ b → PlainSpells j v y → Spells j v (left ++ u)
    old_spells item.Name v y left lean longer front rest s = s
    old_spells item.Decimal v y left lean longer front rest s = s
    old_spells item.Hexadecimal v y left lean longer front rest s = s
    old_spells item.Binary v y left lean longer front rest s = s
    old_spells item.Float v y left lean longer front rest s = f.float_old v left longer front (subst (IsFloat v) rest s)
    old_spells item.PointFloat v y left lean longer front rest s = s
    old_spells item.HexFloat v y left lean longer front rest s = s
    old_spells item.Sign v y left lean longer front rest s = s
    old_spells other v y left lean longer front rest s = absurd (let g : false ≡ true = lean in cc)

    plain_spells : (j : Item) (v y : Bytes) → is_lean j ≡ true → Spells j v y → PlainSpells j v y
    plain_spells item.TokenString v y lean s = absurd (let g : false ≡ true = lean in cc)
    plain_spells other v y lean s = s

    -- a longer item that white space ends was there before
    pub no_longer : (j : Item) (v y : Bytes) → is_lean j ≡ true → w ++ (x ++ b) ≡ v ++ y → IsItem Spells j v y → length w < length v → ⊥
    no_longer j v y lean e i longer =
        let s = plain_spells j v y lean i.spells in
        let whole : (w ++ x) ++ b ≡ v ++ y = append_assoc w x b ∙ e in
        let within = f.within j v y lean s whole longer in
        let l = leaves (w ++ x) v b y whole within in
        let old : w ++ (x ++ u) ≡ v ++ (l.left ++ u) = sym (append_assoc w x u) ∙ ap (λ (a : Bytes). a ++ u) l.front ∙ append_assoc v l.left u in
        let some = some_byte in
        let two : 1 < length v = omega arith in
        let o : IsItem Spells j v (l.left ++ u) = record { spells = old_spells j v y l.left lean longer l.front l.rest s; allowed = allows_same j v y (l.left ++ u) two i.allowed } in
        let short = n.longest j v (l.left ++ u) old o in
        absurd (omega arith)

  module _ (z : Bytes) (c : ℕ) (blank : is_blank c ≡ true) (apart : IsApart u) (no_point : k ≡ item.Decimal → list_all is_digit_or_bar w ≡ true → x ≡ 46 ∷ [] → ⊥) where
    old_float : (v left : Bytes) → length w < length v → w ++ x ≡ v ++ left → IsFloat v (left ++ (c ∷ z)) → IsFloat v (left ++ u)
    old_float v left longer front f = record {
      digits = f.digits;
      mark = f.mark;
      tail = f.tail;
      parts = f.parts;
      run = f.run;
      marks = ⊎_elim (λ e. inl e) (λ e. inr (e.0, go (f.tail ++ left) refl e.0 e.1)) f.marks;
      goes = f.goes;
    }
      where
        ends_there : f.tail ++ left ≡ [] → f.mark ≡ 46 → ⊥
        ends_there e m =
            let tail : f.tail ≡ [] = first f.tail left e in
            let none : left ≡ [] = second f.tail left e in
            let is : v ≡ f.digits ++ (46 ∷ []) = f.parts ∙ ap (λ (b : ℕ). f.digits ++ (b ∷ f.tail)) m ∙ ap (λ (y : Bytes). f.digits ++ (46 ∷ y)) tail in
            let all : w ++ x ≡ f.digits ++ (46 ∷ []) = front ∙ ap (λ (y : Bytes). v ++ y) none ∙ append-nil v ∙ is in
            let size : length v ≡ length f.digits + 1 = ap (λ (y : Bytes). length y) is ∙ length-append f.digits (46 ∷ []) in
            let p = point_apart f.digits f.run all (omega arith) in
            let q = p.1 in
            no_point p.0 q.0 q.1
          where
            first : (a b : Bytes) → a ++ b ≡ [] → a ≡ []
            first [] b e = refl
            first (h ∷ a) b e = cc

            second : (a b : Bytes) → a ++ b ≡ [] → b ≡ []
            second [] b e = e
            second (h ∷ a) b e = cc

        go : (q : Bytes) → q ≡ f.tail ++ left → f.mark ≡ 46 → EndsPoint (f.tail ++ (left ++ (c ∷ z))) → EndsPoint (f.tail ++ (left ++ u))
        go [] is m p = absurd (ends_there (sym is) m)
        go (h ∷ q) is m p =
            let new : EndsPoint ((h ∷ q) ++ (c ∷ z)) = subst (λ (a : Bytes). EndsPoint (a ++ (c ∷ z))) (sym is) (subst EndsPoint (sym (append_assoc f.tail left (c ∷ z))) p) in
            let old : EndsPoint ((h ∷ q) ++ u) = seam (h ∷ q) (c ∷ z) u (omega arith) apart new in
            subst EndsPoint (ap (λ (a : Bytes). a ++ u) is ∙ append_assoc f.tail left u) old

    blank_stops : (h : ℕ) (y : Bytes) → c ∷ z ≡ h ∷ y → (is_suffix_byte h ≡ false) × (h ≡ 47 → ⊥)
    blank_stops h y e =
        let b : is_blank h ≡ true = subst (λ a. is_blank a ≡ true) (heads_are c h z y e) blank in
        (grind (arith, nat_tests), λ i. absurd (let k : is_blank 47 ≡ true = subst (λ a. is_blank a ≡ true) i b in let l : false ≡ true = k in cc))

    -- white space behind them
    pub blank_tail : Tail k w x u (c ∷ z)
    blank_tail = record {
      within = λ j v y lean s e longer. before is_solid (w ++ x) v c z y (ap not blank) (solid j v y lean s) e;
      allowed = λ a. (
          let some = some_byte in
          let l = length-append w x in
          let old : allows ((w ++ x) ++ u) k ≡ true = subst (λ (y : Bytes). allows y k ≡ true) (sym (append_assoc w x u)) a in
          subst (λ (y : Bytes). allows y k ≡ true) (append_assoc w x (c ∷ z)) (allows_blank k (w ++ x) u z c blank (omega arith) old));
      float_new = float_stays w x u z c blank;
      float_old = old_float;
      stops = λ e. blank_stops;
      some = (let l = length-append x (c ∷ z) in omega arith);
    }
