-- Readers of what may be absent, and of lists.
use Rattle.std.proofs.Common.{is_some, ◌≡◌, ℕ, zero, suc, ◌+◌, ◌≤◌, Bool, true, false, ◌⊎◌, List, [], ◌∷◌, ◌++◌, length, Option, Some, None, refl, sym, ap, ◌∙◌, append_assoc, arith, inl, inr, length-append}
use Rattle.dc_grammar.specs.declared.terminal.Terminal.{Terminal}
use Rattle.dc_grammar.specs.declared.terminal.Terminal.TheVariants as k
use Rattle.dc_grammar.specs.Terminals.{Tokens, ahead, terminal_of}
use Rattle.dc_grammar.specs.Shapes as s
use Rattle.dc_grammar.specs.Shapes.{Optional, Several, After, Listed, Perhaps, Flag}
use Rattle.dc_grammar.specs.Reading.{Outcome, Reader, both, maybe, many, many_from}
use Rattle.dc_grammar.specs.Readers.{or_empty}
use Rattle.dc_grammar.specs.PartReaders.{after, next, listed, some_listed, flag}
use Rattle.dc_grammar.proofs.Good.{Holds, Reaches, Begins, Good, Loose, Marked, Apart, none, or, is, is_same, Pair, pair_sound, pair_reach, stops_at, length_of, mark_good, then, then_loose, wider}
use Rattle.dc_grammar.proofs.Lists.{Maybe, Many, loose_maybe, loose_many}
use Rattle.dc_grammar.proofs.Choices.{Within, within, outside}
use Rattle.dc_grammar.proofs.Tools.{pair, Image, image, loose_image, lower}

append_nil : (ts : Tokens) → ts ++ [] ≡ ts
append_nil [] = refl
append_nil (t ∷ ts) = ap (λ (us : Tokens). t ∷ us) (append_nil ts)

-- the same texts under another name, by the same answers
pub retype : {A : Type 0} {n : ℕ} {g f : Terminal → Bool} {P : Tokens → A → Type 0} {p : Reader A} (good : Good n g f P p) (F : Tokens → A → Type 0) (p' : Reader A)
    → ((ts : Tokens) → p' ts ≡ p ts) → ((ts : Tokens) (x : A) → P ts x → F ts x) → ((ts : Tokens) (x : A) → F ts x → P ts x) → Good n g f F p'
retype {A} {n} {g} {f} {P} {p} good F p' same into back = record {
  sound = λ ts. rw same (sound ts (p ts) (good.sound ts));
  reach = λ front x rest len is. rw same (good.reach front x rest len (back front x is));
  begins = λ front x is. good.begins front x (back front x is);
}
  where
    sound : (ts : Tokens) (r : Outcome A) → Holds P ts r → Holds F ts r
    sound ts (Some r) h = record { front = h.front; parts = h.parts; is = into h.front r.0 h.is }
    sound ts None h = tt

pub loose_retype : {A : Type 0} {n : ℕ} {g f : Terminal → Bool} {P : Tokens → A → Type 0} {p : Reader A} (good : Loose n g f P p) (F : Tokens → A → Type 0)
    → ((ts : Tokens) (x : A) → P ts x → F ts x) → ((ts : Tokens) (x : A) → F ts x → P ts x) → Loose n g f F p
loose_retype {A} {n} {g} {f} {P} {p} good F into back = record {
  sound = λ ts. sound ts (p ts) (good.sound ts);
  some = good.some;
  reach = λ front x rest len is. good.reach front x rest len (back front x is);
  begins = λ front x is. good.begins front x (back front x is);
}
  where
    sound : (ts : Tokens) (r : Outcome A) → Holds P ts r → Holds F ts r
    sound ts (Some r) h = record { front = h.front; parts = h.parts; is = into h.front r.0 h.is }
    sound ts None h = tt

pub loose_narrow : {A : Type 0} {n : ℕ} {g f : Terminal → Bool} {P : Tokens → A → Type 0} {p : Reader A} → Loose n g f P p → (g' f' : Terminal → Bool) → Within g g' → Within f f' → Loose n g' f' P p
loose_narrow {A} {n} {g} {f} {P} {p} good g' f' less more = record {
  sound = good.sound;
  some = good.some;
  reach = λ front x rest len is. wider g g' (p (front ++ rest)) x rest (outside g g' less) (good.reach front x rest len is);
  begins = λ front x is. begins front (good.begins front x is);
}
  where
    begins : (front : Tokens) → (front ≡ []) ⊎ Begins f front → (front ≡ []) ⊎ Begins f' front
    begins front (inl e) = inl e
    begins front (inr b) = inr (record { head = b.head; tail = b.tail; parts = b.parts; kind = within f f' more (terminal_of b.head) b.kind })

-- ---- what may be absent

pub optional_into : {A : Type 0} {P : Tokens → A → Type 0} (ts : Tokens) (x : Option A) → Maybe P ts x → Optional P ts x
optional_into ts (Some x) h = s.present h
optional_into ts None h = rw h s.absent

pub optional_back : {A : Type 0} {P : Tokens → A → Type 0} (ts : Tokens) (x : Option A) → Optional P ts x → Maybe P ts x
optional_back ts x s.absent = refl
optional_back ts x (s.present h) = h

pub optional_good : {A : Type 0} {n : ℕ} {g f : Terminal → Bool} {P : Tokens → A → Type 0} {p : Reader A} → Good n g f P p → Loose n (or g f) f (Optional P) (maybe p)
optional_good {A} {n} {g} {f} {P} {p} good = loose_retype (loose_maybe good) (Optional P) optional_into optional_back

flag_into : (terminal : Terminal) (ts : Tokens) (x : Bool) → Image is_some (Maybe (Marked terminal)) ts x → Flag terminal ts x
flag_into terminal ts x (Some u, h, eq) = rw (← eq) (s.flag h)
flag_into terminal ts x (None, h, eq) = rw (← eq, h) s.no_flag

flag_back : (terminal : Terminal) (ts : Tokens) (x : Bool) → Flag terminal ts x → Image is_some (Maybe (Marked terminal)) ts x
flag_back terminal ts x s.no_flag = (None, refl, refl)
flag_back terminal ts x (s.flag m) = (Some tt, m, refl)

pub flag_good : (n : ℕ) (terminal : Terminal) → Loose n (or none (is terminal)) (is terminal) (Flag terminal) (flag terminal)
flag_good n terminal = loose_retype (loose_image is_some (loose_maybe (mark_good n terminal))) (Flag terminal) (flag_into terminal) (flag_back terminal)

-- ---- lists

pub several_into : {A : Type 0} {P : Tokens → A → Type 0} (ts : Tokens) (xs : List A) → Many P ts xs → Several P ts xs
several_into ts [] h = rw h s.finished
several_into ts (x ∷ xs) (a, b, parts, one, others) = rw parts (s.several one (several_into b xs others))

pub several_back : {A : Type 0} {P : Tokens → A → Type 0} (ts : Tokens) (xs : List A) → Several P ts xs → Many P ts xs
several_back ts xs s.finished = refl
several_back ts xs (s.several {w1 = w1} {w2 = w2} {x = x} {xs = ys} h c) = (w1, w2, refl, h, several_back w2 ys c)

pub several_good : {A : Type 0} {n : ℕ} {g f : Terminal → Bool} {P : Tokens → A → Type 0} {p : Reader A} → Good n g f P p → Apart f g → Loose n (or g f) f (Several P) (many p)
several_good {A} {n} {g} {f} {P} {p} good apart = loose_retype (loose_many good apart) (Several P) several_into several_back

after_into : {A : Type 0} {P : Tokens → A → Type 0} (terminal : Terminal) (ts : Tokens) (x : A) → Image (λ z. z.1) (Pair (Marked terminal) P) ts x → After terminal P ts x
after_into terminal ts x (z, p, eq) = rw (← eq, p.parts) (s.after p.one p.two)

after_back : {A : Type 0} {P : Tokens → A → Type 0} (terminal : Terminal) (ts : Tokens) (x : A) → After terminal P ts x → Image (λ z. z.1) (Pair (Marked terminal) P) ts x
after_back terminal ts x (s.after {w1 = w1} {w2 = w2} {x = y} m h) = ((tt, y), pair w1 w2 m h, refl)

pub after_good : {A : Type 0} {n : ℕ} {g f : Terminal → Bool} {P : Tokens → A → Type 0} {p : Reader A} (terminal : Terminal) → Good n g f P p → Good (suc n) g (is terminal) (After terminal P) (after terminal p)
after_good {A} {n} {g} {f} {P} {p} terminal good =
    retype (image (λ z. z.1) (then (suc n) n none (is terminal) g f (mark_good (suc n) terminal) good (omega arith) (λ x e. refl))) (After terminal P) (after terminal p) (λ ts. refl) (after_into terminal) (after_back terminal)

-- nothing but the terminal
pub only : (terminal : Terminal) (g : Terminal → Bool) → g terminal ≡ false → Apart (is terminal) g
only terminal g e x h = ap g (is_same terminal x h) ∙ e

listed_into : {A : Type 0} {P : Tokens → A → Type 0} (ts : Tokens) (xs : List A) → Image (λ z. z.0 ∷ z.1) (Pair P (Several (After k.Comma P))) ts xs → Listed P ts xs
listed_into ts xs (z, p, eq) = rw (← eq, p.parts) (s.listed p.one p.two)

listed_back : {A : Type 0} {P : Tokens → A → Type 0} (ts : Tokens) (xs : List A) → Listed P ts xs → Image (λ z. z.0 ∷ z.1) (Pair P (Several (After k.Comma P))) ts xs
listed_back ts xs (s.listed {w1 = w1} {w2 = w2} {x = x} {xs = ys} h c) = ((x, ys), pair w1 w2 h c, refl)

abbrev pub after_listed : (Terminal → Bool) → Terminal → Bool
after_listed g = or g (or g (is k.Comma))

pub nexts_good : {A : Type 0} {n : ℕ} {g f : Terminal → Bool} {P : Tokens → A → Type 0} {p : Reader A} → Good n g f P p → g k.Comma ≡ false → Loose n (or g (is k.Comma)) (is k.Comma) (Several (After k.Comma P)) (many (next p))
nexts_good {A} {n} {g} {f} {P} {p} good stop = several_good (lower (after_good k.Comma good)) (only k.Comma g stop)

pub listed_good : {A : Type 0} {n : ℕ} {g f : Terminal → Bool} {P : Tokens → A → Type 0} {p : Reader A} → Good n g f P p → g k.Comma ≡ false → Good n (after_listed g) f (Listed P) (listed p)
listed_good {A} {n} {g} {f} {P} {p} good stop =
    retype (image (λ z. z.0 ∷ z.1) (then_loose n n g f (or g (is k.Comma)) (is k.Comma) good (nexts_good good stop) (omega arith) (only k.Comma g stop))) (Listed P) (listed p) (λ ts. refl) listed_into listed_back

listed_there : {A : Type 0} {P : Tokens → A → Type 0} (ts : Tokens) (xs : List A) → Listed P ts xs → Perhaps (Listed P) ts xs
listed_there ts xs (s.listed h c) = s.there (s.listed h c)

perhaps_into : {A : Type 0} {P : Tokens → A → Type 0} (ts : Tokens) (xs : List A) → Image or_empty (Maybe (Listed P)) ts xs → Perhaps (Listed P) ts xs
perhaps_into ts xs (None, h, eq) = rw (← eq, h) s.not_there
perhaps_into {A} {P} ts xs (Some ys, h, eq) = rw (← eq) (listed_there ts ys h)

perhaps_back : {A : Type 0} {P : Tokens → A → Type 0} (ts : Tokens) (xs : List A) → Perhaps (Listed P) ts xs → Image or_empty (Maybe (Listed P)) ts xs
perhaps_back ts xs s.not_there = (None, refl, refl)
perhaps_back ts xs (s.there {x = y} {xs = ys} h) = (Some (y ∷ ys), h, refl)

pub some_listed_good : {A : Type 0} {n : ℕ} {g f : Terminal → Bool} {P : Tokens → A → Type 0} {p : Reader A} → Good n g f P p → g k.Comma ≡ false
    → Loose n (or (after_listed g) f) f (Perhaps (Listed P)) (some_listed p)
some_listed_good {A} {n} {g} {f} {P} {p} good stop = loose_retype (loose_image or_empty (loose_maybe (listed_good good stop))) (Perhaps (Listed P)) perhaps_into perhaps_back

-- ---- two texts at one place

-- Two texts of one kind that begin there, and behind which none goes on, are one.
pub same_end : {A : Type 0} {g f : Terminal → Bool} {P : Tokens → A → Type 0} {p : Reader A} → ((n : ℕ) → Good n g f P p) → (a b r t : Tokens) (x y : A) → P a x → P b y → a ++ r ≡ b ++ t
    → g (ahead r) ≡ false → g (ahead t) ≡ false → (x ≡ y) × (r ≡ t)
same_end {A} {g} {f} {P} {p} good a b r t x y px py same stop1 stop2 =
    go (p (a ++ r)) ((good (length a)).reach a x r (omega arith) px) (rw (← same) at ((good (length b)).reach b y t (omega arith) py))
  where
    go : (o : Outcome A) → Reaches g o x r → Reaches g o y t → (x ≡ y) × (r ≡ t)
    go (Some o) h c = (sym (h.1 stop1).0 ∙ (c.1 stop2).0, sym (h.1 stop1).1 ∙ (c.1 stop2).1)
    go None h c = absurd h

-- ---- a list, and what follows it, where the two may begin alike

pub exact_at : {A : Type 0} (g : Terminal → Bool) (r : Outcome A) (x : A) (rest : Tokens) → Reaches g r x rest → g (ahead rest) ≡ false → r ≡ Some (x, rest)
exact_at g (Some r) x rest h stop = let e = h.1 stop in ap Some (rw (e.0, e.1) refl)
exact_at g None x rest h stop = absurd h

list_exact : {A : Type 0} {n : ℕ} {g f : Terminal → Bool} {P : Tokens → A → Type 0} {p : Reader A} (good : Good n g f P p) → Apart f g → (m : ℕ) (left : Tokens) (xs : List A) (mid : Tokens)
    → length left ≤ m → length left ≤ n → p mid ≡ None → g (ahead mid) ≡ false → Several P left xs → many_from p m (left ++ mid) ≡ Some (xs, mid)
unfolding many_from
list_exact {A} {n} {g} {f} {P} {p} good apart m left xs mid enough len stop off is = go m left xs (several_back left xs is) enough len
  where
    after_one : (b : Tokens) (ys : List A) → Many P b ys → g (ahead (b ++ mid)) ≡ false
    after_one b [] e = rw e off
    after_one b (y ∷ ys) (c, d, parts, one, others) = rw (parts, append_assoc) (stops_at f g c (d ++ mid) apart (good.begins c y one))

    go : (m : ℕ) (left : Tokens) (xs : List A) → Many P left xs → length left ≤ m → length left ≤ n → many_from p m (left ++ mid) ≡ Some (xs, mid)
    go zero left [] is enough len = rw is refl
    go (suc m) left [] is enough len = rw (is, stop) refl
    go zero left (x ∷ xs) (a, b, parts, one, others) enough len =
        let some = length_of a (good.begins a x one) in
        let e : length left ≡ length a + length b = ap length parts ∙ length-append a b in
        absurd (omega arith)
    go (suc m) left (x ∷ xs) (a, b, parts, one, others) enough len =
        let some = length_of a (good.begins a x one) in
        let e : length left ≡ length a + length b = ap length parts ∙ length-append a b in
        let first : p (a ++ (b ++ mid)) ≡ Some (x, b ++ mid) = exact_at g (p (a ++ (b ++ mid))) x (b ++ mid) (good.reach a x (b ++ mid) (omega arith) one) (after_one b xs others) in
        let more : many_from p m (b ++ mid) ≡ Some (xs, mid) = go m b xs others (omega arith) (omega arith) in
        rw (parts, append_assoc, first, more) refl

pub list_then : {A B : Type 0} {n : ℕ} {g f gQ fQ : Terminal → Bool} {P : Tokens → A → Type 0} {Q : Tokens → B → Type 0} {p : Reader A} {q : Reader B}
    → Good n g f P p → Apart f g → Good n gQ fQ Q q → Apart fQ g → ((front : Tokens) (y : B) (rest : Tokens) → Q front y → p (front ++ rest) ≡ None)
    → Good n gQ (or f fQ) (Pair (Several P) Q) (both (many p) q)
list_then {A} {B} {n} {g} {f} {gQ} {fQ} {P} {Q} {p} {q} gp apart gq off stops = record {
  sound = λ ts. pair_sound (Several P) Q (many p) q gq.sound ts (many p ts) (all.sound ts);
  reach = λ front z rest len is.
      let parts : length front ≡ length is.left + length is.right = ap length is.parts ∙ length-append is.left is.right in
      let whole : length (is.left ++ (is.right ++ rest)) ≡ length is.left + length (is.right ++ rest) = length-append is.left (is.right ++ rest) in
      let first : many p (is.left ++ (is.right ++ rest)) ≡ Some (z.0, is.right ++ rest)
      = list_exact gp apart (length (is.left ++ (is.right ++ rest))) is.left z.0 (is.right ++ rest) (omega arith) (omega arith) (stops is.right z.1 rest is.two) (stops_at fQ g is.right rest off (gq.begins is.right z.1 is.two)) is.one in
      let second = gq.reach is.right z.1 rest (omega arith) is.two in
      rw (is.parts, append_assoc) (rw first (pair_reach (Several P) Q (many p) q none gQ z.0 z.1 (is.right ++ rest) rest (Some (z.0, is.right ++ rest)) (omega arith, λ _. (refl, refl)) refl second));
  begins = λ front z is. begins front z is (all.begins is.left z.0 is.one);
}
  where
    all : Loose n (or g f) f (Several P) (many p)
    all = several_good gp apart

    right_true : (a b : Bool) → b ≡ true → or (λ x. a) (λ x. b) k.End ≡ true
    right_true true b e = refl
    right_true false b e = e

    left_true : (a b : Bool) → a ≡ true → or (λ x. a) (λ x. b) k.End ≡ true
    left_true a b e = rw e refl

    begins : (front : Tokens) (z : List A × B) (is : Pair (Several P) Q front z) → (is.left ≡ []) ⊎ Begins f is.left → Begins (or f fQ) front
    begins front z is (inl empty) = let b = gq.begins is.right z.1 is.two in record { head = b.head; tail = b.tail; parts = is.parts ∙ rw empty b.parts; kind = right_true _ _ b.kind }
    begins front z is (inr b) = record { head = b.head; tail = b.tail ++ is.right; parts = is.parts ∙ ap (λ (t : Tokens). t ++ is.right) b.parts; kind = left_true _ _ b.kind }
