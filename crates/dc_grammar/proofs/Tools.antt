-- The laws of Good, in the form in which the rules of the grammar use them.
use Rattle.std.proofs.Common.{◌≡◌, ℕ, suc, ◌≤◌, Bool, true, false, ◌++◌, length, Some, None, refl, sym, ap, ◌∙◌, arith, inl, inr}
use Rattle.dc_grammar.specs.declared.terminal.Terminal.{Terminal}
use Rattle.dc_grammar.specs.Terminals.{Tokens, ahead, start_of, terminal_of}
use Rattle.dc_grammar.specs.Reading.{from_start, Outcome, Reader, and_then, pure, both, either, or_else, ◌<$>◌, many}
use Rattle.dc_grammar.proofs.Good.{Holds, Reaches, Begins, Good, Loose, or, Pair, IsRead, then, then_loose, wider}
use Rattle.dc_grammar.proofs.Lists.{Many, loose_many}
use Rattle.dc_grammar.proofs.Choices.{Or, alt, mapped, loose_then, Disjoint, Within, apart, within, outside, true_left, true_right}

pub pair : {A B : Type 0} {P : Tokens → A → Type 0} {Q : Tokens → B → Type 0} (v w : Tokens) {x : A} {y : B} → P v x → Q w y → Pair P Q (v ++ w) (x, y)
pair {A} {B} {P} {Q} v w {x} {y} p q = record { left = v; right = w; parts = refl; one = p; two = q }

pub seq : {A B : Type 0} {N n : ℕ} {gP fP gQ fQ : Terminal → Bool} {P : Tokens → A → Type 0} {Q : Tokens → B → Type 0} {p : Reader A} {q : Reader B}
    → Good N gP fP P p → Good n gQ fQ Q q → N ≤ suc n → Disjoint fQ gP → Good N gQ fP (Pair P Q) (both p q)
seq {A} {B} {N} {n} {gP} {fP} {gQ} {fQ} {P} {Q} {p} {q} gp gq less d = then N n gP fP gQ fQ {P = P} {Q = Q} {p = p} {q = q} gp gq less (apart fQ gP d)

pub seq_loose : {A B : Type 0} {N n : ℕ} {gP fP gQ fQ : Terminal → Bool} {P : Tokens → A → Type 0} {Q : Tokens → B → Type 0} {p : Reader A} {q : Reader B}
    → Good N gP fP P p → Loose n gQ fQ Q q → N ≤ suc n → Disjoint fQ gP → Good N (or gP gQ) fP (Pair P Q) (both p q)
seq_loose {A} {B} {N} {n} {gP} {fP} {gQ} {fQ} {P} {Q} {p} {q} gp gq less d = then_loose N n gP fP gQ fQ {P = P} {Q = Q} {p = p} {q = q} gp gq less (apart fQ gP d)

pub loose_seq : {A B : Type 0} {n : ℕ} {g f gQ fQ : Terminal → Bool} {P : Tokens → A → Type 0} {Q : Tokens → B → Type 0} {p : Reader A} {q : Reader B}
    → Loose n g f P p → Good n gQ fQ Q q → Disjoint fQ g → Good n gQ (or f fQ) (Pair P Q) (both p q)
loose_seq {A} {B} {n} {g} {f} {gQ} {fQ} gp gq d = loose_then gp gq (apart fQ g d)

pub repeated : {A : Type 0} {n : ℕ} {g f : Terminal → Bool} {P : Tokens → A → Type 0} {p : Reader A} → Good n g f P p → Disjoint f g → Loose n (or g f) f (Many P) (many p)
repeated {A} {n} {g} {f} good d = loose_many good (apart f g d)

pub one_of : {A : Type 0} {n : ℕ} {gP fP gQ fQ : Terminal → Bool} {P Q : Tokens → A → Type 0} {p q : Reader A}
    → Good n gP fP P p → Good n gQ fQ Q q → Disjoint fQ fP → Good n (or gP gQ) (or fP fQ) (Or P Q) (either p q)
one_of {A} {n} {gP} {fP} {gQ} {fQ} gp gq d = alt gp gq (apart fQ fP d)

-- the trees of what was read
abbrev pub Image : {A B : Type 0} → (A → B) → (Tokens → A → Type 0) → Tokens → B → Type 0
Image {A} to P ts y = (x : A) × P ts x × (to x ≡ y)

pub image : {A B : Type 0} {n : ℕ} {g f : Terminal → Bool} {P : Tokens → A → Type 0} {p : Reader A} (to : A → B) → Good n g f P p → Good n g f (Image to P) (to <$> p)
image {A} {B} {n} {g} {f} {P} {p} to good = mapped good g f (Image to P) to (λ ts x h. (x, h, refl)) (λ ts y h. h) (λ k e. e) (λ k e. e)

pub loose_image : {A B : Type 0} {n : ℕ} {g f : Terminal → Bool} {P : Tokens → A → Type 0} {p : Reader A} (to : A → B) → Loose n g f P p → Loose n g f (Image to P) (to <$> p)
loose_image {A} {B} {n} {g} {f} {P} {p} to good = record {
  sound = λ ts. sound ts (p ts) (good.sound ts);
  some = λ ts. some (p ts) (good.some ts);
  reach = λ front y rest len is. reach is.0 y rest (p (front ++ rest)) is.2 (good.reach front is.0 rest len is.1);
  begins = λ front y is. good.begins front is.0 is.1;
}
  where
    sound : (ts : Tokens) (r : Outcome A) → Holds P ts r → Holds (Image to P) ts (and_then r (λ x. pure (to x)))
    sound ts (Some r) h = record { front = h.front; parts = h.parts; is = (r.0, h.is, refl) }
    sound ts None h = tt

    some : (r : Outcome A) → IsRead r → IsRead (and_then r (λ x. pure (to x)))
    some (Some r) h = tt
    some None h = h

    reach : (x : A) (y : B) (rest : Tokens) (r : Outcome A) → to x ≡ y → Reaches g r x rest → Reaches {A = B} g (and_then r (λ x. pure (to x))) y rest
    reach x y rest (Some r) e h = (h.0, λ stop. let d = h.1 stop in (ap to d.0 ∙ e, d.1))
    reach x y rest None e h = absurd h

-- a rule: the same texts as a form, the same answers as its reader, and its sets of kinds
pub rule : {A : Type 0} {n : ℕ} {g f : Terminal → Bool} {P : Tokens → A → Type 0} {p : Reader A} (good : Good n g f P p) (g' f' : Terminal → Bool) (F : Tokens → A → Type 0) (p' : Reader A)
    → ((ts : Tokens) → p' ts ≡ p ts) → ((ts : Tokens) (x : A) → P ts x → F ts x) → ((ts : Tokens) (x : A) → F ts x → P ts x) → Within g g' → Within f f' → Good n g' f' F p'
rule {A} {n} {g} {f} {P} {p} good g' f' F p' same into back less more = record {
  sound = λ ts. rw same (sound ts (p ts) (good.sound ts));
  reach = λ front x rest len is. rw same (wider g g' (p (front ++ rest)) x rest (outside g g' less) (good.reach front x rest len (back front x is)));
  begins = λ front x is. let b = good.begins front x (back front x is) in record { head = b.head; tail = b.tail; parts = b.parts; kind = within f f' more (terminal_of b.head) b.kind };
}
  where
    sound : (ts : Tokens) (r : Outcome A) → Holds P ts r → Holds F ts r
    sound ts (Some r) h = record { front = h.front; parts = h.parts; is = into h.front r.0 h.is }
    sound ts None h = tt

pub lower : {A : Type 0} {n : ℕ} {g f : Terminal → Bool} {P : Tokens → A → Type 0} {p : Reader A} → Good (suc n) g f P p → Good n g f P p
lower good = record { sound = good.sound; reach = λ front x rest len is. good.reach front x rest (omega arith) is; begins = good.begins }

pub or_none : {A : Type 0} (r : Outcome A) → or_else r None ≡ r
or_none (Some r) = refl
or_none None = refl

-- ---- one of two that may begin alike, where the first is taken if it can be read

-- if something was read, it reaches as far, and a text goes on there
abbrev pub Over : {A : Type 0} → (Terminal → Bool) → Outcome A → Tokens → Type 0
Over g (Some r) rest = (length r.1 ≤ length rest) × (g (ahead rest) ≡ true)
Over g None rest = Unit {0}

pub prefer : {A : Type 0} {n : ℕ} {gP fP gQ fQ : Terminal → Bool} {P Q : Tokens → A → Type 0} {p q : Reader A}
    → Good n gP fP P p → Good n gQ fQ Q q → Within gQ gP → ((front : Tokens) (x : A) (rest : Tokens) → Q front x → Over gP (p (front ++ rest)) rest)
    → Good n gP (or fP fQ) (Or P Q) (either p q)
prefer {A} {n} {gP} {fP} {gQ} {fQ} {P} {Q} {p} {q} gp gq less over = record {
  sound = λ ts. holds ts (p ts) (q ts) (gp.sound ts) (gq.sound ts);
  reach = reach;
  begins = begins;
}
  where
    holds : (ts : Tokens) (r s : Outcome A) → Holds P ts r → Holds Q ts s → Holds (Or P Q) ts (or_else r s)
    holds ts (Some r) s h k = record { front = h.front; parts = h.parts; is = inl h.is }
    holds ts None (Some s) h k = record { front = k.front; parts = k.parts; is = inr k.is }
    holds ts None None h k = tt

    first : (x : A) (rest : Tokens) (r s : Outcome A) → Reaches gP r x rest → Reaches gP (or_else r s) x rest
    first x rest (Some r) s h = h
    first x rest None s h = absurd h

    second : (x : A) (rest : Tokens) (r s : Outcome A) → Over gP r rest → Reaches gQ s x rest → Reaches gP (or_else r s) x rest
    second x rest (Some r) s o h = (o.0, λ stop. let clash : true ≡ false = sym o.1 ∙ stop in absurd cc)
    second x rest None s o h = wider gQ gP s x rest (outside gQ gP less) h

    reach : (front : Tokens) (x : A) (rest : Tokens) → length front ≤ n → Or P Q front x → Reaches gP (either p q (front ++ rest)) x rest
    reach front x rest len (inl is) = first x rest (p (front ++ rest)) (q (front ++ rest)) (gp.reach front x rest len is)
    reach front x rest len (inr is) = second x rest (p (front ++ rest)) (q (front ++ rest)) (over front x rest is) (gq.reach front x rest len is)

    begins : (front : Tokens) (x : A) → Or P Q front x → Begins (or fP fQ) front
    begins front x (inl is) = let b = gp.begins front x is in record { head = b.head; tail = b.tail; parts = b.parts; kind = true_left _ _ b.kind }
    begins front x (inr is) = let b = gq.begins front x is in record { head = b.head; tail = b.tail; parts = b.parts; kind = true_right _ _ b.kind }

-- ---- what was read, and the offset at which it begins

abbrev pub Placed : {A B : Type 0} → (ℕ → A → B) → (Tokens → A → Type 0) → Tokens → B → Type 0
Placed {A} f P ts y = (x : A) × P ts x × (f (start_of ts) x ≡ y)

pub start_on : {first : Terminal → Bool} (front rest : Tokens) → Begins first front → start_of (front ++ rest) ≡ start_of front
start_on front rest b = rw b.parts refl

pub placed : {A B : Type 0} {n : ℕ} {g f : Terminal → Bool} {P : Tokens → A → Type 0} {p : Reader A} (to : ℕ → A → B) → Good n g f P p → Good n g f (Placed to P) (from_start to p)
placed {A} {B} {n} {g} {f} {P} {p} to good = record {
  sound = λ ts. sound ts (p ts) (good.sound ts);
  reach = λ front y rest len is. rw (start_on front rest (good.begins front is.0 is.1)) (reach (start_of front) is.0 y rest (p (front ++ rest)) is.2 (good.reach front is.0 rest len is.1));
  begins = λ front y is. good.begins front is.0 is.1;
}
  where
    sound : (ts : Tokens) (r : Outcome A) → Holds P ts r → Holds (Placed to P) ts (and_then r (λ x. pure (to (start_of ts) x)))
    sound ts (Some r) h = record { front = h.front; parts = h.parts; is = (r.0, h.is, at (good.begins h.front r.0 h.is)) }
      where
        at : Begins f h.front → to (start_of h.front) r.0 ≡ to (start_of ts) r.0
        at b = let e : start_of ts ≡ start_of h.front = ap start_of h.parts ∙ start_on h.front r.1 b in ap (λ (n : ℕ). to n r.0) (sym e)
    sound ts None h = tt

    reach : (n : ℕ) (x : A) (y : B) (rest : Tokens) (r : Outcome A) → to n x ≡ y → Reaches g r x rest → Reaches {A = B} g (and_then r (λ x. pure (to n x))) y rest
    reach n x y rest (Some r) e h = (h.0, λ stop. let d = h.1 stop in (ap (to n) d.0 ∙ e, d.1))
    reach n x y rest None e h = absurd h

-- the same, with its sets of kinds as they are to be stated
pub narrow : {A : Type 0} {n : ℕ} {g f : Terminal → Bool} {P : Tokens → A → Type 0} {p : Reader A} → Good n g f P p → (g' f' : Terminal → Bool) → Within g g' → Within f f' → Good n g' f' P p
narrow {A} {n} {g} {f} {P} {p} good g' f' less more = rule good g' f' P p (λ ts. refl) (λ ts x h. h) (λ ts x h. h) less more

pub more : (p q : Terminal → Bool) → Within p q → (x : Terminal) → p x ≡ true → q x ≡ true
more p q e x h = within p q e x h

pub apart_from : (p q : Terminal → Bool) → Disjoint p q → (x : Terminal) → p x ≡ true → q x ≡ false
apart_from p q e x h = apart p q e x h
