-- Optional parts, lists and choices.
use Rattle.std.proofs.Common.{◌≡◌, ℕ, zero, suc, ◌+◌, ◌≤◌, Bool, true, false, ◌||◌, ◌⊎◌, List, [], ◌∷◌, ◌++◌, length, Option, Some, None, refl, sym, ap, ◌∙◌, append_assoc, arith, inl, inr, length-append}
use Rattle.dc_grammar.specs.declared.terminal.Terminal.{Terminal}
use Rattle.dc_grammar.specs.Terminals.{Tokens, ahead}
use Rattle.dc_grammar.specs.Reading.{Outcome, Reader, both, maybe, if_any, before, on_with, many_from, many}
use Rattle.dc_grammar.proofs.Good.{Fronts, Holds, Reaches, Begins, Good, Apart, none, or, Pair, pair_sound, pair_reach, stops_at, length_of, IsRead, Loose, or_left, or_right, shorter}

abbrev pub Maybe : {A : Type 0} → (Tokens → A → Type 0) → Tokens → Option A → Type 0
Maybe P ts (Some x) = P ts x
Maybe P ts None = ts ≡ []

-- no text begins where its first kind doesn't stand
pub refused : {A : Type 0} {n : ℕ} {g f : Terminal → Bool} {P : Tokens → A → Type 0} {p : Reader A} → Good n g f P p → (ts : Tokens) → f (ahead ts) ≡ false → p ts ≡ None
refused {A} {n} {g} {f} {P} {p} good ts stop = go (p ts) (good.sound ts)
  where
    go : (r : Outcome A) → Holds P ts r → r ≡ None
    go (Some r) h =
        let b = good.begins h.front r.0 h.is in
        let e : f (ahead ts) ≡ true = rw (h.parts, b.parts) b.kind in
        absurd cc
    go None h = refl

pub loose_maybe : {A : Type 0} {n : ℕ} {g f : Terminal → Bool} {P : Tokens → A → Type 0} {p : Reader A} → Good n g f P p → Loose n (or g f) f (Maybe P) (maybe p)
loose_maybe {A} {n} {g} {f} {P} {p} good = record {
  sound = λ ts. sound ts (p ts) (good.sound ts);
  some = λ ts. some ts (p ts);
  reach = reach;
  begins = begins;
}
  where
    sound : (ts : Tokens) (r : Outcome A) → Holds P ts r → Holds (Maybe P) ts (if_any r ts)
    sound ts (Some r) h = record { front = h.front; parts = h.parts; is = h.is }
    sound ts None h = record { front = []; parts = refl; is = refl }

    some : (ts : Tokens) (r : Outcome A) → IsRead (if_any r ts)
    some ts (Some r) = tt
    some ts None = tt

    found : (ts : Tokens) (x : A) (rest : Tokens) (r : Outcome A) → Reaches g r x rest → Reaches {A = Option A} (or g f) (if_any r ts) (Some x) rest
    found ts x rest (Some r) h = (h.0, λ stop. let e = h.1 (or_left _ _ stop) in (ap Some e.0, e.1))
    found ts x rest None h = absurd h

    absent : (rest : Tokens) (r : Outcome A) → Holds P rest r → (f (ahead rest) ≡ false → r ≡ None) → Reaches {A = Option A} (or g f) (if_any r rest) None rest
    absent rest (Some r) h none = (shorter P rest r.0 r.1 h, λ stop. let e : Some r ≡ None = none (or_right _ _ stop) in absurd cc)
    absent rest None h none = (omega arith, λ _. (refl, refl))

    reach : (front : Tokens) (x : Option A) (rest : Tokens) → length front ≤ n → Maybe P front x → Reaches (or g f) (maybe p (front ++ rest)) x rest
    reach front (Some x) rest len is = found (front ++ rest) x rest (p (front ++ rest)) (good.reach front x rest len is)
    reach front None rest len is = rw is (absent rest (p rest) (good.sound rest) (refused good rest))

    begins : (front : Tokens) (x : Option A) → Maybe P front x → (front ≡ []) ⊎ Begins f front
    begins front (Some x) is = inr (good.begins front x is)
    begins front None is = inl is

abbrev pub Many : {A : Type 0} → (Tokens → A → Type 0) → Tokens → List A → Type 0
Many P ts [] = ts ≡ []
Many P ts (x ∷ xs) = (a : Tokens) × (b : Tokens) × (ts ≡ a ++ b) × P a x × Many P b xs

module _ {A : Type 0} {n : ℕ} {g f : Terminal → Bool} {P : Tokens → A → Type 0} {p : Reader A} (good : Good n g f P p) where
  many_sound : (m : ℕ) (ts : Tokens) → Holds (Many P) ts (many_from p m ts)
  unfolding many_from
  many_sound zero ts = record { front = []; parts = refl; is = refl }
  many_sound (suc m) ts = go (many_sound m) (p ts) (good.sound ts)
    where
      last : (x : A) (mid : Tokens) → Fronts P ts x mid → (r : Outcome (List A)) → Holds (Many P) mid r → Holds (Many P) ts (before x r)
      last x mid h (Some r) k = record { front = h.front ++ k.front; parts = h.parts ∙ ap (λ (t : Tokens). h.front ++ t) k.parts ∙ sym (append_assoc h.front k.front r.1); is = (h.front, k.front, refl, h.is, k.is) }
      last x mid h None k = tt

      go : ((us : Tokens) → Holds (Many P) us (many_from p m us)) → (r : Outcome A) → Holds P ts r → Holds (Many P) ts (on_with r ts (many_from p m))
      go more (Some r) h = last r.0 r.1 h (many_from p m r.1) (more r.1)
      go more None h = record { front = []; parts = refl; is = refl }

  many_some : (m : ℕ) (ts : Tokens) → IsRead (many_from p m ts)
  unfolding many_from
  many_some zero ts = tt
  many_some (suc m) ts = go (many_some m) (p ts)
    where
      last : (x : A) (r : Outcome (List A)) → IsRead r → IsRead (before x r)
      last x (Some r) k = tt
      last x None k = k

      go : ((us : Tokens) → IsRead (many_from p m us)) → (r : Outcome A) → IsRead (on_with r ts (many_from p m))
      go more (Some r) = last r.0 (many_from p m r.1) (more r.1)
      go more None = tt

  many_empty : (m : ℕ) (rest : Tokens) → Reaches {A = List A} (or g f) (many_from p m rest) [] rest
  unfolding many_from
  many_empty zero rest = (omega arith, λ _. (refl, refl))
  many_empty (suc m) rest = go (p rest) (good.sound rest) (refused good rest)
    where
      last : (x : A) (mid : Tokens) → length mid ≤ length rest → (f (ahead rest) ≡ false → ⊥) → (r : Outcome (List A)) → IsRead r → Holds (Many P) mid r → Reaches {A = List A} (or g f) (before x r) [] rest
      last x mid less stop (Some r) s h = let k = shorter (Many P) mid r.0 r.1 h in (omega arith, λ e. absurd (stop (or_right _ _ e)))
      last x mid less stop None s h = absurd s

      go : (r : Outcome A) → Holds P rest r → (f (ahead rest) ≡ false → r ≡ None) → Reaches {A = List A} (or g f) (on_with r rest (many_from p m)) [] rest
      go (Some r) h none = last r.0 r.1 (shorter P rest r.0 r.1 h) (λ e. let k : Some r ≡ None = none e in absurd cc) (many_from p m r.1) (many_some m r.1) (many_sound m r.1)
      go None h none = (omega arith, λ _. (refl, refl))

  many_begins : (front : Tokens) (xs : List A) → Many P front xs → (front ≡ []) ⊎ Begins f front
  many_begins front [] is = inl is
  many_begins front (x ∷ xs) (a, b, parts, one, others) = let k = good.begins a x one in inr (record { head = k.head; tail = k.tail ++ b; parts = parts ∙ ap (λ (t : Tokens). t ++ b) k.parts; kind = k.kind })

  -- the next item was read to its end, or something longer
  many_step : (m : ℕ) (x : A) (xs : List A) (b rest : Tokens) (r : Outcome A) → Apart f g → Reaches g r x (b ++ rest) → (b ≡ []) ⊎ Begins f b
      → Reaches {A = List A} (or g f) (many_from p m (b ++ rest)) xs rest → (ts : Tokens) → Reaches {A = List A} (or g f) (on_with r ts (many_from p m)) (x ∷ xs) rest
  many_step m x xs b rest None apart h c k ts = absurd h
  many_step m x xs b rest (Some r) apart h (inr c) k ts =
      let e = h.1 (stops_at f g b rest apart c) in
      rw (e.0, e.1) (last (many_from p m (b ++ rest)) k)
    where
      last : (s : Outcome (List A)) → Reaches {A = List A} (or g f) s xs rest → Reaches {A = List A} (or g f) (before x s) (x ∷ xs) rest
      last (Some s) k = (k.0, λ stop. let e = k.1 stop in (ap (λ (t : List A). x ∷ t) e.0, e.1))
      last None k = absurd k
  many_step m x xs b rest (Some r) apart h (inl empty) k ts =
      let h' : Reaches g (Some r) x rest = rw empty at h in
      let k' : Reaches {A = List A} (or g f) (many_from p m rest) xs rest = rw empty at k in
      last (many_from p m r.1) (many_some m r.1) (many_sound m r.1) h'.0 (λ stop. let e = h'.1 (or_left _ _ stop) in (e.0, rw (e.1) k'))
    where
      last : (s : Outcome (List A)) → IsRead s → Holds (Many P) r.1 s → length r.1 ≤ length rest
          → (or g f (ahead rest) ≡ false → (r.0 ≡ x) × Reaches {A = List A} (or g f) s xs rest) → Reaches {A = List A} (or g f) (before r.0 s) (x ∷ xs) rest
      last (Some s) some hs less k = let l = shorter (Many P) r.1 s.0 s.1 hs in (omega arith, λ stop. let e = k stop in let d = e.1.1 stop in (rw (e.0, d.0) refl, d.1))
      last None some hs less k = absurd some

  many_reach : (m : ℕ) (front : Tokens) (xs : List A) (rest : Tokens) → Apart f g → length front ≤ m → length front ≤ n → Many P front xs → Reaches {A = List A} (or g f) (many_from p m (front ++ rest)) xs rest
  unfolding many_from
  many_reach m front [] rest apart enough len is = rw is (many_empty m rest)
  many_reach zero front (x ∷ xs) rest apart enough len (a, b, parts, one, others) =
      let some = length_of a (good.begins a x one) in
      let e : length front ≡ length a + length b = ap length parts ∙ length-append a b in
      absurd (omega arith)
  many_reach (suc m) front (x ∷ xs) rest apart enough len (a, b, parts, one, others) =
      let some = length_of a (good.begins a x one) in
      let e : length front ≡ length a + length b = ap length parts ∙ length-append a b in
      rw (parts, append_assoc) (many_step m x xs b rest (p (a ++ (b ++ rest))) apart (good.reach a x (b ++ rest) (omega arith) one) (many_begins b xs others) (many_reach m b xs rest apart (omega arith) (omega arith) others) (a ++ (b ++ rest)))

pub loose_many : {A : Type 0} {n : ℕ} {g f : Terminal → Bool} {P : Tokens → A → Type 0} {p : Reader A} → Good n g f P p → Apart f g → Loose n (or g f) f (Many P) (many p)
loose_many {A} {n} {g} {f} {P} {p} good apart = record {
  sound = λ ts. many_sound good (length ts) ts;
  some = λ ts. many_some good (length ts) ts;
  reach = λ front xs rest len is. many_reach good (length (front ++ rest)) front xs rest apart (omega (arith, length-append front rest)) len is;
  begins = many_begins good;
}

-- ---- a list, and what follows it, where the two may begin alike

pub exact : {A : Type 0} (r : Outcome A) (x : A) (rest : Tokens) → Reaches none r x rest → r ≡ Some (x, rest)
exact (Some r) x rest h = let e = h.1 refl in ap Some (rw (e.0, e.1) refl)
exact None x rest h = absurd h

many_exact : {A : Type 0} {n : ℕ} {f : Terminal → Bool} {P : Tokens → A → Type 0} {p : Reader A} (good : Good n none f P p) (m : ℕ) (left : Tokens) (xs : List A) (mid : Tokens)
    → length left ≤ m → length left ≤ n → p mid ≡ None → Many P left xs → many_from p m (left ++ mid) ≡ Some (xs, mid)
unfolding many_from
many_exact {A} {n} {f} {P} {p} good zero left [] mid enough len stop is = rw is refl
many_exact {A} {n} {f} {P} {p} good (suc m) left [] mid enough len stop is = rw (is, stop) refl
many_exact {A} {n} {f} {P} {p} good zero left (x ∷ xs) mid enough len stop (a, b, parts, one, others) =
    let some = length_of a (good.begins a x one) in
    let e : length left ≡ length a + length b = ap length parts ∙ length-append a b in
    absurd (omega arith)
many_exact {A} {n} {f} {P} {p} good (suc m) left (x ∷ xs) mid enough len stop (a, b, parts, one, others) =
    let some = length_of a (good.begins a x one) in
    let e : length left ≡ length a + length b = ap length parts ∙ length-append a b in
    let first : p (a ++ (b ++ mid)) ≡ Some (x, b ++ mid) = exact (p (a ++ (b ++ mid))) x (b ++ mid) (good.reach a x (b ++ mid) (omega arith) one) in
    let more : many_from p m (b ++ mid) ≡ Some (xs, mid) = many_exact good m b xs mid (omega arith) (omega arith) stop others in
    rw (parts, append_assoc, first, more) refl

pub many_then : {A B : Type 0} {n : ℕ} {g f gQ fQ : Terminal → Bool} {P : Tokens → A → Type 0} {Q : Tokens → B → Type 0} {p : Reader A} {q : Reader B}
    → Good n none f P p → Loose n g f (Many P) (many p) → Good n gQ fQ Q q → ((front : Tokens) (y : B) (rest : Tokens) → Q front y → p (front ++ rest) ≡ None)
    → Good n gQ (or f fQ) (Pair (Many P) Q) (both (many p) q)
many_then {A} {B} {n} {g} {f} {gQ} {fQ} {P} {Q} {p} {q} gp loose gq stops = record {
  sound = λ ts. pair_sound (Many P) Q (many p) q gq.sound ts (many p ts) (loose.sound ts);
  reach = λ front z rest len is.
      let parts : length front ≡ length is.left + length is.right = ap length is.parts ∙ length-append is.left is.right in
      let whole : length (is.left ++ (is.right ++ rest)) ≡ length is.left + length (is.right ++ rest) = length-append is.left (is.right ++ rest) in
      let first : many p (is.left ++ (is.right ++ rest)) ≡ Some (z.0, is.right ++ rest) = many_exact gp (length (is.left ++ (is.right ++ rest))) is.left z.0 (is.right ++ rest) (omega arith) (omega arith) (stops is.right z.1 rest is.two) is.one in
      let second = gq.reach is.right z.1 rest (omega arith) is.two in
      rw (is.parts, append_assoc) (rw first (pair_reach (Many P) Q (many p) q none gQ z.0 z.1 (is.right ++ rest) rest (Some (z.0, is.right ++ rest)) (omega arith, λ _. (refl, refl)) refl second));
  begins = λ front z is. begins front z is (loose.begins is.left z.0 is.one);
}
  where
    right_true : (a b : Bool) → b ≡ true → (a || b) ≡ true
    right_true true b e = refl
    right_true false b e = e

    left_true : (a b : Bool) → a ≡ true → (a || b) ≡ true
    left_true a b e = rw e refl

    begins : (front : Tokens) (z : List A × B) (is : Pair (Many P) Q front z) → (is.left ≡ []) ⊎ Begins f is.left → Begins (or f fQ) front
    begins front z is (inl empty) = let b = gq.begins is.right z.1 is.two in record { head = b.head; tail = b.tail; parts = is.parts ∙ rw empty b.parts; kind = right_true _ _ b.kind }
    begins front z is (inr b) = record { head = b.head; tail = b.tail ++ is.right; parts = is.parts ∙ ap (λ (t : Tokens). t ++ is.right) b.parts; kind = left_true _ _ b.kind }
