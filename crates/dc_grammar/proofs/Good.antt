-- What a reader on lists has to do with the texts that it is to read.
use denote.Enum.Bare.{same_true, true_same}
use Rattle.dc_grammar.specs.contracts.terminal.Terminal.{the_type}
use Rattle.std.proofs.Common.{is_some, ◌≡◌, ℕ, suc, ◌+◌, ◌<◌, ◌≤◌, Bool, true, false, cond, ◌||◌, ◌⊎◌, [], ◌∷◌, ◌++◌, length, Option, Some, None, refl, sym, ap, ◌∙◌, append_assoc, arith, inl, inr, rules, length-append}
use Rattle.dc_grammar.specs.declared.terminal.Terminal.{Terminal}
use Rattle.dc_token.specs.declared.token.Token.{Token}
use Rattle.dc_grammar.specs.Terminals.{Tokens, ahead, terminal_of, same_terminal}
use Rattle.dc_grammar.specs.Grammar.{Mark, Named, Means}
use Rattle.dc_grammar.specs.Reading.{mark, named, means, given, Outcome, Reader, ◌>>=◌, and_then, pure, both}

abbrev pub Form : Type 0 → Type 1
Form A = Tokens → A → Type 0

-- the first tokens are an x
pub record Fronts {A : Type 0} (P : Tokens → A → Type 0) (ts : Tokens) (x : A) (rest : Tokens) : Type 0 where
  pub front : Tokens
  pub parts : ts ≡ front ++ rest
  pub is : P front x

-- what was read is there
abbrev pub Holds : {A : Type 0} → (Tokens → A → Type 0) → Tokens → Outcome A → Type 0
Holds P ts (Some p) = Fronts P ts p.0 p.1
Holds P ts None = Unit {0}

-- something is read, no shorter than up to rest, and just that where no text of this kind goes on there
abbrev pub Reaches : {A : Type 0} → (Terminal → Bool) → Outcome A → A → Tokens → Type 0
Reaches goes (Some p) x rest = (length p.1 ≤ length rest) × (goes (ahead rest) ≡ false → (p.0 ≡ x) × (p.1 ≡ rest))
Reaches goes None x rest = ⊥

pub record Begins (first : Terminal → Bool) (front : Tokens) : Type 0 where
  pub head : Token
  pub tail : Tokens
  pub parts : front ≡ head ∷ tail
  pub kind : first (terminal_of head) ≡ true

pub record Good {A : Type 0} (n : ℕ) (goes first : Terminal → Bool) (P : Tokens → A → Type 0) (p : Reader A) : Type 0 where
  pub sound : (ts : Tokens) → Holds P ts (p ts)
  pub reach : (front : Tokens) (x : A) (rest : Tokens) → length front ≤ n → P front x → Reaches goes (p (front ++ rest)) x rest
  pub begins : (front : Tokens) (x : A) → P front x → Begins first front

-- no kind passes both
abbrev pub Apart : (Terminal → Bool) → (Terminal → Bool) → Type 0
Apart f g = (k : Terminal) → f k ≡ true → g k ≡ false

abbrev pub none : Terminal → Bool
none k = false

abbrev pub or : (Terminal → Bool) → (Terminal → Bool) → Terminal → Bool
or f g k = f k || g k

-- ---- one token

abbrev pub is : Terminal → Terminal → Bool
is k j = same_terminal j k

pub is_same : (k j : Terminal) → is k j ≡ true → j ≡ k
unfolding same_terminal
is_same k j e = same_true the_type (search rules) j k e

pub same_is : (k j : Terminal) → j ≡ k → is k j ≡ true
unfolding same_terminal
same_is k j e = true_same the_type j k e

named_sound : {A : Type 0} (to : Token → A) (k : Terminal) (ts : Tokens) → Holds (Named to k) ts (named to k ts)
named_sound {A} to k [] = tt
named_sound {A} to k (u ∷ us) = go (same_terminal (terminal_of u) k) refl
  where
    go : (b : Bool) → same_terminal (terminal_of u) k ≡ b → Holds (Named to k) (u ∷ us) (cond b (Some (to u, us)) None)
    go true e = record { front = u ∷ []; parts = refl; is = record { token = u; alone = refl; is = is_same k (terminal_of u) e; named = refl } }
    go false e = tt

pub named_good : {A : Type 0} (n : ℕ) (to : Token → A) (k : Terminal) → Good n none (is k) (Named to k) (named to k)
named_good n to k = record {
  sound = named_sound to k;
  reach = λ front x rest len h. let e = same_is k (terminal_of h.token) h.is in rw (h.alone, e) (omega arith, λ _. (h.named, refl));
  begins = λ front x h. record { head = h.token; tail = []; parts = h.alone; kind = same_is k (terminal_of h.token) h.is };
}

-- a mark as it is read, with nothing to say of it
abbrev pub Marked : Terminal → Tokens → Unit {0} → Type 0
Marked k w u = Mark k w

mark_sound : (k : Terminal) (ts : Tokens) → Holds (Marked k) ts (mark k ts)
mark_sound k [] = tt
mark_sound k (u ∷ us) = go (same_terminal (terminal_of u) k) refl
  where
    go : (b : Bool) → same_terminal (terminal_of u) k ≡ b → Holds (Marked k) (u ∷ us) (cond b (Some (tt, us)) None)
    go true e = record { front = u ∷ []; parts = refl; is = record { token = u; alone = refl; is = is_same k (terminal_of u) e } }
    go false e = tt

pub mark_good : (n : ℕ) (k : Terminal) → Good n none (is k) (Marked k) (mark k)
mark_good n k = record {
  sound = mark_sound k;
  reach = λ front x rest len h. let e = same_is k (terminal_of h.token) h.is in rw (h.alone, e) (omega arith, λ _. (refl, refl));
  begins = λ front x h. record { head = h.token; tail = []; parts = h.alone; kind = same_is k (terminal_of h.token) h.is };
}

-- the terminals that stand for something
abbrev pub given_by : {A : Type 0} → (Terminal → Option A) → Terminal → Bool
given_by f k = is_some (f k)

means_sound : {A : Type 0} (f : Terminal → Option A) (ts : Tokens) → Holds (Means f) ts (means f ts)
means_sound {A} f [] = tt
means_sound {A} f (u ∷ us) = go (f (terminal_of u)) refl
  where
    go : (r : Option A) → f (terminal_of u) ≡ r → Holds (Means f) (u ∷ us) (given r us)
    go (Some x) e = record { front = u ∷ []; parts = refl; is = record { token = u; alone = refl; means = e } }
    go None e = tt

pub means_good : {A : Type 0} (n : ℕ) (f : Terminal → Option A) → Good n none (given_by f) (Means f) (means f)
means_good n f = record {
  sound = means_sound f;
  reach = λ front x rest len h. rw (h.alone, h.means) (omega arith, λ _. (refl, refl));
  begins = λ front x h. record { head = h.token; tail = []; parts = h.alone; kind = rw h.means refl };
}

-- ---- one after the other

pub record Pair {A B : Type 0} (P : Tokens → A → Type 0) (Q : Tokens → B → Type 0) (ts : Tokens) (z : A × B) : Type 0 where
  pub left : Tokens
  pub right : Tokens
  pub parts : ts ≡ left ++ right
  pub one : P left z.0
  pub two : Q right z.1

abbrev pub joined : {A B : Type 0} → Outcome A → Reader B → Outcome (A × B)
joined r q = and_then r (λ x. q >>= (λ y. pure (x, y)))

module _ {A B : Type 0} (P : Tokens → A → Type 0) (Q : Tokens → B → Type 0) (p : Reader A) (q : Reader B) where
  pair_tail : (ts : Tokens) (x : A) (mid : Tokens) → Fronts P ts x mid → (s : Outcome B) → Holds Q mid s → Holds (Pair P Q) ts (and_then s (λ y. pure (x, y)))
  pair_tail ts x mid f (Some s) g = record { front = f.front ++ g.front; parts = f.parts ∙ ap (λ (t : Tokens). f.front ++ t) g.parts ∙ sym (append_assoc f.front g.front s.1); is = record { left = f.front; right = g.front; parts = refl; one = f.is; two = g.is } }
  pair_tail ts x mid f None g = tt

  pub pair_sound : ((ts : Tokens) → Holds Q ts (q ts)) → (ts : Tokens) (r : Outcome A) → Holds P ts r → Holds (Pair P Q) ts (joined r q)
  pair_sound qs ts (Some r) h = pair_tail ts r.0 r.1 h (q r.1) (qs r.1)
  pair_sound qs ts None h = tt

  pair_end : (g : Terminal → Bool) (x : A) (y : B) (rest : Tokens) (s : Outcome B) → Reaches g s y rest → Reaches {A = A × B} g (and_then s (λ y. pure (x, y))) (x, y) rest
  pair_end g x y rest (Some s) h = (h.0, λ stop. let e = h.1 stop in (ap (λ (u : B). (x, u)) e.0, e.1))
  pair_end g x y rest None h = absurd h

  pub pair_reach : (gP gQ : Terminal → Bool) (x : A) (y : B) (mid rest : Tokens) (r : Outcome A) → Reaches gP r x mid → gP (ahead mid) ≡ false → Reaches gQ (q mid) y rest → Reaches {A = A × B} gQ (joined r q) (x, y) rest
  pair_reach gP gQ x y mid rest (Some r) h stop s =
      let e = h.1 stop in
      let at : Reaches {A = A × B} gQ (and_then (q mid) (λ y. pure (x, y))) (x, y) rest = pair_end gQ x y rest (q mid) s in
      rw (e.0, e.1) at
  pair_reach gP gQ x y mid rest None h stop s = absurd h

pub stops_at : (first goes : Terminal → Bool) (ts rest : Tokens) → Apart first goes → Begins first ts → goes (ahead (ts ++ rest)) ≡ false
stops_at first goes ts rest apart b = rw b.parts (apart (terminal_of b.head) b.kind)

pub length_of : {first : Terminal → Bool} (ts : Tokens) → Begins first ts → 0 < length ts
length_of ts b = rw b.parts (omega arith)

pub then : {A B : Type 0} (N n : ℕ) (gP fP gQ fQ : Terminal → Bool) {P : Tokens → A → Type 0} {Q : Tokens → B → Type 0} {p : Reader A} {q : Reader B}
    → Good N gP fP P p → Good n gQ fQ Q q → N ≤ suc n → Apart fQ gP → Good N gQ fP (Pair P Q) (both p q)
then N n gP fP gQ fQ {P} {Q} {p} {q} gp gq less apart = record {
  sound = λ ts. pair_sound P Q p q gq.sound ts (p ts) (gp.sound ts);
  reach = λ front z rest len is.
      let b = gp.begins is.left z.0 is.one in
      let c = gq.begins is.right z.1 is.two in
      let some = length_of is.left b in
      let parts : length front ≡ length is.left + length is.right = ap length is.parts ∙ length-append is.left is.right in
      let first = gp.reach is.left z.0 (is.right ++ rest) (omega arith) is.one in
      let second = gq.reach is.right z.1 rest (omega arith) is.two in
      rw (is.parts, append_assoc) (pair_reach P Q p q gP gQ z.0 z.1 (is.right ++ rest) rest (p (is.left ++ (is.right ++ rest))) first (stops_at fQ gP is.right rest apart c) second);
  begins = λ front z is. let b = gp.begins is.left z.0 is.one in record { head = b.head; tail = b.tail ++ is.right; parts = is.parts ∙ ap (λ (t : Tokens). t ++ is.right) b.parts; kind = b.kind };
}

-- ---- what may be empty

abbrev pub IsRead : {A : Type 0} → Outcome A → Type 0
IsRead (Some p) = Unit {0}
IsRead None = ⊥

pub record Loose {A : Type 0} (n : ℕ) (goes first : Terminal → Bool) (P : Tokens → A → Type 0) (p : Reader A) : Type 0 where
  pub sound : (ts : Tokens) → Holds P ts (p ts)
  pub some : (ts : Tokens) → IsRead (p ts)
  pub reach : (front : Tokens) (x : A) (rest : Tokens) → length front ≤ n → P front x → Reaches goes (p (front ++ rest)) x rest
  pub begins : (front : Tokens) (x : A) → P front x → (front ≡ []) ⊎ Begins first front

pub or_left : (a b : Bool) → (a || b) ≡ false → a ≡ false
or_left true b e = absurd cc
or_left false b e = refl

pub or_right : (a b : Bool) → (a || b) ≡ false → b ≡ false
or_right true b e = absurd cc
or_right false b e = e

pub shorter : {A : Type 0} (P : Tokens → A → Type 0) (ts : Tokens) (x : A) (rest : Tokens) → Fronts P ts x rest → length rest ≤ length ts
shorter P ts x rest f = let e : length ts ≡ length f.front + length rest = ap length f.parts ∙ length-append f.front rest in omega arith

abbrev pub Shrunk : {A : Type 0} → Tokens → Outcome A → Type 0
Shrunk ts (Some p) = length p.1 ≤ length ts
Shrunk ts None = ⊥

pub shrunk : {A : Type 0} (P : Tokens → A → Type 0) (ts : Tokens) (r : Outcome A) → IsRead r → Holds P ts r → Shrunk ts r
shrunk P ts (Some r) s h = shorter P ts r.0 r.1 h
shrunk P ts None s h = s

module _ {A B : Type 0} (P : Tokens → A → Type 0) (Q : Tokens → B → Type 0) (p : Reader A) (q : Reader B) where
  loose_end : (g : Terminal → Bool) (x x' : A) (y : B) (mid rest : Tokens) (s : Outcome B) → length mid ≤ length rest → Shrunk mid s
      → (g (ahead rest) ≡ false → (x' ≡ x) × Reaches {A = B} g s y rest) → Reaches {A = A × B} g (and_then s (λ y. pure (x', y))) (x, y) rest
  loose_end g x x' y mid rest (Some s) less shrunk h = (omega arith, λ stop. let e = h stop in let d = e.1.1 stop in (rw (e.0, d.0) refl, d.1))
  loose_end g x x' y mid rest None less shrunk h = absurd shrunk

  pub loose_reach : (gP gQ : Terminal → Bool) (x : A) (y : B) (rest : Tokens) (r : Outcome A) → Reaches gP r x rest → ((ts : Tokens) → Shrunk ts (q ts))
      → Reaches gQ (q rest) y rest → Reaches {A = A × B} (or gP gQ) (joined r q) (x, y) rest
  loose_reach gP gQ x y rest (Some r) h shrinks s =
      loose_end (or gP gQ) x r.0 y r.1 rest (q r.1) h.0 (shrinks r.1)
      (λ stop. let e = h.1 (or_left _ _ stop) in (e.0, let at : Reaches {A = B} (or gP gQ) (q rest) y rest = widen (q rest) s in rw (e.1) at))
    where
      widen : (t : Outcome B) → Reaches {A = B} gQ t y rest → Reaches {A = B} (or gP gQ) t y rest
      widen (Some t) k = (k.0, λ stop. k.1 (or_right _ _ stop))
      widen None k = k
  loose_reach gP gQ x y rest None h shrinks s = absurd h

pub wider : {A : Type 0} (g h : Terminal → Bool) (t : Outcome A) (x : A) (rest : Tokens) → ((k : Terminal) → h k ≡ false → g k ≡ false) → Reaches g t x rest → Reaches h t x rest
wider g h (Some t) x rest less r = (r.0, λ stop. r.1 (less (ahead rest) stop))
wider g h None x rest less r = r

loose_parts : {A B : Type 0} {P : Tokens → A → Type 0} {Q : Tokens → B → Type 0} (ts : Tokens) (z : A × B) (is : Pair P Q ts z) → length ts ≡ length is.left + length is.right
loose_parts ts z is = ap length is.parts ∙ length-append is.left is.right

pub then_loose : {A B : Type 0} (N n : ℕ) (gP fP gQ fQ : Terminal → Bool) {P : Tokens → A → Type 0} {Q : Tokens → B → Type 0} {p : Reader A} {q : Reader B}
    → Good N gP fP P p → Loose n gQ fQ Q q → N ≤ suc n → Apart fQ gP → Good N (or gP gQ) fP (Pair P Q) (both p q)
then_loose {A} {B} N n gP fP gQ fQ {P} {Q} {p} {q} gp gq less apart = record {
  sound = λ ts. pair_sound P Q p q gq.sound ts (p ts) (gp.sound ts);
  reach = λ front z rest len is.
      let b = gp.begins is.left z.0 is.one in
      let some = length_of is.left b in
      let parts = loose_parts front z is in
      let first = gp.reach is.left z.0 (is.right ++ rest) (omega arith) is.one in
      let second = gq.reach is.right z.1 rest (omega arith) is.two in
      rw (is.parts, append_assoc) (go z.0 z.1 is.right rest (p (is.left ++ (is.right ++ rest))) first second (gq.begins is.right z.1 is.two));
  begins = λ front z is. let b = gp.begins is.left z.0 is.one in record { head = b.head; tail = b.tail ++ is.right; parts = is.parts ∙ ap (λ (t : Tokens). t ++ is.right) b.parts; kind = b.kind };
}
  where
    shrinks : (ts : Tokens) → Shrunk ts (q ts)
    shrinks ts = shrunk Q ts (q ts) (gq.some ts) (gq.sound ts)

    go : (x : A) (y : B) (right rest : Tokens) (r : Outcome A) → Reaches gP r x (right ++ rest) → Reaches gQ (q (right ++ rest)) y rest → (right ≡ []) ⊎ Begins fQ right
        → Reaches {A = A × B} (or gP gQ) (joined r q) (x, y) rest
    go x y right rest r h s (inl empty) =
        let h' : Reaches gP r x rest = rw empty at h in
        let s' : Reaches gQ (q rest) y rest = rw empty at s in
        loose_reach P Q p q gP gQ x y rest r h' shrinks s'
    go x y right rest r h s (inr c) =
        wider gQ (or gP gQ) (joined r q) (x, y) rest (λ k. or_right _ _) (pair_reach P Q p q gP gQ x y (right ++ rest) rest r h (stops_at fQ gP right rest apart c) s)
