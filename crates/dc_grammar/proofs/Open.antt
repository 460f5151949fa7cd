-- Readers of what may go on with an `else`, as what they read says.
use Rattle.std.proofs.Common.{◌≡◌, ℕ, zero, suc, ◌+◌, ◌≤◌, Bool, true, false, ◌&&◌, ◌⊎◌, List, [], ◌∷◌, ◌++◌, length, Option, Some, None, refl, sym, ap, ◌∙◌, append_assoc, arith, inl, inr, length-append}
use Rattle.dc_grammar.specs.declared.terminal.Terminal.{Terminal}
use Rattle.dc_grammar.specs.declared.terminal.Terminal.TheVariants as k
use Rattle.dc_grammar.specs.Terminals.{Tokens, ahead, start_of, terminal_of, same_terminal}
use Rattle.dc_grammar.specs.Grammar.{Mark}
use Rattle.dc_grammar.specs.Reading.{Outcome, Reader, mark, both, either, or_else, ◌<$>◌, and_then, pure, if_any, from_start}
use Rattle.dc_grammar.specs.StmtReaders.{one_item, items, in_braces, joined, branch_or, else_part, ends_with, chain_from, chain}
use Rattle.dc_grammar.proofs.Good.{Good, Loose, Holds, Reaches, Fronts, Begins, Marked, Pair, none, or, is, is_same, mark_good, pair_sound, pair_reach, stops_at, length_of, shorter, wider, then}
use Rattle.dc_grammar.proofs.Lists.{Many, loose_many, refused}
use Rattle.dc_grammar.proofs.Choices.{loose_then, Or, Disjoint, Within, apart, within, true_left, true_right}
use Rattle.dc_grammar.proofs.Tools.{Image, image, Placed, start_on}
use Rattle.dc_grammar.proofs.Shapes.{loose_retype, only}

-- whether a text goes on with this terminal
abbrev pub else_after : Bool → Terminal → Bool
else_after o x = o && is k.Else x

pub record Ends {A : Type 0} (n : ℕ) (open_flag : A → Bool) (first : Terminal → Bool) (P : Tokens → A → Type 0) (p : Reader A) : Type 0 where
  pub sound : (ts : Tokens) → Holds P ts (p ts)
  pub reach : (front : Tokens) (x : A) (rest : Tokens) → length front ≤ n → P front x → Reaches (else_after (open_flag x)) (p (front ++ rest)) x rest
  pub begins : (front : Tokens) (x : A) → P front x → Begins first front

pub else_less : (o : Bool) (x : Terminal) → is k.Else x ≡ false → else_after o x ≡ false
else_less true x e = e
else_less false x e = refl

-- the flag of what is read
abbrev pub open_of : {X : Type 0} → Bool × X → Bool
open_of v = v.0

-- what never goes on
pub closed_ends : {A : Type 0} {n : ℕ} {f : Terminal → Bool} {P : Tokens → A → Type 0} {p : Reader A} (flag : A → Bool) → Good n none f P p → Ends n flag f P p
closed_ends {A} {n} {f} {P} {p} flag good = record {
  sound = good.sound;
  reach = λ front x rest len is. wider none (else_after (flag x)) (p (front ++ rest)) x rest (λ kind e. refl) (good.reach front x rest len is);
  begins = good.begins;
}

pub forget : {A : Type 0} {n : ℕ} {flag : A → Bool} {f : Terminal → Bool} {P : Tokens → A → Type 0} {p : Reader A} → Ends n flag f P p → Good n (is k.Else) f P p
forget {A} {n} {flag} {f} {P} {p} ends = record {
  sound = ends.sound;
  reach = λ front x rest len h. wider (else_after (flag x)) (is k.Else) (p (front ++ rest)) x rest (λ kind e. else_less (flag x) kind e) (ends.reach front x rest len h);
  begins = ends.begins;
}

pub ends_lower : {A : Type 0} {n : ℕ} {flag : A → Bool} {f : Terminal → Bool} {P : Tokens → A → Type 0} {p : Reader A} → Ends (suc n) flag f P p → Ends n flag f P p
ends_lower ends = record { sound = ends.sound; reach = λ front x rest len is. ends.reach front x rest (omega arith) is; begins = ends.begins }

pub ends_seq : {A B : Type 0} {N n : ℕ} {gP fP fQ : Terminal → Bool} {flag : B → Bool} {P : Tokens → A → Type 0} {Q : Tokens → B → Type 0} {p : Reader A} {q : Reader B}
    → Good N gP fP P p → Ends n flag fQ Q q → N ≤ suc n → Disjoint fQ gP → Ends N (λ z. flag z.1) fP (Pair P Q) (both p q)
ends_seq {A} {B} {N} {n} {gP} {fP} {fQ} {flag} {P} {Q} {p} {q} gp gq less d = record {
  sound = λ ts. pair_sound P Q p q gq.sound ts (p ts) (gp.sound ts);
  reach = λ front z rest len is.
      let b = gp.begins is.left z.0 is.one in
      let c = gq.begins is.right z.1 is.two in
      let some = length_of is.left b in
      let parts : length front ≡ length is.left + length is.right = ap length is.parts ∙ length-append is.left is.right in
      let first = gp.reach is.left z.0 (is.right ++ rest) (omega arith) is.one in
      let second = gq.reach is.right z.1 rest (omega arith) is.two in
      rw (is.parts, append_assoc) (pair_reach P Q p q gP (else_after (flag z.1)) z.0 z.1 (is.right ++ rest) rest (p (is.left ++ (is.right ++ rest))) first (stops_at fQ gP is.right rest (apart fQ gP d) c) second);
  begins = λ front z is. let b = gp.begins is.left z.0 is.one in record { head = b.head; tail = b.tail ++ is.right; parts = is.parts ∙ ap (λ (t : Tokens). t ++ is.right) b.parts; kind = b.kind };
}

pub ends_loose_seq : {A B : Type 0} {n : ℕ} {g f fQ : Terminal → Bool} {flag : B → Bool} {P : Tokens → A → Type 0} {Q : Tokens → B → Type 0} {p : Reader A} {q : Reader B}
    → Loose n g f P p → Ends n flag fQ Q q → Disjoint fQ g → Ends n (λ z. flag z.1) (or f fQ) (Pair P Q) (both p q)
ends_loose_seq {A} {B} {n} {g} {f} {fQ} {flag} {P} {Q} {p} {q} gp gq d = record {
  sound = λ ts. pair_sound P Q p q gq.sound ts (p ts) (gp.sound ts);
  reach = λ front z rest len is.
      let c = gq.begins is.right z.1 is.two in
      let parts : length front ≡ length is.left + length is.right = ap length is.parts ∙ length-append is.left is.right in
      let first = gp.reach is.left z.0 (is.right ++ rest) (omega arith) is.one in
      let second = gq.reach is.right z.1 rest (omega arith) is.two in
      rw (is.parts, append_assoc) (pair_reach P Q p q g (else_after (flag z.1)) z.0 z.1 (is.right ++ rest) rest (p (is.left ++ (is.right ++ rest))) first (stops_at fQ g is.right rest (apart fQ g d) c) second);
  begins = λ front z is. begins front z is (gp.begins is.left z.0 is.one);
}
  where
    begins : (front : Tokens) (z : A × B) (is : Pair P Q front z) → (is.left ≡ []) ⊎ Begins f is.left → Begins (or f fQ) front
    begins front z is (inl empty) = let b = gq.begins is.right z.1 is.two in record { head = b.head; tail = b.tail; parts = is.parts ∙ rw empty b.parts; kind = true_right _ _ b.kind }
    begins front z is (inr b) = record { head = b.head; tail = b.tail ++ is.right; parts = is.parts ∙ ap (λ (t : Tokens). t ++ is.right) b.parts; kind = true_left _ _ b.kind }

mapped_sound : {A B : Type 0} (to : A → B) (P : Tokens → A → Type 0) (ts : Tokens) (r : Outcome A) → Holds P ts r → Holds (Image to P) ts (and_then r (λ x. pure (to x)))
mapped_sound to P ts (Some r) h = record { front = h.front; parts = h.parts; is = (r.0, h.is, refl) }
mapped_sound to P ts None h = tt

mapped_reach : {A B : Type 0} (to : A → B) (g : Terminal → Bool) (x : A) (y : B) (rest : Tokens) (r : Outcome A) → to x ≡ y → Reaches g r x rest → Reaches {A = B} g (and_then r (λ x. pure (to x))) y rest
mapped_reach to g x y rest (Some r) e h = (h.0, λ stop. let d = h.1 stop in (ap to d.0 ∙ e, d.1))
mapped_reach to g x y rest None e h = absurd h

pub ends_image : {A B : Type 0} {n : ℕ} {flag : A → Bool} {f : Terminal → Bool} {P : Tokens → A → Type 0} {p : Reader A} (to : A → B) (flag' : B → Bool) → ((x : A) → flag' (to x) ≡ flag x)
    → Ends n flag f P p → Ends n flag' f (Image to P) (to <$> p)
ends_image {A} {B} {n} {flag} {f} {P} {p} to flag' same ends = record {
  sound = λ ts. mapped_sound to P ts (p ts) (ends.sound ts);
  reach = λ front y rest len is.
      let at : else_after (flag' y) ≡ else_after (flag is.0) = ap else_after (ap flag' (sym is.2) ∙ same is.0) in
      rw at (mapped_reach to (else_after (flag is.0)) is.0 y rest (p (front ++ rest)) is.2 (ends.reach front is.0 rest len is.1));
  begins = λ front y is. ends.begins front is.0 is.1;
}

placed_sound : {A B : Type 0} (to : ℕ → A → B) (P : Tokens → A → Type 0) (f : Terminal → Bool) (ts : Tokens) (r : Outcome A) → ((front : Tokens) (x : A) → P front x → Begins f front) → Holds P ts r → Holds (Placed to P) ts (and_then r (λ x. pure (to (start_of ts) x)))
placed_sound to P f ts (Some r) begins h = record { front = h.front; parts = h.parts; is = (r.0, h.is, (let e : start_of ts ≡ start_of h.front = ap start_of h.parts ∙ start_on h.front r.1 (begins h.front r.0 h.is) in ap (λ n. to n r.0) (sym e))) }
placed_sound to P f ts None begins h = tt

pub ends_placed : {A B : Type 0} {n : ℕ} {flag : A → Bool} {f : Terminal → Bool} {P : Tokens → A → Type 0} {p : Reader A} (to : ℕ → A → B) (flag' : B → Bool) → ((at : ℕ) (x : A) → flag' (to at x) ≡ flag x)
    → Ends n flag f P p → Ends n flag' f (Placed to P) (from_start to p)
ends_placed {A} {B} {n} {flag} {f} {P} {p} to flag' same ends = record {
  sound = λ ts. placed_sound to P f ts (p ts) ends.begins (ends.sound ts);
  reach = λ front y rest len is.
      let at : else_after (flag' y) ≡ else_after (flag is.0) = ap else_after (ap flag' (sym is.2) ∙ same (start_of front) is.0) in
      rw (at, start_on front rest (ends.begins front is.0 is.1)) (mapped_reach (to (start_of front)) (else_after (flag is.0)) is.0 y rest (p (front ++ rest)) is.2 (ends.reach front is.0 rest len is.1));
  begins = λ front y is. ends.begins front is.0 is.1;
}

-- the same texts under another name, by the same answers
pub ends_rule : {A : Type 0} {n : ℕ} {flag : A → Bool} {f : Terminal → Bool} {P : Tokens → A → Type 0} {p : Reader A} (ends : Ends n flag f P p) (f' : Terminal → Bool) (F : Tokens → A → Type 0) (p' : Reader A)
    → ((ts : Tokens) → p' ts ≡ p ts) → ((ts : Tokens) (x : A) → P ts x → F ts x) → ((ts : Tokens) (x : A) → F ts x → P ts x) → Within f f' → Ends n flag f' F p'
ends_rule {A} {n} {flag} {f} {P} {p} ends f' F p' same into back more = record {
  sound = λ ts. rw same (sound ts (p ts) (ends.sound ts));
  reach = λ front x rest len is. rw same (ends.reach front x rest len (back front x is));
  begins = λ front x is. let b = ends.begins front x (back front x is) in record { head = b.head; tail = b.tail; parts = b.parts; kind = within f f' more (terminal_of b.head) b.kind };
}
  where
    sound : (ts : Tokens) (r : Outcome A) → Holds P ts r → Holds F ts r
    sound ts (Some r) h = record { front = h.front; parts = h.parts; is = into h.front r.0 h.is }
    sound ts None h = tt

pub ends_one_of : {A : Type 0} {n : ℕ} {flag : A → Bool} {fP fQ : Terminal → Bool} {P Q : Tokens → A → Type 0} {p q : Reader A}
    → Ends n flag fP P p → Ends n flag fQ Q q → ((front : Tokens) (x : A) (rest : Tokens) → Q front x → p (front ++ rest) ≡ None) → Ends n flag (or fP fQ) (Or P Q) (either p q)
ends_one_of {A} {n} {flag} {fP} {fQ} {P} {Q} {p} {q} gp gq off = record {
  sound = λ ts. holds ts (p ts) (q ts) (gp.sound ts) (gq.sound ts);
  reach = reach;
  begins = begins;
}
  where
    holds : (ts : Tokens) (r s : Outcome A) → Holds P ts r → Holds Q ts s → Holds (Or P Q) ts (or_else r s)
    holds ts (Some r) s h c = record { front = h.front; parts = h.parts; is = inl h.is }
    holds ts None (Some s) h c = record { front = c.front; parts = c.parts; is = inr c.is }
    holds ts None None h c = tt

    first : (g : Terminal → Bool) (x : A) (rest : Tokens) (r s : Outcome A) → Reaches g r x rest → Reaches g (or_else r s) x rest
    first g x rest (Some r) s h = h
    first g x rest None s h = absurd h

    reach : (front : Tokens) (x : A) (rest : Tokens) → length front ≤ n → Or P Q front x → Reaches (else_after (flag x)) (either p q (front ++ rest)) x rest
    reach front x rest len (inl is) = first (else_after (flag x)) x rest (p (front ++ rest)) (q (front ++ rest)) (gp.reach front x rest len is)
    reach front x rest len (inr is) = rw (off front x rest is) (gq.reach front x rest len is)

    begins : (front : Tokens) (x : A) → Or P Q front x → Begins (or fP fQ) front
    begins front x (inl is) = let b = gp.begins front x is in record { head = b.head; tail = b.tail; parts = b.parts; kind = true_left _ _ b.kind }
    begins front x (inr is) = let b = gq.begins front x is in record { head = b.head; tail = b.tail; parts = b.parts; kind = true_right _ _ b.kind }

-- ---- by the first terminal

pub ahead_is : (kind : Terminal) (front rest : Tokens) → Begins (is kind) front → ahead (front ++ rest) ≡ kind
ahead_is kind front rest b = ap (λ (ts : Tokens). ahead (ts ++ rest)) b.parts ∙ is_same kind (terminal_of b.head) b.kind

-- ---- chains of branches

module _ {B L : Type 0} (R : Tokens → Bool × B → Type 0) (S : Tokens → Bool × L → Type 0) (opens : Tokens → Bool) where
  -- the branches and the last part, with `else` between them
  abbrev pub FChain : Tokens → Bool → List B → Option L → Type 0
  FChain ts o [] last = ⊥
  FChain ts o (b ∷ []) None = (o ≡ true) × (p : Bool) × R ts (p, b)
  FChain ts o (b ∷ []) (Some l) = (u : Tokens) × (v : Tokens) × (w : Tokens) × (ts ≡ u ++ (v ++ w)) × R u (false, b) × Mark k.Else v × S w (o, l) × (opens w ≡ false)
  FChain ts o (b ∷ (c ∷ bs)) last = (u : Tokens) × (v : Tokens) × (w : Tokens) × (ts ≡ u ++ (v ++ w)) × R u (false, b) × Mark k.Else v × FChain w o (c ∷ bs) last

  abbrev pub Chain : Tokens → Bool × (List B × Option L) → Type 0
  Chain ts v = FChain ts v.0 v.1.0 v.1.1

  -- what is behind an `else`
  abbrev FBehind : Tokens → Bool → List B → Option L → Type 0
  FBehind ts o [] None = ⊥
  FBehind ts o [] (Some l) = S ts (o, l) × (opens ts ≡ false)
  FBehind ts o (c ∷ bs) last = FChain ts o (c ∷ bs) last

  abbrev Behind : Tokens → Bool × (List B × Option L) → Type 0
  Behind ts v = FBehind ts v.0 v.1.0 v.1.1

  abbrev Tail : Tokens → Bool × (List B × Option L) → Type 0
  Tail = Image (λ z. z.1) (Pair (Marked k.Else) Behind)

  chain_behind : (ts : Tokens) (o : Bool) (bs : List B) (last : Option L) → FChain ts o bs last → FBehind ts o bs last
  chain_behind ts o [] last h = absurd h
  chain_behind ts o (b ∷ bs) last h = h

  module _ {n : ℕ} {fB fL : Terminal → Bool} (first : Reader (Bool × B)) (other : Reader (Bool × L)) (gf : Ends (suc n) open_of fB R first) (gs : Ends n open_of fL S other)
      (opens_first : (front : Tokens) (v : Bool × B) (rest : Tokens) → R front v → opens (front ++ rest) ≡ true) (opens_same : (front : Tokens) (v : Bool × L) (rest : Tokens) → S front v → opens (front ++ rest) ≡ opens front) where
    abbrev more_from : ℕ → Reader (Bool × (List B × Option L))
    more_from m = chain_from first opens other m

    chain_begins : (front : Tokens) (o : Bool) (bs : List B) (last : Option L) → FChain front o bs last → Begins fB front
    chain_begins front o [] last h = absurd h
    chain_begins front o (b ∷ []) None (e, p, r) = gf.begins front (p, b) r
    chain_begins front o (b ∷ []) (Some l) (u, v, w, parts, r, m, s, off) = let c = gf.begins u (false, b) r in record { head = c.head; tail = c.tail ++ (v ++ w); parts = parts ∙ ap (λ (ts : Tokens). ts ++ (v ++ w)) c.parts; kind = c.kind }
    chain_begins front o (b ∷ (d ∷ bs)) last (u, v, w, parts, r, m, s) = let c = gf.begins u (false, b) r in record { head = c.head; tail = c.tail ++ (v ++ w); parts = parts ∙ ap (λ (ts : Tokens). ts ++ (v ++ w)) c.parts; kind = c.kind }

    chain_opens : (front : Tokens) (o : Bool) (bs : List B) (last : Option L) (rest : Tokens) → FChain front o bs last → opens (front ++ rest) ≡ true
    chain_opens front o [] last rest h = absurd h
    chain_opens front o (b ∷ []) None rest (e, p, r) = opens_first front (p, b) rest r
    chain_opens front o (b ∷ []) (Some l) rest (u, v, w, parts, r, m, s, off) = rw (parts, append_assoc u (v ++ w) rest) (opens_first u (false, b) ((v ++ w) ++ rest) r)
    chain_opens front o (b ∷ (d ∷ bs)) last rest (u, v, w, parts, r, m, s) = rw (parts, append_assoc u (v ++ w) rest) (opens_first u (false, b) ((v ++ w) ++ rest) r)

    -- ---- what is read is there

    branch_sound : (more : Reader (Bool × (List B × Option L))) → ((ts : Tokens) → Holds Chain ts (more ts)) → (ts : Tokens) → Holds Behind ts (branch_or first opens other (opens ts) more ts)
    branch_sound more sound ts = go (opens ts) refl
      where
        chained : (r : Outcome (Bool × (List B × Option L))) → Holds Chain ts r → Holds Behind ts r
        chained (Some r) h = record { front = h.front; parts = h.parts; is = chain_behind h.front r.0.0 r.0.1.0 r.0.1.1 h.is }
        chained None h = tt

        ended : opens ts ≡ false → (r : Outcome (Bool × L)) → Holds S ts r → Holds Behind ts (and_then r (λ v. pure (v.0, ([], Some v.1))))
        ended e (Some r) h = record { front = h.front; parts = h.parts; is = (h.is, sym (opens_same h.front r.0 r.1 h.is) ∙ ap opens (sym h.parts) ∙ e) }
        ended e None h = tt

        go : (o : Bool) → opens ts ≡ o → Holds Behind ts (branch_or first opens other o more ts)
        go true e = chained (more ts) (sound ts)
        go false e = ended e (other ts) (gs.sound ts)

    else_sound : (more : Reader (Bool × (List B × Option L))) → ((ts : Tokens) → Holds Chain ts (more ts)) → (ts : Tokens) → Holds Tail ts (else_part first opens other more ts)
    else_sound more sound ts = mapped_sound (λ z. z.1) (Pair (Marked k.Else) Behind) ts (both (mark k.Else) (λ ts. branch_or first opens other (opens ts) more ts) ts)
        (pair_sound (Marked k.Else) Behind (mark k.Else) (λ ts. branch_or first opens other (opens ts) more ts) (branch_sound more sound) ts (mark k.Else ts) ((mark_good 0 k.Else).sound ts))

    chain_sound : (m : ℕ) (ts : Tokens) → Holds Chain ts (more_from m ts)
    unfolding chain_from
    chain_sound zero ts = tt
    chain_sound (suc m) ts = go (chain_sound m) (first ts) (gf.sound ts)
      where
        tailed : (b : B) (mid : Tokens) → Fronts R ts (false, b) mid → (v : Bool × (List B × Option L)) (left : Tokens) → Fronts Tail mid v left → Fronts Chain ts (joined b (Some v)) left
        tailed b mid h v left t = build t.is.0 t.is.1 t.is.2
          where
            text : ts ≡ (h.front ++ t.front) ++ left
            text = h.parts ∙ ap (λ (us : Tokens). h.front ++ us) t.parts ∙ sym (append_assoc h.front t.front left)

            shaped : (l r : Tokens) → t.front ≡ l ++ r → Mark k.Else l → (o : Bool) (bs : List B) (last : Option L) → FBehind r o bs last → FChain (h.front ++ t.front) o (b ∷ bs) last
            shaped l r parts m o [] None c = absurd c
            shaped l r parts m o [] (Some x) c = (h.front, l, r, ap (λ (us : Tokens). h.front ++ us) parts, h.is, m, c.0, c.1)
            shaped l r parts m o (d ∷ bs) last c = (h.front, l, r, ap (λ (us : Tokens). h.front ++ us) parts, h.is, m, c)

            build : (z : Unit {0} × (Bool × (List B × Option L))) (p : Pair (Marked k.Else) Behind t.front z) → z.1 ≡ v → Fronts Chain ts (joined b (Some v)) left
            build z p e = record { front = h.front ++ t.front; parts = text; is = rw (← e) (shaped p.left p.right p.parts p.one z.1.0 z.1.1.0 z.1.1.1 p.two) }

        ended : (b : B) (mid : Tokens) → Fronts R ts (false, b) mid → (t : Outcome (Bool × (List B × Option L))) → Holds Tail mid t → Holds Chain ts (and_then (if_any t mid) (λ x. pure (joined b x)))
        ended b mid h (Some t) k = tailed b mid h t.0 t.1 k
        ended b mid h None k = record { front = h.front; parts = h.parts; is = (refl, false, h.is) }

        flagged : ((us : Tokens) → Holds Chain us (more_from m us)) → (o : Bool) (b : B) (mid : Tokens) → Fronts R ts (o, b) mid → Holds Chain ts (ends_with first opens other (more_from m) (o, b) mid)
        flagged more true b mid h = record { front = h.front; parts = h.parts; is = (refl, true, h.is) }
        flagged more false b mid h = ended b mid h (else_part first opens other (more_from m) mid) (else_sound (more_from m) more mid)

        go : ((us : Tokens) → Holds Chain us (more_from m us)) → (r : Outcome (Bool × B)) → Holds R ts r → Holds Chain ts (and_then r (ends_with first opens other (more_from m)))
        go more (Some r) h = flagged more r.0.0 r.0.1 r.1 h
        go more None h = tt

    -- ---- what is there is read

    alone_reach : (m : ℕ) (p : Bool) (b : B) (rest : Tokens) (r : Outcome (Bool × B)) → Reaches (else_after p) r (p, b) rest → Reaches {A = Bool × (List B × Option L)} (else_after true) (and_then r (ends_with first opens other (more_from m))) (true, (b ∷ [], None)) rest
    unfolding same_terminal
    alone_reach m p b rest None h = absurd h
    alone_reach m p b rest (Some r) h = go r.0.0 r.0.1 r.1 h.0 (λ stop. let e = h.1 (else_less p (ahead rest) stop) in (ap (λ (v : Bool × B). v.1) e.0, e.1))
      where
        behind : (y : B) (mid : Tokens) → length mid ≤ length rest → (is k.Else (ahead rest) ≡ false → (y ≡ b) × (mid ≡ rest)) → (t : Outcome (Bool × (List B × Option L))) → else_part first opens other (more_from m) mid ≡ t → Holds Tail mid t
            → Reaches {A = Bool × (List B × Option L)} (else_after true) (and_then (if_any t mid) (λ x. pure (joined y x))) (true, (b ∷ [], None)) rest
        behind y mid less same None e h = (less, λ stop. let c = same stop in (rw (c.0) refl, c.1))
        behind y mid less same (Some t) e h =
            let smaller = shorter Tail mid t.0 t.1 h in
            (omega arith, λ stop. let c = same stop in let off : mark k.Else rest ≡ None = refused (mark_good 0 k.Else) rest stop in let never : else_part first opens other (more_from m) mid ≡ None = rw (c.1, off) refl in absurd cc)

        go : (q : Bool) (y : B) (mid : Tokens) → length mid ≤ length rest → (is k.Else (ahead rest) ≡ false → (y ≡ b) × (mid ≡ rest)) → Reaches {A = Bool × (List B × Option L)} (else_after true) (ends_with first opens other (more_from m) (q, y) mid) (true, (b ∷ [], None)) rest
        go true y mid less same = (less, λ stop. let c = same stop in (rw (c.0) refl, c.1))
        go false y mid less same = behind y mid less same (else_part first opens other (more_from m) mid) refl (else_sound (more_from m) (chain_sound m) mid)

    -- where an `else` stands, what is behind it is read
    else_at : (more : Reader (Bool × (List B × Option L))) (v ts : Tokens) (r : Outcome (Bool × (List B × Option L))) → Mark k.Else v → branch_or first opens other (opens ts) more ts ≡ r → else_part first opens other more (v ++ ts) ≡ r
    unfolding same_terminal
    else_at more v ts (Some r) m e = rw (m.alone, m.is, e) refl
    else_at more v ts None m e = rw (m.alone, m.is, e) refl

    joined_reach : (o : Bool) (b : B) (bs : List B) (last : Option L) (rest mid : Tokens) (r : Outcome (Bool × (List B × Option L))) → Reaches {A = Bool × (List B × Option L)} (else_after o) r (o, (bs, last)) rest
        → Reaches {A = Bool × (List B × Option L)} (else_after o) (and_then (if_any r mid) (λ x. pure (joined b x))) (o, (b ∷ bs, last)) rest
    joined_reach o b bs last rest mid (Some r) h = (h.0, λ stop. let e = h.1 stop in (rw (e.0) refl, e.1))
    joined_reach o b bs last rest mid None h = absurd h

    -- a branch that an `else` follows is read, and then the rest
    else_reach : (m : ℕ) (u v ts : Tokens) (b : B) (o : Bool) (bs : List B) (last : Option L) (rest : Tokens) → length u ≤ suc n → R u (false, b) → Mark k.Else v
        → Reaches {A = Bool × (List B × Option L)} (else_after o) (branch_or first opens other (opens ts) (more_from m) ts) (o, (bs, last)) rest → Reaches {A = Bool × (List B × Option L)} (else_after o) (more_from (suc m) (u ++ (v ++ ts))) (o, (b ∷ bs, last)) rest
    unfolding chain_from
    else_reach m u v ts b o bs last rest len r mk h =
        let at : first (u ++ (v ++ ts)) ≡ Some ((false, b), v ++ ts) = exactly (first (u ++ (v ++ ts))) (gf.reach u (false, b) (v ++ ts) len r) in
        let all = joined_reach o b bs last rest (v ++ ts) (else_part first opens other (more_from m) (v ++ ts)) (rw (else_at (more_from m) v ts (branch_or first opens other (opens ts) (more_from m) ts) mk refl) h) in
        rw at all
      where
        exactly : (q : Outcome (Bool × B)) → Reaches (else_after false) q (false, b) (v ++ ts) → q ≡ Some ((false, b), v ++ ts)
        exactly (Some q) h = let e = h.1 refl in ap Some (rw (e.0, e.1) refl)
        exactly None h = absurd h

    last_reach : (w : Tokens) (l : L) (o : Bool) (rest : Tokens) (r : Outcome (Bool × L)) → Reaches (else_after o) r (o, l) rest → Reaches {A = Bool × (List B × Option L)} (else_after o) (and_then r (λ v. pure (v.0, ([], Some v.1)))) (o, ([], Some l)) rest
    last_reach w l o rest (Some r) h = (h.0, λ stop. let e = h.1 stop in (rw (e.0) refl, e.1))
    last_reach w l o rest None h = absurd h

    chain_reach : (m : ℕ) (front : Tokens) (o : Bool) (bs : List B) (last : Option L) (rest : Tokens) → length front ≤ m → length front ≤ suc n → FChain front o bs last
        → Reaches {A = Bool × (List B × Option L)} (else_after o) (more_from m (front ++ rest)) (o, (bs, last)) rest
    unfolding chain_from
    chain_reach m front o [] last rest enough len h = absurd h
    chain_reach zero front o (b ∷ bs) last rest enough len h = let c = length_of front (chain_begins front o (b ∷ bs) last h) in absurd (omega arith)
    chain_reach (suc m) front o (b ∷ []) None rest enough len (e, p, r) = rw e (alone_reach m p b rest (first (front ++ rest)) (gf.reach front (p, b) rest len r))
    chain_reach (suc m) front o (b ∷ []) (Some l) rest enough len (u, v, w, parts, r, mk, h, off) =
        let size : length front ≡ length u + (length v + length w) = ap length parts ∙ length-append u (v ++ w) ∙ ap (λ (i : ℕ). length u + i) (length-append v w) in
        let some = length_of u (gf.begins u (false, b) r) in
        let shut : opens (w ++ rest) ≡ false = opens_same w (o, l) rest h ∙ off in
        let behind : Reaches {A = Bool × (List B × Option L)} (else_after o) (branch_or first opens other (opens (w ++ rest)) (more_from m) (w ++ rest)) (o, ([], Some l)) rest = rw shut (last_reach w l o rest (other (w ++ rest)) (gs.reach w (o, l) rest (omega arith) h)) in
        rw (parts, append_assoc u (v ++ w) rest, append_assoc v w rest) (else_reach m u v (w ++ rest) b o [] (Some l) rest (omega arith) r mk behind)
    chain_reach (suc m) front o (b ∷ (d ∷ bs)) last rest enough len (u, v, w, parts, r, mk, h) =
        let size : length front ≡ length u + (length v + length w) = ap length parts ∙ length-append u (v ++ w) ∙ ap (λ (i : ℕ). length u + i) (length-append v w) in
        let some = length_of u (gf.begins u (false, b) r) in
        let opened : opens (w ++ rest) ≡ true = chain_opens w o (d ∷ bs) last rest h in
        let behind : Reaches {A = Bool × (List B × Option L)} (else_after o) (branch_or first opens other (opens (w ++ rest)) (more_from m) (w ++ rest)) (o, (d ∷ bs, last)) rest = rw opened (chain_reach m w o (d ∷ bs) last rest (omega arith) (omega arith) h) in
        rw (parts, append_assoc u (v ++ w) rest, append_assoc v w rest) (else_reach m u v (w ++ rest) b o (d ∷ bs) last rest (omega arith) r mk behind)

    pub chain_good : Ends (suc n) open_of fB Chain (chain first opens other)
    chain_good = record {
      sound = λ ts. chain_sound (length ts) ts;
      reach = λ front v rest len h. chain_reach (length (front ++ rest)) front v.0 v.1.0 v.1.1 rest (omega (arith, length-append front rest)) len h;
      begins = λ front v h. chain_begins front v.0 v.1.0 v.1.1 h;
    }

-- ---- lists, and lists in braces

abbrev pub FBraces : {X : Type 0} → (Tokens → List X → Type 0) → Tokens → List X → Type 0
FBraces A = Image (λ z. z.1.0) (Pair (Marked k.LeftBrace) (Pair A (Marked k.RightBrace)))

module _ {X : Type 0} {n : ℕ} {f : Terminal → Bool} {P : Tokens → Bool × X → Type 0} {inner : Reader (Bool × X)} (i : Ends n open_of f P inner) (A : Tokens → List X → Type 0)
    (into : (ts : Tokens) (xs : List X) → Many (Image (λ v. v.1) P) ts xs → A ts xs) (back : (ts : Tokens) (xs : List X) → A ts xs → Many (Image (λ v. v.1) P) ts xs)
    (off : Disjoint f (is k.Else)) (shut : or (is k.Else) f k.RightBrace ≡ false) where
  one_item_good : Good n (is k.Else) f (Image (λ v. v.1) P) (one_item inner)
  unfolding one_item
  one_item_good = image (λ v. v.1) (forget i)

  pub items_good : Loose n (or (is k.Else) f) f A (items inner)
  items_good = loose_retype (loose_many one_item_good (apart f (is k.Else) off)) A into back

  pub braces_good : Good (suc n) none (is k.LeftBrace) (FBraces A) (in_braces inner)
  unfolding in_braces same_terminal
  braces_good = image (λ z. z.1.0) (then (suc n) n none (is k.LeftBrace) none (or f (is k.RightBrace)) (mark_good (suc n) k.LeftBrace) (loose_then items_good (mark_good n k.RightBrace) (only k.RightBrace (or (is k.Else) f) shut)) (omega arith) (λ x e. refl))
