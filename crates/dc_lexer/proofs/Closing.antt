-- Balanced text, counted: how a scan with a depth comes to the closing mark.
use Rattle.std.proofs.Common.{◌≡◌, ℕ, zero, suc, ◌+◌, ◌≤◌, [], ◌++◌, refl, sym, ap, subst, ◌∙◌, append_assoc, arith}
use Rattle.dc_token.specs.Balance.{Bytes, Balanced}

-- after so many closing marks that have no opening mark here, the second text follows
pub data Closes (Opens Shuts Other : Bytes → Bytes → Type 0) : ℕ → Bytes → Bytes → Type 0 where
  done : {t : Bytes} → Closes Opens Shuts Other zero t t
  other : {n : ℕ} {t u v : Bytes} → Other t u → Closes Opens Shuts Other (suc n) u v → Closes Opens Shuts Other (suc n) t v
  opens : {n : ℕ} {t u v : Bytes} → Opens t u → Closes Opens Shuts Other (suc (suc n)) u v → Closes Opens Shuts Other (suc n) t v
  shuts : {n : ℕ} {t u v : Bytes} → Shuts t u → Closes Opens Shuts Other n u v → Closes Opens Shuts Other (suc n) t v

pub record Ahead (t u : Bytes) : Type 0 where
  pub front : Bytes
  pub parts : t ≡ front ++ u

module _ (Opens Shuts Other : Bytes → Bytes → Type 0) where
  abbrev pub B : Bytes → Bytes → Type 0
  B = Balanced Opens Shuts Other

  abbrev pub S : ℕ → Bytes → Bytes → Type 0
  S = Closes Opens Shuts Other

  pub counted : {t u w v : Bytes} (n : ℕ) → B t u → Shuts u w → S n w v → S (suc n) t v
  counted n Balanced.nothing shut more = Closes.shuts shut more
  counted n (Balanced.other m rest) shut more = Closes.other m (counted n rest shut more)
  counted n (Balanced.nested o inner c rest) shut more = Closes.opens o (counted (suc n) inner c (counted n rest shut more))

  pub record Cut (More : Bytes → Type 0) (t : Bytes) : Type 0 where
    pub mid : Bytes
    pub end : Bytes
    pub balances : B t mid
    pub shut : Shuts mid end
    pub more : More end

  abbrev pub Levels : ℕ → Bytes → Bytes → Type 0
  Levels zero t v = t ≡ v
  Levels (suc n) t v = Cut (λ end. Levels n end v) t

  pub levels : {n : ℕ} {t v : Bytes} → S n t v → Levels n t v
  levels Closes.done = refl
  levels (Closes.other m rest) = let c = levels rest in record { mid = c.mid; end = c.end; balances = Balanced.other m c.balances; shut = c.shut; more = c.more }
  levels (Closes.opens o rest) =
      let c = levels rest in
      record { mid = c.more.mid; end = c.more.end; balances = Balanced.nested o c.balances c.shut c.more.balances; shut = c.more.shut; more = c.more.more }
  levels {t = t} (Closes.shuts {u = u} s rest) = record { mid = t; end = u; balances = Balanced.nothing; shut = s; more = levels rest }

  -- two scans that come to the same ends
  pub record Same (d : ℕ) (t : Bytes) (e : ℕ) (u : Bytes) : Type 0 where
    pub into : (v : Bytes) → S d t v → S e u v
    pub back : (v : Bytes) → S e u v → S d t v

  pub same_refl : (d : ℕ) (t : Bytes) → Same d t d t
  same_refl d t = record { into = λ v s. s; back = λ v s. s }

  pub ended : (t v : Bytes) → S zero t v → t ≡ v
  ended t v s = levels s

  -- The marks at a text are known, and none other is there.
  pub opens_on : (t s : Bytes) → Opens t s → ((u : Bytes) → Opens t u → u ≡ s) → ((u : Bytes) → Shuts t u → ⊥) → ((u : Bytes) → Other t u → ⊥)
      → (d d2 e : ℕ) (u : Bytes) → 1 ≤ d → d2 ≡ d + 1 → Same d t e u → Same d2 s e u
  opens_on t s o only_o no_s no_m zero d2 e u h eq same = absurd (omega arith)
  opens_on t s o only_o no_s no_m (suc d) d2 e u h eq same =
      let more : d2 ≡ suc (suc d) = omega arith in
      rw more (record { into = λ v r. same.into v (Closes.opens o r); back = λ v r. back d v (same.back v r) })
    where
      back : (d : ℕ) (v : Bytes) → S (suc d) t v → S (suc (suc d)) s v
      back d v (Closes.opens {u = u2} o r) = subst (λ x. S (suc (suc d)) x v) (only_o u2 o) r
      back d v (Closes.shuts {u = u2} m r) = absurd (no_s u2 m)
      back d v (Closes.other {u = u2} m r) = absurd (no_m u2 m)

  pub shuts_on : (t s : Bytes) → Shuts t s → ((u : Bytes) → Shuts t u → u ≡ s) → ((u : Bytes) → Opens t u → ⊥) → ((u : Bytes) → Other t u → ⊥)
      → (d d2 e : ℕ) (u : Bytes) → d ≡ d2 + 1 → Same d t e u → Same d2 s e u
  shuts_on t s o only_o no_s no_m zero d2 e u eq same = absurd (omega arith)
  shuts_on t s o only_o no_s no_m (suc d) d2 e u eq same =
      let more : d2 ≡ d = omega arith in
      rw more (record { into = λ v r. same.into v (Closes.shuts o r); back = λ v r. back d v (same.back v r) })
    where
      back : (d : ℕ) (v : Bytes) → S (suc d) t v → S d s v
      back d v (Closes.shuts {u = u2} o r) = subst (λ x. S d x v) (only_o u2 o) r
      back d v (Closes.opens {u = u2} m r) = absurd (no_s u2 m)
      back d v (Closes.other {u = u2} m r) = absurd (no_m u2 m)

  pub other_on : (t s : Bytes) → Other t s → ((u : Bytes) → Other t u → u ≡ s) → ((u : Bytes) → Opens t u → ⊥) → ((u : Bytes) → Shuts t u → ⊥)
      → (d e : ℕ) (u : Bytes) → 1 ≤ d → Same d t e u → Same d s e u
  other_on t s o only_o no_s no_m zero e u h same = absurd (omega arith)
  other_on t s o only_o no_s no_m (suc d) e u h same =
      record { into = λ v r. same.into v (Closes.other o r); back = λ v r. back d v (same.back v r) }
    where
      back : (d : ℕ) (v : Bytes) → S (suc d) t v → S (suc d) s v
      back d v (Closes.other {u = u2} o r) = subst (λ x. S (suc d) x v) (only_o u2 o) r
      back d v (Closes.opens {u = u2} m r) = absurd (no_s u2 m)
      back d v (Closes.shuts {u = u2} m r) = absurd (no_m u2 m)

  -- at a text where nothing stands, nothing closes
  pub none_on : (t : Bytes) → ((u : Bytes) → Opens t u → ⊥) → ((u : Bytes) → Shuts t u → ⊥) → ((u : Bytes) → Other t u → ⊥)
      → (d e : ℕ) (u : Bytes) → 1 ≤ d → Same d t e u → (v : Bytes) → S e u v → ⊥
  none_on t no_o no_s no_m zero e u h same v s = absurd (omega arith)
  none_on t no_o no_s no_m (suc d) e u h same v s = back d v (same.back v s)
    where
      back : (d : ℕ) (v : Bytes) → S (suc d) t v → ⊥
      back d v (Closes.other {u = u2} m r) = no_m u2 m
      back d v (Closes.opens {u = u2} m r) = no_o u2 m
      back d v (Closes.shuts {u = u2} m r) = no_s u2 m

  module _ (opens_ahead : (t u : Bytes) → Opens t u → Ahead t u) (shuts_ahead : (t u : Bytes) → Shuts t u → Ahead t u) (other_ahead : (t u : Bytes) → Other t u → Ahead t u) where
    join : (t u v : Bytes) → Ahead t u → Ahead u v → Ahead t v
    join t u v a b = record { front = a.front ++ b.front; parts = a.parts ∙ ap (λ (x : Bytes). a.front ++ x) b.parts ∙ sym (append_assoc a.front b.front v) }

    pub ahead : (t u : Bytes) → B t u → Ahead t u
    ahead t u Balanced.nothing = record { front = []; parts = refl }
    ahead t u (Balanced.other {u = s} m rest) = join t s u (other_ahead t s m) (ahead s u rest)
    ahead t u (Balanced.nested {u = x} {v = y} {w = z} o inner c rest) = join t x u (opens_ahead t x o) (join x y u (ahead x y inner) (join y z u (shuts_ahead y z c) (ahead z u rest)))

  -- where the marks are functions, and at most one stands at a text, a scan has one end
  module _ (one_open : (t u v : Bytes) → Opens t u → Opens t v → u ≡ v) (one_shut : (t u v : Bytes) → Shuts t u → Shuts t v → u ≡ v) (one_other : (t u v : Bytes) → Other t u → Other t v → u ≡ v)
      (open_shut : (t u v : Bytes) → Opens t u → Shuts t v → ⊥) (other_open : (t u v : Bytes) → Other t u → Opens t v → ⊥) (other_shut : (t u v : Bytes) → Other t u → Shuts t v → ⊥) where
    after_open : (n : ℕ) (t u v : Bytes) → Opens t u → S (suc n) t v → S (suc (suc n)) u v
    after_open n t u v o (Closes.opens {u = x} p r) = subst (λ (y : Bytes). S (suc (suc n)) y v) (one_open t x u p o) r
    after_open n t u v o (Closes.shuts {u = x} p r) = absurd (open_shut t u x o p)
    after_open n t u v o (Closes.other {u = x} p r) = absurd (other_open t x u p o)

    after_shut : (n : ℕ) (t u v : Bytes) → Shuts t u → S (suc n) t v → S n u v
    after_shut n t u v o (Closes.shuts {u = x} p r) = subst (λ (y : Bytes). S n y v) (one_shut t x u p o) r
    after_shut n t u v o (Closes.opens {u = x} p r) = absurd (open_shut t x u p o)
    after_shut n t u v o (Closes.other {u = x} p r) = absurd (other_shut t x u p o)

    after_other : (n : ℕ) (t u v : Bytes) → Other t u → S (suc n) t v → S (suc n) u v
    after_other n t u v o (Closes.other {u = x} p r) = subst (λ (y : Bytes). S (suc n) y v) (one_other t x u p o) r
    after_other n t u v o (Closes.opens {u = x} p r) = absurd (other_open t u x o p)
    after_other n t u v o (Closes.shuts {u = x} p r) = absurd (other_shut t u x o p)

    pub one_end : (n : ℕ) (t u v : Bytes) → S n t u → S n t v → u ≡ v
    one_end zero t u v Closes.done s = ended t v s
    one_end (suc n) t u v (Closes.other {u = x} m r) s = one_end (suc n) x u v r (after_other n t x v m s)
    one_end (suc n) t u v (Closes.opens {u = x} m r) s = one_end (suc (suc n)) x u v r (after_open n t x v m s)
    one_end (suc n) t u v (Closes.shuts {u = x} m r) s = one_end n x u v r (after_shut n t x v m s)
