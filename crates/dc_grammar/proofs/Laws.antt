-- What the reader gives is the longest expression, and a list of tokens has one tree.
use Rattle.std.proofs.Common.{◌≡◌, ℕ, zero, suc, ◌+◌, ◌-◌, ◌≤◌, Bool, false, [], ◌∷◌, ◌++◌, length, take, drop, Some, None, refl, sym, ap, subst, ◌∙◌, arith, length-append, length-drop, length-take}
use Rattle.std.specs.Prelude.{slice_range}
use Rattle.std.proofs.lemmas.List.{take_at, drop_at, take-append-drop}
use Rattle.dc_grammar.specs.declared.terminal.Terminal.{Terminal}
use Rattle.dc_grammar.specs.Terminals.{Tokens, ahead, same_terminal}
use Rattle.dc_grammar.specs.Reading.{Outcome, Reader}
use Rattle.dc_grammar.specs.Grammar.{IsExpr, IsType}
use Rattle.dc_grammar.specs.Readers.{expr_to, whole_expr, whole_type}
use Rattle.dc_grammar.specs.Reads.{Longest, OneTree}
use Rattle.dc_grammar.proofs.Good.{Good, Holds, Reaches, Fronts, shorter, length_of}
use Rattle.dc_grammar.proofs.Rules.{expr_good, type_good}
use Rattle.dc_grammar.proofs.Arguments.{argument_good}
use Rattle.dc_grammar.proofs.Edges.{after_expr, after_type, begins_expr, begins_type}

append_nil : (ts : Tokens) → ts ++ [] ≡ ts
append_nil [] = refl
append_nil (t ∷ ts) = ap (λ (us : Tokens). t ∷ us) (append_nil ts)

-- two trees of one text are the tree that is read there
same_tree : {A : Type 0} {n : ℕ} {g f : Terminal → Bool} {P : Tokens → A → Type 0} {p : Reader A} → Good n g f P p → (ts : Tokens) (x y : A) → length ts ≤ n → g (ahead []) ≡ false → P ts x → P ts y → x ≡ y
same_tree {A} {n} {g} {f} {P} {p} good ts x y len stop px py = go (p (ts ++ [])) (good.reach ts x [] len px) (good.reach ts y [] len py)
  where
    go : (r : Outcome A) → Reaches g r x [] → Reaches g r y [] → x ≡ y
    go (Some r) h k = sym (h.1 stop).0 ∙ (k.1 stop).0
    go None h k = absurd h

-- a reader that is as it is to be for texts of each length
abbrev pub Every : {A : Type 0} → (Terminal → Bool) → (Terminal → Bool) → (Tokens → A → Type 0) → Reader A → Type 0
Every g f P p = (n : ℕ) → Good n g f P p

pub every_expr : Every after_expr begins_expr IsExpr whole_expr
every_expr n = record {
  sound = λ ts. (expr_good (length ts)).whole.sound ts;
  reach = λ front x rest len is. (expr_good (length (front ++ rest))).whole.reach front x rest (omega (arith, length-append front rest)) is;
  begins = (expr_good n).whole.begins;
}

pub every_type : Every after_type begins_type IsType whole_type
every_type n = record {
  sound = λ ts. (type_good (length ts) (expr_to (length ts)) (expr_good (length ts))).sound ts;
  reach = λ front x rest len is. (type_good (length (front ++ rest)) (expr_to (length (front ++ rest))) (expr_good (length (front ++ rest)))).reach front x rest (omega (arith, length-append front rest)) is;
  begins = (type_good n (expr_to n) (expr_good n)).begins;
}

pub one_tree : OneTree
unfolding same_terminal
one_tree = record {
  expr = λ ts x y px py. same_tree (every_expr (length ts)) ts x y (omega arith) refl px py;
  type = λ ts x y px py. same_tree (every_type (length ts)) ts x y (omega arith) refl px py;
  argument = λ ts x y px py. same_tree (argument_good (length ts + 2) (expr_to (length ts + 2)) (expr_good (length ts + 2))) ts x y (omega arith) refl px py;
}

pub whole_text : (n : ℕ) (ts : Tokens) → length ts ≤ n → take n ts ≡ ts
whole_text zero [] le = refl
whole_text (suc n) [] le = refl
whole_text zero (t ∷ ts) le = absurd (omega arith)
whole_text (suc n) (t ∷ ts) le = ap (λ (us : Tokens). t ∷ us) (whole_text n ts (omega arith))

pub at_start : (ts : Tokens) (m : ℕ) → take m ts ≡ slice_range ts 0 m
at_start ts m = let e : m ≡ m - 0 = omega arith in ap (λ (n : ℕ). take n ts) e

module _ {A : Type 0} {g f : Terminal → Bool} {P : Tokens → A → Type 0} {p : Reader A} (good : Every g f P p) where
  -- whatever begins there is reached
  reach_at : (ts : Tokens) (other : A) (front rest : Tokens) → ts ≡ front ++ rest → P front other → Reaches g (p ts) other rest
  reach_at ts other front rest parts is = let r = (good (length front)).reach front other rest (omega arith) is in rw (← parts) at r

  sound_at : (ts : Tokens) (x : A) (rest : Tokens) → p ts ≡ Some (x, rest) → Fronts P ts x rest
  sound_at ts x rest e = let h : Holds P ts (Some (x, rest)) = subst (λ (r : Outcome A). Holds P ts r) e ((good 0).sound ts) in h

  pub shorter_rest : (ts : Tokens) (x : A) (rest : Tokens) → p ts ≡ Some (x, rest) → length rest ≤ length ts
  shorter_rest ts x rest e = shorter P ts x rest (sound_at ts x rest e)

  pub found : (tokens : Tokens) (from : ℕ) (x : A) (rest : Tokens) → from ≤ length tokens → p (drop from tokens) ≡ Some (x, rest) → Longest P tokens from x (length tokens - length rest)
  found tokens from x rest le e =
      let ts = drop from tokens in
      let h = sound_at ts x rest e in
      let len : length ts ≡ length tokens - from = length-drop from tokens in
      let parts : length ts ≡ length h.front + length rest = ap length h.parts ∙ length-append h.front rest in
      let count : (length tokens - length rest) - from ≡ length h.front = omega arith in
      let text : take ((length tokens - length rest) - from) ts ≡ h.front = ap (λ (n : ℕ). take n ts) count ∙ ap (λ (us : Tokens). take (length h.front) us) h.parts ∙ take_at h.front rest (length h.front) refl in
      record {
        within = omega arith;
        is = subst (λ (w : Tokens). P w x) (sym text) h.is;
        longest = λ to other within is.
            let r : Reaches g (Some (x, rest)) other (drop (to - from) ts) = subst (λ (r : Outcome A). Reaches g r other (drop (to - from) ts)) e (reach_at ts other (take (to - from) ts) (drop (to - from) ts) (sym (take-append-drop (to - from) ts)) is) in
            let far : length (drop (to - from) ts) ≡ length ts - (to - from) = length-drop (to - from) ts in
            let more : length rest ≤ length (drop (to - from) ts) = r.0 in
            omega arith;
      }

  pub nothing_there : (tokens : Tokens) (from : ℕ) → p (drop from tokens) ≡ None → (to : ℕ) (other : A) → P (slice_range tokens from to) other → ⊥
  nothing_there tokens from e to other is =
      let ts = drop from tokens in
      let r : Reaches g None other (drop (to - from) ts) = subst (λ (r : Outcome A). Reaches g r other (drop (to - from) ts)) e (reach_at ts other (take (to - from) ts) (drop (to - from) ts) (sym (take-append-drop (to - from) ts)) is) in
      r

  -- at the end of the tokens and behind it nothing begins
  pub nothing_behind : (tokens : Tokens) (from : ℕ) → length tokens ≤ from → (to : ℕ) (other : A) → P (slice_range tokens from to) other → ⊥
  nothing_behind tokens from le to other is =
      let some = length_of (slice_range tokens from to) ((good 0).begins (slice_range tokens from to) other is) in
      let size : length (slice_range tokens from to) ≤ length (drop from tokens) = omega (arith, length-take (to - from) (drop from tokens)) in
      let none : length (drop from tokens) ≡ length tokens - from = length-drop from tokens in
      absurd (omega arith)

  -- ---- the other way round: what is the longest is what the reader on lists gives

  pub is_read : (ts : Tokens) (x : A) (end : ℕ) → g (ahead []) ≡ false → Longest P ts 0 x end → p ts ≡ Some (x, drop end ts)
  is_read ts x end stop h = go (p ts) refl (reach_at ts x (take end ts) (drop end ts) (sym (take-append-drop end ts)) (subst (λ (w : Tokens). P w x) (sym (at_start ts end)) h.is))
    where
      go : (r : Outcome A) → p ts ≡ r → Reaches g r x (drop end ts) → r ≡ Some (x, drop end ts)
      go (Some r) e k =
          let s = sound_at ts r.0 r.1 e in
          let parts : length ts ≡ length s.front + length r.1 = ap length s.parts ∙ length-append s.front r.1 in
          let text : take (length s.front) ts ≡ s.front = ap (λ (us : Tokens). take (length s.front) us) s.parts ∙ take_at s.front r.1 (length s.front) refl in
          let after : drop (length s.front) ts ≡ r.1 = ap (λ (us : Tokens). drop (length s.front) us) s.parts ∙ drop_at s.front r.1 (length s.front) refl in
          let upto : length s.front ≤ end = h.longest (length s.front) r.0 (omega arith) (subst (λ (w : Tokens). P w r.0) (sym text ∙ at_start ts (length s.front)) s.is) in
          let less : length r.1 ≤ length (drop end ts) = k.0 in
          let far : length (drop end ts) ≡ length ts - end = length-drop end ts in
          let within : end ≤ length ts = h.within in
          let same : length s.front ≡ end = omega arith in
          let front : s.front ≡ take end ts = sym text ∙ ap (λ (n : ℕ). take n ts) same in
          let tree : r.0 ≡ x = same_tree (good (length ts)) (take end ts) r.0 x (omega (arith, length-take end ts)) stop (subst (λ (w : Tokens). P w r.0) front s.is) (subst (λ (w : Tokens). P w x) (sym (at_start ts end)) h.is) in
          let rest : r.1 ≡ drop end ts = sym after ∙ ap (λ (n : ℕ). drop n ts) same in
          ap Some (rw (tree, rest) refl)
      go None e k = absurd k

  pub is_not_read : (ts : Tokens) → ((to : ℕ) (other : A) → to ≤ length ts → P (slice_range ts 0 to) other → ⊥) → p ts ≡ None
  is_not_read ts h = go (p ts) refl
    where
      go : (r : Outcome A) → p ts ≡ r → r ≡ None
      go (Some r) e =
          let s = sound_at ts r.0 r.1 e in
          let parts : length ts ≡ length s.front + length r.1 = ap length s.parts ∙ length-append s.front r.1 in
          let text : take (length s.front) ts ≡ s.front = ap (λ (us : Tokens). take (length s.front) us) s.parts ∙ take_at s.front r.1 (length s.front) refl in
          absurd (h (length s.front) r.0 (omega arith) (subst (λ (w : Tokens). P w r.0) (sym text ∙ at_start ts (length s.front)) s.is))
      go None e = refl
