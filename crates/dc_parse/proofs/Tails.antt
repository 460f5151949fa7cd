-- What is the longest at a token is what the reader on lists gives there.
use Rattle.std.proofs.Common.{◌≡◌, ℕ, zero, suc, ◌+◌, ◌-◌, ◌≤◌, ◌<◌, List, Bool, false, [], ◌∷◌, ◌⊎◌, inl, inr, length, take, drop, Some, None, refl, sym, ap, subst, ◌∙◌, arith, length-drop}
use Rattle.std.specs.Prelude.{slice_range}
use Rattle.std.proofs.lemmas.List.{drop-drop}
use Rattle.std.proofs.lemmas.Bool.{cases_lt}
use Rattle.dc_grammar.specs.declared.terminal.Terminal.{Terminal}
use Rattle.dc_grammar.specs.Terminals.{Tokens, ahead, terminal_of}
use Rattle.dc_grammar.specs.Reading.{Reader}
use Rattle.dc_grammar.specs.Reads.{Longest}
use Rattle.dc_grammar.proofs.Good.{Begins}
use Rattle.dc_grammar.proofs.Laws.{Every, is_read, is_not_read}
use Rattle.dc_parse.specs.Left.{left}

drop_past : {A : Type 0} (n : ℕ) (ts : List A) → length ts ≤ n → drop n ts ≡ []
drop_past zero [] le = refl
drop_past (suc n) [] le = refl
drop_past zero (t ∷ ts) le = absurd (omega arith)
drop_past (suc n) (t ∷ ts) le = drop_past n ts (omega arith)

pub none_left : (tokens : Tokens) (at : ℕ) → length tokens < at → left tokens at ≡ []
unfolding left
none_left tokens at lt = drop_past at tokens (omega arith)

no_front : {f : Terminal → Bool} → Begins f [] → ⊥
no_front h = let e = h.parts in cc

shifted : (ts : Tokens) (from to : ℕ) → slice_range ts from (from + to) ≡ slice_range (drop from ts) 0 to
shifted ts from to = let e : (from + to) - from ≡ to - 0 = omega arith in ap (λ (n : ℕ). take n (drop from ts)) e

module _ {A : Type 0} {g f : Terminal → Bool} {P : Tokens → A → Type 0} {p : Reader A} (good : Every g f P p) where
  -- no text of the kind is empty
  forward : (ts : Tokens) (from end : ℕ) (x : A) → P (slice_range ts from end) x → from ≤ end
  forward ts from end x is = go (cases_lt end from)
    where
      go : ((end < from) ⊎ (from ≤ end)) → from ≤ end
      go (inr le) = le
      go (inl lt) = let none : end - from ≡ 0 = omega arith in absurd (no_front (subst (λ (n : ℕ). Begins f (take n (drop from ts))) none ((good 0).begins (slice_range ts from end) x is)))

  pub read_at : (tokens : Tokens) (at : ℕ) (x : A) (end : ℕ) → g (ahead []) ≡ false → Longest P tokens at x end → p (left tokens at) ≡ Some (x, left tokens end)
  unfolding left
  read_at tokens at x end stop h =
      let on : at ≤ end = forward tokens at end x h.is in
      let far : length (drop at tokens) ≡ length tokens - at = length-drop at tokens in
      let within : end ≤ length tokens = h.within in
      let up : at + (end - at) ≡ end = omega arith in
      let is : P (slice_range (drop at tokens) 0 (end - at)) x = subst (λ (w : Tokens). P w x) (shifted tokens at (end - at)) (subst (λ (n : ℕ). P (slice_range tokens at n) x) (sym up) h.is) in
      let read : p (drop at tokens) ≡ Some (x, drop (end - at) (drop at tokens)) = is_read good (drop at tokens) x (end - at) stop (record {
        within = omega arith;
        is = is;
        longest = λ to other le there. let more : at + to ≤ end = h.longest (at + to) other (omega arith) (subst (λ (w : Tokens). P w other) (sym (shifted tokens at to)) there) in omega arith;
      }) in
      let rest : drop (end - at) (drop at tokens) ≡ drop end tokens = drop-drop (end - at) at tokens ∙ ap (λ (n : ℕ). drop n tokens) up in
      read ∙ ap (λ (ts : Tokens). Some (x, ts)) rest

  pub not_read_at : (tokens : Tokens) (at : ℕ) → at ≤ length tokens → ((to : ℕ) (other : A) → to ≤ length tokens → P (slice_range tokens at to) other → ⊥) → p (left tokens at) ≡ None
  unfolding left
  not_read_at tokens at le h =
      let far : length (drop at tokens) ≡ length tokens - at = length-drop at tokens in
      is_not_read good (drop at tokens) (λ to other short there. h (at + to) other (omega arith) (subst (λ (w : Tokens). P w other) (sym (shifted tokens at to)) there))
