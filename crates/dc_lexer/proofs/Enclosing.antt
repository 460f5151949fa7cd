-- A scan that comes to the closer of an enclosed item is at the item's end.
use Rattle.std.proofs.Common.{◌≡◌, ℕ, ◌<◌, ◌≤◌, ◌++◌, length, take, drop, refl, sym, ap, subst, ◌∙◌, append_assoc, arith}
use Rattle.std.proofs.lemmas.List.{append_cancel_left}
use Rattle.dc_token.proofs.Lists.{take_front, front_size}
use Rattle.dc_token.specs.Balance.{Bytes, Balanced, Stands, Enclosed}
use Rattle.dc_lexer.specs.Fronts.{Longest, Exact}
use Rattle.dc_lexer.proofs.Closing.{Closes, Same, Ahead, levels, counted, ahead, ended}

module _ (opener closer : Bytes) (Opens Other : Bytes → Bytes → Type 0)
    (opens_ahead : (t u : Bytes) → Opens t u → Ahead t u) (other_ahead : (t u : Bytes) → Other t u → Ahead t u) where
  abbrev P : Bytes → Bytes → Type 0
  P = Enclosed opener closer Opens Other

  abbrev shut_ahead : (t u : Bytes) → Stands closer t u → Ahead t u
  shut_ahead t u s = record { front = closer; parts = s }

  pub to_scan : (t w u : Bytes) → opener ++ t ≡ w ++ u → P w u → Closes Opens (Stands closer) Other 1 t u
  to_scan t w u parts p =
      let e : opener ++ t ≡ opener ++ (p.inside ++ (closer ++ u)) = parts ∙ ap (λ (x : Bytes). x ++ u) p.parts ∙ append_assoc opener (p.inside ++ closer) u ∙ ap (λ (x : Bytes). opener ++ x) (append_assoc p.inside closer u) in
      let f : t ≡ p.inside ++ (closer ++ u) = append_cancel_left opener t (p.inside ++ (closer ++ u)) e in
      rw f (counted Opens (Stands closer) Other 0 p.balances refl Closes.done)

  pub enclosed_none : (z t : Bytes) → z ≡ opener ++ t → ((v : Bytes) → Closes Opens (Stands closer) Other 1 t v → ⊥) → ((w u : Bytes) → z ≡ w ++ u → P w u → ⊥)
  enclosed_none z t parts none w u eq p = none u (to_scan t w u (sym parts ∙ eq) p)

  from_scan : (z t u : Bytes) (n : ℕ) → z ≡ opener ++ t → n ≤ length z → drop n z ≡ u → Closes Opens (Stands closer) Other 1 t u → P (take n z) (drop n z)
  from_scan z t u n parts within rest s =
      let c = levels Opens (Stands closer) Other s in
      let a = ahead Opens (Stands closer) Other opens_ahead shut_ahead other_ahead t c.mid c.balances in
      let m : c.mid ≡ closer ++ u = c.shut ∙ ap (λ (x : Bytes). closer ++ x) c.more in
      let i : t ≡ a.front ++ (closer ++ u) = a.parts ∙ ap (λ (x : Bytes). a.front ++ x) m in
      let w : Bytes = opener ++ (a.front ++ closer) in
      let whole : z ≡ w ++ u = parts ∙ ap (λ (x : Bytes). opener ++ x) i ∙ ap (λ (x : Bytes). opener ++ x) (sym (append_assoc a.front closer u)) ∙ sym (append_assoc opener (a.front ++ closer) u) in
      let size : length w ≡ n = front_size z w u n whole within rest in
      let taken : take n z ≡ w = rw (← size, whole) (take_front w u) in
      let bal : Balanced Opens (Stands closer) Other (a.front ++ (closer ++ u)) (closer ++ u) = subst (λ (x : Bytes). Balanced Opens (Stands closer) Other x (closer ++ u)) i (subst (λ (x : Bytes). Balanced Opens (Stands closer) Other t x) m c.balances) in
      rw (taken, rest) (record { inside = a.front; parts = refl; balances = bal })

  pub enclosed_longest : (z t : Bytes) (n : ℕ) → z ≡ opener ++ t → n ≤ length z → Same Opens (Stands closer) Other 0 (drop n z) 1 t → Longest P z n
  enclosed_longest z t n parts within same = record {
    within = within;
    is = λ _. from_scan z t (drop n z) n parts within refl (same.into (drop n z) Closes.done);
    longest = λ w u eq p.
        let s = same.back u (to_scan t w u (sym parts ∙ eq) p) in
        let r : drop n z ≡ u = ended Opens (Stands closer) Other (drop n z) u s in
        let size = front_size z w u n eq within r in omega arith;
  }

  pub enclosed_nothing : (z t : Bytes) → z ≡ opener ++ t → ((v : Bytes) → Closes Opens (Stands closer) Other 1 t v → ⊥) → Longest P z 0
  enclosed_nothing z t parts none = record {
    within = omega arith;
    is = λ h. absurd (omega arith);
    longest = λ w u eq p. absurd (none u (to_scan t w u (sym parts ∙ eq) p));
  }

  pub enclosed_exact : (z t : Bytes) (n : ℕ) → z ≡ opener ++ t → 0 < n → n ≤ length z → Same Opens (Stands closer) Other 0 (drop n z) 1 t → Exact P z n
  enclosed_exact z t n parts some within same = record {
    within = within;
    is = λ _. from_scan z t (drop n z) n parts within refl (same.into (drop n z) Closes.done);
    exact = λ w u eq p.
        let s = same.back u (to_scan t w u (sym parts ∙ eq) p) in
        let r : drop n z ≡ u = ended Opens (Stands closer) Other (drop n z) u s in
        (some, front_size z w u n eq within r);
  }

  pub enclosed_no : (z t : Bytes) → z ≡ opener ++ t → ((v : Bytes) → Closes Opens (Stands closer) Other 1 t v → ⊥) → Exact P z 0
  enclosed_no z t parts none = record {
    within = omega arith;
    is = λ h. absurd (omega arith);
    exact = λ w u eq p. absurd (none u (to_scan t w u (sym parts ∙ eq) p));
  }
