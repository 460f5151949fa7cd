-- Items in front of a byte that none of those goes over that white space ends.
use Rattle.std.proofs.Common.{◌≡◌, ℕ, ◌<◌, ◌≤◌, Bool, true, false, [], ◌∷◌, ◌++◌, inl, inr, length, ⊎_elim, refl, sym, ap, subst, ◌∙◌, append_assoc, arith, length-append}
use Rattle.std.specs.List.{list_all}
use Rattle.dc_token.specs.Balance.{Bytes}
use Rattle.dc_token.specs.Numbers.{EndsPoint, IsFloat}
use Rattle.dc_token.specs.Items.{PlainSpells, Spells, Next, allows}
use Rattle.dc_token.specs.declared.item.Item.{Item}
use Rattle.dc_token.specs.declared.item.Item.TheVariants as item
use Rattle.dc_lexer.proofs.Solid.{leaves, before, is_lean}
use Rattle.dc_lexer.proofs.Gaps.{IsApart, seam, allows_same, some_byte, Tail}

module _ (stop : ℕ) (ends : (b : Bytes) → EndsPoint (stop ∷ b)) (apart : (b : Bytes) → IsApart (stop ∷ b)) (passes : ℕ → Bool) (fails : passes stop ≡ false)
    (free : (j : Item) (v r : Bytes) → is_lean j ≡ true → 1 < length v → PlainSpells j v r → list_all passes v ≡ true) where
  -- what ends a point in front of the byte goes by the byte and what stands before it
  ends_swap : (tail y a b : Bytes) → EndsPoint (tail ++ ((y ++ (stop ∷ [])) ++ a)) → EndsPoint (tail ++ ((y ++ (stop ∷ [])) ++ b))
  ends_swap tail y a b p = subst EndsPoint (sym (whole b)) (by (tail ++ y) (subst EndsPoint (whole a) p))
    where
      whole : (c : Bytes) → tail ++ ((y ++ (stop ∷ [])) ++ c) ≡ (tail ++ y) ++ (stop ∷ c)
      whole c = ap (λ (x : Bytes). tail ++ x) (append_assoc y (stop ∷ []) c) ∙ sym (append_assoc tail y (stop ∷ c))

      by : (q : Bytes) → EndsPoint (q ++ (stop ∷ a)) → EndsPoint (q ++ (stop ∷ b))
      by [] p = ends b
      by (h ∷ q) p = seam (h ∷ q) (stop ∷ a) (stop ∷ b) (omega arith) (apart b) p

  float_swap : (w y a b : Bytes) → IsFloat w ((y ++ (stop ∷ [])) ++ a) → IsFloat w ((y ++ (stop ∷ [])) ++ b)
  float_swap w y a b f = record { digits = f.digits; mark = f.mark; tail = f.tail; parts = f.parts; run = f.run; marks = ⊎_elim (λ e. inl e) (λ e. inr (e.0, ends_swap f.tail y a b e.1)) f.marks; goes = f.goes }

  module _ (k : Item) (w y u b : Bytes) (n : Next Spells (w ++ ((y ++ (stop ∷ [])) ++ u)) k w ((y ++ (stop ∷ [])) ++ u)) where
    abbrev x : Bytes
    x = y ++ (stop ∷ [])

    -- what white space ends stands before the byte
    short : (j : Item) (v a r : Bytes) → is_lean j ≡ true → PlainSpells j v r → (w ++ x) ++ a ≡ v ++ r → length w < length v → length v ≤ length (w ++ y)
    short j v a r lean s e longer =
        let some = some_byte k w x u n in
        let two : 1 < length v = omega arith in
        let whole : (w ++ y) ++ (stop ∷ a) ≡ v ++ r = append_assoc w y (stop ∷ a) ∙ ap (λ (c : Bytes). w ++ c) (sym (append_assoc y (stop ∷ []) a)) ∙ sym (append_assoc w x a) ∙ e in
        before passes (w ++ y) v stop a r fails (free j v r lean two s) whole

    pub stop_tail : Tail k w x u b
    stop_tail = record {
      within = λ j v r lean s e longer. (let h = short j v b r lean s e longer in let l = length-append w y in let m = length-append w x in let o = length-append y (stop ∷ []) in omega arith);
      allowed = λ a. (
          let some = some_byte k w x u n in
          let l = length-append w x in
          let m = length-append y (stop ∷ []) in
          let two : 1 < length (w ++ x) = omega arith in
          subst (λ (c : Bytes). allows c k ≡ true) (append_assoc w x b) (allows_same k (w ++ x) u b two (subst (λ (c : Bytes). allows c k ≡ true) (sym (append_assoc w x u)) a)));
      float_new = float_swap w y u b;
      float_old = λ v left longer front f. (
          let whole : (w ++ x) ++ b ≡ v ++ (left ++ b) = ap (λ (c : Bytes). c ++ b) front ∙ append_assoc v left b in
          let h = short item.Float v b (left ++ b) refl f whole longer in
          let l = leaves (w ++ y) v (stop ∷ []) left (append_assoc w y (stop ∷ []) ∙ front) h in
          subst (λ (c : Bytes). IsFloat v (c ++ u)) (sym l.rest) (float_swap v l.left b u (subst (λ (c : Bytes). IsFloat v (c ++ b)) l.rest f)));
      stops = λ e. absurd (let i : length (y ++ (stop ∷ [])) ≡ 0 = ap (λ (c : Bytes). length c) e in let l = length-append y (stop ∷ []) in omega arith);
      some = (let l = length-append x b in let m = length-append y (stop ∷ []) in omega arith);
    }
