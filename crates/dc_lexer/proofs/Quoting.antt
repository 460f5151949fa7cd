-- Strings and characters: whatever follows them they stay, and they are the only ones at their place.
use Rattle.std.proofs.Common.{◌≡◌, ℕ, suc, zero, ◌+◌, ◌<◌, ◌≤◌, Bool, true, false, ◌&&◌, ◌==◌, if◌then◌else◌, [], ◌∷◌, ◌++◌, length, take, drop, ⊎_elim, refl, sym, ap, subst, ◌∙◌, append_assoc, arith}
use Rattle.std.specs.Prelude.{slice_index}
use Rattle.std.proofs.lemmas.Bool.{and_parts, cases_lt}
use Rattle.std.proofs.lemmas.List.{take-append-drop}
use Rattle.std.proofs.lemmas.Bool.Decides.{nat_tests}
use lib.Utf8.{scalar}
use Rattle.dc_token.specs.Balance.{Bytes, Stands, Never}
use Rattle.dc_token.specs.Bytes.{is_hex, is_octal}
use Rattle.dc_token.specs.Escapes.{is_simple, hex_len, short_len, long_len, octal_len, four_hex, four_value, long_value, escape}
use Rattle.dc_token.specs.Strings.{unit, Unit_of, IsBody}
use Rattle.dc_token.proofs.Lists.{drop_front}
use Rattle.dc_lexer.proofs.Closing.{Ahead, one_end}
use Rattle.dc_lexer.proofs.Enclosing.{to_scan}
use Rattle.dc_lexer.proofs.Solid.{tails_are}
use Rattle.dc_lexer.proofs.Swapped.{Moved, swapped}

-- ---- an escape in front of a quote

at_same : (q a b : Bytes) (e i : ℕ) → i ≤ length q → slice_index (q ++ (e ∷ a)) i ≡ slice_index (q ++ (e ∷ b)) i
at_same [] a b e zero h = refl
at_same [] a b e (suc i) h = absurd (omega arith)
at_same (c ∷ q) a b e zero h = refl
at_same (c ∷ q) a b e (suc i) h = at_same q a b e i (omega arith)

at_stop : (q a : Bytes) (e : ℕ) → slice_index (q ++ (e ∷ a)) (length q) ≡ e
at_stop [] a e = refl
at_stop (c ∷ q) a e = at_stop q a e

module _ (q a b : Bytes) (e : ℕ) (no_hex : is_hex e ≡ false) (no_octal : is_octal e ≡ false) where
  abbrev s : Bytes
  s = q ++ (e ∷ a)

  abbrev t : Bytes
  t = q ++ (e ∷ b)

  -- The tests of the bytes before i agree, and where they hold the quote isn't among those bytes.
  record Known (i : ℕ) (x y : Bool) : Type 0 where
    same : x ≡ y
    far : x ≡ true → i ≤ length q

  known : (f : ℕ → Bool) → f e ≡ false → (i : ℕ) (x y : Bool) → Known i x y → Known (i + 1) (x && f (slice_index s i)) (y && f (slice_index t i))
  known f stop i false false k = record { same = refl; far = λ h. absurd (let g : false ≡ true = h in cc) }
  known f stop i false true k = absurd (let g : false ≡ true = k.same in cc)
  known f stop i true false k = absurd (let g : true ≡ false = k.same in cc)
  known f stop i true true k =
      let le = k.far refl in
      record {
        same = ap f (at_same q a b e i le);
        far = λ h. ⊎_elim (λ lt. omega arith) (λ ge. absurd (
            let is : i ≡ length q = omega arith in
            let at : slice_index s i ≡ e = ap (slice_index s) is ∙ at_stop q a e in
            let g : false ≡ true = sym stop ∙ ap f (sym at) ∙ h in cc)) (cases_lt i (length q));
      }

  four : (i : ℕ) → i ≤ length q → Known (i + 4) (four_hex s i) (four_hex t i)
  unfolding four_hex
  four i h =
      let k0 : Known i true true = record { same = refl; far = λ g. h } in
      let k1 = known is_hex no_hex i true true k0 in
      let k2 = known is_hex no_hex (i + 1) _ _ k1 in
      let two : i + 1 + 1 ≡ i + 2 = omega arith in
      let j2 : Known (i + 2) (is_hex (slice_index s i) && is_hex (slice_index s (i + 1))) (is_hex (slice_index t i) && is_hex (slice_index t (i + 1))) = subst (λ n. Known n (is_hex (slice_index s i) && is_hex (slice_index s (i + 1))) (is_hex (slice_index t i) && is_hex (slice_index t (i + 1)))) two k2 in
      let k3 = known is_hex no_hex (i + 2) _ _ j2 in
      let three : i + 2 + 1 ≡ i + 3 = omega arith in
      let j3 = subst (λ n. Known n (is_hex (slice_index s i) && is_hex (slice_index s (i + 1)) && is_hex (slice_index s (i + 2))) (is_hex (slice_index t i) && is_hex (slice_index t (i + 1)) && is_hex (slice_index t (i + 2)))) three k3 in
      let k4 = known is_hex no_hex (i + 3) _ _ j3 in
      let last : i + 3 + 1 ≡ i + 4 = omega arith in
      subst (λ n. Known n (is_hex (slice_index s i) && is_hex (slice_index s (i + 1)) && is_hex (slice_index s (i + 2)) && is_hex (slice_index s (i + 3))) (is_hex (slice_index t i) && is_hex (slice_index t (i + 1)) && is_hex (slice_index t (i + 2)) && is_hex (slice_index t (i + 3)))) last k4

  value_same : (i : ℕ) → i + 4 ≤ length q → four_value s i ≡ four_value t i
  unfolding four_value
  value_same i h = rw (at_same q a b e i (omega arith), at_same q a b e (i + 1) (omega arith), at_same q a b e (i + 2) (omega arith), at_same q a b e (i + 3) (omega arith)) refl

  -- a test that follows, of bytes that are there where those before hold
  then_same : (i : ℕ) (x y f g : Bool) → Known i x y → (i ≤ length q → f ≡ g) → (x && f) ≡ (y && g)
  then_same i false false f g k h = refl
  then_same i false true f g k h = absurd (let g : false ≡ true = k.same in cc)
  then_same i true false f g k h = absurd (let g : true ≡ false = k.same in cc)
  then_same i true true f g k h = h (k.far refl)

  module _ (some : 1 ≤ length q) where
    hex_same : hex_len s ≡ hex_len t
    hex_same =
        let k : Known 1 true true = record { same = refl; far = λ g. some } in
        let k1 = known is_hex no_hex 1 true true k in
        let k2 = known is_hex no_hex 2 _ _ k1 in
        ap (λ x. if x then 4 else 0) k2.same

    short_same : short_len s ≡ short_len t
    short_same =
        let k = four 1 some in
        ap (λ x. if x then 6 else 0) (then_same 5 (four_hex s 1) (four_hex t 1) (scalar (four_value s 1)) (scalar (four_value t 1)) k (λ h. ap scalar (value_same 1 (omega arith))))

    long_value_same : 9 ≤ length q → long_value s ≡ long_value t
    unfolding long_value
    long_value_same h = rw (value_same 1 (omega arith), value_same 5 (omega arith)) refl

    both : Known 9 (four_hex s 1 && four_hex s 5) (four_hex t 1 && four_hex t 5)
    both =
        let k = four 1 some in
        record {
          same = then_same 5 (four_hex s 1) (four_hex t 1) (four_hex s 5) (four_hex t 5) k (λ h. (four 5 h).same);
          far = λ h. (let p = and_parts (four_hex s 1) (four_hex s 5) h in (four 5 (k.far p.0)).far p.1);
        }

    long_same : long_len s ≡ long_len t
    long_same = ap (λ x. if x then 10 else 0) (then_same 9 (four_hex s 1 && four_hex s 5) (four_hex t 1 && four_hex t 5) (scalar (long_value s)) (scalar (long_value t)) both (λ h. ap scalar (long_value_same h)))

    octal_same : octal_len s ≡ octal_len t
    octal_same = by (is_octal (slice_index s 1)) refl
      where
        by : (x : Bool) → is_octal (slice_index s 1) ≡ x → octal_len s ≡ octal_len t
        by false h =
            let g : is_octal (slice_index t 1) ≡ false = ap is_octal (sym (at_same q a b e 1 some)) ∙ h in
            rw (h, g) refl
        by true h =
            let k : Known 1 true true = record { same = refl; far = λ g. some } in
            let k1 = known is_octal no_octal 1 true true k in
            let far : 2 ≤ length q = k1.far h in
            let g : is_octal (slice_index t 1) ≡ true = ap is_octal (sym (at_same q a b e 1 some)) ∙ h in
            let zero_same = at_same q a b e 0 (omega arith) in
            let two_same = at_same q a b e 2 far in
            rw (h, g, zero_same, two_same) refl

    pub escape_same : escape s ≡ escape t
    unfolding escape
    escape_same = let zero_same = at_same q a b e 0 (omega arith) in rw (octal_same, hex_same, short_same, long_same, zero_same) refl

-- an escape's length goes by what stands before the quote
pub escape_stays : (q a b : Bytes) (e : ℕ) → is_hex e ≡ false → is_octal e ≡ false → is_simple e ≡ true → escape (q ++ (e ∷ a)) ≡ escape (q ++ (e ∷ b))
unfolding escape
escape_stays [] a b e h o s = rw s refl
escape_stays (c ∷ q) a b e h o s = escape_same (c ∷ q) a b e h o (omega arith)

-- ---- strings

cut_at : (n : ℕ) (t v : Bytes) (h : ℕ) → drop n t ≡ h ∷ v → length (take n t) ≡ n
cut_at zero t v h e = refl
cut_at (suc n) [] v h e = cc
cut_at (suc n) (b ∷ t) v h e = ap (λ k. suc k) (cut_at n t v h e)

module _ (quote : ℕ) (escapes : Bool) (same : (q a b : Bytes) → escapes ≡ true → escape (q ++ (quote ∷ a)) ≡ escape (q ++ (quote ∷ b))) (a b : Bytes) where
  abbrev U : Bytes → Bytes → Type 0
  U = Unit_of (unit quote escapes)

  abbrev Next_unit : Bytes → Bytes → Type 0
  Next_unit t y = Moved (quote ∷ []) Never U a b U t y

  plain_moved : (h : ℕ) (t s y : Bytes) → (h == quote) ≡ false → (escapes && h == 92) ≡ false → s ≡ t → s ≡ y ++ (quote ∷ a) → Next_unit (h ∷ t) y
  unfolding unit
  plain_moved h t s y p q i e = record {
    left = h ∷ y;
    parts = ap (λ (k : Bytes). h ∷ k) (sym i ∙ e);
    is = (let one : unit quote escapes (h ∷ (y ++ (quote ∷ b))) ≡ 1 = rw (p, q) refl in record { some = rw one (omega arith); rest = rw one refl });
  }

  escape_moved : (h : ℕ) (t s y : Bytes) (n : ℕ) → (h == quote) ≡ false → escapes ≡ true → (h == 92) ≡ true → escape t ≡ suc n → s ≡ drop n t → s ≡ y ++ (quote ∷ a) → Next_unit (h ∷ t) y
  unfolding unit
  escape_moved h t s y n p q r len i e =
      let d : drop n t ≡ y ++ (quote ∷ a) = sym i ∙ e in
      let g : Bytes = take n t in
      let whole : t ≡ (g ++ y) ++ (quote ∷ a) = sym (take-append-drop n t) ∙ ap (λ (k : Bytes). g ++ k) d ∙ sym (append_assoc g y (quote ∷ a)) in
      let size : length g ≡ n = long y d in
      let l : unit quote escapes (h ∷ ((g ++ y) ++ (quote ∷ b))) ≡ suc n = rw (p, q, r) (sym (same (g ++ y) a b q) ∙ ap escape (sym whole) ∙ len) in
      let rest : drop n ((g ++ y) ++ (quote ∷ b)) ≡ y ++ (quote ∷ b) = ap (λ (k : Bytes). drop n k) (append_assoc g y (quote ∷ b)) ∙ ap (λ m. drop m (g ++ (y ++ (quote ∷ b)))) (sym size) ∙ drop_front g (y ++ (quote ∷ b)) in
      record { left = h ∷ (g ++ y); parts = ap (λ (k : Bytes). h ∷ k) whole; is = record { some = rw l (omega arith); rest = rw l (sym rest) } }
    where
      long : (y : Bytes) → drop n t ≡ y ++ (quote ∷ a) → length (take n t) ≡ n
      long [] d = cut_at n t a quote d
      long (c ∷ y) d = cut_at n t (y ++ (quote ∷ a)) c d

  unit_moved : (t s y : Bytes) → U t s → s ≡ y ++ ((quote ∷ []) ++ a) → Next_unit t y
  unfolding unit
  unit_moved [] s y m e = absurd (let k = m.some in omega arith)
  unit_moved (h ∷ t) s y m e = first (h == quote) refl m.some m.rest
    where
      third : (n : ℕ) → escape t ≡ n → (h == quote) ≡ false → escapes ≡ true → (h == 92) ≡ true → 0 < n → s ≡ drop n (h ∷ t) → Next_unit (h ∷ t) y
      third zero len p q r some rest = absurd (omega arith)
      third (suc n) len p q r some rest = escape_moved h t s y n p q r len rest e

      second : (x : Bool) → (escapes && h == 92) ≡ x → (h == quote) ≡ false → 0 < (if x then escape t else 1) → s ≡ drop (if x then escape t else 1) (h ∷ t) → Next_unit (h ∷ t) y
      second true q p some rest = let r = and_parts escapes (h == 92) q in third (escape t) refl p r.0 r.1 some rest
      second false q p some rest = plain_moved h t s y p q rest e

      first : (x : Bool) → (h == quote) ≡ x → 0 < (if x then 0 else (if escapes && h == 92 then escape t else 1)) → s ≡ drop (if x then 0 else (if escapes && h == 92 then escape t else 1)) (h ∷ t) → Next_unit (h ∷ t) y
      first true p some rest = absurd (omega arith)
      first false p some rest = second (escapes && h == 92) refl p some rest

  pub body_swapped : (opener w : Bytes) → IsBody opener quote escapes w a → IsBody opener quote escapes w b
  body_swapped opener w p = swapped (quote ∷ []) Never U a b (λ t s y n e. absurd n) unit_moved opener w p

no_unit : (quote : ℕ) (escapes : Bool) (v : Bytes) → (quote == quote) ≡ true → 0 < unit quote escapes (quote ∷ v) → ⊥
unfolding unit
no_unit quote escapes v e h = absurd (let k : 0 < 0 = subst (λ x. 0 < (if x then 0 else (if escapes && quote == 92 then escape v else 1))) e h in omega arith)

unit_ahead : (quote : ℕ) (escapes : Bool) (t u : Bytes) → Unit_of (unit quote escapes) t u → Ahead t u
unit_ahead quote escapes t u m = record { front = take (unit quote escapes t) t; parts = sym (take-append-drop (unit quote escapes t) t) ∙ ap (λ (k : Bytes). take (unit quote escapes t) t ++ k) (sym m.rest) }

same_number : (n : ℕ) → (n == n) ≡ true
same_number n = grind (arith, nat_tests)

-- a string has one end
pub one_body : (opener : Bytes) (quote : ℕ) (escapes : Bool) (t w u v x : Bytes) → t ≡ w ++ u → t ≡ v ++ x → IsBody opener quote escapes w u → IsBody opener quote escapes v x → u ≡ x
one_body opener quote escapes t w u v x p q a b =
    let shut : Bytes = quote ∷ [] in
    let i : t ≡ opener ++ (a.inside ++ (shut ++ u)) = p ∙ ap (λ (y : Bytes). y ++ u) a.parts ∙ append_assoc opener (a.inside ++ shut) u ∙ ap (λ (y : Bytes). opener ++ y) (append_assoc a.inside shut u) in
    let r = to_scan opener shut Never (Unit_of (unit quote escapes)) (λ t u n. absurd n) (unit_ahead quote escapes) (a.inside ++ (shut ++ u)) w u (sym i ∙ p) a in
    let s = to_scan opener shut Never (Unit_of (unit quote escapes)) (λ t u n. absurd n) (unit_ahead quote escapes) (a.inside ++ (shut ++ u)) v x (sym i ∙ q) b in
    one_end Never (Stands shut) (Unit_of (unit quote escapes)) (λ t u v n. absurd n) (λ t u v m n. tails_are quote quote u v (sym m ∙ n)) (λ t u v m n. m.rest ∙ sym n.rest) (λ t u v n. absurd n) (λ t u v m n. n)
    (λ t u v m n. no_unit quote escapes v (same_number quote) (subst (λ (k : Bytes). 0 < unit quote escapes k) n m.some)) 1 (a.inside ++ (shut ++ u)) u x r s
