-- The scan of a string, and its suffix.
use Rattle.std.proofs.Common.{◌≡◌, ◌≢◌, ℕ, zero, suc, ◌+◌, ◌-◌, ◌<◌, ◌≤◌, Bool, true, false, cond, ◌&&◌, ◌==◌, ◌⊎◌, inl, inr, [], ◌∷◌, ◌++◌, length, take, drop, get_or, refl, sym, ap, subst, ◌∙◌, append_assoc, append-nil, add-one, arith, length-append, length-drop}
use Rattle.std.proofs.lemmas.Bool.Decides.{nat_tests}
use Rattle.std.proofs.Math.Seq.{take-suc}
use Rattle.std.proofs.lemmas.List.{take-append-drop}
use Rattle.dc_token.specs.Balance.{Bytes, Stands, Never}
use Rattle.dc_token.specs.Escapes.{escape}
use Rattle.dc_token.specs.Bytes.{begins}
use Rattle.dc_token.specs.Strings.{unit, Unit_of, IsBody, Suffixed, is_suffix, is_suffix_byte}
use Rattle.dc_lexer.specs.Fronts.{suffixed, Longest, Exact}
use Rattle.dc_lexer.proofs.Closing.{Same, Ahead, shuts_on, other_on, none_on}
use Rattle.dc_lexer.proofs.Enclosing.{enclosed_exact, enclosed_no}
use Rattle.dc_token.proofs.Lists.{drop_front, one_more, inside, drop_more, rest_of}
use Rattle.dc_lexer.proofs.Comments.{begun}
use Rattle.dc_lexer.proofs.TokenStrings.{head_none}

abbrev pub U : ℕ → Bool → Bytes → Bytes → Type 0
U q e = Unit_of (unit q e)

pub record StringScan (z : Bytes) (from q : ℕ) (e : Bool) (at : ℕ) : Type 0 where
  pub start : from ≤ at
  pub within : at ≤ length z
  pub same : Same Never (Stands (q ∷ [])) (U q e) 1 (drop at z) 1 (drop from z)

unit_ahead : (q : ℕ) (e : Bool) (t u : Bytes) → U q e t u → Ahead t u
unit_ahead q e t u m = record { front = take (unit q e t) t; parts = rw m.rest (sym (take-append-drop (unit q e t) t)) }

never_ahead : (t u : Bytes) → Never t u → Ahead t u
never_ahead t u o = absurd o

-- the unit at a place, by the byte there
quote_unit : (q : ℕ) (e : Bool) (t : Bytes) → unit q e (q ∷ t) ≡ 0
unfolding unit
quote_unit q e t = let s : (q == q) ≡ true = grind (arith, nat_tests) in rw s refl

pub plain_unit : (q b : ℕ) (e : Bool) (t : Bytes) → b ≢ q → (e && b == 92) ≡ false → unit q e (b ∷ t) ≡ 1
unfolding unit
plain_unit q b e t h g = let s : (b == q) ≡ false = grind (arith, nat_tests) in rw (s, g) refl

pub escape_unit : (q b : ℕ) (e : Bool) (t : Bytes) → b ≢ q → (e && b == 92) ≡ true → unit q e (b ∷ t) ≡ escape t
unfolding unit
escape_unit q b e t h g = let s : (b == q) ≡ false = grind (arith, nat_tests) in rw (s, g) refl

pub string_unit : (z : Bytes) (from q : ℕ) (e : Bool) (at n : ℕ) → StringScan z from q e at → at < length z → get_or z at 0 ≢ q → unit q e (drop at z) ≡ n → 0 < n → at + n ≤ length z → StringScan z from q e (at + n)
string_unit z from q e at n s lt other is some far =
    let start = s.start in
    let none : (v : Bytes) → Stands (q ∷ []) (drop at z) v → ⊥ = λ v o. head_none z at q v other o in
    let u : U q e (drop at z) (drop (at + n) z) = record { some = rw is some; rest = rw is (sym (drop_more n at z)) } in
    record {
      start = omega arith;
      within = far;
      same = other_on Never (Stands (q ∷ [])) (U q e) (drop at z) (drop (at + n) z) u (λ x m. m.rest ∙ sym u.rest) (λ x o. o) none 1 1 (drop from z) (omega arith) s.same;
    }

pub string_closes : (z : Bytes) (from q : ℕ) (e : Bool) (at : ℕ) → StringScan z from q e at → 1 ≤ from → at < length z → get_or z at 0 ≡ q → Exact (IsBody (take from z) q e) z (at + 1)
string_closes z from q e at s some lt is =
    let start = s.start in
    let parts : drop at z ≡ q ∷ drop (at + 1) z = one_more z at lt ∙ ap (λ (x : ℕ). x ∷ drop (at + 1) z) is in
    let zero_unit : unit q e (drop at z) ≡ 0 = ap (λ (x : Bytes). unit q e x) parts ∙ quote_unit q e (drop (at + 1) z) in
    enclosed_exact (take from z) (q ∷ []) Never (U q e) never_ahead (unit_ahead q e) z (drop from z) (at + 1) (sym (take-append-drop from z)) (omega arith) (omega arith)
    (shuts_on Never (Stands (q ∷ [])) (U q e) (drop at z) (drop (at + 1) z) parts (λ x o. cc) (λ x o. o) (λ x m. let h = m.some in omega arith) 1 0 1 (drop from z) refl s.same)

pub string_breaks : (z : Bytes) (from q : ℕ) (e : Bool) (at : ℕ) → StringScan z from q e at → get_or z at 0 ≢ q → unit q e (drop at z) ≡ 0 → Exact (IsBody (take from z) q e) z 0
string_breaks z from q e at s other is =
    enclosed_no (take from z) (q ∷ []) Never (U q e) never_ahead (unit_ahead q e) z (drop from z) (sym (take-append-drop from z))
    (none_on Never (Stands (q ∷ [])) (U q e) (drop at z) (λ x o. o) (λ v o. head_none z at q v other o) (λ x m. let h = m.some in omega arith) 1 1 (drop from z) (omega arith) s.same)

empty_unit : (q : ℕ) (e : Bool) (t : Bytes) → length t ≡ 0 → unit q e t ≡ 0
unfolding unit
empty_unit q e [] h = refl
empty_unit q e (b ∷ t) h = absurd (omega arith)

pub string_never : (z : Bytes) (from q : ℕ) (e : Bool) (at : ℕ) → StringScan z from q e at → length z ≤ at → Exact (IsBody (take from z) q e) z 0
string_never z from q e at s past =
    let size : length (drop at z) ≡ 0 = length-drop at z ∙ (omega arith) in
    let is = empty_unit q e (drop at z) size in
    enclosed_no (take from z) (q ∷ []) Never (U q e) never_ahead (unit_ahead q e) z (drop from z) (sym (take-append-drop from z))
    (none_on Never (Stands (q ∷ [])) (U q e) (drop at z) (λ x o. o) (λ v o. absurd (let n = ap length o in omega arith)) (λ x m. let h = m.some in omega arith) 1 1 (drop from z) (omega arith) s.same)

escape_here : (z : Bytes) (q : ℕ) (e : Bool) (at n : ℕ) → at < length z → get_or z at 0 ≢ q → e ≡ true → get_or z at 0 ≡ 92 → n ≡ escape (take (length z - (at + 1)) (drop (at + 1) z)) → unit q e (drop at z) ≡ n
escape_here z q e at n lt other is_e back is =
    let test : (get_or z at 0 == 92) ≡ true = grind (arith, nat_tests) in
    let both : (e && get_or z at 0 == 92) ≡ true = rw (is_e, test) refl in
    ap (λ (x : Bytes). unit q e x) (one_more z at lt) ∙ escape_unit q (get_or z at 0) e (drop (at + 1) z) other both ∙ ap (λ (x : Bytes). escape x) (sym (rest_of z (at + 1))) ∙ sym is

pub escape_scan : (z : Bytes) (from q : ℕ) (e : Bool) (at n : ℕ) → StringScan z from q e at → at < length z → get_or z at 0 ≢ q → e ≡ true → get_or z at 0 ≡ 92 → n ≡ escape (take (length z - (at + 1)) (drop (at + 1) z)) → n ≤ length (take (length z - (at + 1)) (drop (at + 1) z)) + 1 → n ≢ 0 → StringScan z from q e (at + n)
escape_scan z from q e at n s lt other is_e back is short some =
    let size : length (take (length z - (at + 1)) (drop (at + 1) z)) ≡ length z - (at + 1) = ap (λ (x : Bytes). length x) (rest_of z (at + 1)) ∙ length-drop (at + 1) z in
    string_unit z from q e at n s lt other (escape_here z q e at n lt other is_e back is) (omega arith) (omega arith)

pub escape_breaks : (z : Bytes) (from q : ℕ) (e : Bool) (at n : ℕ) → StringScan z from q e at → at < length z → get_or z at 0 ≢ q → e ≡ true → get_or z at 0 ≡ 92 → n ≡ escape (take (length z - (at + 1)) (drop (at + 1) z)) → n ≡ 0 → Exact (IsBody (take from z) q e) z 0
escape_breaks z from q e at n s lt other is_e back is none = string_breaks z from q e at s other (escape_here z q e at n lt other is_e back is ∙ none)

pub byte_scan : (z : Bytes) (from q : ℕ) (e : Bool) (at : ℕ) → StringScan z from q e at → at < length z → get_or z at 0 ≢ q → ((e ≡ true) × (get_or z at 0 ≡ 92 → ⊥)) ⊎ (e ≡ false) → StringScan z from q e (at + 1)
byte_scan z from q e at s lt other not_both =
    string_unit z from q e at 1 s lt other (ap (λ (x : Bytes). unit q e x) (one_more z at lt) ∙ plain_unit q (get_or z at 0) e (drop (at + 1) z) other (test not_both)) (omega arith) (omega arith)
  where
    test : ((e ≡ true) × (get_or z at 0 ≡ 92 → ⊥)) ⊎ (e ≡ false) → (e && get_or z at 0 == 92) ≡ false
    test (inl h) = let f = h.1 in let g : (get_or z at 0 == 92) ≡ false = grind (arith, nat_tests) in rw (h.0, g) refl
    test (inr h) = rw h refl

-- ---- suffixes

suffix_size : (s : Bytes) → is_suffix s ≡ true → length s ≤ 1
suffix_size [] h = omega arith
suffix_size (b ∷ []) h = omega arith
suffix_size (b ∷ c ∷ s) h = absurd (let k : false ≡ true = h in cc)

no_suffix : (s u : Bytes) → is_suffix s ≡ true → is_suffix_byte (get_or (s ++ u) 0 0) ≡ false → length s ≡ 0
no_suffix [] u h g = refl
no_suffix (c ∷ []) u h g = absurd (let k : false ≡ true = sym g ∙ h in cc)
no_suffix (c ∷ d ∷ s) u h g = absurd (let k : false ≡ true = h in cc)

head_drop : (z : Bytes) (n : ℕ) → get_or (drop n z) 0 0 ≡ get_or z n 0
head_drop z zero = refl
head_drop [] (suc n) = refl
head_drop (b ∷ z) (suc n) = head_drop z n

with_suffix : (z : Bytes) (n : ℕ) → is_suffix_byte (get_or z n 0) ≡ true → get_or z n 0 ≢ 0
with_suffix z n h e = let g : is_suffix_byte 0 ≡ true = subst (λ x. is_suffix_byte x ≡ true) e h in let k : false ≡ true = g in cc

body_size : (P : Bytes → Bytes → Type 0) (z : Bytes) (n : ℕ) → Exact P z n → (w u : Bytes) → z ≡ w ++ u → (s : Suffixed P w u) → (length w ≡ n + length s.suffix) × (0 < n) × (drop n z ≡ s.suffix ++ u)
body_size P z n x w u parts s =
    let e : z ≡ s.body ++ (s.suffix ++ u) = parts ∙ ap (λ (y : Bytes). y ++ u) s.parts ∙ append_assoc s.body s.suffix u in
    let f = x.exact s.body (s.suffix ++ u) e s.is in (
      ap (λ (y : Bytes). length y) s.parts ∙ length-append s.body s.suffix ∙ ap (λ (k : ℕ). k + length s.suffix) f.1,
      f.0,
      ap (λ (k : ℕ). drop k z) (sym f.1) ∙ ap (λ (y : Bytes). drop (length s.body) y) e ∙ drop_front s.body (s.suffix ++ u),
    )

suffixed_go : (P : Bytes → Bytes → Type 0) (z : Bytes) (n : ℕ) → Exact P z n → 0 < n → (y : Bool) → is_suffix_byte (get_or z n 0) ≡ y → Longest (Suffixed P) z (cond y (n + 1) n)
suffixed_go P z n x some true h =
    let lt : n < length z = inside z n (with_suffix z n h) in
    let e = one_more z n lt in
    let taken : take (n + 1) z ≡ take n z ++ (get_or z n 0 ∷ []) = rw add-one (take-suc z n 0 lt) in
    record {
      within = omega arith;
      is = λ _. record { body = take n z; suffix = get_or z n 0 ∷ []; parts = taken; is = subst (λ (r : Bytes). P (take n z) r) e (x.is some); ends = h };
      longest = λ w u parts s. (let b = (body_size P z n x w u parts s).0 in let c = suffix_size s.suffix s.ends in omega arith);
    }
suffixed_go P z n x some false h = record {
  within = x.within;
  is = λ _. record { body = take n z; suffix = []; parts = sym (append-nil (take n z)); is = x.is some; ends = refl };
  longest = λ w u parts s. (
      let b = body_size P z n x w u parts s in
      let g : get_or (s.suffix ++ u) 0 0 ≡ get_or z n 0 = ap (λ (y : Bytes). get_or y 0 0) (sym b.2) ∙ head_drop z n in
      let k = no_suffix s.suffix u s.ends (subst (λ y. is_suffix_byte y ≡ false) (sym g) h) in let l = b.0 in omega arith);
}

pub suffixed_longest : (P : Bytes → Bytes → Type 0) (z : Bytes) (n : ℕ) → Exact P z n → Longest (Suffixed P) z (suffixed z n)
suffixed_longest P z zero x = record { within = omega arith; is = λ h. absurd (omega arith); longest = λ w u parts s. absurd (let e = (body_size P z 0 x w u parts s).1 in omega arith) }
suffixed_longest P z (suc n) x = let e : (suc n == 0) ≡ false = grind (arith, nat_tests) in rw e (suffixed_go P z (suc n) x (omega arith) (is_suffix_byte (get_or z (suc n) 0)) refl)

-- the strings of the language

pub string_longest : (z : Bytes) (from q : ℕ) (e : Bool) (n m : ℕ) → Exact (IsBody (take from z) q e) z n → m ≡ suffixed z n → Longest (Suffixed (IsBody (take from z) q e)) z m
string_longest z from q e n m x eq = rw eq (suffixed_longest (IsBody (take from z) q e) z n x)

pub string_opened : (opener : Bytes) (z : Bytes) (from q : ℕ) (e : Bool) (m : ℕ) → take from z ≡ opener → Longest (Suffixed (IsBody (take from z) q e)) z m → Longest (Suffixed (IsBody opener q e)) z m
string_opened opener z from q e m is l = subst (λ (o : Bytes). Longest (Suffixed (IsBody o q e)) z m) is l

pub first_one : (z : Bytes) (b : ℕ) → get_or z 0 0 ≡ suc b → take 1 z ≡ suc b ∷ []
first_one [] b h = absurd (cc)
first_one (c ∷ z) b h = ap (λ (x : ℕ). x ∷ []) h

pub first_two : (z : Bytes) (a b : ℕ) → begins a b z ≡ true → take 2 z ≡ a ∷ b ∷ []
first_two z a b h = rw (begun a b z h) refl
