-- The scans of comments.
use Rattle.std.proofs.Common.{◌≡◌, ◌≢◌, ℕ, zero, suc, ◌+◌, ◌-◌, ◌<◌, ◌≤◌, true, ◌==◌, [], ◌∷◌, length, drop, get_or, refl, sym, ap, subst, ◌∙◌, arith, length-drop}
use Rattle.std.proofs.lemmas.Bool.Decides.{nat_tests}
use Rattle.dc_token.proofs.Lists.{one_more, inside}
use Rattle.dc_token.specs.Balance.{Bytes, Stands, Never, ByteApart}
use Rattle.dc_token.specs.Bytes.{begins}
use Rattle.dc_token.specs.Comments.{slash_star, star_slash, slash_plus, plus_slash, IsBlock, IsNested}
use Rattle.dc_lexer.specs.Fronts.{Longest}
use Rattle.dc_lexer.proofs.Closing.{Same, Ahead, opens_on, shuts_on, other_on, none_on}
use Rattle.dc_lexer.proofs.Enclosing.{enclosed_longest, enclosed_nothing}

pub begun : (a b : ℕ) (z : Bytes) → begins a b z ≡ true → z ≡ a ∷ b ∷ drop 2 z
begun a b [] h = absurd (cc)
begun a b (c ∷ []) h = absurd (cc)
begun a b (c ∷ d ∷ t) h = let e : c ≡ a = grind (arith, nat_tests) in let f : d ≡ b = grind (arith, nat_tests) in rw (e, f)

pub two_more : (z : Bytes) (at a b : ℕ) → get_or z at 0 ≡ suc a → get_or z (at + 1) 0 ≡ suc b → drop at z ≡ suc a ∷ suc b ∷ drop (at + 2) z
two_more z at a b p q =
    let n : get_or z at 0 ≢ 0 = λ e. absurd (cc) in
    let m : get_or z (at + 1) 0 ≢ 0 = λ e. absurd (cc) in
    let s : at + 1 + 1 ≡ at + 2 = omega arith in
    one_more z at (inside z at n) ∙ ap (λ (x : ℕ). x ∷ drop (at + 1) z) p ∙ ap (λ (x : Bytes). suc a ∷ x) (one_more z (at + 1) (inside z (at + 1) m) ∙ ap (λ (x : ℕ). x ∷ drop (at + 1 + 1) z) q ∙ ap (λ (x : ℕ). suc b ∷ drop x z) s)

first_two : (z : Bytes) (at a b : ℕ) (v : Bytes) → drop at z ≡ a ∷ b ∷ v → (get_or z at 0 ≡ a) × (get_or z (at + 1) 0 ≡ b)
first_two [] zero a b v h = absurd (cc)
first_two [] (suc at) a b v h = absurd (cc)
first_two (c ∷ []) zero a b v h = absurd (cc)
first_two (c ∷ d ∷ z) zero a b v h = (cc, cc)
first_two (c ∷ z) (suc at) a b v h = let e : suc at + 1 ≡ suc (at + 1) = omega arith in rw e (first_two z at a b v h)

-- ---- nested

abbrev N_opens : Bytes → Bytes → Type 0
N_opens = Stands slash_plus

abbrev N_shuts : Bytes → Bytes → Type 0
N_shuts = Stands plus_slash

abbrev N_byte : Bytes → Bytes → Type 0
N_byte = ByteApart N_opens N_shuts

pub record NestedScan (z : Bytes) (at depth : ℕ) : Type 0 where
  pub from : 2 ≤ at
  pub within : at ≤ length z
  pub deep : depth ≤ at
  pub is_open : 1 ≤ depth
  pub same : Same N_opens N_shuts N_byte depth (drop at z) 1 (drop 2 z)

pair_within : (z : Bytes) (at a b : ℕ) → drop at z ≡ suc a ∷ suc b ∷ drop (at + 2) z → at ≤ length z → at + 2 ≤ length z
pair_within z at a b e h = let n : length z - at ≡ suc (suc (length (drop (at + 2) z))) = sym (length-drop at z) ∙ ap length e in omega arith

pub nested_deeper : (z : Bytes) (at d : ℕ) → NestedScan z at d → get_or z at 0 ≡ 47 → get_or z (at + 1) 0 ≡ 43 → NestedScan z (at + 2) (d + 1)
nested_deeper z at d s p q =
    let e : drop at z ≡ 47 ∷ 43 ∷ drop (at + 2) z = two_more z at 46 42 p q in
    let from = s.from in let within = s.within in let deep = s.deep in
    let far = pair_within z at 46 42 e within in
    record {
      from = omega arith;
      within = far;
      deep = omega arith;
      is_open = omega arith;
      same = opens_on N_opens N_shuts N_byte (drop at z) (drop (at + 2) z) e (λ u o. cc) (λ u o. absurd (cc)) (λ u m. m.opens_none (drop (at + 2) z) e) d (d + 1) 1 (drop 2 z) s.is_open refl s.same;
    }

out : (z : Bytes) (at d d2 : ℕ) → NestedScan z at d → get_or z at 0 ≡ 43 → get_or z (at + 1) 0 ≡ 47 → d ≡ d2 + 1
    → (at + 2 ≤ length z) × Same N_opens N_shuts N_byte d2 (drop (at + 2) z) 1 (drop 2 z)
out z at d d2 s p q eq =
    let e : drop at z ≡ 43 ∷ 47 ∷ drop (at + 2) z = two_more z at 42 46 p q in
    (pair_within z at 42 46 e s.within, shuts_on N_opens N_shuts N_byte (drop at z) (drop (at + 2) z) e (λ u o. cc) (λ u o. absurd (cc)) (λ u m. m.closes_none (drop (at + 2) z) e) d d2 1 (drop 2 z) eq s.same)

pub nested_out : (z : Bytes) (at d d2 : ℕ) → NestedScan z at d → get_or z at 0 ≡ 43 → get_or z (at + 1) 0 ≡ 47 → d ≡ d2 + 1 → d2 ≢ 0 → NestedScan z (at + 2) d2
nested_out z at d d2 s p q eq more =
    let o = out z at d d2 s p q eq in
    let from = s.from in let deep = s.deep in
    record { from = omega arith; within = o.0; deep = omega arith; is_open = omega arith; same = o.1 }

opens_byte : (t u : Bytes) → N_opens t u → Ahead t u
opens_byte t u o = record { front = slash_plus; parts = o }

byte_ahead : (t u : Bytes) → N_byte t u → Ahead t u
byte_ahead t u m = record { front = m.byte ∷ []; parts = m.parts }

pub nested_end : (z : Bytes) (at d d2 : ℕ) → begins 47 43 z ≡ true → NestedScan z at d → get_or z at 0 ≡ 43 → get_or z (at + 1) 0 ≡ 47 → d ≡ d2 + 1 → d2 ≡ 0 → Longest IsNested z (at + 2)
nested_end z at d d2 h s p q eq none =
    let o = out z at d d2 s p q eq in
    enclosed_longest slash_plus plus_slash N_opens N_byte opens_byte byte_ahead z (drop 2 z) (at + 2) (begun 47 43 z h) o.0 (subst (λ x. Same N_opens N_shuts N_byte x (drop (at + 2) z) 1 (drop 2 z)) none o.1)

pub nested_byte : (z : Bytes) (at d : ℕ) → NestedScan z at d → at < length z → (get_or z at 0 ≡ 47 → get_or z (at + 1) 0 ≡ 43 → ⊥) → (get_or z at 0 ≡ 43 → get_or z (at + 1) 0 ≡ 47 → ⊥) → NestedScan z (at + 1) d
nested_byte z at d s lt no_open no_shut =
    let e = one_more z at lt in
    let from = s.from in let deep = s.deep in
    let none_opens : (v : Bytes) → N_opens (drop at z) v → ⊥ = λ v o. let f = first_two z at 47 43 v o in no_open f.0 f.1 in
    let none_shuts : (v : Bytes) → N_shuts (drop at z) v → ⊥ = λ v o. let f = first_two z at 43 47 v o in no_shut f.0 f.1 in
    record {
      from = omega arith;
      within = omega arith;
      deep = omega arith;
      is_open = s.is_open;
      same = other_on N_opens N_shuts N_byte (drop at z) (drop (at + 1) z) (record { byte = get_or z at 0; parts = e; opens_none = none_opens; closes_none = none_shuts })
          (λ u m. let parts = m.parts in cc) none_opens none_shuts d 1 (drop 2 z) s.is_open s.same;
    }

pub nested_never : (z : Bytes) (at d : ℕ) → begins 47 43 z ≡ true → NestedScan z at d → length z ≤ at → Longest IsNested z 0
nested_never z at d h s past =
    let within = s.within in
    let size : length (drop at z) ≡ 0 = length-drop at z ∙ (omega arith) in
    enclosed_nothing slash_plus plus_slash N_opens N_byte opens_byte byte_ahead z (drop 2 z) (begun 47 43 z h)
    (none_on N_opens N_shuts N_byte (drop at z) (λ u o. absurd (let n = ap length o in omega arith)) (λ u o. absurd (let n = ap length o in omega arith)) (λ u m. absurd (let n = ap length m.parts in omega arith)) d 1 (drop 2 z) s.is_open s.same)

-- ---- `/*`

abbrev K_shuts : Bytes → Bytes → Type 0
K_shuts = Stands star_slash

abbrev K_byte : Bytes → Bytes → Type 0
K_byte = ByteApart Never K_shuts

pub record BlockScan (z : Bytes) (at : ℕ) : Type 0 where
  pub from : 2 ≤ at
  pub within : at ≤ length z
  pub same : Same Never K_shuts K_byte 1 (drop at z) 1 (drop 2 z)

never_ahead : (t u : Bytes) → Never t u → Ahead t u
never_ahead t u o = absurd o

block_byte_ahead : (t u : Bytes) → K_byte t u → Ahead t u
block_byte_ahead t u m = record { front = m.byte ∷ []; parts = m.parts }

pub block_end : (z : Bytes) (at : ℕ) → begins 47 42 z ≡ true → BlockScan z at → get_or z at 0 ≡ 42 → get_or z (at + 1) 0 ≡ 47 → (at + 2 ≤ length z) × Longest IsBlock z (at + 2)
block_end z at h s p q =
    let e : drop at z ≡ 42 ∷ 47 ∷ drop (at + 2) z = two_more z at 41 46 p q in
    let far = pair_within z at 41 46 e s.within in (
      far,
      enclosed_longest slash_star star_slash Never K_byte never_ahead block_byte_ahead z (drop 2 z) (at + 2) (begun 47 42 z h) far
          (shuts_on Never K_shuts K_byte (drop at z) (drop (at + 2) z) e (λ u o. cc) (λ u o. absurd o) (λ u m. m.closes_none (drop (at + 2) z) e) 1 0 1 (drop 2 z) refl s.same),
    )

pub block_byte : (z : Bytes) (at : ℕ) → BlockScan z at → at < length z → (get_or z at 0 ≡ 42 → get_or z (at + 1) 0 ≡ 47 → ⊥) → BlockScan z (at + 1)
block_byte z at s lt no_shut =
    let e = one_more z at lt in
    let from = s.from in
    let none_shuts : (v : Bytes) → K_shuts (drop at z) v → ⊥ = λ v o. let f = first_two z at 42 47 v o in no_shut f.0 f.1 in
    record {
      from = omega arith;
      within = omega arith;
      same = other_on Never K_shuts K_byte (drop at z) (drop (at + 1) z) (record { byte = get_or z at 0; parts = e; opens_none = λ v o. o; closes_none = none_shuts })
          (λ u m. let parts = m.parts in cc) (λ u o. o) none_shuts 1 1 (drop 2 z) (omega arith) s.same;
    }

pub block_never : (z : Bytes) (at : ℕ) → begins 47 42 z ≡ true → BlockScan z at → length z ≤ at → Longest IsBlock z 0
block_never z at h s past =
    let within = s.within in
    let size : length (drop at z) ≡ 0 = length-drop at z ∙ (omega arith) in
    enclosed_nothing slash_star star_slash Never K_byte never_ahead block_byte_ahead z (drop 2 z) (begun 47 42 z h)
    (none_on Never K_shuts K_byte (drop at z) (λ u o. o) (λ u o. absurd (let n = ap length o in omega arith)) (λ u m. absurd (let n = ap length m.parts in omega arith)) 1 1 (drop 2 z) (omega arith) s.same)

pub begins_of : (a b : ℕ) (z : Bytes) → get_or z 0 0 ≡ suc a → get_or z 1 0 ≡ suc b → begins (suc a) (suc b) z ≡ true
begins_of a b [] p q = absurd (cc)
begins_of a b (c ∷ []) p q = absurd (cc)
begins_of a b (c ∷ d ∷ t) p q = let e : (c == suc a) ≡ true = grind (arith, nat_tests) in let f : (d == suc b) ≡ true = grind (arith, nat_tests) in rw (e, f) refl
