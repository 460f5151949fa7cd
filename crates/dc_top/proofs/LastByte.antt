-- The scan for the last byte of a value.
use Rattle.std.proofs.Common.{◌≡◌, ℕ, ◌+◌, ◌<◌, suc, Bool, true, false, cond, ◌||◌, ◌==◌, List, [], ◌∷◌, length, drop, slice_index_or, ◌≢◌, refl, ap, ◌∙◌, arith}
use Rattle.std.proofs.lemmas.Bool.Decides.{nat_tests}
use Rattle.std.proofs.lemmas.Grind.{common_steps}
use Rattle.dc_top.specs.Names.{has, behind_last}

-- what stands behind the last mark, where this is what was found before the rest
unfoldable pub last_of : ℕ → List ℕ → List ℕ → List ℕ
last_of mark found rest = cond (has mark rest) (behind_last mark rest) found

none_behind : (mark : ℕ) (bytes : List ℕ) → has mark bytes ≡ false → behind_last mark bytes ≡ bytes
none_behind mark [] e = refl
none_behind mark (b ∷ bs) e = by (b == mark) (has mark bs) e
  where
    by : (is more : Bool) → (is || more) ≡ false → cond more (behind_last mark bs) (cond is bs (b ∷ bs)) ≡ b ∷ bs
    by true more e = absurd (let k : true ≡ false = e in cc)
    by false true e = absurd (let k : true ≡ false = e in cc)
    by false false e = refl

pub last_start : (mark : ℕ) (bytes : List ℕ) → behind_last mark bytes ≡ last_of mark bytes bytes
unfolding last_of
last_start mark bytes = by (has mark bytes) refl
  where
    by : (b : Bool) → has mark bytes ≡ b → behind_last mark bytes ≡ cond b (behind_last mark bytes) bytes
    by true e = refl
    by false e = none_behind mark bytes e

pub last_here : (mark b : ℕ) (found bs : List ℕ) → (b == mark) ≡ true → last_of mark found (b ∷ bs) ≡ last_of mark bs bs
unfolding last_of
last_here mark b found bs e = by (has mark bs) (b == mark) e
  where
    by : (more is : Bool) → is ≡ true → cond (is || more) (cond more (behind_last mark bs) (cond is bs (b ∷ bs))) found ≡ cond more (behind_last mark bs) bs
    by true true e = refl
    by false true e = refl
    by more false e = absurd (let k : false ≡ true = e in cc)

pub last_later : (mark b : ℕ) (found bs : List ℕ) → (b == mark) ≡ false → last_of mark found (b ∷ bs) ≡ last_of mark found bs
unfolding last_of
last_later mark b found bs e = by (has mark bs) (b == mark) e
  where
    by : (more is : Bool) → is ≡ false → cond (is || more) (cond more (behind_last mark bs) (cond is bs (b ∷ bs))) found ≡ cond more (behind_last mark bs) found
    by true false e = refl
    by false false e = refl
    by more true e = absurd (let k : true ≡ false = e in cc)

pub last_end : (mark : ℕ) (found : List ℕ) → last_of mark found [] ≡ found
unfolding last_of
last_end mark found = refl

-- one byte further, where it is the mark and where it isn't
pub last_at : (mark i : ℕ) (found bytes : List ℕ) → i < length bytes → slice_index_or bytes i 0 ≡ mark → last_of mark found (drop i bytes) ≡ last_of mark (drop (i + 1) bytes) (drop (i + 1) bytes)
last_at mark i found bytes within e =
    let parts : drop i bytes ≡ slice_index_or bytes i 0 ∷ drop (i + 1) bytes = grind (arith, common_steps) in
    let is : (slice_index_or bytes i 0 == mark) ≡ true = grind (arith, nat_tests) in
    ap (last_of mark found) parts ∙ last_here mark (slice_index_or bytes i 0) found (drop (i + 1) bytes) is

pub last_past : (mark i : ℕ) (found bytes : List ℕ) → i < length bytes → slice_index_or bytes i 0 ≢ mark → last_of mark found (drop i bytes) ≡ last_of mark found (drop (i + 1) bytes)
last_past mark i found bytes within e =
    let parts : drop i bytes ≡ slice_index_or bytes i 0 ∷ drop (i + 1) bytes = grind (arith, common_steps) in
    let is : (slice_index_or bytes i 0 == mark) ≡ false = grind (arith, nat_tests) in
    ap (last_of mark found) parts ∙ last_later mark (slice_index_or bytes i 0) found (drop (i + 1) bytes) is

-- it is shorter exactly where there is such a byte
pub shorter_behind : (mark : ℕ) (bytes : List ℕ) → (has mark bytes ≡ true → length (behind_last mark bytes) < length bytes) × (has mark bytes ≡ false → behind_last mark bytes ≡ bytes)
shorter_behind mark [] = (λ e. absurd (let k : false ≡ true = e in cc), λ e. refl)
shorter_behind mark (b ∷ bs) = (by (has mark bs) (b == mark) (shorter_behind mark bs).0, none_behind mark (b ∷ bs))
  where
    by : (more is : Bool) → (more ≡ true → length (behind_last mark bs) < length bs) → (is || more) ≡ true → length (cond more (behind_last mark bs) (cond is bs (b ∷ bs))) < suc (length bs)
    by true is h e = let k = h refl in omega arith
    by false true h e = omega arith
    by false false h e = absurd (let k : false ≡ true = e in cc)
