-- Fronts and rests of lists of bytes.
use Rattle.std.proofs.Common.{◌≡◌, ◌≢◌, ℕ, zero, suc, ◌+◌, ◌-◌, ◌<◌, ◌≤◌, [], ◌∷◌, ◌++◌, length, take, drop, get_or, refl, sym, ap, ◌∙◌, add-one, arith, length-append, length-drop, drop-cons}
use Rattle.std.proofs.lemmas.List.{take_all}
use Rattle.dc_token.specs.Balance.{Bytes}

pub rest_of : (z : Bytes) (at : ℕ) → take (length z - at) (drop at z) ≡ drop at z
rest_of z at = take_all (length z - at) (drop at z) (let e = length-drop at z in omega arith)

pub drop_more : (n at : ℕ) (z : Bytes) → drop n (drop at z) ≡ drop (at + n) z
drop_more n zero z = let e : 0 + n ≡ n = omega arith in rw e refl
drop_more zero (suc at) [] = let e : suc at + 0 ≡ suc at = omega arith in rw e refl
drop_more (suc n) (suc at) [] = let e : suc at + suc n ≡ suc (at + suc n) = omega arith in rw e refl
drop_more n (suc at) (b ∷ z) = let e : suc at + n ≡ suc (at + n) = omega arith in rw e (drop_more n at z)

pub one_more : (z : Bytes) (at : ℕ) → at < length z → drop at z ≡ get_or z at 0 ∷ drop (at + 1) z
one_more z at h = rw (add-one) (drop-cons z at 0 h)

pub inside : (z : Bytes) (at : ℕ) → get_or z at 0 ≢ 0 → at < length z
inside [] at h = absurd (h refl)
inside (b ∷ z) zero h = omega arith
inside (b ∷ z) (suc at) h = let e = inside z at h in omega arith

pub take_front : (w u : Bytes) → take (length w) (w ++ u) ≡ w
take_front [] u = refl
take_front (b ∷ w) u = ap (λ (x : Bytes). b ∷ x) (take_front w u)

pub drop_front : (w u : Bytes) → drop (length w) (w ++ u) ≡ u
drop_front [] u = refl
drop_front (b ∷ w) u = drop_front w u

-- a front whose rest is the drop has the length
pub front_size : (z w u : Bytes) (n : ℕ) → z ≡ w ++ u → n ≤ length z → drop n z ≡ u → length w ≡ n
front_size z w u n parts within rest =
    let a : length z ≡ length w + length u = ap length parts ∙ length-append w u in
    let b : length z - n ≡ length u = sym (length-drop n z) ∙ ap length rest in
    omega arith

-- two fronts of one length leave the same rest
pub rests : (w v u x : Bytes) → w ++ u ≡ v ++ x → length w ≡ length v → u ≡ x
rests [] [] u x e h = e
rests [] (c ∷ v) u x e h = absurd (omega arith)
rests (b ∷ w) [] u x e h = absurd (omega arith)
rests (b ∷ w) (c ∷ v) u x e h = let f : w ++ u ≡ v ++ x = cc in let g : length w ≡ length v = omega arith in rests w v u x f g

pub take_more : (n m : ℕ) (t : Bytes) → take (n + m) t ≡ take n t ++ take m (drop n t)
take_more zero m t = let e : 0 + m ≡ m = omega arith in rw e refl
take_more (suc n) zero [] = let e : suc n + 0 ≡ suc n = omega arith in rw e refl
take_more (suc n) (suc m) [] = let e : suc n + suc m ≡ suc (n + suc m) = omega arith in rw e refl
take_more (suc n) m (b ∷ t) = let e : suc n + m ≡ suc (n + m) = omega arith in rw e (ap (λ (x : Bytes). b ∷ x) (take_more n m t))
