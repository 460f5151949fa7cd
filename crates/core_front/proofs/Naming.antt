-- Things by their keys, and their numbers.
use Rattle.std.proofs.Common.{◌≡◌, ◌∙◌, refl, sym, ap, ◌⊎◌, inl, inr, ℕ, zero, suc, Bool, true, false, cond, List, [], ◌∷◌, ◌++◌, length, Option, Some, None}
use Rattle.std.specs.Prelude.{option_map}
use Rattle.std.specs.Bool.{Decides}
use Rattle.std.specs.List.{slice_get}
use Rattle.std.specs.Map.{lookup}
use Rattle.std.specs.Cmp.{IsEquivalence}
use Rattle.core_front.specs.Naming.{Numbers, find, kept, by_number}

some_is : {A : Type 0} (x y : A) → Some x ≡ Some y → x ≡ y
some_is x y e = cc

pub no_value : {A B : Type 0} (f : A → B) (o : Option A) → option_map f o ≡ None → o ≡ None
no_value f None e = refl
no_value f (Some x) e = absurd (cc)

last_or_before : {A : Type 0} (xs : List A) (x l : A) (i : ℕ) → slice_get (xs ++ x ∷ []) i ≡ Some l → (slice_get xs i ≡ Some l) ⊎ ((i ≡ length xs) × (x ≡ l))
last_or_before [] x l zero e = inr (refl, some_is x l e)
last_or_before [] x l (suc i) e = absurd (cc)
last_or_before (y ∷ xs) x l zero e = inl e
last_or_before (y ∷ xs) x l (suc i) e = elim (last_or_before xs x l i e) [ inl h ↦ inl h | inr h ↦ inr (ap suc h.0, h.1) ]

module _ {K A : Type 0} (same : K → K → Bool) (key : A → K) (exact : (a b : K) → Decides (same a b) (a ≡ b)) where
  -- one that has the key, and its number
  record Seen (q : K) (xs : List A) (x : A) : Type 0 where
    pub number : ℕ
    pub is : slice_get xs number ≡ Some x
    pub keyed : same (key x) q ≡ true

  later : (q : K) (y : A) (xs : List A) (x : A) → Seen q xs x → Seen q (y ∷ xs) x
  later q y xs x s = record { number = suc s.number; is = s.is; keyed = s.keyed }

  seen_by : (q : K) (y : A) (xs : List A) (x : A) (t : Bool) → same (key y) q ≡ t → (find same key q xs ≡ Some x → Seen q xs x) → cond t (Some y) (find same key q xs) ≡ Some x → Seen q (y ∷ xs) x
  seen_by q y xs x true is rest e = record { number = 0; is = e; keyed = ap (λ v. same (key v) q) (sym (some_is y x e)) ∙ is }
  seen_by q y xs x false is rest e = later q y xs x (rest e)

  seen : (q : K) (xs : List A) (x : A) → find same key q xs ≡ Some x → Seen q xs x
  seen q [] x e = absurd (cc)
  seen q (y ∷ xs) x e = seen_by q y xs x (same (key y) q) refl (seen q xs x) e

  -- a key that none has
  apart_by : (t : Bool) (y : A) (r : Option A) → cond t (Some y) r ≡ None → (t ≡ false) × (r ≡ None)
  apart_by true y r e = absurd (cc)
  apart_by false y r e = (refl, e)

  apart : (q : K) (xs : List A) (i : ℕ) (x : A) → find same key q xs ≡ None → slice_get xs i ≡ Some x → same (key x) q ≡ false
  apart q [] i x e is = absurd (cc)
  apart q (y ∷ xs) zero x e is = ap (λ v. same (key v) q) (sym (some_is y x is)) ∙ (apart_by (same (key y) q) y (find same key q xs) e).0
  apart q (y ∷ xs) (suc i) x e is = apart q xs i x (apart_by (same (key y) q) y (find same key q xs) e).1 is

  found : (table : List (K × ℕ)) (xs : List A) (q : K) (x : A) → Numbers same key table xs → Seen q xs x → by_number same key q xs (lookup (same q) table) ≡ Some x
  found table xs q x numbers s =
      let one : key x ≡ q = (exact (key x) q).0 s.keyed in
      let number : lookup (same q) table ≡ Some s.number = ap (λ v. lookup (same v) table) (sym one) ∙ numbers s.number x s.is in
      ap (by_number same key q xs) number ∙ ap (kept same key q) s.is ∙ ap (λ t. cond t (Some x) None) s.keyed

  kept_none : (q : K) (o : Option A) → ((x : A) → o ≡ Some x → same (key x) q ≡ false) → kept same key q o ≡ None
  kept_none q None k = refl
  kept_none q (Some x) k = ap (λ t. cond t (Some x) None) (k x refl)

  not_found : (xs : List A) (q : K) (r : Option ℕ) → find same key q xs ≡ None → by_number same key q xs r ≡ None
  not_found xs q None e = refl
  not_found xs q (Some i) e = kept_none q (slice_get xs i) (λ x is. apart q xs i x e is)

  -- What the table says is what is found.
  pub find_is : (table : List (K × ℕ)) (xs : List A) (q : K) → Numbers same key table xs → find same key q xs ≡ by_number same key q xs (lookup (same q) table)
  find_is table xs q numbers = by (find same key q xs) refl
    where
      by : (o : Option A) → find same key q xs ≡ o → find same key q xs ≡ by_number same key q xs (lookup (same q) table)
      by None e = e ∙ sym (not_found xs q (lookup (same q) table) e)
      by (Some x) e = e ∙ sym (found table xs q x numbers (seen q xs x e))

  -- One more thing, whose key none has.
  pub numbers_more : (laws : IsEquivalence same) (old new : List (K × ℕ)) (xs all : List A) (more : A) (n : ℕ) → Numbers same key old xs → find same key (key more) xs ≡ None → n ≡ length xs
      → ((q : K) → lookup (same q) new ≡ cond (same (key more) q) (Some n) (lookup (same q) old)) → all ≡ xs ++ more ∷ [] → Numbers same key new all
  numbers_more laws old new xs all more n numbers fresh is put whole i x at =
      elim (last_or_before xs more x i (ap (λ l. slice_get l i) (sym whole) ∙ at)) [
        | inl before ↦ put (key x) ∙ ap (λ t. cond t (Some n) (lookup (same (key x)) old)) (laws.symm (key more) (key x) ∙ apart (key more) xs i x fresh before) ∙ numbers i x before
        | inr last ↦ put (key x) ∙ ap (λ t. cond t (Some n) (lookup (same (key x)) old)) (ap (λ v. same (key more) (key v)) (sym last.1) ∙ laws.refl (key more)) ∙ ap Some (is ∙ sym last.0)
      ]

-- no two have one key
pub keys_differ : {K A : Type 0} (same : K → K → Bool) (key : A → K) (table : List (K × ℕ)) (xs : List A) → Numbers same key table xs → (i j : ℕ) (x y : A) → slice_get xs i ≡ Some x → slice_get xs j ≡ Some y → key x ≡ key y → i ≡ j
keys_differ same key table xs numbers i j x y at_i at_j one = some_is i j (sym (numbers i x at_i) ∙ ap (λ k. lookup (same k) table) one ∙ numbers j y at_j)
