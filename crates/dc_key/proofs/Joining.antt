-- Texts with a mark between each two, as a loop puts them.
use Rattle.std.proofs.Common.{◌≡◌, ◌∙◌, sym, ap, ℕ, suc, zero, ◌+◌, ◌<◌, length, take, get_or, List, [], ◌∷◌, ◌++◌, map, add-one, append-nil, arith}
use mathlib.Core.List.{append_assoc}
use Rattle.dc_key.specs.KeyTexts.{Bytes, behind}

behind_suc : {A : Type 0} (mark : Bytes) (f : A → Bytes) (xs : List A) (i : ℕ) (x : A) → i < length xs → x ≡ get_or xs i x → behind mark (map f (take (suc i) xs)) ≡ behind mark (map f (take i xs)) ++ (mark ++ f x)
behind_suc mark f [] i x h e = absurd (omega arith)
behind_suc mark f (y ∷ ys) zero x h e = ap (λ z. mark ++ f z ++ []) (sym e) ∙ append-nil (mark ++ f x)
behind_suc mark f (y ∷ ys) (suc i) x h e = ap (λ t. mark ++ f y ++ t) (behind_suc mark f ys i x (omega arith) e) ∙ sym (append_assoc (mark ++ f y) (behind mark (map f (take i ys))) (mark ++ f x))

pub behind_more : {A : Type 0} (mark : Bytes) (f : A → Bytes) (xs : List A) (i : ℕ) (x : A) (start before pushed after : Bytes) → i < length xs → x ≡ get_or xs i x
    → before ≡ start ++ behind mark (map f (take i xs)) → pushed ≡ before ++ mark → after ≡ pushed ++ f x → after ≡ start ++ behind mark (map f (take (i + 1) xs))
behind_more mark f xs i x start before pushed after h e b p a =
    a ∙ ap (λ t. t ++ f x) (p ∙ ap (λ t. t ++ mark) b)
    ∙ ap (λ t. t ++ f x) (append_assoc start (behind mark (map f (take i xs))) mark)
    ∙ append_assoc start (behind mark (map f (take i xs)) ++ mark) (f x)
    ∙ ap (λ t. start ++ t) (append_assoc (behind mark (map f (take i xs))) mark (f x) ∙ sym (behind_suc mark f xs i x h e) ∙ ap (λ n. behind mark (map f (take n xs))) (sym (add-one i)))
