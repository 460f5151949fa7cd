-- One word of a list.
use Rattle.std.proofs.Common.{◌≡◌, ℕ, ◌<◌, List, [], ◌∷◌, ◌++◌, length, take, drop, get_or, sym, ap, ◌∙◌, drop-cons, add-one}
use Rattle.std.specs.Prelude.{slice_set}
use Rattle.std.proofs.lemmas.List.{set_split}
use Rattle.dc_code.specs.Blocks.{put}

pub one_word : (xs : List ℕ) (i d : ℕ) → i < length xs → take 1 (drop i xs) ≡ get_or xs i d ∷ []
one_word xs i d h = ap (take 1) (drop-cons xs i d h)

pub put_one : (xs : List ℕ) (i x : ℕ) → i < length xs → slice_set xs i x ≡ put xs i (x ∷ [])
put_one xs i x h = set_split xs i x h ∙ ap (λ n. take i xs ++ x ∷ drop n xs) (sym (add-one i))
