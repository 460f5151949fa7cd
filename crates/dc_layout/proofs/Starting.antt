-- Copies of a start value, one after the other.
use Rattle.std.proofs.Common.{◌≡◌, ◌∙◌, refl, sym, ap, ℕ, suc, zero, ◌+◌, [], ◌∷◌, ◌++◌, add-one}
use Rattle.dc_types.specs.declared.constant.CTree.{CTree}
use Rattle.dc_layout.specs.Starts.{copies}

behind : (n : ℕ) (x : CTree) → copies n x ++ x ∷ [] ≡ copies (suc n) x
behind zero x = refl
behind (suc n) x = ap (λ l. x ∷ l) (behind n x)

pub one_more : (n : ℕ) (x : CTree) → copies n x ++ x ∷ [] ≡ copies (n + 1) x
one_more n x = behind n x ∙ ap (λ m. copies m x) (sym (add-one n))
