-- Readers of nested parts with a depth that isn't 0.
use Rattle.std.proofs.Common.{◌≡◌, ◌∙◌, sym, ap, ℕ, suc, ◌-◌, true, List, drop, arith, if◌then◌else◌}
use Rattle.dc_types.specs.declared.constant.CTree.{CTree}
use Rattle.dc_types.specs.declared.constant.CTree.TheVariants as tree
use Rattle.dc_key.specs.KeyTexts.{Bytes}
use Rattle.dc_key.specs.KeyReading.{first, opens, signed, items_in, tree_in, wraps, leaf_in, type_in}

below : (n : ℕ) → (n ≡ 0 → ⊥) → n ≡ suc (n - 1)
below n h = omega arith

pub type_more : (n : ℕ) (bytes : Bytes) → (n ≡ 0 → ⊥) → type_in n bytes ≡ wraps (leaf_in (type_in (n - 1)) bytes)
type_more n bytes h = ap (λ m. type_in m bytes) (below n h)

pub list_more : (n : ℕ) (bytes inside after last : Bytes) (items : List CTree) → (n ≡ 0 → ⊥) → opens (first bytes) ≡ true → inside ≡ drop 1 bytes
    → ◌≡◌ {A = List CTree × Bytes} (items, after) (items_in (tree_in (n - 1)) inside) → last ≡ drop 1 after → ◌≡◌ {A = CTree × Bytes} (tree.List items, last) (tree_in n bytes)
list_more n bytes inside after last items h open_ is read ends =
    let with_last : Bytes → CTree × Bytes = λ r. (tree.List items, r) in
    let listed : List CTree × Bytes → CTree × Bytes = λ r. (tree.List r.0, drop 1 r.1) in
    let other : CTree × Bytes = (let r = signed bytes in (tree.Num r.0, r.1)) in
    ap with_last ends ∙ ap listed read ∙ ap (λ w. listed (items_in (tree_in (n - 1)) w)) is
    ∙ sym (ap (λ b. if b then listed (items_in (tree_in (n - 1)) (drop 1 bytes)) else other) open_)
    ∙ sym (ap (λ m. tree_in m bytes) (below n h))
