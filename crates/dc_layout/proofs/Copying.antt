-- The copy of an ordered map, entry by entry.
use Rattle.std.proofs.Common.{◌≡◌, ◌∙◌, refl, sym, ap, subst, List, [], ◌∷◌, ◌++◌, append_assoc}
use Rattle.std.specs.List.{AllByRecursion}
use Rattle.std.specs.List.Sorted.{IsStrictlySortedBy}
use Rattle.std.specs.Map.{keys_of}
use Rattle.std.specs.Ordering.{match_ordering, ordering_reverse}
use Rattle.std.specs.declared.cmp.Ordering.{Ordering}
use Rattle.std.specs.declared.cmp.Ordering.TheVariants.{Less, Greater}
use Rattle.std.specs.Cmp.{IsTotalOrder}
use Rattle.std.specs.BTreeMap.{insert_entry}
use Rattle.dc_types.specs.contracts.place.PlaceOrd.TheImpl as place_ord
use Rattle.dc_types.specs.contracts.place.PlaceOrd.TheImpl.Laws.{total-law}
use Rattle.dc_types.specs.declared.place.Place.{Place}
use Rattle.dc_layout.specs.Cells.{put}

in_the_middle : {K X : Type 0} (P : K → Type 0) (es : List (K × X)) (k : K) (v : X) (rest : List (K × X)) → AllByRecursion P (keys_of (es ++ (k, v) ∷ rest)) → P k
in_the_middle P [] k v rest all = all.0
in_the_middle P (e ∷ es) k v rest all = in_the_middle P es k v rest all.1

module _ {K X : Type 0} {R : K → K → Ordering} (o : IsTotalOrder R) where
  -- a key that is greater than all comes to the end
  put_last : (es : List (K × X)) (k : K) (v : X) (rest : List (K × X)) → IsStrictlySortedBy R (keys_of (es ++ (k, v) ∷ rest)) → insert_entry R es k v ≡ es ++ (k, v) ∷ []
  unfolding IsStrictlySortedBy
  put_last [] k v rest s = refl
  put_last (e ∷ es) k v rest s =
      let below : R e.0 k ≡ Less = in_the_middle (λ q. R e.0 q ≡ Less) es k v rest s.0 in
      let above : R k e.0 ≡ Greater = o.antisymm k e.0 ∙ ap ordering_reverse below in
      ap (λ r. match_ordering r ((k, v) ∷ e ∷ es) ((e.0, v) ∷ es) (e ∷ insert_entry R es k v)) above ∙ ap (λ l. e ∷ l) (put_last es k v rest s.1)

-- what is copied and what is left are the whole, and its places ascend
abbrev pub Carries : {X : Type 0} (copy left whole : List (Place × X)) → Type 0
Carries copy left whole = (copy ++ left ≡ whole) × IsStrictlySortedBy (place_ord.ghosts).cmp (keys_of (copy ++ left))

pub carried : {X : Type 0} (copy left whole rest more : List (Place × X)) (p : Place) (x : X) → Carries copy left whole → left ≡ (p, x) ∷ rest → more ≡ put copy p x → Carries more rest whole
carried copy left whole rest more p x c is new =
    let s = subst (λ l. IsStrictlySortedBy (place_ord.ghosts).cmp (keys_of (copy ++ l))) is c.1 in
    let same : more ++ rest ≡ copy ++ left = ap (λ l. l ++ rest) (new ∙ put_last total-law copy p x rest s) ∙ append_assoc copy ((p, x) ∷ []) rest ∙ ap (λ l. copy ++ l) (sym is) in
    (same ∙ c.0, subst (λ l. IsStrictlySortedBy (place_ord.ghosts).cmp (keys_of l)) (sym same) c.1)
