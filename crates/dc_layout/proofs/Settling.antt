-- The table of the cells of structs, as it is made, stays right and becomes whole.
use Rattle.std.proofs.Common.{rules, ◌≡◌, ◌∙◌, refl, sym, ap, subst, ℕ, ◌+◌, ◌≤◌, ◌<◌, length, max, List, [], ◌∷◌, ◌++◌, Bool, true, false, cond, Option, Some, None, option_map, arith, inl, inr, unwrap_or, is_some, ◌⊎◌}
use Rattle.std.proofs.Common.{length-append}
use Rattle.std.proofs.lemmas.Bool.{cases_lt}
use Rattle.std.specs.Option.{option_and_then}
use Rattle.std.specs.Map.{lookup, keys_of}
use Rattle.std.specs.Ordering.{is_eq, match_ordering, ordering_reverse}
use Rattle.std.specs.declared.cmp.Ordering.{Ordering}
use Rattle.std.specs.declared.cmp.Ordering.TheVariants.{Less, Equal, Greater}
use Rattle.std.specs.Cmp.{IsTotalOrder}
use Rattle.std.specs.BTreeMap.{is_at, insert_entry}
use Rattle.dc_types.specs.contracts.place.PlaceOrd.TheImpl as place_ord
use Rattle.dc_types.specs.contracts.place.PlaceOrd.TheImpl.Laws.{total-law}
use Rattle.dc_types.specs.declared.place.Place.{Place}
use Rattle.dc_layout.specs.declared.layout.Field.{Field}
use Rattle.dc_layout.specs.Cells.{at, Structs, HaveCells, limited, struct_in, IsStuck, Right, IsTable, Known, settled, kept, passed, Among, Waits}
use Rattle.dc_layout.proofs.Counting.{struct_sound, some_is, then_some, map_some, map_none, either}

-- ---- keys of an ordered map

twice : {A : Type 0} (b : Bool) (x y z : A) → cond b x z ≡ cond b x (cond b y z)
twice true x y z = refl
twice false x y z = refl

swap : {A : Type 0} (a b : Bool) (x y z : A) → (a ≡ true → b ≡ true → ⊥) → cond a y (cond b x z) ≡ cond b x (cond a y z)
swap true true x y z apart = absurd (apart refl refl)
swap true false x y z apart = refl
swap false b x y z apart = refl

equal_is : (r : Ordering) → is_eq r ≡ true → r ≡ Equal
equal_is Less h = cc
equal_is Equal h = refl
equal_is Greater h = cc

module _ {K : Type 0} (R : K → K → Ordering) (o : IsTotalOrder R) where
  itself : (k : K) → R k k ≡ Equal
  itself k = by (R k k) refl
    where
      by : (r : Ordering) → R k k ≡ r → R k k ≡ Equal
      by Less e = let clash : Less ≡ Greater = sym e ∙ o.antisymm k k ∙ ap ordering_reverse e in cc
      by Equal e = e
      by Greater e = let clash : Greater ≡ Less = sym e ∙ o.antisymm k k ∙ ap ordering_reverse e in cc

  turned : (x y : K) → R x y ≡ Equal → R y x ≡ Equal
  turned x y e = o.antisymm y x ∙ ap ordering_reverse e

  alike : (x y z : K) → R x y ≡ Equal → R x z ≡ R y z
  alike x y z e = o.congr x y z e

  alike_right : (x y z : K) → R x y ≡ Equal → R z x ≡ R z y
  alike_right x y z e = o.antisymm z x ∙ ap ordering_reverse (alike x y z e) ∙ sym (o.antisymm z y)

  -- equal keys find the same
  same_found : {X : Type 0} (x y : K) → R x y ≡ Equal → (es : List (K × X)) → lookup (is_at (R x)) es ≡ lookup (is_at (R y)) es
  same_found x y e [] = refl
  same_found x y e (p ∷ es) = ap (λ r. cond (is_eq r) (Some p.1) (lookup (is_at (R x)) es)) (alike x y p.0 e) ∙ ap (λ l. cond (is_eq (R y p.0)) (Some p.1) l) (same_found x y e es)

  -- what stands in a map after an insertion
  found : {X : Type 0} (k : K) (v : X) (q : K) (es : List (K × X)) → lookup (is_at (R q)) (insert_entry R es k v) ≡ cond (is_eq (R q k)) (Some v) (lookup (is_at (R q)) es)
  found k v q [] = refl
  found {X} k v q (e ∷ es) = by (found k v q es) (R k e.0) refl
    where
      rest : Option X
      rest = lookup (is_at (R q)) es

      by : lookup (is_at (R q)) (insert_entry R es k v) ≡ cond (is_eq (R q k)) (Some v) rest → (r : Ordering) → R k e.0 ≡ r
          → lookup (is_at (R q)) (match_ordering r ((k, v) ∷ e ∷ es) ((e.0, v) ∷ es) (e ∷ insert_entry R es k v)) ≡ cond (is_eq (R q k)) (Some v) (cond (is_eq (R q e.0)) (Some e.1) (lookup (is_at (R q)) es))
      by more Less is = refl
      by more Equal is = twice (is_eq (R q e.0)) (Some v) (Some e.1) rest ∙ ap (λ r. cond (is_eq r) (Some v) (cond (is_eq (R q e.0)) (Some e.1) rest)) (sym (alike_right k e.0 q is))
      by more Greater is =
          ap (λ l. cond (is_eq (R q e.0)) (Some e.1) l) more
          ∙ swap (is_eq (R q e.0)) (is_eq (R q k)) (Some v) (Some e.1) rest (λ a b.
          let first : R e.0 k ≡ Equal = sym (alike q e.0 k (equal_is (R q e.0) a)) ∙ equal_is (R q k) b in
          let clash : Greater ≡ Equal = sym is ∙ turned e.0 k first in cc)

abbrev order : Place → Place → Ordering
order = (place_ord.ghosts).cmp

total : IsTotalOrder order
total = total-law

abbrev Same : Place → Place → Type 0
Same p q = is_eq (order p q) ≡ true

at_same : {X : Type 0} (p q : Place) → Same p q → (es : List (Place × X)) → at es p ≡ at es q
at_same p q h es = same_found order total p q (equal_is (order p q) h) es

same_itself : (p : Place) → Same p p
same_itself p = ap is_eq (itself order total p)

-- ---- one place

bools : (b : Bool) → (b ≡ true) ⊎ (b ≡ false)
bools true = inl refl
bools false = inr refl

settled_some : (s : Structs) (known : Known) (p : Place) (k : Known) → settled s known p ≡ Some k
    → ((x : ℕ) × (at known p ≡ Some x) × (k ≡ known)) ⊎ ((fields : List Field) × (n : ℕ) × (at s p ≡ Some fields) × (struct_in known fields ≡ Some n) × (k ≡ insert_entry order known p n))
settled_some s known p k e = by (either (at known p))
  where
    after : Option Known
    after = option_and_then (λ fields. option_map (insert_entry order known p) (struct_in known fields)) (at s p)

    by : (at known p ≡ None) ⊎ ((x : ℕ) × (at known p ≡ Some x))
        → ((x : ℕ) × (at known p ≡ Some x) × (k ≡ known)) ⊎ ((fields : List Field) × (n : ℕ) × (at s p ≡ Some fields) × (struct_in known fields ≡ Some n) × (k ≡ insert_entry order known p n))
    by (inl none) =
        let f : after ≡ Some k = sym (ap (λ o. cond (is_some o) (Some known) after) none) ∙ e in
        let b = then_some (λ fields. option_map (insert_entry order known p) (struct_in known fields)) (at s p) k f in
        let m = map_some (insert_entry order known p) (struct_in known b.0) k b.2 in
        inr (b.0, m.0, b.1, m.1, sym m.2)
    by (inr (x, some)) =
        let f : Some known ≡ Some k = sym (ap (λ o. cond (is_some o) (Some known) after) some) ∙ e in
        inl (x, some, sym (some_is known k f))

settled_none : (s : Structs) (known : Known) (p : Place) → settled s known p ≡ None → IsStuck s known p
settled_none s known p e fields is = by (either (at known p))
  where
    after : Option Known
    after = option_and_then (λ x. option_map (insert_entry order known p) (struct_in known x)) (at s p)

    by : (at known p ≡ None) ⊎ ((x : ℕ) × (at known p ≡ Some x)) → struct_in known fields ≡ None
    by (inl none) =
        map_none (insert_entry order known p) (struct_in known fields)
        (sym (ap (option_and_then (λ x. option_map (insert_entry order known p) (struct_in known x))) is) ∙ sym (ap (λ o. cond (is_some o) (Some known) after) none) ∙ e)
    by (inr (x, some)) = let clash : Some known ≡ None = sym (ap (λ o. cond (is_some o) (Some known) after) some) ∙ e in cc

-- what a table that a place was settled in keeps and gains
record Settles (s : Structs) (known : Known) (p : Place) (k : Known) : Type 0 where
  right : Right s k
  grows : (q : Place) → at k q ≡ None → at known q ≡ None
  stands : at k p ≡ None → ⊥

settles : (s : Structs) (known : Known) (p : Place) (k : Known) → Right s known → settled s known p ≡ Some k → Settles s known p k
settles s known p k right e = by (settled_some s known p k e)
  where
    by : ((x : ℕ) × (at known p ≡ Some x) × (k ≡ known)) ⊎ ((fields : List Field) × (n : ℕ) × (at s p ≡ Some fields) × (struct_in known fields ≡ Some n) × (k ≡ insert_entry order known p n)) → Settles s known p k
    by (inl (x, some, is)) = record {
      right = subst (Right s) (sym is) right;
      grows = λ q h. subst (λ t. at t q ≡ None) is h;
      stands = λ h. let clash : None ≡ Some x = sym (subst (λ t. at t p ≡ None) is h) ∙ some in cc;
    }
    by (inr (fields, n, is, follows, table)) =
        let has : (q : Place) → at k q ≡ cond (is_eq (order q p)) (Some n) (at known q) = λ q. ap (λ t. at t q) table ∙ found order total p n q known in
        record {
          right = λ q m h. right_at q m h (has q) (bools (is_eq (order q p)));
          grows = λ q h. grows_at q (sym (has q) ∙ h) (bools (is_eq (order q p)));
          stands = λ h.
              let here : at k p ≡ Some n = has p ∙ ap (λ b. cond b (Some n) (at known p)) (same_itself p) in
              let clash : None ≡ Some n = sym h ∙ here in cc;
        }
      where
        right_at : (q : Place) (m : ℕ) → at k q ≡ Some m → at k q ≡ cond (is_eq (order q p)) (Some n) (at known q) → (Same q p) ⊎ (is_eq (order q p) ≡ false)
            → (c : ℕ) × (fs : List Field) × (at s q ≡ Some fs) × HaveCells s fs c × (m ≡ limited (max c 1))
        right_at q m h has (inl same) =
            let r = struct_sound s known right fields n follows in
            let e : Some m ≡ Some n = sym h ∙ has ∙ ap (λ b. cond b (Some n) (at known q)) same in
            (r.0, fields, at_same q p same s ∙ is, r.1, some_is m n e ∙ r.2)
        right_at q m h has (inr apart) = right q m (sym (ap (λ b. cond b (Some n) (at known q)) apart) ∙ sym has ∙ h)

        grows_at : (q : Place) → cond (is_eq (order q p)) (Some n) (at known q) ≡ None → (Same q p) ⊎ (is_eq (order q p) ≡ false) → at known q ≡ None
        grows_at q h (inl same) = let clash : Some n ≡ None = sym (ap (λ b. cond b (Some n) (at known q)) same) ∙ h in cc
        grows_at q h (inr apart) = sym (ap (λ b. cond b (Some n) (at known q)) apart) ∙ h

-- ---- all places in turn

among_front : (p : Place) (xs ys : List Place) → Among p xs → Among p (xs ++ ys)
among_front p [] ys h = absurd h
among_front p (x ∷ xs) ys (inl h) = inl h
among_front p (x ∷ xs) ys (inr h) = inr (among_front p xs ys h)

among_back : (p : Place) (xs ys : List Place) → Among p ys → Among p (xs ++ ys)
among_back p [] ys h = h
among_back p (x ∷ xs) ys h = inr (among_back p xs ys h)

abbrev pub AllStuck : Structs → Known → List Place → Type 0
AllStuck s known [] = Unit {0}
AllStuck s known (p ∷ ps) = IsStuck s known p × AllStuck s known ps

pub record Passes (s : Structs) (known : Known) (still ps : List Place) (end : Known × List Place) : Type 0 where
  pub right : Right s end.0
  pub grows : (q : Place) → at end.0 q ≡ None → at known q ≡ None
  pub covers : (q : Place) → at end.0 q ≡ None → Among q still ⊎ Among q ps → Among q end.1
  pub short : length end.1 ≤ length still + length ps
  pub stuck : length end.1 ≡ length still + length ps → (end.0 ≡ known) × AllStuck s known ps

abbrev end_of : Structs → Known → List Place → List Place → Option Known → Place → Known × List Place
end_of s known still ps o p = passed s (unwrap_or o known) (kept (is_some o) still p) ps

pushed : (still : List Place) (p : Place) → length (still ++ p ∷ []) ≡ length still + 1
pushed still p = search (rules, length-append)

after_some : (s : Structs) (known k : Known) (still ps : List Place) (p : Place) (end : Known × List Place) → Settles s known p k → Passes s k still ps end → Passes s known still (p ∷ ps) end
after_some s known k still ps p end one all = record {
  right = all.right;
  grows = λ q h. one.grows q (all.grows q h);
  covers = covers;
  short = let a = all.short in omega arith;
  stuck = λ h. let a = all.short in absurd (omega arith);
}
  where
    covers : (q : Place) → at end.0 q ≡ None → Among q still ⊎ Among q (p ∷ ps) → Among q end.1
    covers q h (inl a) = all.covers q h (inl a)
    covers q h (inr (inl same)) = absurd (one.stands (sym (at_same q p same k) ∙ all.grows q h))
    covers q h (inr (inr a)) = all.covers q h (inr a)

after_none : (s : Structs) (known : Known) (still ps : List Place) (p : Place) (end : Known × List Place) → IsStuck s known p → Passes s known (still ++ p ∷ []) ps end → Passes s known still (p ∷ ps) end
after_none s known still ps p end one all = record {
  right = all.right;
  grows = all.grows;
  covers = covers;
  short = let a = all.short in let b = pushed still p in omega arith;
  stuck = λ h.
      let b = pushed still p in
      let e : length end.1 ≡ length (still ++ p ∷ []) + length ps = omega arith in
      let r = all.stuck e in (r.0, (one, r.1));
}
  where
    covers : (q : Place) → at end.0 q ≡ None → Among q still ⊎ Among q (p ∷ ps) → Among q end.1
    covers q h (inl a) = all.covers q h (inl (among_front q still (p ∷ []) a))
    covers q h (inr (inl same)) = all.covers q h (inl (among_back q still (p ∷ []) (inl same)))
    covers q h (inr (inr a)) = all.covers q h (inr a)

pub passes : (s : Structs) (ps : List Place) (known : Known) (still : List Place) → Right s known → Passes s known still ps (passed s known still ps)
passes s [] known still right = record {
  right = right;
  grows = λ q h. h;
  covers = covers;
  short = omega arith;
  stuck = λ h. (refl, tt);
}
  where
    covers : (q : Place) → at known q ≡ None → Among q still ⊎ Among q [] → Among q still
    covers q h (inl a) = a
    covers q h (inr a) = absurd a
passes s (p ∷ ps) known still right = by (either (settled s known p)) (λ k r. passes s ps k still r) (passes s ps known (still ++ p ∷ []) right)
  where
    by : (settled s known p ≡ None) ⊎ ((k : Known) × (settled s known p ≡ Some k))
        → ((k : Known) → Right s k → Passes s k still ps (passed s k still ps)) → Passes s known (still ++ p ∷ []) ps (passed s known (still ++ p ∷ []) ps) → Passes s known still (p ∷ ps) (end_of s known still ps (settled s known p) p)
    by (inl none) more rest = subst (λ o. Passes s known still (p ∷ ps) (end_of s known still ps o p)) (sym none) (after_none s known still ps p (passed s known (still ++ p ∷ []) ps) (settled_none s known p none) rest)
    by (inr (k, some)) more rest =
        let one = settles s known p k right some in
        subst (λ o. Passes s known still (p ∷ ps) (end_of s known still ps o p)) (sym some) (after_some s known k still ps p (passed s k still ps) one (more k one.right))

-- ---- the whole table

has_key : {X : Type 0} (p : Place) (es : List (Place × X)) (x : X) → at es p ≡ Some x → Among p (keys_of es)
has_key p [] x h = cc
has_key p (e ∷ es) x h = by (bools (is_eq (order p e.0))) (λ t. has_key p es x t)
  where
    by : (Same p e.0) ⊎ (is_eq (order p e.0) ≡ false) → (at es p ≡ Some x → Among p (keys_of es)) → Same p e.0 ⊎ Among p (keys_of es)
    by (inl same) more = inl same
    by (inr apart) more = inr (more (sym (ap (λ b. cond b (Some e.1) (at es p)) apart) ∙ h))

pub waits_all : (s : Structs) (front : List Place) → Waits s [] (front ++ keys_of s)
waits_all s front p fields is none = among_back p front (keys_of s) (has_key p s fields is)

stuck_at : (s : Structs) (known : Known) (p : Place) (ps : List Place) → AllStuck s known ps → Among p ps → IsStuck s known p
stuck_at s known p (q ∷ ps) all (inl same) = λ fields is. all.0 fields (sym (at_same p q same s) ∙ is)
stuck_at s known p (q ∷ ps) all (inr a) = stuck_at s known p ps all.1 a
stuck_at s known p [] all a = absurd a

pub waits_on : (s : Structs) (known : Known) (ps : List Place) (end : Known × List Place) → end ≡ passed s known [] ps → Right s known → Waits s known ps → Right s end.0 × Waits s end.0 end.1
waits_on s known ps end e right waits =
    let all = subst (Passes s known [] ps) (sym e) (passes s ps known [] right) in
    (all.right, λ p fields is none. all.covers p none (inr (waits p fields is (all.grows p none))))

pub is_table : (s : Structs) (known : Known) (ps : List Place) (end : Known × List Place) → end ≡ passed s known [] ps → Right s known → Waits s known ps → length end.1 ≡ length ps → IsTable s end.0
is_table s known ps end e right waits same =
    let all = subst (Passes s known [] ps) (sym e) (passes s ps known [] right) in
    let stuck = all.stuck (same ∙ omega arith) in
    record {
      right = all.right;
      whole = λ p none fields is.
          subst (λ t. struct_in t fields ≡ None) (sym stuck.0) (stuck_at s known p ps stuck.1 (waits p fields is (all.grows p none)) fields is);
    }

pub shorter : (s : Structs) (known : Known) (ps : List Place) (end : Known × List Place) → end ≡ passed s known [] ps → Right s known → (length end.1 ≡ length ps → ⊥) → length end.1 < length ps
shorter s known ps end e right apart =
    let all = subst (Passes s known [] ps) (sym e) (passes s ps known [] right) in
    let a = all.short in
    cases (cases_lt (length end.1) (length ps)) a
  where
    cases : (length end.1 < length ps) ⊎ (length ps ≤ length end.1) → length end.1 ≤ 0 + length ps → length end.1 < length ps
    cases (inl h) a = h
    cases (inr h) a = absurd (apart (omega arith))
