-- What a table of the cells of structs gives for a type are its cells.
use Rattle.std.proofs.Common.{◌≡◌, ◌∙◌, refl, sym, ap, subst, ℕ, suc, zero, ◌+◌, ◌*◌, ◌≤◌, ◌<◌, min, max, List, [], ◌∷◌, Option, Some, None, option_map, arith, inl, inr, unwrap_or, zero-mul, add-zero, add_assoc, ◌⊎◌}
use Rattle.std.proofs.lemmas.Bool.{cases_lt}
use Rattle.std.specs.Option.{option_and_then}
use Rattle.dc_types.specs.declared.place.Place.{Place}
use Rattle.dc_types.specs.declared.ty.Ty.{Ty, map-Ty}
use Rattle.dc_types.specs.declared.ty.Ty.TheViews.{out-Ty, roll-Ty, out-roll-Ty, roll-out-Ty}
use Rattle.dc_types.specs.declared.ty.Ty.TheOpen.{Ty-F}
use Rattle.dc_types.specs.declared.ty.Ty.TheFolds.{fold-roll-Ty, ind-Ty}
use Rattle.dc_layout.specs.declared.layout.Field.{Field}
use Rattle.dc_layout.specs.Cells.{at, Structs, HasCells, HaveCells, limited, AreCells, times, plus, cells_at, cells_in, total_in, struct_in, Right, IsTable, Known}

-- ---- a type has one number of cells

abbrev Layer : Structs → Ty-F Ty → ℕ → Type 0
Layer s Ty-F.Void n = n ≡ 1
Layer s (Ty-F.Int k) n = n ≡ 1
Layer s (Ty-F.Fixed of m) n = (c : ℕ) × HasCells s of c × (n ≡ max (m * c) 1)
Layer s (Ty-F.Slice of) n = n ≡ 3
Layer s Ty-F.Str n = n ≡ 3
Layer s (Ty-F.Struct p) n = (fields : List Field) × (c : ℕ) × (at s p ≡ Some fields) × HaveCells s fields c × (n ≡ max c 1)
Layer s (Ty-F.Enum p base) n = HasCells s base n
Layer s Ty-F.NullLit n = n ≡ 3
Layer s Ty-F.EmptyLit n = n ≡ 3

layer : (s : Structs) (t : Ty) (n : ℕ) → HasCells s t n → Layer s (out-Ty t) n
layer s t n (HasCells.void e) = subst (λ x. Layer s x n) (sym e) refl
layer s t n (HasCells.number e) = subst (λ x. Layer s x n) (sym e) refl
layer s t n (HasCells.fixed {c = c} e d) = subst (λ x. Layer s x n) (sym e) (c, d, refl)
layer s t n (HasCells.slice e) = subst (λ x. Layer s x n) (sym e) refl
layer s t n (HasCells.str e) = subst (λ x. Layer s x n) (sym e) refl
layer s t n (HasCells.struct_ {fields = fields} {n = c} e is d) = subst (λ x. Layer s x n) (sym e) (fields, c, is, d, refl)
layer s t n (HasCells.enum_ e d) = subst (λ x. Layer s x n) (sym e) d
layer s t n (HasCells.null_ e) = subst (λ x. Layer s x n) (sym e) refl
layer s t n (HasCells.empty e) = subst (λ x. Layer s x n) (sym e) refl

abbrev Layers : Structs → List Field → ℕ → Type 0
Layers s [] n = n ≡ 0
Layers s (f ∷ fs) n = (c : ℕ) × (m : ℕ) × HasCells s f.ty c × HaveCells s fs m × (n ≡ c + m)

layers : (s : Structs) (fs : List Field) (n : ℕ) → HaveCells s fs n → Layers s fs n
layers s fs n HaveCells.none = refl
layers s fs n (HaveCells.more {c = c} {n = m} d ds) = (c, m, d, ds, refl)

pub some_is : {A : Type 0} (a b : A) → Some a ≡ Some b → a ≡ b
some_is a b e = cc

mutual
  pub one_number : (s : Structs) (t : Ty) (a b : ℕ) → HasCells s t a → HasCells s t b → a ≡ b
  one_number s t a b (HasCells.void e) d = sym (subst (λ x. Layer s x b) e (layer s t b d))
  one_number s t a b (HasCells.number e) d = sym (subst (λ x. Layer s x b) e (layer s t b d))
  one_number s t a b (HasCells.fixed {of = of} {n = m} {c = c} e o) d =
      let l : Layer s (Ty-F.Fixed of m) b = subst (λ x. Layer s x b) e (layer s t b d) in
      ap (λ x. max (m * x) 1) (one_number s of c l.0 o l.1) ∙ sym l.2
  one_number s t a b (HasCells.slice e) d = sym (subst (λ x. Layer s x b) e (layer s t b d))
  one_number s t a b (HasCells.str e) d = sym (subst (λ x. Layer s x b) e (layer s t b d))
  one_number s t a b (HasCells.struct_ {p = p} {fields = fields} {n = c} e is o) d =
      let l : Layer s (Ty-F.Struct p) b = subst (λ x. Layer s x b) e (layer s t b d) in
      let same : l.0 ≡ fields = some_is l.0 fields (sym l.2 ∙ is) in
      ap (λ x. max x 1) (one_total s fields c l.1 o (subst (λ x. HaveCells s x l.1) same l.3)) ∙ sym l.4
  one_number s t a b (HasCells.enum_ {base = base} e o) d = one_number s base a b o (subst (λ x. Layer s x b) e (layer s t b d))
  one_number s t a b (HasCells.null_ e) d = sym (subst (λ x. Layer s x b) e (layer s t b d))
  one_number s t a b (HasCells.empty e) d = sym (subst (λ x. Layer s x b) e (layer s t b d))

  pub one_total : (s : Structs) (fs : List Field) (a b : ℕ) → HaveCells s fs a → HaveCells s fs b → a ≡ b
  one_total s fs a b HaveCells.none d = sym (layers s [] b d)
  one_total s fs a b (HaveCells.more {f = f} {fs = more} {c = c} {n = m} o os) d =
      let l = layers s (f ∷ more) b d in
      ap (λ x. x + m) (one_number s f.ty c l.0 o l.2) ∙ ap (λ x. l.0 + x) (one_total s more m l.1 os l.3) ∙ sym l.4

-- ---- sums and products with a limit

under : (n c : ℕ) → c ≤ 1048577 → min (max (n * min c 1048577) 1) 1048577 ≡ min (max (n * c) 1) 1048577
under n c h = ap (λ x. min (max (n * x) 1) 1048577) (omega arith)

over : (n c : ℕ) → 1048577 ≤ c → min (max (n * 1048577) 1) 1048577 ≡ min (max (n * c) 1) 1048577
over zero c h = ap (λ x. min (max x 1) 1048577) (zero-mul 1048577 ∙ sym (zero-mul c))
over (suc n) c h =
    let a : suc n * 1048577 ≡ 1048577 + n * 1048577 = grind arith in
    let b : suc n * c ≡ c + n * c = grind arith in
    omega arith

times_limited : (n c : ℕ) → times n (limited c) ≡ limited (max (n * c) 1)
times_limited n c = by (cases_lt c 1048577)
  where
    by : (c < 1048577) ⊎ (1048577 ≤ c) → times n (limited c) ≡ limited (max (n * c) 1)
    by (inl h) = let e : limited c ≡ c = omega arith in ap (times n) e ∙ under n c (omega arith)
    by (inr h) = let e : limited c ≡ 1048577 = omega arith in ap (times n) e ∙ over n c h

plus_limited : (m c : ℕ) → plus (limited m) (limited c) ≡ limited (m + c)
plus_limited m c = omega arith

-- ---- options

pub map_some : {A B : Type 0} (f : A → B) (o : Option A) (v : B) → option_map f o ≡ Some v → (x : A) × (o ≡ Some x) × (f x ≡ v)
map_some f None v e = cc
map_some f (Some x) v e = (x, refl, some_is (f x) v e)

pub map_none : {A B : Type 0} (f : A → B) (o : Option A) → option_map f o ≡ None → o ≡ None
map_none f None e = refl
map_none f (Some x) e = cc

pub then_some : {A B : Type 0} (f : A → Option B) (o : Option A) (v : B) → option_and_then f o ≡ Some v → (x : A) × (o ≡ Some x) × (f x ≡ Some v)
then_some f None v e = cc
then_some f (Some x) v e = (x, refl, e)

pub either : {A : Type 0} (o : Option A) → (o ≡ None) ⊎ ((x : A) × (o ≡ Some x))
either None = inl refl
either (Some x) = inr (x, refl)

-- ---- the table gives no others

cells_roll : (known : Known) (x : Ty-F Ty) → cells_in known (roll-Ty x) ≡ cells_at known (map-Ty Ty (Option ℕ) (cells_in known) x)
cells_roll known x = fold-roll-Ty (Option ℕ) (cells_at known) x

abbrev Sound : Structs → Known → Ty → Type 0
Sound s known t = (v : ℕ) → cells_in known t ≡ Some v → (c : ℕ) × HasCells s t c × (v ≡ limited c)

abbrev Tested : Structs → Known → Type 0
Tested s known = (t : Ty) × Sound s known t

layer_sound : (s : Structs) (known : Known) → Right s known → (y : Ty-F (Tested s known)) (t : Ty) → out-Ty t ≡ map-Ty (Tested s known) Ty (λ p. p.0) y → (v : ℕ)
    → cells_at known (map-Ty Ty (Option ℕ) (cells_in known) (map-Ty (Tested s known) Ty (λ p. p.0) y)) ≡ Some v → (c : ℕ) × HasCells s t c × (v ≡ limited c)
layer_sound s known right Ty-F.Void t e v is = (1, HasCells.void e, sym (some_is 1 v is))
layer_sound s known right (Ty-F.Int k) t e v is = (1, HasCells.number e, sym (some_is 1 v is))
layer_sound s known right (Ty-F.Fixed of n) t e v is =
    let m = map_some (times n) (cells_in known of.0) v is in
    let r = of.1 m.0 m.1 in
    (max (n * r.0) 1, HasCells.fixed e r.1, sym m.2 ∙ ap (times n) r.2 ∙ times_limited n r.0)
layer_sound s known right (Ty-F.Slice of) t e v is = (3, HasCells.slice e, sym (some_is 3 v is))
layer_sound s known right Ty-F.Str t e v is = (3, HasCells.str e, sym (some_is 3 v is))
layer_sound s known right (Ty-F.Struct p) t e v is = let r = right p v is in (max r.0 1, HasCells.struct_ e r.2 r.3, r.4)
layer_sound s known right (Ty-F.Enum p base) t e v is = let r = base.1 v is in (r.0, HasCells.enum_ e r.1, r.2)
layer_sound s known right Ty-F.NullLit t e v is = (3, HasCells.null_ e, sym (some_is 3 v is))
layer_sound s known right Ty-F.EmptyLit t e v is = (3, HasCells.empty e, sym (some_is 3 v is))

sound : (s : Structs) (known : Known) → Right s known → (t : Ty) → Sound s known t
sound s known right = ind-Ty (Sound s known) (λ x y is v e.
    let layer = layer_sound s known right y (roll-Ty x) (out-roll-Ty x ∙ sym is) v in
    layer (ap (λ z. cells_at known (map-Ty Ty (Option ℕ) (cells_in known) z)) is ∙ sym (cells_roll known x) ∙ e))

totals_sound : (s : Structs) (known : Known) → Right s known → (fs : List Field) (acc total v : ℕ) → acc ≡ limited total → total_in known acc fs ≡ Some v → (c : ℕ) × HaveCells s fs c × (v ≡ limited (total + c))
totals_sound s known right [] acc total v e is = (0, HaveCells.none, sym (some_is acc v is) ∙ e ∙ ap limited (sym (add-zero total)))
totals_sound s known right (f ∷ fs) acc total v e is =
    let b = then_some (λ c. total_in known (plus acc c) fs) (cells_in known f.ty) v is in
    let r = sound s known right f.ty b.0 b.1 in
    let sums : plus acc b.0 ≡ limited (total + r.0) = ap (λ x. plus x b.0) e ∙ ap (plus (limited total)) r.2 ∙ plus_limited total r.0 in
    let q = totals_sound s known right fs (plus acc b.0) (total + r.0) v sums b.2 in
    (r.0 + q.0, HaveCells.more r.1 q.1, q.2 ∙ ap limited (add_assoc total r.0 q.0))

pub struct_sound : (s : Structs) (known : Known) → Right s known → (fields : List Field) (v : ℕ) → struct_in known fields ≡ Some v → (c : ℕ) × HaveCells s fields c × (v ≡ limited (max c 1))
struct_sound s known right fields v is =
    let m = map_some (λ n. max n 1) (total_in known 0 fields) v is in
    let r = totals_sound s known right fields 0 0 m.0 refl m.1 in
    let a = m.2 in let b = r.2 in
    (r.0, r.1, omega arith)

-- ---- a whole table gives all

cells_out : (known : Known) (t : Ty) (x : Ty-F Ty) → out-Ty t ≡ x → cells_in known t ≡ cells_at known (map-Ty Ty (Option ℕ) (cells_in known) x)
cells_out known t x e = ap (cells_in known) (sym (roll-out-Ty t) ∙ ap roll-Ty e) ∙ cells_roll known x

of_struct : (s : Structs) (known : Known) → IsTable s known → (p : Place) (fields : List Field) (n : ℕ) → at s p ≡ Some fields → HaveCells s fields n → total_in known 0 fields ≡ Some (limited (0 + n)) → at known p ≡ Some (limited (max n 1))
of_struct s known table p fields n is o all = by (either (at known p))
  where
    by : (at known p ≡ None) ⊎ ((x : ℕ) × (at known p ≡ Some x)) → at known p ≡ Some (limited (max n 1))
    by (inl none) =
        let stuck = table.whole p none fields is in
        let got : struct_in known fields ≡ Some (max (limited (0 + n)) 1) = ap (option_map (λ x. max x 1)) all in
        let clash : None ≡ Some (max (limited (0 + n)) 1) = sym stuck ∙ got in cc
    by (inr (v, some)) =
        let r = table.right p v some in
        let same : r.1 ≡ fields = some_is r.1 fields (sym r.2 ∙ is) in
        let one = one_total s fields r.0 n (subst (λ x. HaveCells s x r.0) same r.3) o in
        some ∙ ap Some (r.4 ∙ ap (λ x. limited (max x 1)) one)

mutual
  complete : (s : Structs) (known : Known) → IsTable s known → (t : Ty) (c : ℕ) → HasCells s t c → cells_in known t ≡ Some (limited c)
  complete s known table t c (HasCells.void e) = cells_out known t _ e
  complete s known table t c (HasCells.number e) = cells_out known t _ e
  complete s known table t c (HasCells.fixed {of = of} {n = n} {c = d} e o) = cells_out known t (Ty-F.Fixed of n) e ∙ ap (option_map (times n)) (complete s known table of d o) ∙ ap Some (times_limited n d)
  complete s known table t c (HasCells.slice e) = cells_out known t _ e
  complete s known table t c (HasCells.str e) = cells_out known t _ e
  complete s known table t c (HasCells.struct_ {p = p} {fields = fields} {n = n} e is o) =
      cells_out known t (Ty-F.Struct p) e ∙ of_struct s known table p fields n is o (totals_complete s known table fields n 0 0 refl o)
  complete s known table t c (HasCells.enum_ {base = base} {p = p} e o) = cells_out known t (Ty-F.Enum p base) e ∙ complete s known table base c o
  complete s known table t c (HasCells.null_ e) = cells_out known t _ e
  complete s known table t c (HasCells.empty e) = cells_out known t _ e

  totals_complete : (s : Structs) (known : Known) → IsTable s known → (fs : List Field) (n acc total : ℕ) → acc ≡ limited total → HaveCells s fs n → total_in known acc fs ≡ Some (limited (total + n))
  totals_complete s known table fs n acc total e HaveCells.none = ap Some (e ∙ ap limited (sym (add-zero total)))
  totals_complete s known table fs n acc total e (HaveCells.more {f = f} {fs = more} {c = c} {n = m} o os) =
      let sums : plus acc (limited c) ≡ limited (total + c) = ap (λ x. plus x (limited c)) e ∙ plus_limited total c in
      ap (option_and_then (λ x. total_in known (plus acc x) more)) (complete s known table f.ty c o)
      ∙ totals_complete s known table more m (plus acc (limited c)) (total + c) sums os
      ∙ ap (λ x. Some (limited x)) (add_assoc total c m)

pub answers : (s : Structs) (known : Known) (t : Ty) → IsTable s known → AreCells s t (unwrap_or (cells_in known t) 1048577)
answers s known t table = record {
  has = λ c d. ap (λ o. unwrap_or o 1048577) (complete s known table t c d);
  has_none = λ lacks. by lacks (either (cells_in known t));
}
  where
    by : ((c : ℕ) → HasCells s t c → ⊥) → (cells_in known t ≡ None) ⊎ ((x : ℕ) × (cells_in known t ≡ Some x)) → unwrap_or (cells_in known t) 1048577 ≡ 1048577
    by lacks (inl none) = ap (λ o. unwrap_or o 1048577) none
    by lacks (inr (v, some)) = let r = sound s known table.right t v some in absurd (lacks r.0 r.1)
