-- The scan for the end of a key text passes over whole key texts.
use Rattle.std.proofs.Common.{◌≡◌, ◌∙◌, refl, sym, ap, subst, ℕ, suc, ◌+◌, ◌-◌, ◌^◌, ◌<◌, ◌==◌, nat_lt, nat_le, Bool, true, false, not, ◌&&◌, List, [], ◌∷◌, ◌++◌, length, map, codes, ℤ, pos, negsuc, zero-add, length-append, arith, if◌then◌else◌, lit≤, lt_of_lt_of_le, true≢false}
use mathlib.Core.List.{append_assoc}
use Rattle.std.specs.List.{list_all, flat_map}
use Rattle.std.specs.Fmt.{decimal, signed_decimal}
use Rattle.std.proofs.lemmas.Bool.{ne_eqb, lt-ltb, leb-true, ltb-true}
use Rattle.dc_types.specs.declared.kind.Kind.{Kind}
use Rattle.dc_types.specs.declared.kind.Kind.TheVariants as kinds
use Rattle.dc_types.specs.declared.place.Step.{Step}
use Rattle.dc_types.specs.declared.place.Step.TheVariants as steps
use Rattle.dc_types.specs.declared.place.Place.{Place}
use Rattle.dc_types.specs.declared.ty.Ty.{Ty, map-Ty}
use Rattle.dc_types.specs.declared.ty.Ty.TheOpen.{Ty-F}
use Rattle.dc_types.specs.declared.ty.Ty.TheFolds.{fold-roll-Ty, ind-Ty}
use Rattle.dc_types.specs.declared.constant.CTree.{CTree, map-CTree}
use Rattle.dc_types.specs.declared.constant.CTree.TheViews.{out-CTree}
use Rattle.dc_types.specs.declared.constant.CTree.TheOpen.{CTree-F}
use Rattle.dc_types.specs.declared.constant.CTree.TheFolds.{fold-roll-CTree, ind-CTree}
use Rattle.dc_key.specs.declared.key.Form.{Form}
use Rattle.dc_key.specs.declared.key.Form.TheVariants as forms
use Rattle.dc_key.specs.declared.arg.Arg.{Arg}
use Rattle.dc_key.specs.declared.arg.Arg.TheVariants as args
use Rattle.dc_key.specs.declared.key_scan.Scan.{Scan}
use Rattle.dc_key.specs.KeyTexts.{Bytes, step_text, steps_text, place_text, kind_text, ty_text_at, ty_text, behind, joined, tree_text_at, tree_text, form_of, byte, value_text_at, value_text, arg_text, text, is_name_byte, step_fits, place_fits, has_steps, ty_fits_at, ty_fits, value_fits_at, is_byte_at, number_fits, all_true, tree_fits_at, tree_fits, arg_fits, step_keys, place_keys, ty_keys_at, ty_keys, arg_keys, IsKey, AreKeys}
use Rattle.dc_key.specs.KeyReading.{marked, scanned, key_len, outside, wrapped, number_from, is_digit}
use Rattle.dc_key.proofs.Digits.{both, together, decimal_all, decimal_number}

abbrev pub Neutral : Bytes → Type 0
Neutral t = (d : ℕ) (rest : Bytes) → key_len (outside d) (t ++ rest) ≡ length t + key_len (outside d) rest

suc_add : (a b : ℕ) → suc (a + b) ≡ suc a + b
suc_add a b = omega arith

and_false : (b : Bool) → b && false ≡ false
and_false true = refl
and_false false = refl

-- ---- bytes that are no sign of the scan

abbrev is_plain : ℕ → Bool
is_plain b = not (b == 34) && not (b == 40) && not (b == 41)

not_true : (b : Bool) → not b ≡ true → b ≡ false
not_true true h = cc
not_true false h = refl

one_plain : (d b : ℕ) (bs : Bytes) → is_plain b ≡ true → key_len (outside d) (b ∷ bs) ≡ suc (key_len (outside d) bs)
one_plain d b bs h =
    let h1 = both (not (b == 34) && not (b == 40)) (not (b == 41)) h in
    let h2 = both (not (b == 34)) (not (b == 40)) h1.0 in
    let quote = not_true (b == 34) h2.0 in let opener = not_true (b == 40) h2.1 in let closer = not_true (b == 41) h1.1 in
    let s : Scan = outside d in
    let third : Scan = record s { depth = s.depth - 1 } in
    let second : Scan = record s { depth = s.depth + 1 } in
    let first : Scan = record s { counts = true } in
    ap (λ x. if (d == 0) && x then 0 else suc (key_len (scanned s b) bs)) closer
    ∙ ap (λ x. if x then 0 else suc (key_len (scanned s b) bs)) (and_false (d == 0))
    ∙ ap (λ x. suc (key_len (if x then first else (if b == 40 then second else (if b == 41 then third else s))) bs)) quote
    ∙ ap (λ x. suc (key_len (if x then second else (if b == 41 then third else s)) bs)) opener
    ∙ ap (λ x. suc (key_len (if x then third else s) bs)) closer

neutral_nil : Neutral []
neutral_nil d rest = sym (zero-add (key_len (outside d) rest))

neutral_cons : (b : ℕ) (t : Bytes) → is_plain b ≡ true → Neutral t → Neutral (b ∷ t)
neutral_cons b t h n d rest = one_plain d b (t ++ rest) h ∙ ap suc (n d rest) ∙ suc_add (length t) (key_len (outside d) rest)

neutral_plain : (t : Bytes) → list_all is_plain t ≡ true → Neutral t
neutral_plain [] h = neutral_nil
neutral_plain (b ∷ t) h = let e = both (is_plain b) (list_all is_plain t) h in neutral_cons b t e.0 (neutral_plain t e.1)

neutral_append : (a b : Bytes) → Neutral a → Neutral b → Neutral (a ++ b)
neutral_append a b x y d rest =
    ap (key_len (outside d)) (append_assoc a b rest) ∙ x d (b ++ rest) ∙ ap (λ n. length a + n) (y d rest)
    ∙ (let e : length (a ++ b) ≡ length a + length b = length-append a b in omega arith)

opened : (d : ℕ) (bs : Bytes) → key_len (outside d) (40 ∷ bs) ≡ suc (key_len (outside (d + 1)) bs)
opened d bs = ap (λ x. if x then 0 else suc (key_len (outside (d + 1)) bs)) (and_false (d == 0))

closed : (d : ℕ) (bs : Bytes) → key_len (outside (d + 1)) (41 ∷ bs) ≡ suc (key_len (outside d) bs)
closed d bs =
    let none : (d + 1 == 0) ≡ false = ne_eqb (d + 1) 0 (λ e. absurd (omega arith)) in
    let down : d + 1 - 1 ≡ d = omega arith in
    ap (λ x. if x && true then 0 else suc (key_len (outside (d + 1 - 1)) bs)) none ∙ ap (λ n. suc (key_len (outside n) bs)) down

neutral_parens : (t : Bytes) → Neutral t → Neutral (40 ∷ (t ++ 41 ∷ []))
neutral_parens t n d rest =
    opened d ((t ++ 41 ∷ []) ++ rest)
    ∙ ap (λ w. suc (key_len (outside (d + 1)) w)) (append_assoc t (41 ∷ []) rest)
    ∙ ap suc (n (d + 1) (41 ∷ rest))
    ∙ ap (λ m. suc (length t + m)) (closed d rest)
    ∙ (let e : length (t ++ 41 ∷ []) ≡ length t + 1 = length-append t (41 ∷ []) in omega arith)

-- ---- numbers, names, strings

abbrev counting : ℕ → ℕ → Scan
counting d v = record { depth = d; left = v; counts = true }

abbrev skipping : ℕ → ℕ → Scan
skipping d n = record { depth = d; left = n; counts = false }

digit_plain : (b : ℕ) → is_digit b ≡ true → is_plain b ≡ true
unfolding is_digit
digit_plain b h =
    let e = both (nat_le 48 b) (nat_le b 57) h in
    let low = leb-true 48 b e.0 in
    together (not (b == 34) && not (b == 40)) (not (b == 41))
    (together (not (b == 34)) (not (b == 40)) (ap not (ne_eqb b 34 (λ z. absurd (omega arith)))) (ap not (ne_eqb b 40 (λ z. absurd (omega arith)))))
    (ap not (ne_eqb b 41 (λ z. absurd (omega arith))))

digit_no_colon : (b : ℕ) → is_digit b ≡ true → (b == 58) ≡ false
unfolding is_digit
digit_no_colon b h = let e = both (nat_le 48 b) (nat_le b 57) h in let high = leb-true b 57 e.1 in ne_eqb b 58 (λ z. absurd (omega arith))

all_by : (p q : ℕ → Bool) → ((b : ℕ) → p b ≡ true → q b ≡ true) → (t : Bytes) → list_all p t ≡ true → list_all q t ≡ true
all_by p q f [] h = refl
all_by p q f (b ∷ t) h = let e = both (p b) (list_all p t) h in together (q b) (list_all q t) (f b e.0) (all_by p q f t e.1)

neutral_decimal : (n : ℕ) → n < 10 ^ 64 → Neutral (decimal n)
neutral_decimal n h = neutral_plain (decimal n) (all_by is_digit is_plain digit_plain (decimal n) (decimal_all n h))

small_decimal : (n : ℕ) → nat_lt n (2 ^ 32) ≡ true → Neutral (decimal n)
small_decimal n h = neutral_decimal n (lt_of_lt_of_le (ltb-true n (2 ^ 32) h) (lit≤ tt))

pub name_not : (b c : ℕ) → is_name_byte c ≡ false → is_name_byte b ≡ true → (b == c) ≡ false
name_not b c n h = ne_eqb b c (λ e. true≢false (sym h ∙ ap is_name_byte e ∙ n))

no_name : (is_name_byte 34 ≡ false) × (is_name_byte 40 ≡ false) × (is_name_byte 41 ≡ false)
unfolding is_name_byte
no_name = (refl, refl, refl)

name_plain : (b : ℕ) → is_name_byte b ≡ true → is_plain b ≡ true
name_plain b h =
    together (not (b == 34) && not (b == 40)) (not (b == 41))
    (together (not (b == 34)) (not (b == 40)) (ap not (name_not b 34 no_name.0 h)) (ap not (name_not b 40 no_name.1 h)))
    (ap not (name_not b 41 no_name.2 h))

counts_on : (d : ℕ) (ds : Bytes) (v : ℕ) (more : Bytes) → list_all is_digit ds ≡ true → key_len (counting d v) (ds ++ more) ≡ length ds + key_len (counting d (number_from v ds)) more
counts_on d [] v more h = sym (zero-add (key_len (counting d v) more))
counts_on d (b ∷ ds) v more h =
    let e = both (is_digit b) (list_all is_digit ds) h in
    let s : Scan = counting d v in
    let plain : Scan = record s { counts = false } in
    ap (λ x. suc (key_len (if x then plain else counting d (wrapped v b)) (ds ++ more))) (digit_no_colon b e.0)
    ∙ ap suc (counts_on d ds (wrapped v b) more e.1) ∙ suc_add (length ds) (key_len (counting d (number_from (wrapped v b) ds)) more)

skips_on : (d : ℕ) (bs rest : Bytes) → key_len (skipping d (length bs)) (bs ++ rest) ≡ length bs + key_len (outside d) rest
skips_on d [] rest = sym (zero-add (key_len (outside d) rest))
skips_on d (b ∷ bs) rest =
    let n : ℕ = length bs in
    let none : (suc n == 0) ≡ false = ne_eqb (suc n) 0 (λ e. absurd (omega arith)) in
    let some : nat_lt 0 (suc n) ≡ true = lt-ltb 0 (suc n) (omega arith) in
    let down : suc n - 1 ≡ n = omega arith in
    ap (λ x. if x && (d == 0) && (b == 41) then 0 else suc (key_len (scanned (skipping d (suc n)) b) (bs ++ rest))) none
    ∙ ap (λ x. suc (key_len (if x then skipping d (suc n - 1) else marked (skipping d (suc n)) b) (bs ++ rest))) some
    ∙ ap (λ m. suc (key_len (skipping d m) (bs ++ rest))) down
    ∙ ap suc (skips_on d bs rest) ∙ suc_add n (key_len (outside d) rest)

quoted : (d : ℕ) (bs : Bytes) → key_len (outside d) (34 ∷ bs) ≡ suc (key_len (counting d 0) bs)
quoted d bs = ap (λ x. if x then 0 else suc (key_len (counting d 0) bs)) (and_false (d == 0))

pub neutral_string : (n : ℕ) (bs : Bytes) → n ≡ length bs → n < 2 ^ 128 → Neutral (34 ∷ (decimal n ++ 58 ∷ bs))
neutral_string n bs is h d rest =
    let big = lt_of_lt_of_le h (lit≤ tt) in
    let tail : Bytes = 58 ∷ (bs ++ rest) in
    quoted d ((decimal n ++ 58 ∷ bs) ++ rest)
    ∙ ap (λ w. suc (key_len (counting d 0) w)) (append_assoc (decimal n) (58 ∷ bs) rest)
    ∙ ap suc (counts_on d (decimal n) 0 tail (decimal_all n big))
    ∙ ap (λ v. suc (length (decimal n) + key_len (counting d v) tail)) (decimal_number n h ∙ is)
    ∙ ap (λ m. suc (length (decimal n) + suc m)) (skips_on d bs rest)
    ∙ (let e : length (decimal n ++ 58 ∷ bs) ≡ length (decimal n) + suc (length bs) = length-append (decimal n) (58 ∷ bs) in omega arith)

-- ---- places

abbrev pub Each : List Bytes → Type 0
Each [] = Unit {0}
Each (k ∷ ks) = Neutral k × Each ks

pub each_left : (a b : List Bytes) → Each (a ++ b) → Each a
each_left [] b h = tt
each_left (k ∷ a) b h = (h.0, each_left a b h.1)

pub each_right : (a b : List Bytes) → Each (a ++ b) → Each b
each_right [] b h = h
each_right (k ∷ a) b h = each_right a b h.1

neutral_step : (s : Step) → step_fits s ≡ true → Each (step_keys s) → Neutral (step_text s)
neutral_step (steps.At n) h e = neutral_cons 58 (decimal n) refl (small_decimal n h)
neutral_step (steps.Round n) h e = neutral_cons 35 (decimal n) refl (small_decimal n h)
neutral_step (steps.With key) h e = neutral_cons 33 (40 ∷ (key ++ 41 ∷ [])) refl (neutral_parens key e.0)

neutral_steps : (all : List Step) → list_all step_fits all ≡ true → Each (flat_map step_keys all) → Neutral (steps_text all)
neutral_steps [] h e = neutral_nil
neutral_steps (s ∷ all) h e =
    let f = both (step_fits s) (list_all step_fits all) h in
    neutral_append (step_text s) (steps_text all) (neutral_step s f.0 (each_left (step_keys s) (flat_map step_keys all) e)) (neutral_steps all f.1 (each_right (step_keys s) (flat_map step_keys all) e))

neutral_place : (p : Place) → place_fits p ≡ true → Each (place_keys p) → Neutral (place_text p)
neutral_place p h e =
    let f = both (list_all is_name_byte p.module) (list_all step_fits p.steps) h in
    neutral_append p.module (steps_text p.steps) (neutral_plain p.module (all_by is_name_byte is_plain name_plain p.module f.0)) (neutral_steps p.steps f.1 e)

-- ---- types

neutral_kind : (k : Kind) → Neutral (kind_text k)
neutral_kind kinds.Bool = neutral_plain (codes "bool") refl
neutral_kind kinds.I8 = neutral_plain (codes "byte") refl
neutral_kind kinds.U8 = neutral_plain (codes "ubyte") refl
neutral_kind kinds.I16 = neutral_plain (codes "short") refl
neutral_kind kinds.U16 = neutral_plain (codes "ushort") refl
neutral_kind kinds.I32 = neutral_plain (codes "int") refl
neutral_kind kinds.U32 = neutral_plain (codes "uint") refl
neutral_kind kinds.I64 = neutral_plain (codes "long") refl
neutral_kind kinds.U64 = neutral_plain (codes "ulong") refl
neutral_kind kinds.Char = neutral_plain (codes "char") refl

abbrev Skips : Ty → Type 0
Skips t = ty_fits t ≡ true → Each (ty_keys t) → Neutral (ty_text t)

abbrev Skipped : Type 0
Skipped = (t : Ty) × Skips t

abbrev bare : Ty-F Skipped → Ty-F Ty
bare x = map-Ty Skipped Ty (λ p. p.0) x

layer_skips : (y : Ty-F Skipped) → ty_fits_at (map-Ty Ty Bool ty_fits (bare y)) ≡ true → Each (ty_keys_at (map-Ty Ty (List Bytes) ty_keys (bare y))) → Neutral (ty_text_at (map-Ty Ty Bytes ty_text (bare y)))
layer_skips Ty-F.Void h e = neutral_plain (codes "void") refl
layer_skips (Ty-F.Int k) h e = neutral_kind k
layer_skips (Ty-F.Fixed of n) h e =
    let f = both (ty_fits of.0) (nat_lt n (2 ^ 32)) h in
    neutral_append (ty_text of.0) (91 ∷ (decimal n ++ 93 ∷ [])) (of.1 f.0 e)
    (neutral_cons 91 (decimal n ++ 93 ∷ []) refl (neutral_append (decimal n) (93 ∷ []) (small_decimal n f.1) (neutral_plain (93 ∷ []) refl)))
layer_skips (Ty-F.Slice of) h e = neutral_append (ty_text of.0) (91 ∷ 93 ∷ []) (of.1 h e) (neutral_plain (91 ∷ 93 ∷ []) refl)
layer_skips Ty-F.Str h e = neutral_plain (codes "string") refl
layer_skips (Ty-F.Struct p) h e = neutral_place p (both (place_fits p) (has_steps p.steps) h).0 e
layer_skips (Ty-F.Enum p base) h e =
    let f = both (place_fits p) (ty_fits base.0) h in
    neutral_cons 36 (place_text p ++ 60 ∷ (ty_text base.0 ++ 62 ∷ [])) refl
    (neutral_append (place_text p) (60 ∷ (ty_text base.0 ++ 62 ∷ [])) (neutral_place p f.0 (each_left (place_keys p) (ty_keys base.0) e))
    (neutral_cons 60 (ty_text base.0 ++ 62 ∷ []) refl (neutral_append (ty_text base.0) (62 ∷ []) (base.1 f.1 (each_right (place_keys p) (ty_keys base.0) e)) (neutral_plain (62 ∷ []) refl))))
layer_skips Ty-F.NullLit h e = neutral_plain (codes "null") refl
layer_skips Ty-F.EmptyLit h e = neutral_plain (91 ∷ 93 ∷ []) refl

neutral_ty : (t : Ty) → Skips t
neutral_ty = ind-Ty Skips (λ x y is h e.
    let layer = subst (λ z. ty_fits_at (map-Ty Ty Bool ty_fits z) ≡ true → Each (ty_keys_at (map-Ty Ty (List Bytes) ty_keys z)) → Neutral (ty_text_at (map-Ty Ty Bytes ty_text z))) is (layer_skips y) in
    subst Neutral (sym (fold-roll-Ty Bytes ty_text_at x)) (layer (sym (fold-roll-Ty Bool ty_fits_at x) ∙ h) (subst Each (fold-roll-Ty (List Bytes) ty_keys_at x) e)))

-- ---- values

abbrev pub fits_z : ℤ → Type 0
fits_z z = number_fits z ≡ true

neutral_signed : (z : ℤ) → number_fits z ≡ true → Neutral (signed_decimal z)
neutral_signed (pos n) h = neutral_decimal n (lt_of_lt_of_le (ltb-true n (2 ^ 127) h) (lit≤ tt))
neutral_signed (negsuc n) h = neutral_cons 45 (decimal (suc n)) refl (neutral_decimal (suc n) (lt_of_lt_of_le (up n (ltb-true n (2 ^ 127) h)) (lit≤ tt)))
  where
    up : (m : ℕ) → m < 2 ^ 127 → suc m < 2 ^ 127 + 1
    up m small = omega arith

abbrev Passes : CTree → Type 0
Passes t = tree_fits t ≡ true → Neutral (tree_text t)

abbrev Passed : Type 0
Passed = (t : CTree) × Passes t

abbrev bare_trees : List Passed → List CTree
bare_trees all = map (λ p. p.0) all

abbrev bare_tree : CTree-F Passed → CTree-F CTree
bare_tree x = map-CTree Passed CTree (λ p. p.0) x

comma : Neutral (44 ∷ [])
comma = neutral_plain (44 ∷ []) refl

neutral_behind : (ts : List Passed) → all_true (map tree_fits (bare_trees ts)) ≡ true → Neutral (behind (44 ∷ []) (map tree_text (bare_trees ts)))
neutral_behind [] h = neutral_nil
neutral_behind (t ∷ ts) h =
    let f = both (tree_fits t.0) (all_true (map tree_fits (bare_trees ts))) h in
    neutral_append ((44 ∷ []) ++ tree_text t.0) (behind (44 ∷ []) (map tree_text (bare_trees ts))) (neutral_append (44 ∷ []) (tree_text t.0) comma (t.1 f.0)) (neutral_behind ts f.1)

neutral_joined : (ts : List Passed) → all_true (map tree_fits (bare_trees ts)) ≡ true → Neutral (joined (44 ∷ []) (map tree_text (bare_trees ts)))
neutral_joined [] h = neutral_nil
neutral_joined (t ∷ ts) h =
    let f = both (tree_fits t.0) (all_true (map tree_fits (bare_trees ts))) h in
    neutral_append (tree_text t.0) (behind (44 ∷ []) (map tree_text (bare_trees ts))) (t.1 f.0) (neutral_behind ts f.1)

in_signs : (a b : ℕ) (t : Bytes) → is_plain a ≡ true → is_plain b ≡ true → Neutral t → Neutral (a ∷ (t ++ b ∷ []))
in_signs a b t ha hb n = neutral_cons a (t ++ b ∷ []) ha (neutral_append t (b ∷ []) n (neutral_plain (b ∷ []) (together (is_plain b) true hb refl)))

layer_passes : (y : CTree-F Passed) → tree_fits_at (map-CTree CTree Bool tree_fits (bare_tree y)) ≡ true → Neutral (tree_text_at (map-CTree CTree Bytes tree_text (bare_tree y)))
layer_passes (CTree-F.Num z) h = neutral_signed z h
layer_passes (CTree-F.List ts) h = in_signs 91 93 (joined (44 ∷ []) (map tree_text (bare_trees ts))) refl refl (neutral_joined ts h)

neutral_tree : (t : CTree) → Passes t
neutral_tree = ind-CTree Passes (λ x y is h.
    let layer = subst (λ z. tree_fits_at (map-CTree CTree Bool tree_fits z) ≡ true → Neutral (tree_text_at (map-CTree CTree Bytes tree_text z))) is (layer_passes y) in
    subst Neutral (sym (fold-roll-CTree Bytes tree_text_at x)) (layer (sym (fold-roll-CTree Bool tree_fits_at x) ∙ h)))

neutral_more : (ts : List CTree) → list_all tree_fits ts ≡ true → Neutral (behind (44 ∷ []) (map tree_text ts))
neutral_more [] h = neutral_nil
neutral_more (t ∷ ts) h =
    let f = both (tree_fits t) (list_all tree_fits ts) h in
    neutral_append ((44 ∷ []) ++ tree_text t) (behind (44 ∷ []) (map tree_text ts)) (neutral_append (44 ∷ []) (tree_text t) comma (neutral_tree t f.0)) (neutral_more ts f.1)

neutral_trees : (ts : List CTree) → list_all tree_fits ts ≡ true → Neutral (joined (44 ∷ []) (map tree_text ts))
neutral_trees [] h = neutral_nil
neutral_trees (t ∷ ts) h =
    let f = both (tree_fits t) (list_all tree_fits ts) h in
    neutral_append (tree_text t) (behind (44 ∷ []) (map tree_text ts)) (neutral_tree t f.0) (neutral_more ts f.1)

pub length_map : {A B : Type 0} (f : A → B) (xs : List A) → length xs ≡ length (map f xs)
length_map f [] = refl
length_map f (x ∷ xs) = ap suc (length_map f xs)

neutral_value : (form : Form) (tree : CTree-F CTree) → value_fits_at form tree ≡ true → Neutral (value_text_at form tree)
neutral_value forms.ANumber (CTree-F.Num z) h = neutral_signed z h
neutral_value forms.ANumber (CTree-F.List ts) h = cc
neutral_value forms.AString (CTree-F.Num z) h = cc
neutral_value forms.AString (CTree-F.List ts) h =
    let f = both (list_all (λ t. is_byte_at (out-CTree t)) ts) (nat_lt (length ts) (2 ^ 64)) h in
    neutral_string (length ts) (map byte ts) (length_map byte ts) (lt_of_lt_of_le (ltb-true (length ts) (2 ^ 64) f.1) (lit≤ tt))
neutral_value forms.AList (CTree-F.Num z) h = cc
neutral_value forms.AList (CTree-F.List ts) h = in_signs 91 93 (joined (44 ∷ []) (map tree_text ts)) refl refl (neutral_trees ts h)
neutral_value forms.AStruct (CTree-F.Num z) h = cc
neutral_value forms.AStruct (CTree-F.List ts) h = in_signs 123 125 (joined (44 ∷ []) (map tree_text ts)) refl refl (neutral_trees ts h)

-- ---- arguments and key texts

neutral_arg : (a : Arg) → arg_fits a ≡ true → Each (arg_keys a) → Neutral (arg_text a)
neutral_arg (args.OfType t) h e = neutral_ty t h e
neutral_arg (args.OfValue c) h e =
    let f = both (ty_fits c.ty) (value_fits_at (form_of c.ty) (out-CTree c.tree)) h in
    neutral_append (ty_text c.ty) (61 ∷ value_text c) (neutral_ty c.ty f.0 e) (neutral_cons 61 (value_text c) refl (neutral_value (form_of c.ty) (out-CTree c.tree) f.1))
neutral_arg (args.OfSymbol p) h e = neutral_cons 38 (place_text p) refl (neutral_place p h e)

neutral_args_behind : (all : List Arg) → list_all arg_fits all ≡ true → Each (flat_map arg_keys all) → Neutral (behind (44 ∷ 32 ∷ []) (map arg_text all))
neutral_args_behind [] h e = neutral_nil
neutral_args_behind (a ∷ all) h e =
    let f = both (arg_fits a) (list_all arg_fits all) h in
    neutral_append ((44 ∷ 32 ∷ []) ++ arg_text a) (behind (44 ∷ 32 ∷ []) (map arg_text all))
    (neutral_append (44 ∷ 32 ∷ []) (arg_text a) (neutral_plain (44 ∷ 32 ∷ []) refl) (neutral_arg a f.0 (each_left (arg_keys a) (flat_map arg_keys all) e)))
    (neutral_args_behind all f.1 (each_right (arg_keys a) (flat_map arg_keys all) e))

neutral_args : (all : List Arg) → list_all arg_fits all ≡ true → Each (flat_map arg_keys all) → Neutral (text all)
neutral_args [] h e = neutral_nil
neutral_args (a ∷ all) h e =
    let f = both (arg_fits a) (list_all arg_fits all) h in
    neutral_append (arg_text a) (behind (44 ∷ 32 ∷ []) (map arg_text all)) (neutral_arg a f.0 (each_left (arg_keys a) (flat_map arg_keys all) e)) (neutral_args_behind all f.1 (each_right (arg_keys a) (flat_map arg_keys all) e))

mutual
  pub neutral_key : (k : Bytes) → IsKey k → Neutral k
  neutral_key k (IsKey.key all is h keys) = subst Neutral (sym is) (neutral_args all h (neutral_keys (flat_map arg_keys all) keys))

  pub neutral_keys : (ks : List Bytes) → AreKeys ks → Each ks
  neutral_keys ks AreKeys.none = tt
  neutral_keys ks (AreKeys.more {k = k} {ks = more} one all) = (neutral_key k one, neutral_keys more all)
