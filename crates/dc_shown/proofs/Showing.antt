-- Texts of types and values in pieces, one layer at a time.
use Rattle.std.proofs.Common.{◌≡◌, ◌∙◌, refl, sym, ap, ap₂, subst, ℕ, zero, suc, ◌+◌, ◌-◌, ◌<◌, ◌≤◌, Bool, true, false, List, [], ◌∷◌, ◌++◌, map, length, take, drop, get_or, drop-cons, add-one, append-nil, append_assoc, arith, ℤ, pos, negsuc, cond}
use Rattle.std.specs.Prelude.{codes, Some, None}
use Rattle.std.specs.List.{slice_get}
use Rattle.std.proofs.lemmas.Option.{slice_get-get_or}
use Rattle.dc_types.specs.declared.place.Step.{Step}
use Rattle.dc_types.specs.declared.place.Place.{Place}
use Rattle.dc_types.specs.declared.ty.Ty.{Ty, map-Ty}
use Rattle.dc_types.specs.declared.ty.Ty.TheVariants as ty
use Rattle.dc_types.specs.declared.ty.Ty.TheVariants.{rolls-Enum, rolls-Fixed, rolls-NullLit, rolls-Slice, rolls-Str, rolls-Struct}
use Rattle.dc_types.specs.declared.ty.Ty.TheViews.{out-Ty, roll-Ty, out-roll-Ty, roll-out-Ty}
use Rattle.dc_types.specs.declared.ty.Ty.TheOpen.{Ty-F}
use Rattle.dc_types.specs.declared.ty.Ty.TheFolds.{fold-roll-Ty, ind-Ty}
use Rattle.dc_types.specs.declared.constant.CTree.{CTree, map-CTree}
use Rattle.dc_types.specs.declared.constant.CTree.TheVariants as tree
use Rattle.dc_types.specs.declared.constant.CTree.TheVariants.{rolls-Num, rolls-List}
use Rattle.dc_types.specs.declared.constant.CTree.TheViews.{out-CTree, roll-out-CTree}
use Rattle.dc_types.specs.declared.constant.CTree.TheOpen.{CTree-F}
use Rattle.dc_types.specs.declared.constant.CTree.TheFolds.{fold-roll-CTree}
use Rattle.dc_layout.specs.declared.layout.Field.{Field}
use Rattle.dc_shown.specs.declared.shown.Piece.TheVariants as pieces
use Rattle.dc_key.specs.KeyTexts as keys
use Rattle.dc_shown.specs.Told.{Told}
use Rattle.dc_shown.specs.Shown as shown
use Rattle.dc_key.specs.KeyReading.{args_in}
use Rattle.dc_key.proofs.Reading.{is_read}

-- ---- lists that grow step by step

pub three_said : {A : Type 0} (old a b c o1 o2 o3 : List A) → o1 ≡ old ++ a → o2 ≡ o1 ++ b → o3 ≡ o2 ++ c → o3 ≡ old ++ (a ++ (b ++ c))
three_said old a b c o1 o2 o3 p q r =
    r ∙ ap (λ v. v ++ c) q ∙ ap (λ v. (v ++ b) ++ c) p ∙ append_assoc (old ++ a) b c ∙ append_assoc old a (b ++ c)

pub four_said : {A : Type 0} (old a b c d o1 o2 o3 o4 : List A) → o1 ≡ old ++ a → o2 ≡ o1 ++ b → o3 ≡ o2 ++ c → o4 ≡ o3 ++ d → o4 ≡ old ++ (a ++ (b ++ (c ++ d)))
four_said old a b c d o1 o2 o3 o4 p q r s =
    s ∙ ap (λ v. v ++ d) (three_said old a b c o1 o2 o3 p q r) ∙ append_assoc old (a ++ (b ++ c)) d ∙ ap (λ v. old ++ v) (append_assoc a (b ++ c) d ∙ ap (λ v. a ++ v) (append_assoc b c d))

-- ---- types

pub of-NullLit : shown.of_ty ty.NullLit ≡ shown.said (codes "typeof(null)")
of-NullLit = ap shown.of_ty (sym rolls-NullLit) ∙ fold-roll-Ty shown.Pieces shown.ty_at Ty-F.NullLit

-- ---- the type without enums

abbrev bare_step : Ty-F (Ty × Ty) → Ty × Ty
bare_step x = (roll-Ty (map-Ty (Ty × Ty) Ty (λ t. t.0) x), shown.bare_at x)

abbrev IsFirst : Ty → Type 0
IsFirst t = (shown.with_bare t).0 ≡ t

abbrev Firsts : Type 0
Firsts = (t : Ty) × IsFirst t

firsts : (x : Ty-F Firsts) → map-Ty (Ty × Ty) Ty (λ t. t.0) (map-Ty Ty (Ty × Ty) shown.with_bare (map-Ty Firsts Ty (λ p. p.0) x)) ≡ map-Ty Firsts Ty (λ p. p.0) x
firsts (Ty-F.Fixed of n) = ap (λ t. Ty-F.Fixed t n) of.1
firsts (Ty-F.Slice of) = ap Ty-F.Slice of.1
firsts (Ty-F.Enum p base) = ap (Ty-F.Enum p) base.1
firsts x = refl

pub first_is : (t : Ty) → IsFirst t
first_is = ind-Ty IsFirst (λ x y is.
    ap (λ t. t.0) (fold-roll-Ty (Ty × Ty) bare_step x)
    ∙ subst (λ v. roll-Ty (map-Ty (Ty × Ty) Ty (λ t. t.0) (map-Ty Ty (Ty × Ty) shown.with_bare v)) ≡ roll-Ty v) is (ap roll-Ty (firsts y)))

pub bare-enum : (p : Place) (base : Ty) → shown.bare (ty.Enum p base) ≡ shown.bare base
bare-enum p base = ap shown.bare (sym (rolls-Enum p base)) ∙ ap (λ t. t.1) (fold-roll-Ty (Ty × Ty) bare_step (Ty-F.Enum p base))

abbrev pub is_enum : Ty-F Ty → Bool
is_enum (Ty-F.Enum p base) = true
is_enum _ = false

bare_layer : (x : Ty-F Ty) → is_enum x ≡ false → shown.bare_at (map-Ty Ty (Ty × Ty) shown.with_bare x) ≡ roll-Ty x
bare_layer (Ty-F.Enum p base) e = absurd (cc)
bare_layer (Ty-F.Fixed of n) e = ap (λ t. roll-Ty (Ty-F.Fixed t n)) (first_is of)
bare_layer (Ty-F.Slice of) e = ap (λ t. roll-Ty (Ty-F.Slice t)) (first_is of)
bare_layer x e = refl

pub bare-other : (t : Ty) → is_enum (out-Ty t) ≡ false → shown.bare t ≡ t
bare-other t e =
    ap shown.bare (sym (roll-out-Ty t))
    ∙ ap (λ t. t.1) (fold-roll-Ty (Ty × Ty) bare_step (out-Ty t))
    ∙ bare_layer (out-Ty t) e
    ∙ roll-out-Ty t

pub not_enum : (t : Ty) → ((p : Place) (base : Ty) → t ≡ ty.Enum p base → ⊥) → is_enum (out-Ty t) ≡ false
not_enum t n = by (out-Ty t) refl
  where
    by : (x : Ty-F Ty) → out-Ty t ≡ x → is_enum x ≡ false
    by (Ty-F.Enum p base) e = absurd (n p base (sym (roll-out-Ty t) ∙ ap roll-Ty e ∙ rolls-Enum p base))
    by x e = refl

-- ---- values

pub of_number : (told : Told) (t : Ty) (z : ℤ) → shown.of_tree told t (tree.Num z) ≡ shown.said (shown.number_at (out-Ty (shown.bare t)) z)
of_number told t z = ap (λ x. (shown.part told x).of_type t) (sym (rolls-Num z)) ∙ ap (λ p. p.of_type t) (fold-roll-CTree shown.Part (shown.part_at told) (CTree-F.Num z))

pub of_list : (told : Told) (t : Ty) (trees : List CTree) → shown.of_tree told t (tree.List trees) ≡ shown.list_at told (out-Ty (shown.bare t)) (map (shown.part told) trees)
of_list told t trees = ap (λ x. (shown.part told x).of_type t) (sym (rolls-List trees)) ∙ ap (λ p. p.of_type t) (fold-roll-CTree shown.Part (shown.part_at told) (CTree-F.List trees))

byte_layer : (told : Told) (x : CTree-F CTree) → shown.byte_at (map-CTree CTree shown.Part (shown.part told) x) ≡ keys.byte_at (map-CTree CTree ℕ keys.byte x)
byte_layer told (CTree-F.Num z) = by z
  where
    by : (z : ℤ) → shown.byte_at (CTree-F.Num z) ≡ keys.byte_at (CTree-F.Num z)
    by z = elim z as (λ z. shown.byte_at (CTree-F.Num z) ≡ keys.byte_at (CTree-F.Num z)) [ pos n ↦ refl | negsuc n ↦ refl ]
byte_layer told (CTree-F.List trees) = refl

byte_is : (told : Told) (t : CTree) → (shown.part told t).as_byte ≡ keys.byte t
byte_is told t =
    ap (λ x. (shown.part told x).as_byte) (sym (roll-out-CTree t))
    ∙ ap (λ p. p.as_byte) (fold-roll-CTree shown.Part (shown.part_at told) (out-CTree t))
    ∙ byte_layer told (out-CTree t)
    ∙ sym (fold-roll-CTree ℕ keys.byte_at (out-CTree t))
    ∙ ap keys.byte (roll-out-CTree t)

pub bytes_are : (told : Told) (trees : List CTree) → map (λ p. p.as_byte) (map (shown.part told) trees) ≡ map keys.byte trees
bytes_are told [] = refl
bytes_are told (t ∷ trees) = ap₂ (λ v w. v ∷ w) (byte_is told t) (bytes_are told trees)

pub string_is : (told : Told) (trees : List CTree) → shown.string (map (shown.part told) trees) ≡ shown.said (shown.quoted (map keys.byte trees))
string_is told trees = ap (λ v. shown.said (shown.quoted v)) (bytes_are told trees)

-- ---- lists, by the type

out_of : (t : Ty) (x : Ty-F Ty) → roll-Ty x ≡ t → out-Ty t ≡ x
out_of t x e = ap out-Ty (sym e) ∙ out-roll-Ty x

pub list-Str : (told : Told) (parts : List shown.Part) → shown.list_at told (out-Ty ty.Str) parts ≡ shown.string parts
list-Str told parts = ap (λ x. shown.list_at told x parts) (out_of ty.Str Ty-F.Str rolls-Str)

pub list-Fixed : (told : Told) (of : Ty) (n : ℕ) (parts : List shown.Part) → shown.list_at told (out-Ty (ty.Fixed of n)) parts ≡ shown.array of parts
list-Fixed told of n parts = ap (λ x. shown.list_at told x parts) (out_of (ty.Fixed of n) (Ty-F.Fixed of n) (rolls-Fixed of n))

pub list-Slice : (told : Told) (of : Ty) (parts : List shown.Part) → shown.list_at told (out-Ty (ty.Slice of)) parts ≡ shown.array of parts
list-Slice told of parts = ap (λ x. shown.list_at told x parts) (out_of (ty.Slice of) (Ty-F.Slice of) (rolls-Slice of))

pub list-Struct : (told : Told) (p : Place) (parts : List shown.Part) → shown.list_at told (out-Ty (ty.Struct p)) parts ≡ (pieces.Name p ∷ []) ++ shown.said (40 ∷ []) ++ shown.joined (shown.by_fields (told.fields p) parts) ++ shown.said (41 ∷ [])
list-Struct told p parts = ap (λ x. shown.list_at told x parts) (out_of (ty.Struct p) (Ty-F.Struct p) (rolls-Struct p))

pub array_string : (told : Told) (of : Ty) (trees : List CTree) → shown.is_char of ≡ true → shown.array of (map (shown.part told) trees) ≡ shown.said (shown.quoted (map keys.byte trees))
array_string told of trees e = ap (λ b. cond b (shown.string (map (shown.part told) trees)) (shown.list (map (λ p. p.of_type of) (map (shown.part told) trees)))) e ∙ string_is told trees

-- the parts, each as a value of one type
pub parts_of : (told : Told) (of : Ty) (trees : List CTree) → map (λ p. p.of_type of) (map (shown.part told) trees) ≡ map (shown.of_tree told of) trees
parts_of told of [] = refl
parts_of told of (t ∷ trees) = ap (λ v. shown.of_tree told of t ∷ v) (parts_of told of trees)

-- ---- the fields of a struct, as a loop adds them

pub fields_more : (told : Told) (rest : List CTree) (i : ℕ) (x : CTree) (left after_left : List Field) (before pushed after whole : shown.Pieces) → i < length rest → x ≡ get_or rest i x
    → before ++ shown.behind (shown.by_fields left (map (shown.part told) (drop i rest))) ≡ whole → pushed ≡ before ++ shown.said (44 ∷ 32 ∷ []) → after ≡ pushed ++ shown.of_tree told (shown.first_ty left) x → after_left ≡ drop 1 left
    → after ++ shown.behind (shown.by_fields after_left (map (shown.part told) (drop (i + 1) rest))) ≡ whole
fields_more told rest i x left after_left before pushed after whole h e b p a l =
    let mark = shown.said (44 ∷ 32 ∷ []) in
    let this = shown.of_tree told (shown.first_ty left) x in
    let more = shown.behind (shown.by_fields (drop 1 left) (map (shown.part told) (drop (suc i) rest))) in
    let cut : drop i rest ≡ x ∷ drop (suc i) rest = drop-cons rest i x h ∙ ap (λ v. v ∷ drop (suc i) rest) (sym e) in
    ap₂ (λ s k. s ++ shown.behind (shown.by_fields after_left (map (shown.part told) (drop k rest)))) (a ∙ ap (λ t. t ++ this) p) (add-one i)
    ∙ ap (λ v. ((before ++ mark) ++ this) ++ shown.behind (shown.by_fields v (map (shown.part told) (drop (suc i) rest)))) l
    ∙ ap (λ t. t ++ more) (append_assoc before mark this)
    ∙ append_assoc before (mark ++ this) more
    ∙ sym (ap (λ v. before ++ shown.behind (shown.by_fields left (map (shown.part told) v))) cut)
    ∙ b

-- ---- texts with `, ` between each two, as a loop adds them

behind_suc : {A : Type 0} (f : A → shown.Pieces) (xs : List A) (i : ℕ) (x : A) → i < length xs → x ≡ get_or xs i x → shown.behind (map f (take (suc i) xs)) ≡ shown.behind (map f (take i xs)) ++ (shown.said (44 ∷ 32 ∷ []) ++ f x)
behind_suc f [] i x h e = absurd (omega arith)
behind_suc f (y ∷ ys) zero x h e = ap (λ z. shown.said (44 ∷ 32 ∷ []) ++ f z ++ []) (sym e) ∙ append-nil (shown.said (44 ∷ 32 ∷ []) ++ f x)
behind_suc f (y ∷ ys) (suc i) x h e = ap (λ t. shown.said (44 ∷ 32 ∷ []) ++ f y ++ t) (behind_suc f ys i x (omega arith) e) ∙ sym (append_assoc (shown.said (44 ∷ 32 ∷ []) ++ f y) (shown.behind (map f (take i ys))) (shown.said (44 ∷ 32 ∷ []) ++ f x))

pub behind_more : {A : Type 0} (f : A → shown.Pieces) (xs : List A) (i : ℕ) (x : A) (start before pushed after : shown.Pieces) → i < length xs → x ≡ get_or xs i x
    → before ≡ start ++ shown.behind (map f (take i xs)) → pushed ≡ before ++ shown.said (44 ∷ 32 ∷ []) → after ≡ pushed ++ f x → after ≡ start ++ shown.behind (map f (take (i + 1) xs))
behind_more f xs i x start before pushed after h e b p a =
    let mark = shown.said (44 ∷ 32 ∷ []) in
    a ∙ ap (λ t. t ++ f x) (p ∙ ap (λ t. t ++ mark) b)
    ∙ ap (λ t. t ++ f x) (append_assoc start (shown.behind (map f (take i xs))) mark)
    ∙ append_assoc start (shown.behind (map f (take i xs)) ++ mark) (f x)
    ∙ ap (λ t. start ++ t) (append_assoc (shown.behind (map f (take i xs))) mark (f x) ∙ sym (behind_suc f xs i x h e) ∙ ap (λ n. shown.behind (map f (take n xs))) (sym (add-one i)))

-- ---- names

pub last_some : (all : List Step) (last : Step) → Some last ≡ slice_get all (length all - 1) → shown.step_key last ≡ shown.last_key all
last_some [] last e = absurd (cc)
last_some (s ∷ []) last e =
    let back : length (s ∷ []) - 1 ≡ 0 = omega arith in
    let same : Some last ≡ Some s = e ∙ ap (slice_get (s ∷ [])) back in
    let is : last ≡ s = cc in
    ap shown.step_key is
last_some (s ∷ t ∷ all) last e =
    let back : length (s ∷ t ∷ all) - 1 ≡ suc (length (t ∷ all) - 1) = omega arith in
    last_some (t ∷ all) last (e ∙ ap (slice_get (s ∷ t ∷ all)) back)

pub last_none : (all : List Step) → None ≡ slice_get all (length all - 1) → [] ≡ shown.last_key all
last_none [] e = refl
last_none (s ∷ all) e =
    let some : slice_get (s ∷ all) (length (s ∷ all) - 1) ≡ Some (get_or (s ∷ all) (length (s ∷ all) - 1) s) = slice_get-get_or (s ∷ all) (length (s ∷ all) - 1) s (omega arith) in
    absurd (cc)

pub shown_plain : (told : Told) (n : ℕ) (p : Place) → told.is_instance p ≡ false → shown.shown told n p ≡ told.name p
unfolding shown.shown
shown_plain told zero p e = refl
shown_plain told (suc n) p e = ap (λ t. cond t (told.name p ++ (33 ∷ 40 ∷ (shown.text (shown.shown told n) (shown.arguments told p) ++ 41 ∷ []))) (told.name p)) e

pub shown_instance : (told : Told) (n : ℕ) (p : Place) → 0 < n → told.is_instance p ≡ true → shown.shown told n p ≡ told.name p ++ (33 ∷ 40 ∷ (shown.text (shown.shown told (n - 1)) (shown.arguments told p) ++ 41 ∷ []))
unfolding shown.shown
shown_instance told zero p h e = absurd (omega arith)
shown_instance told (suc n) p h e =
    let less : n ≡ suc n - 1 = omega arith in
    ap (λ t. cond t (told.name p ++ (33 ∷ 40 ∷ (shown.text (shown.shown told n) (shown.arguments told p) ++ 41 ∷ []))) (told.name p)) e
    ∙ ap (λ k. told.name p ++ (33 ∷ 40 ∷ (shown.text (shown.shown told k) (shown.arguments told p) ++ 41 ∷ []))) less

pub shown_at_0 : (told : Told) (p : Place) → shown.shown told 0 p ≡ told.name p
unfolding shown.shown
shown_at_0 told p = refl

pub instance_said : (told : Told) (n : ℕ) (p : Place) (old o1 o2 o3 o4 : keys.Bytes) → 0 < n → told.is_instance p ≡ true → o1 ≡ old ++ told.name p → o2 ≡ o1 ++ (33 ∷ 40 ∷ []) → o3 ≡ o2 ++ shown.text (shown.shown told (n - 1)) (shown.arguments told p) → o4 ≡ o3 ++ (41 ∷ []) → o4 ≡ old ++ shown.shown told n p
instance_said told n p old o1 o2 o3 o4 h e a b c d =
    four_said old (told.name p) (33 ∷ 40 ∷ []) (shown.text (shown.shown told (n - 1)) (shown.arguments told p)) (41 ∷ []) o1 o2 o3 o4 a b c d
    ∙ ap (λ v. old ++ v) (sym (shown_instance told n p h e))

-- ---- the limit

abbrev full : Told → ℕ → Place → keys.Bytes
full told n p = told.name p ++ (33 ∷ 40 ∷ (shown.text (shown.shown told n) (shown.arguments told p) ++ 41 ∷ []))

by_instance : {P : Type 0} (b : Bool) → (b ≡ true → P) → (b ≡ false → P) → P
by_instance true f g = f refl
by_instance false f g = g refl

mutual
  name_settles : (told : Told) {n : ℕ} {p : Place} → shown.NamesAt told n p → (m : ℕ) → n ≤ m → shown.shown told m p ≡ shown.shown told n p
  name_settles told {n = n} {p = p} (shown.plain e) m h = shown_plain told m p e ∙ sym (shown_plain told n p e)
  name_settles told {p = p} (shown.inst {n = n} inner) m h =
      by_instance (told.is_instance p)
      (λ e.
      let low : n ≤ m - 1 = omega arith in
      let back : suc n - 1 ≡ n = omega arith in
      shown_instance told m p (omega arith) e
      ∙ ap (λ t. told.name p ++ (33 ∷ 40 ∷ (t ++ 41 ∷ []))) (text_settles told inner (m - 1) low)
      ∙ sym (shown_instance told (suc n) p (omega arith) e ∙ ap (λ k. full told k p) back))
      (λ e. shown_plain told m p e ∙ sym (shown_plain told (suc n) p e))

  text_settles : (told : Told) {n : ℕ} {all : shown.Pieces} → shown.NamesIn told n all → (m : ℕ) → n ≤ m → shown.text (shown.shown told m) all ≡ shown.text (shown.shown told n) all
  text_settles told shown.none m h = refl
  text_settles told (shown.bytes {b = b} rest) m h = ap (λ t. b ++ t) (text_settles told rest m h)
  text_settles told (shown.name at rest) m h = ap₂ (λ s t. s ++ t) (name_settles told at m h) (text_settles told rest m h)

pub settles : shown.Settles
settles = record {
  names = λ told n m p at h. name_settles told at m h;
  texts = λ told n m all inside h. text_settles told inside m h;
}

pub shows_arguments : shown.ShowsArguments
shows_arguments = record {
  arguments_are = λ told p all m e. ap (λ v. shown.joined (map (shown.of_arg told) v)) (is_read (shown.last_key p.steps) ((args_in (shown.last_key p.steps)).0) all refl m e);
}
