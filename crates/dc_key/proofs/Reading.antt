-- A key text is read as the arguments that it is the text of.
use Rattle.std.proofs.Common.{◌≡◌, ◌∙◌, refl, sym, ap, subst, ℕ, suc, zero, ◌+◌, ◌-◌, ◌^◌, ◌<◌, ◌≤◌, ◌==◌, nat_lt, nat_le, Bool, true, false, not, ◌&&◌, ◌||◌, List, [], ◌∷◌, ◌++◌, length, take, drop, map, codes, ℤ, pos, negsuc, zero-add, add-zero, add-one, append-nil, length-append, arith, if◌then◌else◌, inl, inr, ◌⊎◌, lit≤, lt_of_lt_of_le, true≢false}
use mathlib.Core.List.{append_assoc}
use Rattle.std.specs.List.{list_all, flat_map}
use Rattle.std.specs.Fmt.{decimal, signed_decimal}
use Rattle.std.proofs.lemmas.Bool.{ne_eqb, lt-ltb, ltb-true}
use Rattle.dc_types.specs.declared.kind.Kind.{Kind}
use Rattle.dc_types.specs.declared.kind.Kind.TheVariants as kinds
use Rattle.dc_types.specs.declared.place.Step.{Step}
use Rattle.dc_types.specs.declared.place.Step.TheVariants as steps
use Rattle.dc_types.specs.declared.place.Place.{Place}
use Rattle.dc_types.specs.declared.ty.Ty.{Ty, map-Ty}
use Rattle.dc_types.specs.declared.ty.Ty.TheVariants as ty
use Rattle.dc_types.specs.declared.ty.Ty.TheViews.{out-Ty, roll-Ty, out-roll-Ty, roll-out-Ty}
use Rattle.dc_types.specs.declared.ty.Ty.TheOpen.{Ty-F}
use Rattle.dc_types.specs.declared.ty.Ty.TheFolds.{fold-roll-Ty, ind-Ty}
use Rattle.dc_types.specs.declared.constant.CTree.{CTree, map-CTree}
use Rattle.dc_types.specs.declared.constant.CTree.TheVariants as tree
use Rattle.dc_types.specs.declared.constant.CTree.TheViews.{out-CTree, roll-CTree, roll-out-CTree}
use Rattle.dc_types.specs.declared.constant.CTree.TheOpen.{CTree-F}
use Rattle.dc_types.specs.declared.constant.CTree.TheFolds.{fold-roll-CTree, ind-CTree}
use Rattle.dc_key.specs.declared.key.Form.{Form}
use Rattle.dc_key.specs.declared.key.Form.TheVariants as forms
use Rattle.dc_key.specs.declared.arg.Arg.{Arg}
use Rattle.dc_key.specs.declared.arg.Arg.TheVariants as args
use Rattle.dc_key.specs.KeyTexts.{Bytes, step_text, steps_text, place_text, kind_text, ty_text_at, ty_text, behind, joined, tree_text_at, tree_text, form_of, byte, byte_at, list_form_text, value_text_at, value_text, arg_text, text, is_name_byte, step_fits, place_fits, has_steps, ty_fits_at, ty_fits, value_fits_at, is_byte_at, number_fits, all_true, tree_fits_at, tree_fits, arg_fits, step_keys, place_keys, ty_keys_at, ty_keys, arg_keys, Meets, OneKey}
use Rattle.dc_key.specs.KeyReading.{turns, first, is_digit, number, small, signed, key_len, outside, key_in, step_in, starts_step, has_step, next_step, steps_in, place_in, kind_word, word, named, leaf_in, has_wrap, next_wrap, wraps, type_in, opens, ends_list, has_item, next_item, items_in, tree_in, byte_tree, sized, string_in, value_in, typed_in, arg_in, has_arg, next_arg, args_in}
use Rattle.dc_key.proofs.Digits.{both, together, front_all, take_front, drop_front, decimal_starts, number_reads, signed_reads, first_of, no_sign, no_digit_0}
use Rattle.dc_key.proofs.Turning.{stopped}
use Rattle.dc_key.proofs.Skipping.{Neutral, Each, each_left, each_right, neutral_keys, length_map}

-- ---- what may stand behind a text

abbrev NoDigit : Bytes → Type 0
NoDigit rest = is_digit (first rest) ≡ false

-- neither a byte of a name nor the sign of a step
abbrev Ends : Bytes → Type 0
Ends rest = (is_name_byte (first rest) ≡ false) × (starts_step (first rest) ≡ false)

bools : (b : Bool) → (b ≡ true) ⊎ (b ≡ false)
bools true = inl refl
bools false = inr refl

digit_name : (b : ℕ) → is_digit b ≡ true → is_name_byte b ≡ true
unfolding is_digit is_name_byte
digit_name b h = ap (λ x. x || (nat_le 65 b && nat_le b 90) || (nat_le 97 b && nat_le b 122) || b == 95 || b == 46 || nat_le 128 b) h

no_digit : (b : ℕ) → is_name_byte b ≡ false → is_digit b ≡ false
no_digit b h = by (bools (is_digit b))
  where
    by : (is_digit b ≡ true) ⊎ (is_digit b ≡ false) → is_digit b ≡ false
    by (inl e) = absurd (true≢false (sym (digit_name b e) ∙ h))
    by (inr e) = e

ends_digit : (rest : Bytes) → Ends rest → NoDigit rest
ends_digit rest e = no_digit (first rest) e.0

-- a byte that passes a test is none that doesn't
is_none : (p : ℕ → Bool) (b c : ℕ) → p c ≡ false → p b ≡ true → (b == c) ≡ false
is_none p b c n h = ne_eqb b c (λ e. true≢false (sym h ∙ ap p e ∙ n))

turns_on : {S : Type 0} (test : S → Bool) (next : S → S) (n : ℕ) (s t : S) → test s ≡ true → next s ≡ t → turns test next (suc n) s ≡ turns test next n t
turns_on test next n s t h e = ap (λ b. if b then turns test next n (next s) else s) h ∙ ap (turns test next n) e

-- ---- places

small_is : (n : ℕ) → nat_lt n (2 ^ 32) ≡ true → small n ≡ n
small_is n h = ap (λ b. if b then n else 0) h

fits_128 : (n : ℕ) → nat_lt n (2 ^ 32) ≡ true → n < 2 ^ 128
fits_128 n h = lt_of_lt_of_le (ltb-true n (2 ^ 32) h) (lit≤ tt)

drop_past : (k rest : Bytes) (b : ℕ) → drop (suc (length k)) (k ++ b ∷ rest) ≡ rest
drop_past [] rest b = refl
drop_past (x ∷ k) rest b = drop_past k rest b

key_reads : (key rest : Bytes) → Neutral key → ◌≡◌ {A = Bytes × Bytes} (key_in ((key ++ 41 ∷ []) ++ rest)) (key, rest)
key_reads key rest n =
    let w : Bytes = key ++ 41 ∷ rest in
    let cut : ℕ → Bytes × Bytes = λ m. (take m w, drop (m + 1) w) in
    let with_rest : Bytes → Bytes × Bytes = λ r. (take (length key) w, r) in
    let with_key : Bytes → Bytes × Bytes = λ k. (k, rest) in
    let len : key_len (outside 0) w ≡ length key = n 0 (41 ∷ rest) ∙ add-zero (length key) in
    ap key_in (append_assoc key (41 ∷ []) rest) ∙ ap cut len
    ∙ ap with_rest (ap (λ m. drop m w) (add-one (length key)) ∙ drop_past key rest 41) ∙ ap with_key (take_front key (41 ∷ rest))

step_reads : (s : Step) (rest : Bytes) → step_fits s ≡ true → Each (step_keys s) → NoDigit rest → ◌≡◌ {A = Step × Bytes} (step_in (step_text s ++ rest)) (s, rest)
step_reads (steps.At n) rest h e ends =
    let f : ℕ × Bytes → Step × Bytes = λ r. (steps.At (small r.0), r.1) in
    let g : ℕ → Step × Bytes = λ m. (steps.At m, rest) in
    ap f (number_reads n rest (fits_128 n h) ends) ∙ ap g (small_is n h)
step_reads (steps.Round n) rest h e ends =
    let f : ℕ × Bytes → Step × Bytes = λ r. (steps.Round (small r.0), r.1) in
    let g : ℕ → Step × Bytes = λ m. (steps.Round m, rest) in
    ap f (number_reads n rest (fits_128 n h) ends) ∙ ap g (small_is n h)
step_reads (steps.With key) rest h e ends =
    let f : Bytes × Bytes → Step × Bytes = λ r. (steps.With r.0, r.1) in
    ap f (key_reads key rest e.0)

step_starts : (s : Step) (rest : Bytes) → starts_step (first (step_text s ++ rest)) ≡ true
step_starts (steps.At n) rest = refl
step_starts (steps.Round n) rest = refl
step_starts (steps.With key) rest = refl

step_no_name : (s : Step) (rest : Bytes) → is_name_byte (first (step_text s ++ rest)) ≡ false
unfolding is_name_byte
step_no_name (steps.At n) rest = refl
step_no_name (steps.Round n) rest = refl
step_no_name (steps.With key) rest = refl

steps_no_name : (all : List Step) (rest : Bytes) → Ends rest → is_name_byte (first (steps_text all ++ rest)) ≡ false
steps_no_name [] rest e = e.0
steps_no_name (s ∷ all) rest e = ap (λ w. is_name_byte (first w)) (append_assoc (step_text s) (steps_text all) rest) ∙ step_no_name s (steps_text all ++ rest)

steps_read : (all acc : List Step) (rest : Bytes) (n : ℕ) → list_all step_fits all ≡ true → Each (flat_map step_keys all) → Ends rest → length all ≤ n
    → ◌≡◌ {A = List Step × Bytes} (turns has_step next_step n (acc, steps_text all ++ rest)) (acc ++ all, rest)
steps_read [] acc rest n h e ends small =
    let f : List Step → List Step × Bytes = λ l. (l, rest) in
    stopped has_step next_step n (acc, rest) ends.1 ∙ ap f (sym (append-nil acc))
steps_read (s ∷ all) acc rest zero h e ends small = absurd (omega arith)
steps_read (s ∷ all) acc rest (suc n) h e ends small =
    let f = both (step_fits s) (list_all step_fits all) h in
    let more : Bytes = steps_text all ++ rest in
    let w = append_assoc (step_text s) (steps_text all) rest in
    let state : Bytes → List Step × Bytes = λ x. (acc, x) in
    let push : Step × Bytes → List Step × Bytes = λ r. (acc ++ r.0 ∷ [], r.1) in
    let put : List Step → List Step × Bytes = λ l. (l, rest) in
    let one = step_reads s more f.0 (each_left (step_keys s) (flat_map step_keys all) e) (no_digit (first more) (steps_no_name all rest ends)) in
    ap (λ x. turns has_step next_step (suc n) (state x)) w
    ∙ turns_on has_step next_step n (acc, step_text s ++ more) (acc ++ s ∷ [], more) (step_starts s more) (ap push one)
    ∙ steps_read all (acc ++ s ∷ []) rest n f.1 (each_right (step_keys s) (flat_map step_keys all) e) ends (omega arith)
    ∙ ap put (append_assoc acc (s ∷ []) all)

step_long : (s : Step) → 1 ≤ length (step_text s)
step_long (steps.At n) = omega arith
step_long (steps.Round n) = omega arith
step_long (steps.With key) = omega arith

steps_long : (all : List Step) → length all ≤ length (steps_text all)
steps_long [] = omega arith
steps_long (s ∷ all) =
    let a = step_long s in let b = steps_long all in
    let e : length (step_text s ++ steps_text all) ≡ length (step_text s) + length (steps_text all) = length-append (step_text s) (steps_text all) in omega arith

place_reads : (p : Place) (rest : Bytes) → place_fits p ≡ true → Each (place_keys p) → Ends rest → ◌≡◌ {A = Place × Bytes} (place_in (place_text p ++ rest)) (p, rest)
place_reads p rest h e ends =
    let f = both (list_all is_name_byte p.module) (list_all step_fits p.steps) h in
    let more : Bytes = steps_text p.steps ++ rest in
    let w : Bytes = p.module ++ more in
    let long : length p.steps ≤ length more = (let a = steps_long p.steps in let b : length more ≡ length (steps_text p.steps) + length rest = length-append (steps_text p.steps) rest in omega arith) in
    let len = front_all is_name_byte p.module more f.0 (steps_no_name p.steps rest ends) in
    let cut : ℕ → Place × Bytes = λ n. (let r = steps_in (drop n w) in (record { «module» = take n w; steps = r.0 }, r.1)) in
    let behind_name : Bytes → Place × Bytes = λ x. (let r = steps_in x in (record { «module» = take (length p.module) w; steps = r.0 }, r.1)) in
    let with_name : Bytes → Place × Bytes = λ m. (let r = steps_in more in (record { «module» = m; steps = r.0 }, r.1)) in
    let with_steps : List Step × Bytes → Place × Bytes = λ r. (record { «module» = p.module; steps = r.0 }, r.1) in
    ap place_in (append_assoc p.module (steps_text p.steps) rest)
    ∙ ap cut len ∙ ap behind_name (drop_front p.module more) ∙ ap with_name (take_front p.module more)
    ∙ ap with_steps (steps_read p.steps [] rest (length more) f.1 e ends long)

-- ---- types

-- the first byte of a type's text: one of a name, the sign of a step, `$` or `[`
is_type_first : ℕ → Bool
is_type_first b = is_name_byte b || starts_step b || b == 36 || b == 91

or_left : (a b : Bool) → a ≡ true → a || b ≡ true
or_left true b h = refl
or_left false b h = cc

or_right : (a b : Bool) → b ≡ true → a || b ≡ true
or_right true b h = refl
or_right false b h = h

type_first_name : (b : ℕ) → is_name_byte b ≡ true → is_type_first b ≡ true
unfolding is_type_first
type_first_name b h = or_left (is_name_byte b || starts_step b || b == 36) (b == 91) (or_left (is_name_byte b || starts_step b) (b == 36) (or_left (is_name_byte b) (starts_step b) h))

type_first_step : (b : ℕ) → starts_step b ≡ true → is_type_first b ≡ true
unfolding is_type_first
type_first_step b h = or_left (is_name_byte b || starts_step b || b == 36) (b == 91) (or_left (is_name_byte b || starts_step b) (b == 36) (or_right (is_name_byte b) (starts_step b) h))

type_first_signs : (is_type_first 36 ≡ true) × (is_type_first 91 ≡ true) × (is_type_first 38 ≡ false) × (is_type_first 44 ≡ false)
unfolding is_type_first is_name_byte
type_first_signs = (refl, refl, refl, refl)

ends_signs : (is_name_byte 91 ≡ false) × (is_name_byte 60 ≡ false) × (is_name_byte 62 ≡ false) × (is_name_byte 61 ≡ false) × (is_name_byte 44 ≡ false) × (is_name_byte 0 ≡ false) × (is_name_byte 36 ≡ false) × (is_name_byte 58 ≡ false) × (is_name_byte 35 ≡ false) × (is_name_byte 33 ≡ false)
unfolding is_name_byte
ends_signs = (refl, refl, refl, refl, refl, refl, refl, refl, refl, refl)

digit_signs : (is_digit 93 ≡ false) × (is_digit 91 ≡ false) × (is_digit 44 ≡ false) × (is_digit 125 ≡ false) × (is_digit 58 ≡ false)
unfolding is_digit
digit_signs = (refl, refl, refl, refl, refl)

-- How a type is read: what its text begins with, and then so many brackets.
record Wrapped (t : Ty) (n : ℕ) (bytes rest : Bytes) : Type 0 where
  leaf : Ty
  more : Bytes
  wraps_left : ℕ
  reads : ◌≡◌ {A = Ty × Bytes} (leaf_in (type_in n) bytes) (leaf, more)
  goes : (m : ℕ) → ◌≡◌ {A = Ty × Bytes} (turns has_wrap next_wrap (wraps_left + m) (leaf, more)) (turns has_wrap next_wrap m (t, rest))
  short : wraps_left + length rest ≤ length more
  starts : is_type_first (first bytes) ≡ true

abbrev Reads : Ty → Type 0
Reads t = ty_fits t ≡ true → Each (ty_keys t) → (n : ℕ) → length (ty_text t) ≤ suc n → (rest : Bytes) → Ends rest → Wrapped t n (ty_text t ++ rest) rest

whole : (t : Ty) (n : ℕ) (bytes rest : Bytes) → Wrapped t n bytes rest → (first rest == 91) ≡ false → ◌≡◌ {A = Ty × Bytes} (type_in (suc n) bytes) (t, rest)
whole t n bytes rest w no_more =
    let m : ℕ = length w.more - w.wraps_left in
    let e : length w.more ≡ w.wraps_left + m = (let s = w.short in omega arith) in
    ap wraps w.reads ∙ ap (λ k. turns has_wrap next_wrap k (w.leaf, w.more)) e ∙ w.goes m ∙ stopped has_wrap next_wrap m (t, rest) no_more

-- a leaf without brackets
bare_leaf : (t : Ty) (n : ℕ) (bytes rest : Bytes) → ◌≡◌ {A = Ty × Bytes} (leaf_in (type_in n) bytes) (t, rest) → is_type_first (first bytes) ≡ true → Wrapped t n bytes rest
bare_leaf t n bytes rest e s = record {
  leaf = t;
  more = rest;
  wraps_left = 0;
  reads = e;
  goes = λ m. ap (λ k. turns has_wrap next_wrap k (t, rest)) (zero-add m);
  short = omega arith;
  starts = s;
}

-- one bracket more
wrapped_once : (of t : Ty) (n : ℕ) (bytes again mid rest : Bytes) → bytes ≡ again → Wrapped of n again (91 ∷ mid) → ◌≡◌ {A = Ty × Bytes} (next_wrap (of, 91 ∷ mid)) (t, rest) → length rest ≤ length mid → Wrapped t n bytes rest
wrapped_once of t n bytes again mid rest e w one shorter = record {
  leaf = w.leaf;
  more = w.more;
  wraps_left = w.wraps_left + 1;
  reads = ap (leaf_in (type_in n)) e ∙ w.reads;
  goes = λ m.
      let up : w.wraps_left + 1 + m ≡ w.wraps_left + suc m = omega arith in
      ap (λ k. turns has_wrap next_wrap k (w.leaf, w.more)) up ∙ w.goes (suc m) ∙ turns_on has_wrap next_wrap m (of, 91 ∷ mid) (t, rest) refl one;
  short = let s = w.short in omega arith;
  starts = ap (λ x. is_type_first (first x)) e ∙ w.starts;
}

-- a word
word_reads : (base : Bytes → Ty × Bytes) (m rest : Bytes) (t : Ty) → list_all is_name_byte m ≡ true → (first (m ++ rest) == 36) ≡ false → (first (m ++ rest) == 91) ≡ false → word m ≡ t → Ends rest
    → ◌≡◌ {A = Ty × Bytes} (leaf_in base (m ++ rest)) (t, rest)
word_reads base m rest t names no36 no91 is ends =
    let p : Place = record { «module» = m; steps = [] } in
    let read : ◌≡◌ {A = Place × Bytes} (place_in ((m ++ []) ++ rest)) (p, rest) = place_reads p rest (together (list_all is_name_byte m) true names refl) tt ends in
    let enum_ : Ty × Bytes = (let q = place_in (drop 1 (m ++ rest)) in let b = base (drop 1 q.1) in (ty.Enum q.0 b.0, drop 1 b.1)) in
    let empty : Ty × Bytes = (ty.EmptyLit, drop 2 (m ++ rest)) in
    let name_ : Place × Bytes → Ty × Bytes = λ q. (named q.0, q.1) in
    let of : Ty → Ty × Bytes = λ x. (x, rest) in
    ap (λ b. if b then enum_ else (if first (m ++ rest) == 91 then empty else name_ (place_in (m ++ rest)))) no36
    ∙ ap (λ b. if b then empty else name_ (place_in (m ++ rest))) no91
    ∙ ap (λ x. name_ (place_in (x ++ rest))) (sym (append-nil m)) ∙ ap name_ read ∙ ap of is

kind_names : (k : Kind) → list_all is_name_byte (kind_text k) ≡ true
unfolding is_name_byte
kind_names kinds.Bool = refl
kind_names kinds.I8 = refl
kind_names kinds.U8 = refl
kind_names kinds.I16 = refl
kind_names kinds.U16 = refl
kind_names kinds.I32 = refl
kind_names kinds.U32 = refl
kind_names kinds.I64 = refl
kind_names kinds.U64 = refl
kind_names kinds.Char = refl

kind_is : (k : Kind) → word (kind_text k) ≡ ty.Int k
unfolding word kind_word
kind_is kinds.Bool = refl
kind_is kinds.I8 = refl
kind_is kinds.U8 = refl
kind_is kinds.I16 = refl
kind_is kinds.U16 = refl
kind_is kinds.I32 = refl
kind_is kinds.U32 = refl
kind_is kinds.I64 = refl
kind_is kinds.U64 = refl
kind_is kinds.Char = refl

kind_first : (k : Kind) (rest : Bytes) → ((first (kind_text k ++ rest) == 36) ≡ false) × ((first (kind_text k ++ rest) == 91) ≡ false) × (is_name_byte (first (kind_text k ++ rest)) ≡ true)
unfolding is_name_byte
kind_first kinds.Bool rest = (refl, refl, refl)
kind_first kinds.I8 rest = (refl, refl, refl)
kind_first kinds.U8 rest = (refl, refl, refl)
kind_first kinds.I16 rest = (refl, refl, refl)
kind_first kinds.U16 rest = (refl, refl, refl)
kind_first kinds.I32 rest = (refl, refl, refl)
kind_first kinds.U32 rest = (refl, refl, refl)
kind_first kinds.I64 rest = (refl, refl, refl)
kind_first kinds.U64 rest = (refl, refl, refl)
kind_first kinds.Char rest = (refl, refl, refl)

words_are : (word (codes "void") ≡ ty.Void) × (word (codes "string") ≡ ty.Str) × (word (codes "null") ≡ ty.NullLit)
unfolding word kind_word
words_are = (refl, refl, refl)

word_names : (list_all is_name_byte (codes "void") ≡ true) × (list_all is_name_byte (codes "string") ≡ true) × (list_all is_name_byte (codes "null") ≡ true) × (is_name_byte 118 ≡ true) × (is_name_byte 115 ≡ true) × (is_name_byte 110 ≡ true)
unfolding is_name_byte
word_names = (refl, refl, refl, refl, refl, refl)

-- a place that begins a type: its first byte is neither `$` nor `[`
place_first : (p : Place) (rest : Bytes) → place_fits p ≡ true → has_steps p.steps ≡ true
    → ((first (place_text p ++ rest) == 36) ≡ false) × ((first (place_text p ++ rest) == 91) ≡ false) × (is_type_first (first (place_text p ++ rest)) ≡ true)
place_first p rest h some = by p.module p.steps (both (list_all is_name_byte p.module) (list_all step_fits p.steps) h).0 some
  where
    sign : (s : Step) (more : Bytes) → ((first (step_text s ++ more) == 36) ≡ false) × ((first (step_text s ++ more) == 91) ≡ false) × (is_type_first (first (step_text s ++ more)) ≡ true)
    sign (steps.At n) more = (refl, refl, type_first_step 58 refl)
    sign (steps.Round n) more = (refl, refl, type_first_step 35 refl)
    sign (steps.With key) more = (refl, refl, type_first_step 33 refl)

    by : (m : Bytes) (all : List Step) → list_all is_name_byte m ≡ true → has_steps all ≡ true
        → ((first ((m ++ steps_text all) ++ rest) == 36) ≡ false) × ((first ((m ++ steps_text all) ++ rest) == 91) ≡ false) × (is_type_first (first ((m ++ steps_text all) ++ rest)) ≡ true)
    by [] [] n s = cc
    by [] (x ∷ all) n s =
        subst (λ w. ((first w == 36) ≡ false) × ((first w == 91) ≡ false) × (is_type_first (first w) ≡ true)) (sym (append_assoc (step_text x) (steps_text all) rest)) (sign x (steps_text all ++ rest))
    by (b ∷ m) all n s =
        let f = both (is_name_byte b) (list_all is_name_byte m) n in
        (is_none is_name_byte b 36 ends_signs.6 f.0, is_none is_name_byte b 91 ends_signs.0 f.0, type_first_name b f.0)

struct_is : (p : Place) → has_steps p.steps ≡ true → named p ≡ ty.Struct p
struct_is p h = ap (λ b. if b then ty.Struct p else word p.module) h

abbrev ReadTy : Type 0
ReadTy = (t : Ty) × Reads t

abbrev bare : Ty-F ReadTy → Ty-F Ty
bare x = map-Ty ReadTy Ty (λ p. p.0) x

-- one layer, where t is the type of the layer
layer_reads : (y : Ty-F ReadTy) (t : Ty) → out-Ty t ≡ bare y → ty_fits_at (map-Ty Ty Bool ty_fits (bare y)) ≡ true → Each (ty_keys_at (map-Ty Ty (List Bytes) ty_keys (bare y)))
    → (n : ℕ) → length (ty_text_at (map-Ty Ty Bytes ty_text (bare y))) ≤ suc n → (rest : Bytes) → Ends rest → Wrapped t n (ty_text_at (map-Ty Ty Bytes ty_text (bare y)) ++ rest) rest
layer_reads Ty-F.Void t is h e n long rest ends =
    subst (λ v. Wrapped v n (codes "void" ++ rest) rest) (sym (sym (roll-out-Ty t) ∙ ap roll-Ty is ∙ ty.rolls-Void))
    (bare_leaf ty.Void n (codes "void" ++ rest) rest (word_reads (type_in n) (codes "void") rest ty.Void word_names.0 refl refl words_are.0 ends) (type_first_name 118 word_names.3))
layer_reads (Ty-F.Int k) t is h e n long rest ends =
    let f = kind_first k rest in
    subst (λ v. Wrapped v n (kind_text k ++ rest) rest) (sym (sym (roll-out-Ty t) ∙ ap roll-Ty is ∙ ty.rolls-Int k))
    (bare_leaf (ty.Int k) n (kind_text k ++ rest) rest (word_reads (type_in n) (kind_text k) rest (ty.Int k) (kind_names k) f.0 f.1 (kind_is k) ends) (type_first_name (first (kind_text k ++ rest)) f.2))
layer_reads (Ty-F.Fixed of m) t is h e n long rest ends =
    let f = both (ty_fits of.0) (nat_lt m (2 ^ 32)) h in
    let inner : Bytes = ty_text of.0 in
    let mid : Bytes = (decimal m ++ 93 ∷ []) ++ rest in
    let bytes : Bytes = (inner ++ 91 ∷ (decimal m ++ 93 ∷ [])) ++ rest in
    let len : length (inner ++ 91 ∷ (decimal m ++ 93 ∷ [])) ≡ length inner + length (91 ∷ (decimal m ++ 93 ∷ [])) = length-append inner (91 ∷ (decimal m ++ 93 ∷ [])) in
    let w = of.1 f.0 e n (omega arith) (91 ∷ mid) (ends_signs.0, refl) in
    let mid_is : mid ≡ decimal m ++ 93 ∷ rest = append_assoc (decimal m) (93 ∷ []) rest in
    let digit = first_of is_digit (decimal m) (93 ∷ rest) no_digit_0 (decimal_starts m (lt_of_lt_of_le (ltb-true m (2 ^ 32) f.1) (lit≤ tt))) in
    let no93 : (first mid == 93) ≡ false = ap (λ x. first x == 93) mid_is ∙ no_sign (first (decimal m ++ 93 ∷ rest)) 93 digit (inr (omega arith)) in
    let sliced : Ty × Bytes = (ty.Slice of.0, drop 1 mid) in
    let put : ℕ × Bytes → Ty × Bytes = λ r. (ty.Fixed of.0 (small r.0), drop 1 r.1) in
    let sized_ : ℕ → Ty × Bytes = λ k. (ty.Fixed of.0 k, rest) in
    let one : ◌≡◌ {A = Ty × Bytes} (next_wrap (of.0, 91 ∷ mid)) (ty.Fixed of.0 m, rest) =
    ap (λ b. if b then sliced else put (number mid)) no93 ∙ ap (λ x. put (number x)) mid_is
    ∙ ap put (number_reads m (93 ∷ rest) (fits_128 m f.1) digit_signs.0) ∙ ap sized_ (small_is m f.1) in
    let shorter : length rest ≤ length mid = (let a : length mid ≡ length (decimal m ++ 93 ∷ []) + length rest = length-append (decimal m ++ 93 ∷ []) rest in omega arith) in
    subst (λ v. Wrapped v n bytes rest) (sym (sym (roll-out-Ty t) ∙ ap roll-Ty is ∙ ty.rolls-Fixed of.0 m))
    (wrapped_once of.0 (ty.Fixed of.0 m) n bytes (inner ++ 91 ∷ mid) mid rest (append_assoc inner (91 ∷ (decimal m ++ 93 ∷ [])) rest) w one shorter)
layer_reads (Ty-F.Slice of) t is h e n long rest ends =
    let inner : Bytes = ty_text of.0 in
    let len : length (inner ++ 91 ∷ 93 ∷ []) ≡ length inner + 2 = length-append inner (91 ∷ 93 ∷ []) in
    let w = of.1 h e n (omega arith) (91 ∷ 93 ∷ rest) (ends_signs.0, refl) in
    subst (λ v. Wrapped v n ((inner ++ 91 ∷ 93 ∷ []) ++ rest) rest) (sym (sym (roll-out-Ty t) ∙ ap roll-Ty is ∙ ty.rolls-Slice of.0))
    (wrapped_once of.0 (ty.Slice of.0) n ((inner ++ 91 ∷ 93 ∷ []) ++ rest) (inner ++ 91 ∷ 93 ∷ rest) (93 ∷ rest) rest (append_assoc inner (91 ∷ 93 ∷ []) rest) w refl (omega arith))
layer_reads Ty-F.Str t is h e n long rest ends =
    subst (λ v. Wrapped v n (codes "string" ++ rest) rest) (sym (sym (roll-out-Ty t) ∙ ap roll-Ty is ∙ ty.rolls-Str))
    (bare_leaf ty.Str n (codes "string" ++ rest) rest (word_reads (type_in n) (codes "string") rest ty.Str word_names.1 refl refl words_are.1 ends) (type_first_name 115 word_names.4))
layer_reads (Ty-F.Struct p) t is h e n long rest ends =
    let f = both (place_fits p) (has_steps p.steps) h in
    let starts = place_first p rest f.0 f.1 in
    let bytes : Bytes = place_text p ++ rest in
    let enum_ : Ty × Bytes = (let q = place_in (drop 1 bytes) in let b = type_in n (drop 1 q.1) in (ty.Enum q.0 b.0, drop 1 b.1)) in
    let empty : Ty × Bytes = (ty.EmptyLit, drop 2 bytes) in
    let name_ : Place × Bytes → Ty × Bytes = λ q. (named q.0, q.1) in
    let of : Ty → Ty × Bytes = λ x. (x, rest) in
    let read : ◌≡◌ {A = Ty × Bytes} (leaf_in (type_in n) bytes) (ty.Struct p, rest) =
    ap (λ b. if b then enum_ else (if first bytes == 91 then empty else name_ (place_in bytes))) starts.0
    ∙ ap (λ b. if b then empty else name_ (place_in bytes)) starts.1
    ∙ ap name_ (place_reads p rest f.0 e ends) ∙ ap of (struct_is p f.1) in
    subst (λ v. Wrapped v n bytes rest) (sym (sym (roll-out-Ty t) ∙ ap roll-Ty is ∙ ty.rolls-Struct p)) (bare_leaf (ty.Struct p) n bytes rest read starts.2)
layer_reads (Ty-F.Enum p base) t is h e zero long rest ends =
    let len : length (place_text p ++ 60 ∷ (ty_text base.0 ++ 62 ∷ [])) ≡ length (place_text p) + length (60 ∷ (ty_text base.0 ++ 62 ∷ [])) = length-append (place_text p) (60 ∷ (ty_text base.0 ++ 62 ∷ [])) in
    absurd (omega arith)
layer_reads (Ty-F.Enum p base) t is h e (suc n) long rest ends =
    let f = both (place_fits p) (ty_fits base.0) h in
    let inner : Bytes = ty_text base.0 ++ 62 ∷ [] in
    let bytes : Bytes = 36 ∷ ((place_text p ++ 60 ∷ inner) ++ rest) in
    let len : length (place_text p ++ 60 ∷ inner) ≡ length (place_text p) + length (60 ∷ inner) = length-append (place_text p) (60 ∷ inner) in
    let len2 : length inner ≡ length (ty_text base.0) + 1 = length-append (ty_text base.0) (62 ∷ []) in
    let after : Place × Bytes → Ty × Bytes = λ q. (let b = type_in (suc n) (drop 1 q.1) in (ty.Enum q.0 b.0, drop 1 b.1)) in
    let closing : Ty × Bytes → Ty × Bytes = λ b. (ty.Enum p b.0, drop 1 b.1) in
    let base_reads = whole base.0 n (ty_text base.0 ++ 62 ∷ rest) (62 ∷ rest) (base.1 f.1 (each_right (place_keys p) (ty_keys base.0) e) n (omega arith) (62 ∷ rest) (ends_signs.2, refl)) refl in
    let read : ◌≡◌ {A = Ty × Bytes} (leaf_in (type_in (suc n)) bytes) (ty.Enum p base.0, rest) =
    ap (λ w. after (place_in w)) (append_assoc (place_text p) (60 ∷ inner) rest)
    ∙ ap after (place_reads p (60 ∷ (inner ++ rest)) f.0 (each_left (place_keys p) (ty_keys base.0) e) (ends_signs.1, refl))
    ∙ ap (λ w. closing (type_in (suc n) w)) (append_assoc (ty_text base.0) (62 ∷ []) rest) ∙ ap closing base_reads in
    subst (λ v. Wrapped v (suc n) bytes rest) (sym (sym (roll-out-Ty t) ∙ ap roll-Ty is ∙ ty.rolls-Enum p base.0)) (bare_leaf (ty.Enum p base.0) (suc n) bytes rest read type_first_signs.0)
layer_reads Ty-F.NullLit t is h e n long rest ends =
    subst (λ v. Wrapped v n (codes "null" ++ rest) rest) (sym (sym (roll-out-Ty t) ∙ ap roll-Ty is ∙ ty.rolls-NullLit))
    (bare_leaf ty.NullLit n (codes "null" ++ rest) rest (word_reads (type_in n) (codes "null") rest ty.NullLit word_names.2 refl refl words_are.2 ends) (type_first_name 110 word_names.5))
layer_reads Ty-F.EmptyLit t is h e n long rest ends =
    subst (λ v. Wrapped v n (91 ∷ 93 ∷ rest) rest) (sym (sym (roll-out-Ty t) ∙ ap roll-Ty is ∙ ty.rolls-EmptyLit)) (bare_leaf ty.EmptyLit n (91 ∷ 93 ∷ rest) rest refl type_first_signs.1)

ty_reads : (t : Ty) → Reads t
ty_reads = ind-Ty Reads (λ x y is h e n long rest ends.
    let layer = layer_reads y (roll-Ty x) (out-roll-Ty x ∙ sym is) in
    let fits = ap (λ z. ty_fits_at (map-Ty Ty Bool ty_fits z)) is ∙ sym (fold-roll-Ty Bool ty_fits_at x) ∙ h in
    let keys = subst Each (fold-roll-Ty (List Bytes) ty_keys_at x ∙ sym (ap (λ z. ty_keys_at (map-Ty Ty (List Bytes) ty_keys z)) is)) e in
    let texts = fold-roll-Ty Bytes ty_text_at x ∙ sym (ap (λ z. ty_text_at (map-Ty Ty Bytes ty_text z)) is) in
    subst (λ w. Wrapped (roll-Ty x) n (w ++ rest) rest) (sym texts) (layer fits keys n (subst (λ w. length w ≤ suc n) texts long) rest ends))

-- ---- values

-- the first byte of a number, and of a tree
is_sign : ℕ → Bool
is_sign b = is_digit b || b == 45

is_tree_first : ℕ → Bool
is_tree_first b = is_sign b || b == 91

tree_signs : (is_tree_first 93 ≡ false) × (is_tree_first 125 ≡ false) × (is_tree_first 0 ≡ false) × (is_tree_first 44 ≡ false) × (is_tree_first 34 ≡ false)
unfolding is_tree_first is_sign is_digit
tree_signs = (refl, refl, refl, refl, refl)

sign_signs : (is_sign 91 ≡ false) × (is_sign 123 ≡ false)
unfolding is_sign is_digit
sign_signs = (refl, refl)

sign_tree : (b : ℕ) → is_sign b ≡ true → is_tree_first b ≡ true
unfolding is_tree_first
sign_tree b h = or_left (is_sign b) (b == 91) h

signed_first : (z : ℤ) (rest : Bytes) → number_fits z ≡ true → is_sign (first (signed_decimal z ++ rest)) ≡ true
unfolding is_sign
signed_first (pos n) rest h = or_left (is_digit (first (decimal n ++ rest))) (first (decimal n ++ rest) == 45) (first_of is_digit (decimal n) rest no_digit_0 (decimal_starts n (lt_of_lt_of_le (ltb-true n (2 ^ 127) h) (lit≤ tt))))
signed_first (negsuc n) rest h = or_right (is_digit 45) true refl

opens_not : (b : ℕ) → is_sign b ≡ true → opens b ≡ false
opens_not b h = ap (λ x. x || b == 123) (is_none is_sign b 91 sign_signs.0 h) ∙ is_none is_sign b 123 sign_signs.1 h

ends_not : (b : ℕ) → is_tree_first b ≡ true → ends_list b ≡ false
ends_not b h =
    ap (λ x. x || b == 125 || b == 0) (is_none is_tree_first b 93 tree_signs.0 h) ∙ ap (λ x. x || b == 0) (is_none is_tree_first b 125 tree_signs.1 h) ∙ is_none is_tree_first b 0 tree_signs.2 h

tree_first_91 : is_tree_first 91 ≡ true
unfolding is_tree_first
tree_first_91 = or_right (is_sign 91) true refl

record TreeRead (t : CTree) (n : ℕ) (rest : Bytes) : Type 0 where
  reads : ◌≡◌ {A = CTree × Bytes} (tree_in n (tree_text t ++ rest)) (t, rest)
  starts : is_tree_first (first (tree_text t ++ rest)) ≡ true

abbrev ReadsTree : CTree → Type 0
ReadsTree t = tree_fits t ≡ true → (n : ℕ) → length (tree_text t) ≤ n → (rest : Bytes) → NoDigit rest → TreeRead t n rest

abbrev ReadTree : Type 0
ReadTree = (t : CTree) × ReadsTree t

abbrev bare_trees : List ReadTree → List CTree
bare_trees all = map (λ p. p.0) all

abbrev bare_tree : CTree-F ReadTree → CTree-F CTree
bare_tree x = map-CTree ReadTree CTree (λ p. p.0) x

abbrev texts : List ReadTree → List Bytes
texts ts = map tree_text (bare_trees ts)

behind_no_digit : (ts : List ReadTree) (closer : ℕ) (rest : Bytes) → is_digit closer ≡ false → NoDigit (behind (44 ∷ []) (texts ts) ++ closer ∷ rest)
behind_no_digit [] closer rest h = h
behind_no_digit (t ∷ ts) closer rest h = digit_signs.2

behind_long : (ts : List ReadTree) → length ts ≤ length (behind (44 ∷ []) (texts ts))
behind_long [] = omega arith
behind_long (t ∷ ts) =
    let a = behind_long ts in
    let e : length (((44 ∷ []) ++ tree_text t.0) ++ behind (44 ∷ []) (texts ts)) ≡ length ((44 ∷ []) ++ tree_text t.0) + length (behind (44 ∷ []) (texts ts)) = length-append ((44 ∷ []) ++ tree_text t.0) (behind (44 ∷ []) (texts ts)) in
    omega arith

abbrev State : Type 0
State = List CTree × Bytes

items_read : (ts : List ReadTree) (acc : List CTree) (n k closer : ℕ) (rest : Bytes) → all_true (map tree_fits (bare_trees ts)) ≡ true → ends_list closer ≡ true → is_digit closer ≡ false
    → length (behind (44 ∷ []) (texts ts)) ≤ n → length ts ≤ k
    → ◌≡◌ {A = State} (turns has_item (next_item (tree_in n)) k (acc, behind (44 ∷ []) (texts ts) ++ closer ∷ rest)) (acc ++ bare_trees ts, closer ∷ rest)
items_read [] acc n k closer rest fits ends plain long turns_ =
    let put : List CTree → State = λ l. (l, closer ∷ rest) in
    stopped has_item (next_item (tree_in n)) k (acc, closer ∷ rest) (ap not ends) ∙ ap put (sym (append-nil acc))
items_read (t ∷ ts) acc n zero closer rest fits ends plain long turns_ = absurd (omega arith)
items_read (t ∷ ts) acc n (suc k) closer rest fits ends plain long turns_ =
    let f = both (tree_fits t.0) (all_true (map tree_fits (bare_trees ts))) fits in
    let tail : Bytes = behind (44 ∷ []) (texts ts) in
    let more : Bytes = tail ++ closer ∷ rest in
    let len : length ((44 ∷ tree_text t.0) ++ tail) ≡ length (44 ∷ tree_text t.0) + length tail = length-append (44 ∷ tree_text t.0) tail in
    let state : Bytes → State = λ x. (acc, x) in
    let push : CTree × Bytes → State = λ r. (acc ++ r.0 ∷ [], r.1) in
    let put : List CTree → State = λ l. (l, closer ∷ rest) in
    let one = (t.1 f.0 n (omega arith) more (behind_no_digit ts closer rest plain)).reads in
    ap (λ x. turns has_item (next_item (tree_in n)) (suc k) (state x)) (append_assoc (44 ∷ tree_text t.0) tail (closer ∷ rest))
    ∙ turns_on has_item (next_item (tree_in n)) k (acc, 44 ∷ (tree_text t.0 ++ more)) (acc ++ t.0 ∷ [], more) refl (ap push one)
    ∙ items_read ts (acc ++ t.0 ∷ []) n k closer rest f.1 ends plain (omega arith) (omega arith)
    ∙ ap put (append_assoc acc (t.0 ∷ []) (bare_trees ts))

joined_read : (ts : List ReadTree) (n k closer : ℕ) (rest : Bytes) → all_true (map tree_fits (bare_trees ts)) ≡ true → ends_list closer ≡ true → is_digit closer ≡ false
    → length (joined (44 ∷ []) (texts ts)) ≤ n → length ts ≤ k
    → ◌≡◌ {A = State} (turns has_item (next_item (tree_in n)) k ([], joined (44 ∷ []) (texts ts) ++ closer ∷ rest)) (bare_trees ts, closer ∷ rest)
joined_read [] n k closer rest fits ends plain long turns_ = stopped has_item (next_item (tree_in n)) k ([], closer ∷ rest) (ap not ends)
joined_read (t ∷ ts) n zero closer rest fits ends plain long turns_ = absurd (omega arith)
joined_read (t ∷ ts) n (suc k) closer rest fits ends plain long turns_ =
    let f = both (tree_fits t.0) (all_true (map tree_fits (bare_trees ts))) fits in
    let tail : Bytes = behind (44 ∷ []) (texts ts) in
    let more : Bytes = tail ++ closer ∷ rest in
    let len : length (tree_text t.0 ++ tail) ≡ length (tree_text t.0) + length tail = length-append (tree_text t.0) tail in
    let state : Bytes → State = λ x. ([], x) in
    let push : CTree × Bytes → State = λ r. (r.0 ∷ [], r.1) in
    let w : Bytes = tree_text t.0 ++ more in
    let read = t.1 f.0 n (omega arith) more (behind_no_digit ts closer rest plain) in
    let no44 : (first w == 44) ≡ false = is_none is_tree_first (first w) 44 tree_signs.3 read.starts in
    ap (λ x. turns has_item (next_item (tree_in n)) (suc k) (state x)) (append_assoc (tree_text t.0) tail (closer ∷ rest))
    ∙ turns_on has_item (next_item (tree_in n)) k ([], w) (t.0 ∷ [], more) (ap not (ends_not (first w) read.starts))
    (ap (λ b. push (tree_in n (if b then drop 1 w else w))) no44 ∙ ap push read.reads)
    ∙ items_read ts (t.0 ∷ []) n k closer rest f.1 ends plain (omega arith) (omega arith)

joined_long : (ts : List ReadTree) (closer : ℕ) (rest : Bytes) → length ts ≤ length (joined (44 ∷ []) (texts ts) ++ closer ∷ rest)
joined_long [] closer rest = omega arith
joined_long (t ∷ ts) closer rest =
    let tail : Bytes = behind (44 ∷ []) (texts ts) in
    let a = behind_long ts in
    let e : length (tree_text t.0 ++ tail) ≡ length (tree_text t.0) + length tail = length-append (tree_text t.0) tail in
    let g : length ((tree_text t.0 ++ tail) ++ closer ∷ rest) ≡ length (tree_text t.0 ++ tail) + length (closer ∷ rest) = length-append (tree_text t.0 ++ tail) (closer ∷ rest) in
    omega arith

list_reads : (opener closer : ℕ) (ts : List ReadTree) (n : ℕ) (rest : Bytes) → opens opener ≡ true → ends_list closer ≡ true → is_digit closer ≡ false → all_true (map tree_fits (bare_trees ts)) ≡ true
    → length (joined (44 ∷ []) (texts ts)) ≤ n
    → ◌≡◌ {A = CTree × Bytes} (tree_in (suc n) (opener ∷ ((joined (44 ∷ []) (texts ts) ++ closer ∷ []) ++ rest))) (tree.List (bare_trees ts), rest)
list_reads opener closer ts n rest open_ ends plain fits long =
    let inner : Bytes = joined (44 ∷ []) (texts ts) in
    let w : Bytes = (inner ++ closer ∷ []) ++ rest in
    let listed : State → CTree × Bytes = λ r. (tree.List r.0, drop 1 r.1) in
    let other : CTree × Bytes = (let r = signed (opener ∷ w) in (tree.Num r.0, r.1)) in
    ap (λ b. if b then listed (items_in (tree_in n) w) else other) open_
    ∙ ap (λ x. listed (items_in (tree_in n) x)) (append_assoc inner (closer ∷ []) rest)
    ∙ ap listed (joined_read ts n (length (inner ++ closer ∷ rest)) closer rest fits ends plain long (joined_long ts closer rest))

number_reads_tree : (z : ℤ) (n : ℕ) (rest : Bytes) → number_fits z ≡ true → 1 ≤ n → NoDigit rest → ◌≡◌ {A = CTree × Bytes} (tree_in n (signed_decimal z ++ rest)) (tree.Num z, rest)
number_reads_tree z zero rest h some ends = absurd (omega arith)
number_reads_tree z (suc n) rest h some ends =
    let w : Bytes = signed_decimal z ++ rest in
    let listed : CTree × Bytes = (let r = items_in (tree_in n) (drop 1 w) in (tree.List r.0, drop 1 r.1)) in
    let of : ℤ × Bytes → CTree × Bytes = λ r. (tree.Num r.0, r.1) in
    ap (λ b. if b then listed else of (signed w)) (opens_not (first w) (signed_first z rest h)) ∙ ap of (signed_reads z rest h ends)

signed_long : (z : ℤ) → number_fits z ≡ true → 1 ≤ length (signed_decimal z)
signed_long (pos n) h = by (decimal n) (decimal_starts n (lt_of_lt_of_le (ltb-true n (2 ^ 127) h) (lit≤ tt)))
  where
    by : (w : Bytes) → is_digit (first w) ≡ true → 1 ≤ length w
    by [] d = absurd (true≢false (sym d ∙ no_digit_0))
    by (b ∷ w) d = omega arith
signed_long (negsuc n) h = omega arith

layer_reads_tree : (y : CTree-F ReadTree) (t : CTree) → roll-CTree (bare_tree y) ≡ t → tree_fits_at (map-CTree CTree Bool tree_fits (bare_tree y)) ≡ true → (n : ℕ) → length (tree_text_at (map-CTree CTree Bytes tree_text (bare_tree y))) ≤ n → (rest : Bytes) → NoDigit rest
    → ◌≡◌ {A = CTree × Bytes} (tree_in n (tree_text_at (map-CTree CTree Bytes tree_text (bare_tree y)) ++ rest)) (t, rest) × (is_tree_first (first (tree_text_at (map-CTree CTree Bytes tree_text (bare_tree y)) ++ rest)) ≡ true)
layer_reads_tree (CTree-F.Num z) t is h n long rest ends =
    let one = signed_long z h in
    let of : CTree → CTree × Bytes = λ x. (x, rest) in
    (number_reads_tree z n rest h (omega arith) ends ∙ ap of (sym (tree.rolls-Num z) ∙ is), sign_tree (first (signed_decimal z ++ rest)) (signed_first z rest h))
layer_reads_tree (CTree-F.List ts) t is h zero long rest ends = absurd (omega arith)
layer_reads_tree (CTree-F.List ts) t is h (suc n) long rest ends =
    let of : CTree → CTree × Bytes = λ x. (x, rest) in
    let len : length (joined (44 ∷ []) (texts ts) ++ 93 ∷ []) ≡ length (joined (44 ∷ []) (texts ts)) + 1 = length-append (joined (44 ∷ []) (texts ts)) (93 ∷ []) in
    (list_reads 91 93 ts n rest refl refl digit_signs.0 h (omega arith) ∙ ap of (sym (tree.rolls-List (bare_trees ts)) ∙ is), tree_first_91)

tree_reads : (t : CTree) → ReadsTree t
tree_reads = ind-CTree ReadsTree (λ x y is h n long rest ends.
    let fits = ap (λ z. tree_fits_at (map-CTree CTree Bool tree_fits z)) is ∙ sym (fold-roll-CTree Bool tree_fits_at x) ∙ h in
    let same = fold-roll-CTree Bytes tree_text_at x ∙ sym (ap (λ z. tree_text_at (map-CTree CTree Bytes tree_text z)) is) in
    let r = layer_reads_tree y (roll-CTree x) (ap roll-CTree is) fits n (subst (λ w. length w ≤ n) same long) rest ends in
    record {
      reads = ap (λ w. tree_in n (w ++ rest)) same ∙ r.0;
      starts = ap (λ w. is_tree_first (first (w ++ rest))) same ∙ r.1;
    })

abbrev with_reads : List CTree → List ReadTree
with_reads ts = map (λ t. (t, tree_reads t)) ts

bare_with : (ts : List CTree) → bare_trees (with_reads ts) ≡ ts
bare_with [] = refl
bare_with (t ∷ ts) = ap (λ l. t ∷ l) (bare_with ts)

all_mapped : {A : Type 0} (p : A → Bool) (xs : List A) → list_all p xs ≡ all_true (map p xs)
all_mapped p [] = refl
all_mapped p (x ∷ xs) = ap (λ b. p x && b) (all_mapped p xs)

list_plain : (opener closer : ℕ) (ts : List CTree) (n : ℕ) (rest : Bytes) → opens opener ≡ true → ends_list closer ≡ true → is_digit closer ≡ false → list_all tree_fits ts ≡ true
    → length (joined (44 ∷ []) (map tree_text ts)) ≤ n
    → ◌≡◌ {A = CTree × Bytes} (tree_in (suc n) (opener ∷ ((joined (44 ∷ []) (map tree_text ts) ++ closer ∷ []) ++ rest))) (tree.List ts, rest)
list_plain opener closer ts n rest open_ ends plain fits long =
    let P : List CTree → Type 0 = λ us. all_true (map tree_fits us) ≡ true → length (joined (44 ∷ []) (map tree_text us)) ≤ n
    → ◌≡◌ {A = CTree × Bytes} (tree_in (suc n) (opener ∷ ((joined (44 ∷ []) (map tree_text us) ++ closer ∷ []) ++ rest))) (tree.List us, rest) in
    subst P (bare_with ts) (list_reads opener closer (with_reads ts) n rest open_ ends plain) (sym (all_mapped tree_fits ts) ∙ fits) long

-- the byte of a part of a string gives the part back
byte_back : (t : CTree) → is_byte_at (out-CTree t) ≡ true → byte_tree (byte t) ≡ t
byte_back t h = by (out-CTree t) refl h
  where
    by : (x : CTree-F CTree) → out-CTree t ≡ x → is_byte_at x ≡ true → byte_tree (byte t) ≡ t
    by (CTree-F.Num (pos n)) e f =
        let is : t ≡ roll-CTree (CTree-F.Num (pos n)) = sym (roll-out-CTree t) ∙ ap roll-CTree e in
        let num : byte t ≡ n = ap byte is ∙ fold-roll-CTree ℕ byte_at (CTree-F.Num (pos n)) ∙ ap (λ b. if b then n else 0) f in
        ap byte_tree num ∙ sym (tree.rolls-Num (pos n)) ∙ sym is
    by (CTree-F.Num (negsuc n)) e f = cc
    by (CTree-F.List ts) e f = cc

bytes_back : (ts : List CTree) → list_all (λ t. is_byte_at (out-CTree t)) ts ≡ true → map byte_tree (map byte ts) ≡ ts
bytes_back [] h = refl
bytes_back (t ∷ ts) h =
    let f = both (is_byte_at (out-CTree t)) (list_all (λ u. is_byte_at (out-CTree u)) ts) h in
    ap (λ x. x ∷ map byte_tree (map byte ts)) (byte_back t f.0) ∙ ap (λ l. t ∷ l) (bytes_back ts f.1)

string_reads : (ts : List CTree) (rest : Bytes) → list_all (λ t. is_byte_at (out-CTree t)) ts ≡ true → nat_lt (length ts) (2 ^ 64) ≡ true
    → ◌≡◌ {A = CTree × Bytes} (string_in ((decimal (length ts) ++ 58 ∷ map byte ts) ++ rest)) (tree.List ts, rest)
string_reads ts rest fits small_ =
    let n : ℕ = length ts in
    let bs : Bytes = map byte ts in
    let w : Bytes = bs ++ rest in
    let of : ℕ × Bytes → CTree × Bytes = λ r. (let m = sized r.0 in (tree.List (map byte_tree (take m (drop 1 r.1))), drop m (drop 1 r.1))) in
    let cut : ℕ → CTree × Bytes = λ m. (tree.List (map byte_tree (take m w)), drop m w) in
    let with_rest : Bytes → CTree × Bytes = λ r. (tree.List (map byte_tree (take (length bs) w)), r) in
    let with_bytes : Bytes → CTree × Bytes = λ l. (tree.List (map byte_tree l), rest) in
    let with_trees : List CTree → CTree × Bytes = λ l. (tree.List l, rest) in
    ap string_in (append_assoc (decimal n) (58 ∷ bs) rest)
    ∙ ap of (number_reads n (58 ∷ w) (lt_of_lt_of_le (ltb-true n (2 ^ 64) small_) (lit≤ tt)) digit_signs.4)
    ∙ ap cut (ap (λ b. if b then n else 2 ^ 64 - 1) small_ ∙ length_map byte ts)
    ∙ ap with_rest (drop_front bs rest) ∙ ap with_bytes (take_front bs rest) ∙ ap with_trees (bytes_back ts fits)

value_reads : (form : Form) (x : CTree-F CTree) (t : CTree) (rest : Bytes) → out-CTree t ≡ x → value_fits_at form x ≡ true → NoDigit rest → ◌≡◌ {A = CTree × Bytes} (value_in (value_text_at form x ++ rest)) (t, rest)
value_reads form (CTree-F.Num z) t rest e h ends = by form h
  where
    by : (f : Form) → value_fits_at f (CTree-F.Num z) ≡ true → ◌≡◌ {A = CTree × Bytes} (value_in (signed_decimal z ++ rest)) (t, rest)
    by forms.ANumber h =
        let w : Bytes = signed_decimal z ++ rest in
        let len : length w ≡ length (signed_decimal z) + length rest = length-append (signed_decimal z) rest in
        let long = signed_long z h in
        let of : CTree → CTree × Bytes = λ y. (y, rest) in
        ap (λ b. if b then string_in (drop 1 w) else tree_in (length w) w) (is_none is_tree_first (first w) 34 tree_signs.4 (sign_tree (first w) (signed_first z rest h)))
        ∙ number_reads_tree z (length w) rest h (omega arith) ends ∙ ap of (sym (tree.rolls-Num z) ∙ ap roll-CTree (sym e) ∙ roll-out-CTree t)
    by forms.AString h = cc
    by forms.AList h = cc
    by forms.AStruct h = cc
value_reads form (CTree-F.List ts) t rest e h ends = by form h
  where
    is : tree.List ts ≡ t
    is = sym (tree.rolls-List ts) ∙ ap roll-CTree (sym e) ∙ roll-out-CTree t

    of : CTree → CTree × Bytes
    of y = (y, rest)

    long : (closer : ℕ) → length (joined (44 ∷ []) (map tree_text ts)) ≤ length ((joined (44 ∷ []) (map tree_text ts) ++ closer ∷ []) ++ rest)
    long closer =
        let a : length ((joined (44 ∷ []) (map tree_text ts) ++ closer ∷ []) ++ rest) ≡ length (joined (44 ∷ []) (map tree_text ts) ++ closer ∷ []) + length rest = length-append (joined (44 ∷ []) (map tree_text ts) ++ closer ∷ []) rest in
        let b : length (joined (44 ∷ []) (map tree_text ts) ++ closer ∷ []) ≡ length (joined (44 ∷ []) (map tree_text ts)) + 1 = length-append (joined (44 ∷ []) (map tree_text ts)) (closer ∷ []) in omega arith

    by : (f : Form) → value_fits_at f (CTree-F.List ts) ≡ true → ◌≡◌ {A = CTree × Bytes} (value_in (list_form_text f ts ++ rest)) (t, rest)
    by forms.ANumber h = cc
    by forms.AString h =
        let g = both (list_all (λ u. is_byte_at (out-CTree u)) ts) (nat_lt (length ts) (2 ^ 64)) h in
        string_reads ts rest g.0 g.1 ∙ ap of is
    by forms.AList h = list_plain 91 93 ts (length ((joined (44 ∷ []) (map tree_text ts) ++ 93 ∷ []) ++ rest)) rest refl refl digit_signs.0 h (long 93) ∙ ap of is
    by forms.AStruct h = list_plain 123 125 ts (length ((joined (44 ∷ []) (map tree_text ts) ++ 125 ∷ []) ++ rest)) rest refl refl digit_signs.3 h (long 125) ∙ ap of is

-- ---- arguments

-- nothing, or the mark between two arguments
abbrev After : Bytes → Type 0
After rest = (first rest ≡ 0) ⊎ (first rest ≡ 44)

after_ends : (rest : Bytes) → After rest → Ends rest × ((first rest == 91) ≡ false) × ((first rest == 61) ≡ false)
after_ends rest (inl e) = ((ap is_name_byte e ∙ ends_signs.5, ap starts_step e), ap (λ b. b == 91) e, ap (λ b. b == 61) e)
after_ends rest (inr e) = ((ap is_name_byte e ∙ ends_signs.4, ap starts_step e), ap (λ b. b == 91) e, ap (λ b. b == 61) e)

type_first_0 : is_type_first 0 ≡ false
unfolding is_type_first is_name_byte
type_first_0 = refl

some_bytes : (w : Bytes) → is_type_first (first w) ≡ true → 1 ≤ length w
some_bytes [] h = absurd (true≢false (sym h ∙ type_first_0))
some_bytes (b ∷ w) h = omega arith

record TypeRead (t : Ty) (w rest : Bytes) : Type 0 where
  reads : ◌≡◌ {A = Ty × Bytes} (type_in (length w) w) (t, rest)
  starts : is_type_first (first w) ≡ true

type_reads : (t : Ty) (rest : Bytes) → ty_fits t ≡ true → Each (ty_keys t) → Ends rest → (first rest == 91) ≡ false → TypeRead t (ty_text t ++ rest) rest
type_reads t rest h e ends no91 =
    let w : Bytes = ty_text t ++ rest in
    let n : ℕ = length w - 1 in
    let len : length w ≡ length (ty_text t) + length rest = length-append (ty_text t) rest in
    let start = (ty_reads t h e (length (ty_text t)) (omega arith) rest ends).starts in
    let some = some_bytes w start in
    let up : length w ≡ suc n = omega arith in
    record {
      reads = ap (λ k. type_in k w) up ∙ whole t n w rest (ty_reads t h e n (omega arith) rest ends) no91;
      starts = start;
    }

type_long : (t : Ty) → ty_fits t ≡ true → Each (ty_keys t) → 1 ≤ length (ty_text t)
type_long t h e =
    let some = some_bytes (ty_text t ++ []) (type_reads t [] h e (ends_signs.5, refl) refl).starts in
    let len : length (ty_text t ++ []) ≡ length (ty_text t) + 0 = length-append (ty_text t) [] in omega arith

record ArgRead (a : Arg) (rest : Bytes) : Type 0 where
  reads : ◌≡◌ {A = Arg × Bytes} (arg_in (arg_text a ++ rest)) (a, rest)
  no_mark : (first (arg_text a ++ rest) == 44) ≡ false
  long : 1 ≤ length (arg_text a)

typed : (t : Ty) (w rest : Bytes) (a : Arg) (end : Bytes) → TypeRead t w rest → ◌≡◌ {A = Arg × Bytes} (typed_in (t, rest)) (a, end) → ◌≡◌ {A = Arg × Bytes} (arg_in w) (a, end)
typed t w rest a end r then_ =
    let symbol : Arg × Bytes = (let p = place_in (drop 1 w) in (args.OfSymbol p.0, p.1)) in
    ap (λ b. if b then symbol else typed_in (type_in (length w) w)) (is_none is_type_first (first w) 38 type_first_signs.2 r.starts) ∙ ap typed_in r.reads ∙ then_

arg_reads : (a : Arg) (rest : Bytes) → arg_fits a ≡ true → Each (arg_keys a) → After rest → ArgRead a rest
arg_reads (args.OfType t) rest h e after =
    let f = after_ends rest after in
    let r = type_reads t rest h e f.0 f.1 in
    let value : Arg × Bytes = (let v = value_in (drop 1 rest) in (args.OfValue (record { ty = t; tree = v.0 }), v.1)) in
    let bare_ : Arg × Bytes = (args.OfType t, rest) in
    record {
      reads = typed t (ty_text t ++ rest) rest (args.OfType t) rest r (ap (λ b. if b then value else bare_) f.2);
      no_mark = is_none is_type_first (first (ty_text t ++ rest)) 44 type_first_signs.3 r.starts;
      long = type_long t h e;
    }
arg_reads (args.OfValue c) rest h e after =
    let f = after_ends rest after in
    let g = both (ty_fits c.ty) (value_fits_at (form_of c.ty) (out-CTree c.tree)) h in
    let tail : Bytes = 61 ∷ (value_text c ++ rest) in
    let r = type_reads c.ty tail g.0 e (ends_signs.3, refl) refl in
    let of : CTree × Bytes → Arg × Bytes = λ v. (args.OfValue (record { ty = c.ty; tree = v.0 }), v.1) in
    let w = append_assoc (ty_text c.ty) (61 ∷ value_text c) rest in
    let len : length (ty_text c.ty ++ 61 ∷ value_text c) ≡ length (ty_text c.ty) + length (61 ∷ value_text c) = length-append (ty_text c.ty) (61 ∷ value_text c) in
    record {
      reads = ap arg_in w ∙ typed c.ty (ty_text c.ty ++ tail) tail (args.OfValue c) rest r (ap of (value_reads (form_of c.ty) (out-CTree c.tree) c.tree rest refl g.1 (ends_digit rest f.0)));
      no_mark = ap (λ x. first x == 44) w ∙ is_none is_type_first (first (ty_text c.ty ++ tail)) 44 type_first_signs.3 r.starts;
      long = omega arith;
    }
arg_reads (args.OfSymbol p) rest h e after =
    let f = after_ends rest after in
    let of : Place × Bytes → Arg × Bytes = λ r. (args.OfSymbol r.0, r.1) in
    record {
      reads = ap of (place_reads p rest h e f.0);
      no_mark = refl;
      long = omega arith;
    }

abbrev mark : Bytes
mark = 44 ∷ 32 ∷ []

behind_after : (all : List Arg) → After (behind mark (map arg_text all))
behind_after [] = inl refl
behind_after (a ∷ all) = inr refl

args_on : (all acc : List Arg) (k : ℕ) → list_all arg_fits all ≡ true → Each (flat_map arg_keys all) → length all ≤ k
    → ◌≡◌ {A = List Arg × Bytes} (turns has_arg next_arg k (acc, behind mark (map arg_text all))) (acc ++ all, [])
args_on [] acc k h e long =
    let put : List Arg → List Arg × Bytes = λ l. (l, []) in
    stopped has_arg next_arg k (acc, []) refl ∙ ap put (sym (append-nil acc))
args_on (a ∷ all) acc zero h e long = absurd (omega arith)
args_on (a ∷ all) acc (suc k) h e long =
    let f = both (arg_fits a) (list_all arg_fits all) h in
    let tail : Bytes = behind mark (map arg_text all) in
    let push : Arg × Bytes → List Arg × Bytes = λ r. (acc ++ r.0 ∷ [], r.1) in
    let put : List Arg → List Arg × Bytes = λ l. (l, []) in
    let one = arg_reads a tail f.0 (each_left (arg_keys a) (flat_map arg_keys all) e) (behind_after all) in
    turns_on has_arg next_arg k (acc, 44 ∷ 32 ∷ (arg_text a ++ tail)) (acc ++ a ∷ [], tail) (lt-ltb 0 (suc (suc (length (arg_text a ++ tail)))) (omega arith)) (ap push one.reads)
    ∙ args_on all (acc ++ a ∷ []) k f.1 (each_right (arg_keys a) (flat_map arg_keys all) e) (omega arith)
    ∙ ap put (append_assoc acc (a ∷ []) all)

marks_long : (all : List Arg) → length all ≤ length (behind mark (map arg_text all))
marks_long [] = omega arith
marks_long (a ∷ all) =
    let x = marks_long all in
    let e : length ((mark ++ arg_text a) ++ behind mark (map arg_text all)) ≡ length (mark ++ arg_text a) + length (behind mark (map arg_text all)) = length-append (mark ++ arg_text a) (behind mark (map arg_text all)) in
    omega arith

args_read : (all : List Arg) → list_all arg_fits all ≡ true → Each (flat_map arg_keys all) → ◌≡◌ {A = List Arg × Bytes} (args_in (text all)) (all, [])
args_read [] h e = refl
args_read (a ∷ all) h e =
    let f = both (arg_fits a) (list_all arg_fits all) h in
    let tail : Bytes = behind mark (map arg_text all) in
    let w : Bytes = arg_text a ++ tail in
    let k : ℕ = length w - 1 in
    let one = arg_reads a tail f.0 (each_left (arg_keys a) (flat_map arg_keys all) e) (behind_after all) in
    let long = one.long in
    let more = marks_long all in
    let len : length w ≡ length (arg_text a) + length tail = length-append (arg_text a) tail in
    let up : length w ≡ suc k = omega arith in
    let push : Arg × Bytes → List Arg × Bytes = λ r. (r.0 ∷ [], r.1) in
    ap (λ n. turns has_arg next_arg n ([], w)) up
    ∙ turns_on has_arg next_arg k ([], w) (a ∷ [], tail) (lt-ltb 0 (length w) (omega arith))
    (ap (λ b. push (arg_in (if b then drop 2 w else w))) one.no_mark ∙ ap push one.reads)
    ∙ args_on all (a ∷ []) k f.1 (each_right (arg_keys a) (flat_map arg_keys all) e) (omega arith)

pub reads_back : (all : List Arg) → Meets all → (args_in (text all)).0 ≡ all
reads_back all m = ap (λ r. r.0) (args_read all m.fits (neutral_keys (flat_map arg_keys all) m.keys))

pub one_key : OneKey
one_key a b x y e = sym (reads_back a x) ∙ ap (λ w. (args_in w).0) e ∙ reads_back b y

pub is_one : (a other : List Arg) (key : Bytes) → key ≡ text a → Meets a → Meets other → text other ≡ key → other ≡ a
is_one a other key is x y e = one_key other a y x (e ∙ is)

pub is_read : (key : Bytes) (got all : List Arg) → got ≡ (args_in key).0 → Meets all → text all ≡ key → got ≡ all
is_read key got all is m e = is ∙ ap (λ w. (args_in w).0) (sym e) ∙ reads_back all m
