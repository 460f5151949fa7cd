-- Conversions that lose a number, and which candidate is the best, computed.
use Rattle.std.proofs.Common.{◌≡◌, ◌∙◌, refl, sym, ap, ap₂, ℕ, ◌<◌, ◌⊎◌, inl, inr, List, [], ◌∷◌, Bool, true, false, cond, ◌||◌, ◌&&◌, min, None, ℤ, pos, neg_ℤ, arith, lit<}
use Rattle.std.specs.List.{All}
use Rattle.std.proofs.lemmas.Int.{ints}
use Rattle.std.proofs.lemmas.List.Elements.{All-nil, All-cons}
use Rattle.dc_types.specs.declared.kind.Kind.{Kind}
use Rattle.dc_types.specs.declared.kind.Kind.TheVariants as kinds
use Rattle.dc_candidate.specs.declared.range.Range.{Range}
use Rattle.dc_candidate.specs.declared.range.Source.{Source, roll-Source, out-roll-Source}
use Rattle.dc_candidate.specs.declared.range.Source.TheFolds.{fold-roll-Source}
use Rattle.dc_types.specs.declared.ty.Ty.{Ty, map-Ty}
use Rattle.dc_types.specs.declared.ty.Ty.TheViews.{roll-Ty, out-Ty, out-roll-Ty}
use Rattle.dc_types.specs.declared.ty.Ty.TheFolds.{fold-roll-Ty}
use Rattle.dc_types.specs.Same as same
use Rattle.dc_types.specs.declared.ty.Ty.TheOpen.{Ty-F}
use Rattle.dc_candidate.specs.declared.candidate.CallParam.{CallParam}
use Rattle.dc_candidate.specs.declared.candidate.Candidate.{Candidate}
use Rattle.dc_types.specs.Integers.{bits_of, is_signed, least, greatest, wrap, signed_residue, residue, InKind}
use Rattle.dc_convert.specs.Ranges.{Within, lies}
use Rattle.dc_convert.specs.Levels.{widens, number_goes, Tests, goes, goes_at, fits, fits_at, type_of, level, IsPast, IsBelow}
use Rattle.dc_convert.specs.Best.{Numbered, numbered, call_level, level_of, goes_before, Beats, IsBest, NoMatch, Ambiguous, BeatsAll}
use Rattle.dc_convert.proofs.Choosing.{one_beats}
use Rattle.dc_convert.proofs.Causes.{causes}

abbrev of_kind : Kind → Ty
of_kind k = roll-Ty (Ty-F.Int k)

-- an expression of a kind with a range
abbrev expression : Kind → Range → Bool → Source
expression k r place = roll-Source (record { ty = of_kind k; range = r; place = place; items = None })

-- one that is no place
abbrev number : Kind → ℤ → ℤ → Source
number k lo hi = expression k (record { lo = lo; hi = hi }) false

-- The level of a number and a kind computes. Trees are no more than their parts, by the equations of their folds.
same_kinds : (k j : Kind) → same.ty (of_kind k) (of_kind j) ≡ same.kind k j
same_kinds k j =
    ap (λ f. f (of_kind j)) (fold-roll-Ty (Ty → Bool) (λ f y. same.ty_at f (out-Ty y)) (Ty-F.Int k))
    ∙ ap (same.ty_at (Ty-F.Int k)) (out-roll-Ty (Ty-F.Int j))

goes_kinds : (k j : Kind) (r : Range) (place : Bool) → goes r place (of_kind k) (of_kind j) ≡ number_goes k r j
goes_kinds k j r place =
    ap (λ t. t.goes (of_kind j)) (fold-roll-Ty Tests (λ x. record { is = λ to. same.ty_at (map-Ty Tests (Ty → Bool) (λ t. t.is) x) (out-Ty to); goes = λ to. goes_at r place x to (out-Ty to) }) (Ty-F.Int k))
    ∙ ap (goes_at r place (Ty-F.Int k) (of_kind j)) (out-roll-Ty (Ty-F.Int j))

fits_kinds : (k j : Kind) (r : Range) (place : Bool) → fits (expression k r place) (of_kind j) ≡ ((same.kind k j || number_goes k r j) || false)
fits_kinds k j r place =
    ap (λ f. f (of_kind j)) (fold-roll-Source (Ty → Bool) fits_at (record { ty = of_kind k; range = r; place = place; items = None }))
    ∙ ap₂ (λ s t. (s || t) || false) (same_kinds k j) (goes_kinds k j r place)

abbrev tested : Bool → Bool → ℕ
tested is converts = cond is 2 (cond ((is || converts) || false) 1 0)

is_of_kind : (k : Kind) (r : Range) (place : Bool) → type_of (expression k r place) ≡ of_kind k
is_of_kind k r place = ap (λ s. s.ty) (out-roll-Source (record { ty = of_kind k; range = r; place = place; items = None }))

level_is : (k j : Kind) (r : Range) (place : Bool) → level (expression k r place) (of_kind j) ≡ tested (same.kind k j) (number_goes k r j)
unfolding level
level_is k j r place =
    ap₂ (λ s t. cond s 2 (cond t 1 0)) (ap (λ t. same.ty t (of_kind j)) (is_of_kind k r place) ∙ same_kinds k j) (fits_kinds k j r place)

-- ---- both cases in which a conversion at level 1 loses a number

-- a `ubyte` goes to `byte`, and 200 becomes -56
past_goes : level (number kinds.U8 (pos 0) (pos 255)) (of_kind kinds.I8) ≡ 1
unfolding widens lies bits_of least greatest
past_goes = level_is kinds.U8 kinds.I8 (record { lo = pos 0; hi = pos 255 }) false

past_wraps : wrap kinds.I8 (pos 200) ≡ neg_ℤ (pos 56)
unfolding wrap signed_residue residue
past_wraps = refl

past_is : IsPast kinds.U8 kinds.I8 (pos 200)
unfolding is_signed bits_of greatest
past_is = record { from = refl; onto = refl; width = refl; past = omega (arith, ints) }

past_stands : InKind kinds.U8 (pos 200) × Within (record { lo = pos 0; hi = pos 255 }) (pos 200)
unfolding least greatest
past_stands = (record { at_least = omega (arith, ints); at_most = omega (arith, ints) }, record { at_least = omega (arith, ints); at_most = omega (arith, ints) })

-- an `int` goes to `ulong`, and -1 becomes its greatest number
below_goes : level (number kinds.I32 (neg_ℤ (pos 2147483648)) (pos 2147483647)) (of_kind kinds.U64) ≡ 1
unfolding widens lies bits_of least greatest
below_goes = level_is kinds.I32 kinds.U64 (record { lo = neg_ℤ (pos 2147483648); hi = pos 2147483647 }) false

below_wraps : wrap kinds.U64 (neg_ℤ (pos 1)) ≡ pos 18446744073709551615
unfolding wrap residue
below_wraps = refl

below_is : IsBelow kinds.I32 kinds.U64 (neg_ℤ (pos 1))
unfolding is_signed bits_of
below_is = record { from = refl; onto = refl; other = λ e. cc; width = omega arith; below = omega (arith, ints) }

below_stands : InKind kinds.I32 (neg_ℤ (pos 1)) × Within (record { lo = neg_ℤ (pos 2147483648); hi = pos 2147483647 }) (neg_ℤ (pos 1))
unfolding least greatest
below_stands = (record { at_least = omega (arith, ints); at_most = omega (arith, ints) }, record { at_least = omega (arith, ints); at_most = omega (arith, ints) })

-- `bool` takes the numbers 0 and 1 alone, of a `byte` too, and loses none
bool_goes : level (number kinds.I8 (pos 0) (pos 1)) (of_kind kinds.Bool) ≡ 1
unfolding widens lies bits_of least greatest
bool_goes = level_is kinds.I8 kinds.Bool (record { lo = pos 0; hi = pos 1 }) false

bool_refuses : level (number kinds.I8 (neg_ℤ (pos 1)) (pos 1)) (of_kind kinds.Bool) ≡ 0
unfolding widens lies bits_of least greatest
bool_refuses = level_is kinds.I8 kinds.Bool (record { lo = neg_ℤ (pos 1); hi = pos 1 }) false

-- ---- candidates

abbrev param : Kind → CallParam
param k = record { ty = of_kind k; by_ref = false }

abbrev ref_param : Kind → CallParam
ref_param k = record { ty = of_kind k; by_ref = true }

-- a plain function, or an instance of a template, with the kinds of its parameters
abbrev function : List CallParam → List Bool → Candidate
function params above = record { params = params; plain = true; above = above }

abbrev instance : List CallParam → List Bool → Candidate
instance params above = record { params = params; plain = false; above = above }

abbrev in_set : ℕ → ℕ → Candidate → Numbered
in_set s n c = record { set = s; number = n; candidate = c }

abbrev one : Source
one = number kinds.I32 (pos 1) (pos 1)

abbrev any_int : Source
any_int = number kinds.I32 (neg_ℤ (pos 2147483648)) (pos 2147483647)

-- the levels of calls with one argument, with two, and with one for a `ref` parameter
of_one : (k j : Kind) (r : Range) (place : Bool) → call_level (param j ∷ []) (expression k r place ∷ []) ≡ min (tested (same.kind k j) (number_goes k r j)) 2
of_one k j r place = ap (λ n. min n 2) (level_is k j r place)

of_pair : (k j m : Kind) (r : Range) (place : Bool) → call_level (param j ∷ param m ∷ []) (expression k r place ∷ expression k r place ∷ []) ≡ min (tested (same.kind k j) (number_goes k r j)) (min (tested (same.kind k m) (number_goes k r m)) 2)
of_pair k j m r place = ap₂ min (level_is k j r place) (ap (λ n. min n 2) (level_is k m r place))

of_ref : (k j : Kind) (r : Range) (place : Bool) → call_level (ref_param j ∷ []) (expression k r place ∷ []) ≡ min (cond (place && same.kind k j) 2 0) 2
of_ref k j r place =
    ap₂ (λ p t. min (cond (p && t) 2 0) 2)
    (ap (λ s. s.place) (out-roll-Source (record { ty = of_kind k; range = r; place = place; items = None })))
    (ap (λ t. same.ty t (of_kind j)) (is_of_kind k r place) ∙ same_kinds k j)

-- none of a lower level beats one, and none beats itself
lower : (args : List Source) (a b : Numbered) → level_of args b < level_of args a → Beats args b a → ⊥
lower args a b low (inl more) = omega (arith, low, more)
lower args a b low (inr (same_level, before)) = omega (arith, low, same_level)

itself : (args : List Source) (a : Numbered) → Beats args a a → ⊥
itself args a beats = one_beats args a a beats beats

-- nor does one of an equal level beat one that it doesn't go before
behind : (args : List Source) (a b : Numbered) → level_of args a ≡ level_of args b → goes_before b a ≡ false → Beats args b a → ⊥
behind args a b e not_before (inl more) = omega (arith, e, more)
behind args a b e not_before (inr (same_level, before)) = cc

-- ---- two candidates of one set

module _ (args : List Source) (c d : Candidate) where
  abbrev first : Numbered
  first = in_set 0 0 c

  abbrev second : Numbered
  second = in_set 0 1 d

  abbrev one_set : List (List Candidate)
  one_set = (c ∷ d ∷ []) ∷ []

  of_two : (P : Numbered → Type 0) → P first → P second → All P (numbered one_set)
  of_two P p q = All-cons P first (second ∷ []) p (All-cons P second [] q (All-nil P))

  first_best : 0 < level_of args first → Beats args first second → (Beats args second first → ⊥) → IsBest one_set args first
  first_best matches beats unbeaten = record {
    stands = (0, lit< tt, refl);
    matches = matches;
    beats = of_two (λ other. (other.number ≡ 0) ⊎ Beats args first other) (inl refl) (inr beats);
    unbeaten = of_two (λ other. Beats args other first → ⊥) (itself args first) unbeaten;
    alone = of_two (λ other. (other.set ≡ 0) ⊎ (level_of args other ≡ 0)) (inl refl) (inl refl);
  }

  tie : 0 < level_of args first → (Beats args first second → ⊥) → (Beats args second first → ⊥) → Ambiguous one_set args
  tie matches m n = (causes one_set args).1 (record {
    some = first;
    stands = (0, lit< tt, refl);
    matches = matches;
    cause = inl (of_two (λ c. BeatsAll one_set args c → ⊥) (λ all. first_fails (all 1 second (lit< tt))) (λ all. second_fails (all 0 first (lit< tt))));
  })
    where
      first_fails : (second.number ≡ first.number) ⊎ Beats args first second → ⊥
      first_fails (inl e) = omega (arith, e)
      first_fails (inr beats) = m beats

      second_fails : (first.number ≡ second.number) ⊎ Beats args second first → ⊥
      second_fails (inl e) = omega (arith, e)
      second_fails (inr beats) = n beats

-- `f(1)` of `f(int)` and `f(long)` calls the first, whose level is 2
abbrev of_int : Candidate
of_int = function (param kinds.I32 ∷ []) (true ∷ true ∷ [])

abbrev of_long : Candidate
of_long = function (param kinds.I64 ∷ []) (false ∷ true ∷ [])

int_level : (s n : ℕ) → level_of (one ∷ []) (in_set s n of_int) ≡ 2
int_level s n = of_one kinds.I32 kinds.I32 (record { lo = pos 1; hi = pos 1 }) false

long_level : (s n : ℕ) → level_of (one ∷ []) (in_set s n of_long) ≡ 1
unfolding widens bits_of
long_level s n = of_one kinds.I32 kinds.I64 (record { lo = pos 1; hi = pos 1 }) false

higher_level : IsBest (one_set (one ∷ []) of_int of_long) (one ∷ []) (in_set 0 0 of_int)
higher_level =
    let p = int_level 0 0 in let q = long_level 0 1 in
    let less : level_of (one ∷ []) (in_set 0 1 of_long) < level_of (one ∷ []) (in_set 0 0 of_int) = omega (arith, p, q) in
    first_best (one ∷ []) of_int of_long (omega (arith, p)) (inl less) (lower (one ∷ []) (in_set 0 0 of_int) (in_set 0 1 of_long) less)

-- a plain function goes before an instance of a template at its level, also where that is more specialised
abbrev plain : Candidate
plain = function (param kinds.I32 ∷ []) (true ∷ false ∷ [])

abbrev special : Candidate
special = instance (param kinds.I32 ∷ []) (true ∷ true ∷ [])

plain_first : IsBest (one_set (one ∷ []) plain special) (one ∷ []) (in_set 0 0 plain)
plain_first =
    let p = of_one kinds.I32 kinds.I32 (record { lo = pos 1; hi = pos 1 }) false in
    let e : level_of (one ∷ []) (in_set 0 0 plain) ≡ level_of (one ∷ []) (in_set 0 1 special) = refl in
    first_best (one ∷ []) plain special (omega (arith, p)) (inr (e, refl)) (behind (one ∷ []) (in_set 0 0 plain) (in_set 0 1 special) e refl)

-- of two instances at one level the more specialised one goes first
abbrev general : Candidate
general = instance (param kinds.I32 ∷ []) (false ∷ true ∷ [])

special_first : IsBest (one_set (one ∷ []) special general) (one ∷ []) (in_set 0 0 special)
special_first =
    let p = of_one kinds.I32 kinds.I32 (record { lo = pos 1; hi = pos 1 }) false in
    let e : level_of (one ∷ []) (in_set 0 0 special) ≡ level_of (one ∷ []) (in_set 0 1 general) = refl in
    first_best (one ∷ []) special general (omega (arith, p)) (inr (e, refl)) (behind (one ∷ []) (in_set 0 0 special) (in_set 0 1 general) e refl)

-- `f(1, 1)` of `f(int, long)` and `f(long, int)` is ambiguous: both have level 1, and neither is as specialised as the other
abbrev int_long : Candidate
int_long = function (param kinds.I32 ∷ param kinds.I64 ∷ []) (true ∷ false ∷ [])

abbrev long_int : Candidate
long_int = function (param kinds.I64 ∷ param kinds.I32 ∷ []) (false ∷ true ∷ [])

int_long_level : level_of (one ∷ one ∷ []) (in_set 0 0 int_long) ≡ 1
unfolding widens bits_of
int_long_level = of_pair kinds.I32 kinds.I32 kinds.I64 (record { lo = pos 1; hi = pos 1 }) false

long_int_level : level_of (one ∷ one ∷ []) (in_set 0 1 long_int) ≡ 1
unfolding widens bits_of
long_int_level = of_pair kinds.I32 kinds.I64 kinds.I32 (record { lo = pos 1; hi = pos 1 }) false

ambiguous : Ambiguous (one_set (one ∷ one ∷ []) int_long long_int) (one ∷ one ∷ [])
ambiguous =
    let p = int_long_level in let q = long_int_level in
    let args = one ∷ one ∷ [] in
    tie args int_long long_int (omega (arith, p))
    (behind args (in_set 0 1 long_int) (in_set 0 0 int_long) (q ∙ sym p) refl)
    (behind args (in_set 0 0 int_long) (in_set 0 1 long_int) (p ∙ sym q) refl)

-- an `int` that may have any value fits no `byte`, and a call without its argument fits nothing
abbrev of_byte : Candidate
of_byte = function (param kinds.I8 ∷ []) (true ∷ false ∷ [])

abbrev of_none : Candidate
of_none = function [] (false ∷ true ∷ [])

byte_level : (s n : ℕ) → level_of (any_int ∷ []) (in_set s n of_byte) ≡ 0
unfolding widens lies bits_of least greatest
byte_level s n = of_one kinds.I32 kinds.I8 (record { lo = neg_ℤ (pos 2147483648); hi = pos 2147483647 }) false

no_match : NoMatch (one_set (any_int ∷ []) of_byte of_none) (any_int ∷ [])
no_match = of_two (any_int ∷ []) of_byte of_none (λ c. level_of (any_int ∷ []) c ≡ 0) (byte_level 0 0) refl

-- a `ref` parameter takes a place of its type, and no other expression
ref_takes : call_level (ref_param kinds.I32 ∷ []) (expression kinds.I32 (record { lo = pos 0; hi = pos 9 }) true ∷ []) ≡ 2
ref_takes = of_ref kinds.I32 kinds.I32 (record { lo = pos 0; hi = pos 9 }) true

ref_refuses : call_level (ref_param kinds.I32 ∷ []) (one ∷ []) ≡ 0
ref_refuses = of_ref kinds.I32 kinds.I32 (record { lo = pos 1; hi = pos 1 }) false

ref_refuses_another : call_level (ref_param kinds.I64 ∷ []) (expression kinds.I32 (record { lo = pos 0; hi = pos 9 }) true ∷ []) ≡ 0
ref_refuses_another = of_ref kinds.I32 kinds.I64 (record { lo = pos 0; hi = pos 9 }) true

-- ---- one candidate in each of two sets

abbrev two_sets : Candidate → Candidate → List (List Candidate)
two_sets c d = (c ∷ []) ∷ (d ∷ []) ∷ []

-- both match, so the call is ambiguous, though one has the higher level
two_match : Ambiguous (two_sets of_int of_long) (one ∷ [])
two_match =
    let p = int_level 0 0 in let q = long_level 1 1 in
    (causes (two_sets of_int of_long) (one ∷ [])).1 (record {
      some = in_set 0 0 of_int;
      stands = (0, lit< tt, refl);
      matches = omega (arith, p);
      cause = inr (record {
        a = in_set 0 0 of_int;
        b = in_set 1 1 of_long;
        a_stands = (0, lit< tt, refl);
        b_stands = (1, lit< tt, refl);
        a_matches = omega (arith, p);
        b_matches = omega (arith, q);
        apart = λ e. omega (arith, e);
      });
    })

-- only that of the first set matches
abbrev wants_two : Candidate
wants_two = function (param kinds.I32 ∷ param kinds.I32 ∷ []) (false ∷ true ∷ [])

one_matches : IsBest (two_sets of_int wants_two) (one ∷ []) (in_set 0 0 of_int)
one_matches =
    let p = int_level 0 0 in
    let low : level_of (one ∷ []) (in_set 1 1 wants_two) ≡ 0 = omega arith in
    let less : level_of (one ∷ []) (in_set 1 1 wants_two) < level_of (one ∷ []) (in_set 0 0 of_int) = omega (arith, p, low) in
    record {
      stands = (0, lit< tt, refl);
      matches = omega (arith, p);
      beats = both (λ other. (other.number ≡ 0) ⊎ Beats (one ∷ []) (in_set 0 0 of_int) other) (inl refl) (inr (inl less));
      unbeaten = both (λ other. Beats (one ∷ []) other (in_set 0 0 of_int) → ⊥) (itself (one ∷ []) (in_set 0 0 of_int)) (lower (one ∷ []) (in_set 0 0 of_int) (in_set 1 1 wants_two) less);
      alone = both (λ other. (other.set ≡ 0) ⊎ (level_of (one ∷ []) other ≡ 0)) (inl refl) (inr low);
    }
  where
    both : (P : Numbered → Type 0) → P (in_set 0 0 of_int) → P (in_set 1 1 wants_two) → All P (numbered (two_sets of_int wants_two))
    both P a b = All-cons P (in_set 0 0 of_int) (in_set 1 1 wants_two ∷ []) a (All-cons P (in_set 1 1 wants_two) [] b (All-nil P))
