-- The division of the suffixes of a `new` is that of the language's two productions.
use Rattle.std.proofs.Common.{◌≡◌, ◌⊎◌, List, [], ◌∷◌, ◌++◌, Option, Some, None, refl, sym, ap, subst, ◌∙◌, inl, inr}
use Rattle.dc_ast.specs.declared.expression.Argument.TheOpen.{Suffix-F}
use Rattle.dc_ast.specs.declared.expression.Argument.TheViews.{roll-Suffix, out-Suffix, out-roll-Suffix, roll-out-Suffix}
use Rattle.dc_ast.specs.declared.expression.Expr.{Expr}
use Rattle.dc_ast.specs.declared.expression.Suffix.{Suffix}
use Rattle.dc_ast.specs.declared.expression.Suffix.TheVariants as s
use Rattle.dc_ast.specs.declared.types.Bracket.{Bracket}
use Rattle.dc_ast.specs.declared.types.Bracket.TheVariants as d
use Rattle.dc_grammar.specs.NewArrays.{NewArray, Form, new_array, called, called_at, counted, counted_at, first_of, with_bracket}
use Rattle.dc_grammar.specs.NewForms as n
use Rattle.dc_grammar.specs.NewForms.{Brackets, Slices, IsCalled, IsCounted, NewDivides}

abbrev made : List Bracket → Expr → List Suffix → NewArray
made brackets count behind = record { brackets = brackets; count = count; behind = behind }

some_same : (x y : NewArray) → Some x ≡ Some y → x ≡ y
some_same x y e = cc

with_back : (b : Bracket) (r : Option NewArray) (y : NewArray) → with_bracket b r ≡ Some y → (z : NewArray) × (r ≡ Some z) × (made (b ∷ z.brackets) z.count z.behind ≡ y)
with_back b (Some z) y e = (z, refl, some_same (made (b ∷ z.brackets) z.count z.behind) y e)
with_back b None y e = absurd cc

called_form : (f : Form) (us : List Suffix) → called (roll-Suffix f ∷ us) ≡ called_at f us (called us)
called_form f us = ap (λ (g : Form). called_at g us (called us)) (out-roll-Suffix f)

counted_form : (f : Form) (us : List Suffix) → counted (roll-Suffix f ∷ us) ≡ counted_at f us (counted us)
counted_form f us = ap (λ (g : Form). counted_at g us (counted us)) (out-roll-Suffix f)

-- ---- what stands there is found

by_call : (bs : List Bracket) (ts : List Suffix) (x : Expr) (us : List Suffix) → Brackets bs ts → called (ts ++ s.Call (x ∷ []) ∷ us) ≡ Some (made bs x us)
unfolding roll-Suffix denote.Hole.Carrier.roll
by_call bs ts x us n.no_brackets = called_form (Suffix-F.Call (x ∷ [])) us
by_call bs ts x us (n.slice {bs = cs} {ts = vs} h) = called_form Suffix-F.All (vs ++ s.Call (x ∷ []) ∷ us) ∙ ap (with_bracket d.Slice) (by_call cs vs x us h)
by_call bs ts x us (n.fixed m {bs = cs} {ts = vs} h) = called_form (Suffix-F.Index m) (vs ++ s.Call (x ∷ []) ∷ us) ∙ ap (with_bracket (d.Fixed m)) (by_call cs vs x us h)

by_count : (bs : List Bracket) (ts : List Suffix) (x : Expr) (us : List Suffix) → Slices bs ts → counted (ts ++ s.Index x ∷ us) ≡ Some (made (bs ++ d.Slice ∷ []) x us)
unfolding roll-Suffix denote.Hole.Carrier.roll
by_count bs ts x us n.no_slices = counted_form (Suffix-F.Index x) us
by_count bs ts x us (n.slices {bs = cs} {ts = vs} h) = counted_form Suffix-F.All (vs ++ s.Index x ∷ us) ∙ ap (with_bracket d.Slice) (by_count cs vs x us h)

called_is : (ts : List Suffix) (y : NewArray) → IsCalled ts y → called ts ≡ Some y
called_is ts y h = ap called h.text ∙ by_call y.brackets h.front y.count y.behind h.brackets

counted_is : (ts : List Suffix) (y : NewArray) → IsCounted ts y → counted ts ≡ Some y
counted_is ts y h = ap counted h.text ∙ by_count h.others h.front y.count y.behind h.slices ∙ ap (λ (bs : List Bracket). Some (made bs y.count y.behind)) (sym h.brackets)

-- ---- what is found stands there

call_at : (f : Form) (us : List Suffix) (y : NewArray) → ((z : NewArray) → called us ≡ Some z → IsCalled us z) → called_at f us (called us) ≡ Some y → IsCalled (roll-Suffix f ∷ us) y
unfolding roll-Suffix denote.Hole.Carrier.roll
call_at (Suffix-F.Call []) us y more e = absurd cc
call_at (Suffix-F.Call (x ∷ [])) us y more e = subst (λ (z : NewArray). IsCalled (s.Call (x ∷ []) ∷ us) z) (some_same (made [] x us) y e) (record { front = []; brackets = n.no_brackets; text = refl })
call_at (Suffix-F.Call (x ∷ z ∷ zs)) us y more e = absurd cc
call_at Suffix-F.All us y more e =
    let w = with_back d.Slice (called us) y e in
    let h = more w.0 w.1 in
    subst (λ (z : NewArray). IsCalled (s.All ∷ us) z) w.2 (record { front = s.All ∷ h.front; brackets = n.slice h.brackets; text = ap (λ (v : List Suffix). s.All ∷ v) h.text })
call_at (Suffix-F.Index m) us y more e =
    let w = with_back (d.Fixed m) (called us) y e in
    let h = more w.0 w.1 in
    subst (λ (z : NewArray). IsCalled (s.Index m ∷ us) z) w.2 (record { front = s.Index m ∷ h.front; brackets = n.fixed m h.brackets; text = ap (λ (v : List Suffix). s.Index m ∷ v) h.text })
call_at (Suffix-F.Member x) us y more e = absurd cc
call_at (Suffix-F.«Suffix::Slice» x z) us y more e = absurd cc
call_at Suffix-F.Increment us y more e = absurd cc
call_at Suffix-F.Decrement us y more e = absurd cc

called_back : (ts : List Suffix) (y : NewArray) → called ts ≡ Some y → IsCalled ts y
called_back [] y e = absurd cc
called_back (t ∷ us) y e = subst (λ (u : Suffix). IsCalled (u ∷ us) y) (roll-out-Suffix t) (call_at (out-Suffix t) us y (λ z. called_back us z) e)

count_at : (f : Form) (us : List Suffix) (y : NewArray) → ((z : NewArray) → counted us ≡ Some z → IsCounted us z) → counted_at f us (counted us) ≡ Some y → IsCounted (roll-Suffix f ∷ us) y
unfolding roll-Suffix denote.Hole.Carrier.roll
count_at (Suffix-F.Call xs) us y more e = absurd cc
count_at Suffix-F.All us y more e =
    let w = with_back d.Slice (counted us) y e in
    let h = more w.0 w.1 in
    subst (λ (z : NewArray). IsCounted (s.All ∷ us) z) w.2 (record {
      others = d.Slice ∷ h.others;
      front = s.All ∷ h.front;
      slices = n.slices h.slices;
      brackets = ap (λ (bs : List Bracket). d.Slice ∷ bs) h.brackets;
      text = ap (λ (v : List Suffix). s.All ∷ v) h.text;
    })
count_at (Suffix-F.Index m) us y more e = subst (λ (z : NewArray). IsCounted (s.Index m ∷ us) z) (some_same (made (d.Slice ∷ []) m us) y e) (record { others = []; front = []; slices = n.no_slices; brackets = refl; text = refl })
count_at (Suffix-F.Member x) us y more e = absurd cc
count_at (Suffix-F.«Suffix::Slice» x z) us y more e = absurd cc
count_at Suffix-F.Increment us y more e = absurd cc
count_at Suffix-F.Decrement us y more e = absurd cc

counted_back : (ts : List Suffix) (y : NewArray) → counted ts ≡ Some y → IsCounted ts y
counted_back [] y e = absurd cc
counted_back (t ∷ us) y e = subst (λ (u : Suffix). IsCounted (u ∷ us) y) (roll-out-Suffix t) (count_at (out-Suffix t) us y (λ z. counted_back us z) e)

-- ---- the first is the one

not_called : (ts : List Suffix) → ((z : NewArray) → IsCalled ts z → ⊥) → called ts ≡ None
not_called ts none = go (called ts) refl
  where
    go : (r : Option NewArray) → called ts ≡ r → r ≡ None
    go (Some z) is = absurd (none z (called_back ts z is))
    go None is = refl

either_is : (ts : List Suffix) (y : NewArray) (r : Option NewArray) → called ts ≡ r → first_of r (counted ts) ≡ Some y → IsCalled ts y ⊎ (IsCounted ts y × ((z : NewArray) → IsCalled ts z → ⊥))
either_is ts y (Some z) is e = inl (subst (λ (x : NewArray). IsCalled ts x) (some_same z y e) (called_back ts z is))
either_is ts y None is e = inr (counted_back ts y e, λ z h. let c : None ≡ Some z = sym is ∙ called_is ts z h in absurd cc)

pub new_divides : NewDivides
unfolding new_array
new_divides = record {
  called = λ ts y h. ap (λ (r : Option NewArray). first_of r (counted ts)) (called_is ts y h);
  counted = λ ts y h none. ap (λ (r : Option NewArray). first_of r (counted ts)) (not_called ts none) ∙ counted_is ts y h;
  either = λ ts y e. either_is ts y (called ts) refl e;
}
