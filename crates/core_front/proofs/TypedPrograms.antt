-- A program that is resolved is typed and closed.
use Rattle.std.proofs.Common.{◌≡◌, refl, sym, ap, subst, ◌∙◌, ℕ, suc, ◌+◌, Bool, true, false, not, cond, ◌&&◌, ◌||◌, List, [], ◌∷◌, ◌++◌, append_assoc, append-nil, map, length, length-append, Option, Some, None, Result, Ok, Err, arith}
use Rattle.std.specs.Prelude.{nat_le, nat_eq, slice_get, codes, IfOk}
use Rattle.std.specs.Str.{bytes_eq}
use Rattle.std.proofs.lemmas.Bool.{leb-true, eqb-true}
use Rattle.dc_types.specs.declared.kind.Kind.TheVariants as kind
use Rattle.dc_types.specs.declared.place.Place.{Place}
use Rattle.dc_types.specs.declared.place.Step.{Step}
use Rattle.dc_types.specs.declared.place.Step.TheVariants.{At}
use Rattle.dc_types.specs.declared.ty.Ty.{Ty}
use Rattle.dc_types.specs.Exact.{place-Decides}
use Rattle.dc_types.specs.Same as same
use Rattle.core_tree.specs.Values.{int, void}
use Rattle.core_tree.specs.Weight.{tree_weight, tree_weight_step, body_weight}
use Rattle.core_tree.specs.Meaning.{body_at}
use Rattle.core_tree.specs.Typed.{Each, AreTyped, IsTyped, IsTypedStart, all_of, are_numbers, are_of, completes, is_among, is_number, is_of, is_typed, is_void, takes, type_at, typed_as, types_of}
use Rattle.core_tree.specs.declared.tree.Variable.{Variable}
use Rattle.core_tree.specs.declared.tree.Tree.{Tree}
use Rattle.core_tree.specs.declared.tree.Tree.TheVariants as tree
use Rattle.core_tree.specs.declared.tree.Tree.TheOpen.{Tree-F}
use Rattle.core_tree.specs.declared.tree.Tree.TheFolds.{fold-roll-Tree}
use Rattle.core_tree.specs.declared.body.Body.{Body}
use Rattle.core_front.specs.Building.{is_some}
use Rattle.core_front.specs.Naming.{visible, named, Apart}
use Rattle.dc_types.specs.declared.refusal.Fail.{Fail}
use Rattle.core_front.specs.Judging.{Answers, go_on, refuse, place_in, variable_in, result_of}
use Rattle.core_front.specs.JudgingStatements.{each_step, step, steps_of, each_parameter, finished, body_with, body_of, each_body, bodies_of, no_main, main_call, main_by, main_of, resolved_of}
use Rattle.core_front.specs.declared.built.Function.{Function}
use Rattle.core_front.specs.declared.built.Parameter.{Parameter}
use Rattle.core_front.specs.declared.judged.Known.{Known}
use Rattle.core_front.specs.declared.judged.Resolution.{Resolution}
use Rattle.core_front.specs.declared.judged.Stepped.{Stepped}
use Rattle.core_front.specs.declared.scope.Local.{Local}
use Rattle.core_front.proofs.TypedValues.{ok_is, no_ok, some_is, no_some, goes, chosen, other, and_true, same_ty, Int, int_is_number, Held, CallsFit, t_call}
use Rattle.core_front.proofs.TypedStatements.{each_front, each_back, IsInt, statements_fit}

-- ---- variables of type `int`

types_fit : (vs : List Variable) → Each IsInt vs → (tys : List (Option Ty)) → Each Int tys → length tys ≡ length vs → are_of (types_of vs) tys ≡ true
types_fit [] h [] g e = refl
types_fit [] h (t ∷ tys) g e = absurd (omega (arith, e))
types_fit (v ∷ vs) h [] g e = absurd (omega (arith, e))
types_fit (v ∷ vs) h (t ∷ tys) g e =
    and_true (is_of v.ty t) (are_of (types_of vs) tys)
    (ap (λ y. is_of y t) h.0 ∙ (ap (is_of (int kind.I32)) g.0 ∙ same_ty (int kind.I32)))
    (types_fit vs h.1 tys g.1 (omega (arith, e)))

ints_are_numbers : (vs : List Variable) → Each IsInt vs → are_numbers (types_of vs) ≡ true
ints_are_numbers [] h = refl
ints_are_numbers (v ∷ vs) h = and_true (is_number v.ty) (are_numbers (types_of vs)) (ap is_number h.0 ∙ int_is_number) (ints_are_numbers vs h.1)

same_place : (p : Place) → same.place p p ≡ true
same_place p = (place-Decides p p).1 refl

place_apart : (p q : Place) → (p ≡ q → ⊥) → same.place p q ≡ false
place_apart p q apart = by_test (same.place p q) refl where
  by_test : (b : Bool) → same.place p q ≡ b → same.place p q ≡ false
  by_test true e = absurd (apart ((place-Decides p q).0 e))
  by_test false e = e

found : (v : Variable) → IsInt v → (pre : List Variable) → Each IsInt pre → (post : List Variable) → is_among v (pre ++ v ∷ post) ≡ true
found v is [] h post = ap (λ b. is_of v.ty (cond b (Some v.ty) (type_at v.place post))) (same_place v.place) ∙ same_ty v.ty
found v is (w ∷ pre) h post = by_test (found v is pre h.1 post) (same.place w.place v.place) refl where
  by_test : is_among v (pre ++ v ∷ post) ≡ true → (b : Bool) → same.place w.place v.place ≡ b → is_among v (w ∷ (pre ++ v ∷ post)) ≡ true
  by_test next true e = ap (λ b. is_of v.ty (cond b (Some w.ty) (type_at v.place (pre ++ v ∷ post)))) e ∙ (ap (λ t. same.ty t w.ty) is ∙ (ap (same.ty (int kind.I32)) h.0 ∙ same_ty (int kind.I32)))
  by_test next false e = ap (λ b. is_of v.ty (cond b (Some w.ty) (type_at v.place (pre ++ v ∷ post)))) e ∙ next

within_from : (pre vs : List Variable) → Each IsInt pre → Each IsInt vs → Each (λ v. is_among v (pre ++ vs) ≡ true) vs
within_from pre [] h g = tt
within_from pre (v ∷ vs) h g = (
  found v g.0 pre h vs,
  subst (λ l. Each (λ w. is_among w l ≡ true) vs) (append_assoc pre (v ∷ []) vs) (within_from (pre ++ v ∷ []) vs (each_one_more pre h) g.1),
) where
  each_one_more : (ws : List Variable) → Each IsInt ws → Each IsInt (ws ++ v ∷ [])
  each_one_more [] x = (g.0, tt)
  each_one_more (w ∷ ws) x = (x.0, each_one_more ws x.1)

-- ---- functions and their bodies

-- what is known of the body that a function is resolved to
record Facts (k : Known) (f : Function) (b : Body) : Type 0 where
  pub params : List Local
  pub steps : Stepped
  pub params_are : each_parameter [] f.parameters k ≡ Ok params
  pub steps_are : each_step (map step f.body) k f.gives_int (record { stmts = []; state = record { scope = params; declared = [] } }) ≡ Ok steps
  pub body_is : body_with k f (map (λ l. variable_in k l.at) params) steps ≡ b
  pub flows : (f.gives_int && all_of (map completes b.stmts)) ≡ false
  pub weighs : nat_le (body_weight b) 4194304 ≡ true

finished_is : (k : Known) (f : Function) (made b : Body) → finished k f made ≡ Ok b → ((f.gives_int && all_of (map completes made.stmts)) ≡ false) × (nat_le (body_weight made) 4194304 ≡ true) × (made ≡ b)
unfolding finished
finished_is k f made b e =
    let o = other (f.gives_int && all_of (map completes made.stmts)) (cond (nat_le (body_weight made) 4194304) (Ok made) (Err (refuse k 18 f.at []))) b (refuse k 25 f.at []) e in
    let c = chosen (nat_le (body_weight made) 4194304) made b (refuse k 18 f.at []) o.1 in
    (o.0, c.0, c.1)

facts : (k : Known) (f : Function) (b : Body) → body_of k f ≡ Ok b → Facts k f b
unfolding body_of steps_of
facts k f b e =
    let g = goes (each_parameter [] f.parameters k) (λ ps. go_on (steps_of k f.gives_int (record { scope = ps; declared = [] }) f.body) (λ x. finished k f (body_with k f (map (λ l. variable_in k l.at) ps) x))) b e in
    let ps = g.0 in
    let s = goes (steps_of k f.gives_int (record { scope = ps; declared = [] }) f.body) (λ x. finished k f (body_with k f (map (λ l. variable_in k l.at) ps) x)) b g.2 in
    let made = body_with k f (map (λ l. variable_in k l.at) ps) s.0 in
    let d = finished_is k f made b s.2 in
    record {
      params = ps;
      steps = s.0;
      params_are = g.1;
      steps_are = s.1;
      body_is = d.2;
      flows = ap (λ b. f.gives_int && all_of (map completes b.stmts)) (sym d.2) ∙ d.0;
      weighs = ap (λ b. nat_le (body_weight b) 4194304) (sym d.2) ∙ d.1;
    }

with_place : (k : Known) (f : Function) (ps : List Variable) (x : Stepped) → (body_with k f ps x).place ≡ place_in k f.at
unfolding body_with
with_place k f ps x = refl

with_params : (k : Known) (f : Function) (ps : List Variable) (x : Stepped) → (body_with k f ps x).params ≡ ps
unfolding body_with
with_params k f ps x = refl

with_locals : (k : Known) (f : Function) (ps : List Variable) (x : Stepped) → (body_with k f ps x).locals ≡ x.state.declared
unfolding body_with
with_locals k f ps x = refl

with_result : (k : Known) (f : Function) (ps : List Variable) (x : Stepped) → (body_with k f ps x).result ≡ result_of f.gives_int
unfolding body_with
with_result k f ps x = refl

with_stmts : (k : Known) (f : Function) (ps : List Variable) (x : Stepped) → (body_with k f ps x).stmts ≡ x.stmts
unfolding body_with
with_stmts k f ps x = refl

params_length : (k : Known) (all : List Local) (ps : List Parameter) (res : List Local) → each_parameter all ps k ≡ Ok res → length res ≡ length all + length ps
params_length k all [] res e = ap length (sym (ok_is all res e)) ∙ omega arith
params_length k all (p ∷ ps) res e =
    let more = all ++ record { name = p.name.spelling; at = p.at } ∷ [] in
    let o = other (is_some (visible p.name.spelling all)) (each_parameter more ps k) res (refuse k 7 p.at p.name.spelling) e in
    let len = length-append all (record { name = p.name.spelling; at = p.at } ∷ []) in
    omega (arith, params_length k more ps res o.1, len)

variable_is_int : (k : Known) (at : ℕ) → (variable_in k at).ty ≡ int kind.I32
unfolding variable_in
variable_is_int k at = refl

params_int : (k : Known) (ls : List Local) → Each IsInt (map (λ l. variable_in k l.at) ls)
params_int k [] = tt
params_int k (l ∷ ls) = (variable_is_int k l.at, params_int k ls)

params_count : (k : Known) (ls : List Local) → length (map (λ l. variable_in k l.at) ls) ≡ length ls
params_count k [] = refl
params_count k (l ∷ ls) = ap suc (params_count k ls)

-- the functions with their bodies
abbrev Pairs : Known → List Function → List Body → Type 0
Pairs k [] [] = Unit {0}
Pairs k (f ∷ fs) (b ∷ bs) = (body_of k f ≡ Ok b) × Pairs k fs bs
Pairs k _ _ = ⊥

bodies_pair : (k : Known) (all : List Body) (fs : List Function) (bs : List Body) → each_body all fs k ≡ Ok bs → (more : List Body) × (bs ≡ all ++ more) × Pairs k fs more
bodies_pair k all [] bs e = ([], sym (ok_is all bs e) ∙ sym (append-nil all), tt)
bodies_pair k all (f ∷ fs) bs e =
    let g = goes (body_of k f) (λ b. each_body (all ++ b ∷ []) fs k) bs e in
    let r = bodies_pair k (all ++ g.0 ∷ []) fs bs g.2 in
    (g.0 ∷ r.0, r.1 ∙ append_assoc all (g.0 ∷ []) r.0, (g.1, r.2))

-- ---- names

first_offset : List Step → ℕ
first_offset (At a ∷ ss) = a
first_offset _ = 0

offset_is : (k : Known) (a b : ℕ) → place_in k a ≡ place_in k b → a ≡ b
unfolding place_in first_offset
offset_is k a b e = ap (λ p. first_offset p.steps) e

-- where the function stands that has a name
named_at : (q : List ℕ) (fs : List Function) (f : Function) → named q fs ≡ Some f → (i : ℕ) × (slice_get fs i ≡ Some f)
named_at q [] f e = no_some f e
named_at q (g ∷ gs) f e = by_test (λ e. named_at q gs f e) (bytes_eq g.name.spelling q) refl where
  by_test : (named q gs ≡ Some f → (i : ℕ) × (slice_get gs i ≡ Some f)) → (b : Bool) → bytes_eq g.name.spelling q ≡ b → (i : ℕ) × (slice_get (g ∷ gs) i ≡ Some f)
  by_test next true is = (0, sym (ap (λ b. cond b (Some g) (named q gs)) is) ∙ e)
  by_test next false is = let r = next (sym (ap (λ b. cond b (Some g) (named q gs)) is) ∙ e) in (suc r.0, r.1)

apart_rest : (g : Function) (gs : List Function) → Apart (g ∷ gs) → Apart gs
apart_rest g gs apart i j f h at_i at_j e = let s : suc i ≡ suc j = apart (suc i) (suc j) f h at_i at_j e in omega (arith, s)

-- the body at the place of the function that a name stands for
looked_up : (k : Known) (fs : List Function) (bs : List Body) → Pairs k fs bs → Apart fs → (q : List ℕ) (f : Function) → named q fs ≡ Some f → (b : Body) × (body_at bs (place_in k f.at) ≡ Some b) × (body_of k f ≡ Ok b)
looked_up k [] bs ps apart q f e = no_some f e
looked_up k (g ∷ gs) [] ps apart q f e = absurd ps
looked_up k (g ∷ gs) (b ∷ bs) ps apart q f e = by_test (looked_up k gs bs ps.1 (apart_rest g gs apart) q f) (bytes_eq g.name.spelling q) refl where
  place_is : b.place ≡ place_in k g.at
  place_is =
      let x = facts k g b ps.0 in
      ap (λ b. b.place) (sym x.body_is) ∙ with_place k g (map (λ l. variable_in k l.at) x.params) x.steps

  by_test : (named q gs ≡ Some f → (b' : Body) × (body_at bs (place_in k f.at) ≡ Some b') × (body_of k f ≡ Ok b')) → (t : Bool) → bytes_eq g.name.spelling q ≡ t → (b' : Body) × (body_at (b ∷ bs) (place_in k f.at) ≡ Some b') × (body_of k f ≡ Ok b')
  by_test next true is =
      let one : g ≡ f = some_is g f (sym (ap (λ t. cond t (Some g) (named q gs)) is) ∙ e) in
      let there : body_at (b ∷ bs) (place_in k g.at) ≡ Some b = ap (λ p. cond (same.place p (place_in k g.at)) (Some b) (body_at bs (place_in k g.at))) place_is ∙ ap (λ t. cond t (Some b) (body_at bs (place_in k g.at))) (same_place (place_in k g.at)) in
      (b, subst (λ h. body_at (b ∷ bs) (place_in k h.at) ≡ Some b) one there, subst (λ h. body_of k h ≡ Ok b) one ps.0)
  by_test next false is =
      let r = next (sym (ap (λ t. cond t (Some g) (named q gs)) is) ∙ e) in
      let at = named_at q gs f (sym (ap (λ t. cond t (Some g) (named q gs)) is) ∙ e) in
      let differs : place_in k g.at ≡ place_in k f.at → ⊥ = λ same_one. let z : 0 ≡ suc at.0 = apart 0 (suc at.0) g f refl at.1 (offset_is k g.at f.at same_one) in absurd (omega (arith, z)) in
      (r.0, ap (λ p. cond (same.place p (place_in k f.at)) (Some b) (body_at bs (place_in k f.at))) place_is ∙ (ap (λ t. cond t (Some b) (body_at bs (place_in k f.at))) (place_apart (place_in k g.at) (place_in k f.at) differs) ∙ r.1), r.2)

calls_fit : (k : Known) (bodies : List Body) (vars : List Variable) → Pairs k k.functions bodies → Apart k.functions → CallsFit k bodies vars
calls_fit k bodies vars ps apart q f is tys ints count =
    let l = looked_up k k.functions bodies ps apart q f is in
    let b = l.0 in
    let x = facts k f b l.2 in
    let params = map (λ l. variable_in k l.at) x.params in
    let result_is : b.result ≡ result_of f.gives_int = ap (λ b. b.result) (sym x.body_is) ∙ with_result k f params x.steps in
    let params_is : b.params ≡ params = ap (λ b. b.params) (sym x.body_is) ∙ with_params k f params x.steps in
    let long : length tys ≡ length params = omega (arith, count, params_count k x.params, params_length k [] f.parameters x.params x.params_are) in
    ap (λ o. takes o (result_of f.gives_int) tys) l.1 ∙
    and_true (same.ty b.result (result_of f.gives_int)) (are_of (types_of b.params) tys)
    (ap (λ t. same.ty t (result_of f.gives_int)) result_is ∙ same_ty (result_of f.gives_int))
    (ap (λ vs. are_of (types_of vs) tys) params_is ∙ types_fit params (params_int k x.params) tys ints long)

-- ---- the bodies are typed

each_both : {X : Type 0} (P : X → Type 0) (xs ys : List X) → Each P xs → Each P ys → Each P (xs ++ ys)
each_both P [] ys h g = g
each_both P (x ∷ xs) ys h g = (h.0, each_both P xs ys h.1 g)

held_params : (k : Known) (bodies : List Body) (vars : List Variable) (ls : List Local) → Each (λ v. is_among v vars ≡ true) (map (λ l. variable_in k l.at) ls) → Held k bodies vars ls
held_params k bodies vars [] h = tt
held_params k bodies vars (l ∷ ls) h = (h.0, held_params k bodies vars ls h.1)

flow_is : (g c : Bool) → (g && c) ≡ false → (is_void (result_of g) || not c) ≡ true
flow_is false c e = ap (λ b. b || not c) (same_ty void)
flow_is true c e = ap (λ b. is_void (result_of true) || not b) e ∙ or_true (is_void (result_of true)) where
  or_true : (b : Bool) → (b || true) ≡ true
  or_true true = refl
  or_true false = refl

result_is_one : (g : Bool) → (is_void (result_of g) || is_number (result_of g)) ≡ true
result_is_one false = ap (λ b. b || is_number (result_of false)) (same_ty void)
result_is_one true = ap (λ b. is_void (result_of true) || b) int_is_number ∙ or_true (is_void (result_of true)) where
  or_true : (b : Bool) → (b || true) ≡ true
  or_true true = refl
  or_true false = refl

made_typed : (k : Known) (bodies : List Body) → Pairs k k.functions bodies → Apart k.functions → (f : Function) (b : Body) → (x : Facts k f b) → IsTyped bodies (body_with k f (map (λ l. variable_in k l.at) x.params) x.steps)
unfolding body_with
made_typed k bodies ps apart f b x =
    let params = map (λ l. variable_in k l.at) x.params in
    let declared = x.steps.state.declared in
    let vars = params ++ declared in
    let fits = statements_fit k bodies vars f.gives_int (calls_fit k bodies vars ps apart) f.body (record { stmts = []; state = record { scope = x.params; declared = [] } }) x.steps x.steps_are in
    let ints = fits.ints tt in
    let within = within_from [] vars tt (each_both IsInt params declared (params_int k x.params) ints) in
    let held = held_params k bodies vars x.params (each_front (λ v. is_among v vars ≡ true) params declared within) in
    let made = body_with k f params x.steps in
    record {
      variables = ints_are_numbers vars (each_both IsInt params declared (params_int k x.params) ints);
      result = result_is_one f.gives_int;
      stmts = fits.typed (each_back (λ v. is_among v vars ≡ true) params declared within) held refl;
      flow = flow_is f.gives_int (all_of (map completes x.steps.stmts)) (ap (λ b. f.gives_int && all_of (map completes b.stmts)) x.body_is ∙ x.flows);
      weight = leb-true (body_weight made) 4194304 (ap (λ b. nat_le (body_weight b) 4194304) x.body_is ∙ x.weighs);
    }

all_typed : (k : Known) (bodies : List Body) → Pairs k k.functions bodies → Apart k.functions → (fs : List Function) (bs : List Body) → Pairs k fs bs → Each (IsTyped bodies) bs
all_typed k bodies ps apart [] [] h = tt
all_typed k bodies ps apart [] (b ∷ bs) h = absurd h
all_typed k bodies ps apart (f ∷ fs) [] h = absurd h
all_typed k bodies ps apart (f ∷ fs) (b ∷ bs) h =
    let x = facts k f b h.0 in
    (subst (IsTyped bodies) x.body_is (made_typed k bodies ps apart f b x), all_typed k bodies ps apart fs bs h.1)

-- ---- the start

call_weight : (p f : Place) (ty : Ty) → tree_weight (tree.Call p f ty []) ≡ 5
call_weight p f ty = ap tree_weight (sym (tree.rolls-Call p f ty [])) ∙ fold-roll-Tree ℕ tree_weight_step (Tree-F.Call p f ty [])

start_typed : (k : Known) (bodies : List Body) → Pairs k k.functions bodies → Apart k.functions → (t : Tree) → main_of k ≡ Ok t → IsTypedStart bodies t
unfolding main_of main_call
start_typed k bodies ps apart t e = by_name (named (codes "main") k.functions) refl e where
  by_name : (o : Option Function) → named (codes "main") k.functions ≡ o → main_by k o ≡ Ok t → IsTypedStart bodies t
  by_name None is e = no_ok no_main t e
  by_name (Some f) is e =
      let c = chosen (nat_eq (length f.parameters) 0) (main_call k f) t no_main e in
      let p = place_in k f.at in
      let none : length f.parameters ≡ 0 = eqb-true (length f.parameters) 0 c.0 in
      let fits = calls_fit k bodies [] ps apart (codes "main") f is [] tt (sym none) in
      subst (IsTypedStart bodies) c.1 (record {
        typed = ap is_typed (t_call k bodies [] p p (result_of f.gives_int) [] ∙ ap (λ b. typed_as b (result_of f.gives_int)) fits);
        weight = omega (arith, call_weight p p (result_of f.gives_int));
      })

-- What a program is resolved to is typed, closed, and within the limits on weights.
pub resolved_typed : (k : Known) → Apart k.functions → (r : Resolution) → resolved_of k ≡ Ok r → AreTyped r.bodies (r.start ∷ [])
unfolding resolved_of bodies_of
resolved_typed k apart r e =
    let g = goes (bodies_of k) (λ bodies. go_on (main_of k) (λ start. Ok (record { bodies = bodies; start = start }))) r e in
    let bodies = g.0 in
    let m = goes (main_of k) (λ start. Ok (record { bodies = bodies; start = start })) r g.2 in
    let pairs = bodies_pair k [] k.functions bodies g.1 in
    let ps : Pairs k k.functions bodies = subst (Pairs k k.functions) (sym pairs.1) pairs.2 in
    subst (λ r. AreTyped r.bodies (r.start ∷ [])) (ok_is (record { bodies = bodies; start = m.0 }) r m.2) (record {
      bodies_fit = all_typed k bodies ps apart k.functions bodies ps;
      starts_fit = (start_typed k bodies ps apart m.0 m.1, tt);
    })

pub answers_typed : (k : Known) → Apart k.functions → (r : Result Resolution Fail) → Answers (resolved_of k) r → IfOk r (λ r. AreTyped r.bodies (r.start ∷ []))
answers_typed k apart (Ok r) e = resolved_typed k apart r e
answers_typed k apart (Err f) e = tt
