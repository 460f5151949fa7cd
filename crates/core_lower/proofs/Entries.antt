-- The machine follows whole runs.
use Rattle.std.proofs.Common.{◌≡◌, ℕ, ◌+◌, ◌&&◌, List, [], ◌++◌, length, map, replicate, Option, Some, None, refl, sym, ap, ◌∙◌, subst, arith, IsTrue, true≢false}
use Rattle.std.specs.Prelude.{slice_get}
use Rattle.std.proofs.lemmas.List.{length-replicate}
use Rattle.dc_types.specs.declared.kind.Kind.{Kind}
use Rattle.dc_types.specs.declared.kind.Kind.TheVariants as kind
use Rattle.dc_types.specs.declared.place.Place.{Place}
use Rattle.dc_types.specs.declared.ty.Ty.{Ty}
use Rattle.dc_types.specs.declared.ty.Ty.TheOpen.{Ty-F}
use Rattle.dc_types.specs.declared.ty.Ty.TheViews.{out-Ty, out-roll-Ty}
use Rattle.dc_value.specs.declared.value.Value.{Value}
use Rattle.dc_types.specs.declared.event.Limits.{Limits}
use Rattle.dc_code.specs.State as machine
use Rattle.dc_code.specs.State.{Run, On, Done}
use Rattle.dc_code.specs.Exec.{steps, start, begin_at, function_at, Exec}
use Rattle.dc_code.specs.Perform.{back_to}
use Rattle.dc_code.specs.declared.instr.Op.TheVariants as op
use Rattle.dc_code.specs.declared.code.Draft.{Draft}
use Rattle.core_tree.specs.Values.{int, void}
use Rattle.core_tree.specs.Weight.{tree_weight}
use Rattle.core_tree.specs.Meaning.{End, Gave, Trapped, Bound, Missing, Ran, Goes, Over, body_at, calls_of, no_calls, tree_meaning, begun, outcome, meaning}
use Rattle.core_tree.specs.Typed.{is_of, is_typed, is_among, are_of, are_numbers, takes, constant_fits, operands_fit, types_of, type_step, type_of, IsTyped, IsTypedStart}
use Rattle.core_tree.specs.Nodes.{own_type_by, own_type, place_of, operation_with}
use Rattle.core_tree.specs.declared.tree.Variable.{Variable}
use Rattle.core_tree.specs.declared.tree.Tree.{Tree}
use Rattle.core_tree.specs.declared.tree.Tree.TheOpen.{Tree-F}
use Rattle.core_tree.specs.declared.tree.Tree.TheViews.{out-roll-Tree}
use Rattle.core_tree.specs.declared.tree.Tree.TheFolds.{map-Tree, fold-roll-Tree, ind-Tree}
use Rattle.core_tree.specs.declared.body.Body.{Body}
use Rattle.core_lower_expr.specs.Lowered.{instr, tree_code}
use Rattle.core_lower_expr.specs.Frames.{words_at}
use Rattle.core_lower_expr.proofs.Steps.{HasAt, has_front, has_back, Leads, leads, one}
use Rattle.core_lower_expr.proofs.Follow.{Here, at, stop_of, IsStop, value, Gives}
use Rattle.core_lower_expr.proofs.Exprs.{typed_is, tree_follows}
use Rattle.core_lower.specs.Lowered.{names_in, count_by, count_of, return_ops, start_code, entry_of}
use Rattle.core_lower.specs.Runs.{machine_end}
use Rattle.core_lower.proofs.Flow.{handed}
use Rattle.core_lower.proofs.Leading.{slots_fit}
use Rattle.core_lower.proofs.Frames.{numbers_split}
use Rattle.core_lower.proofs.Calls.{Loaded, nest_of, function, calls_follow}

-- ---- the type of a start

step_type : (bodies : List Body) (vars : List Variable) (x : Tree-F Tree) (ty : Ty) → type_step bodies vars (map-Tree Tree (Option Ty) (type_of bodies vars) x) ≡ Some ty → own_type_by x ≡ ty
step_type bodies vars (Tree-F.Constant place c) ty t = (typed_is (constant_fits c) c.ty ty t).1
step_type bodies vars (Tree-F.Local place v) ty t = (typed_is (is_among v vars) v.ty ty t).1
step_type bodies vars (Tree-F.Assign place v e) ty t = (typed_is (is_among v vars && is_of v.ty (type_of bodies vars e)) v.ty ty t).1
step_type bodies vars (Tree-F.Chain place k first rest) ty t = (typed_is (is_of (int k) (type_of bodies vars first) && operands_fit k (map (operation_with (type_of bodies vars)) rest)) (int k) ty t).1
step_type bodies vars (Tree-F.Compare place o k a b) ty t = (typed_is (is_of (int k) (type_of bodies vars a) && is_of (int k) (type_of bodies vars b)) (int kind.Bool) ty t).1
step_type bodies vars (Tree-F.Call place f found args) ty t = (typed_is (takes (body_at bodies f) found (map (type_of bodies vars) args)) found ty t).1
step_type bodies vars (Tree-F.Print place tys args line) ty t = (typed_is (are_of tys (map (type_of bodies vars) args) && are_numbers tys) void ty t).1

abbrev OwnType : List Body → List Variable → Tree → Type 0
OwnType bodies vars e = (ty : Ty) → type_of bodies vars e ≡ Some ty → own_type e ≡ ty

pub own_type_is : (bodies : List Body) (vars : List Variable) (e : Tree) → OwnType bodies vars e
own_type_is bodies vars = ind-Tree (OwnType bodies vars) (λ x y is ty t. ap own_type_by (out-roll-Tree x) ∙ step_type bodies vars x ty (sym (fold-roll-Tree (Option Ty) (type_step bodies vars) x) ∙ t))

pub start_type : (bodies : List Body) (e : Tree) (o : Option Ty) → type_of bodies [] e ≡ o → IsTrue (is_typed o) → type_of bodies [] e ≡ Some (own_type e)
start_type bodies e None is t = absurd (true≢false (sym t))
start_type bodies e (Some ty) is t = is ∙ ap Some (sym (own_type_is bodies [] e ty is))

count_words : (x : Ty-F Ty) (v : Value) → count_by x ≡ length (words_at x v)
count_words (Ty-F.Int k) v = refl
count_words Ty-F.Void v = refl
count_words (Ty-F.Fixed a n) v = refl
count_words (Ty-F.Slice a) v = refl
count_words Ty-F.Str v = refl
count_words (Ty-F.Struct p) v = refl
count_words (Ty-F.Enum p a) v = refl
count_words Ty-F.NullLit v = refl
count_words Ty-F.EmptyLit v = refl

stop_is : (code : Draft) (ty : Ty) (end : End) → IsStop end → stop_of end ≡ machine_end code ty end
stop_is code ty (Gave v) s = absurd s
stop_is code ty (Trapped trap place) s = refl
stop_is code ty Bound s = refl
stop_is code ty (Missing f) s = refl

abbrev top : Here
top = record { below = []; callers = [] }

-- a run that comes to this end
pub record Comes (code : Draft) (limits : Limits) (from : Run) (end : machine.End) (events : List _) : Type 0 where
  pub taken : ℕ
  pub by : Leads code limits from (Done end events taken)

module _ (code : Draft) (limits : Limits) (bodies : List Body) (loaded : (f : Place) (b : Body) → body_at bodies f ≡ Some b → Loaded code bodies (function code limits bodies f) b) (fit : (f : Place) (b : Body) → body_at bodies f ≡ Some b → IsTyped bodies b) where
  params : (f : Place) (b : Body) → body_at bodies f ≡ Some b → IsTrue (are_numbers (types_of b.params))
  params f b is = (numbers_split b.params b.locals (fit f b is).variables).0

  shown : (e : Tree) (from : Run) (pc room before : ℕ) (r : Ran Value) → HasAt code.instrs pc (return_ops (place_of e) (count_of (own_type e)) 0) → Gives code limits (nest_of no_calls) top [] (value (out-Ty (own_type e))) from pc [] room before r → Comes code limits from (machine_end code (own_type e) (outcome r).end) (outcome r).events
  shown e from pc room before (Over end events) has g = record { taken = g.taken; by = subst (λ d. Leads code limits from (Done d events g.taken)) (stop_is code (own_type e) end g.stops) g.by }
  shown e from pc room before (Goes v s) has g =
      let x = out-Ty (own_type e) in
      let n = count_of (own_type e) in
      let m = at code limits (nest_of no_calls) top [] pc g.taken s [] (words_at x v ++ g.rest) in
      record {
        taken = g.taken;
        by = leads code limits from (On m) _ g.by (one code limits m (instr (place_of e) (op.Return 0 n)) _ has.0
            (ap (λ ws. back_to [] ws m) (handed code limits (nest_of no_calls) top [] x 0 pc g.taken s (words_at x v) g.rest n g.good (count_words x v))));
      }

  pub run_follows : (e : Tree) (entry first : ℕ) → function_at code (slice_get code.entries entry) ≡ Some (entry_of e first) → HasAt code.instrs first (start_code (names_in bodies []) e first) → IsTypedStart bodies e → (n : ℕ) →
      Exec code entry limits n (meaning bodies e limits n).events (machine_end code (own_type e) (meaning bodies e limits n).end)
  run_follows e entry first is has good n =
      let names = names_in bodies [] in
      let calls = calls_of bodies limits n no_calls in
      let c = tree_code names e first 0 in
      let w = tree_weight e in
      let from = On (start code n (entry_of e first)) in
      let words : length (replicate {A = ℕ} w 0) ≡ w = length-replicate {A = ℕ} w 0 in
      let t = start_type bodies e (type_of bodies [] e) refl good.typed in
      let g = tree_follows code limits (nest_of no_calls) top [] n bodies names calls refl (slots_fit bodies []) params (calls_follow code limits bodies loaded fit n no_calls) e (own_type e) t
      first 0 0 [] (replicate {A = ℕ} w 0) (begun n) (has_front code.instrs first c (return_ops (place_of e) (count_of (own_type e)) 0) has) refl tt (omega (arith, words)) (omega arith) in
      let end = shown e from (first + length c) (length (replicate {A = ℕ} w 0)) n (tree_meaning calls e (begun n)) (has_back code.instrs first c (return_ops (place_of e) (count_of (own_type e)) 0) has) g in
      let k = end.by.by 0 in
      record { count = k.0; taken = end.taken; ends = ap (λ o. steps code limits k.0 (begin_at code n o)) is ∙ k.1 }

-- a number has one word
pub count_int : (k : Kind) → count_of (int k) ≡ 1
count_int k = ap count_by (out-roll-Ty (Ty-F.Int k))
