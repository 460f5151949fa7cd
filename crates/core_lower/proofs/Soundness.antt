-- The code of typed bodies and starts is sound, and the machine runs each instruction of it.
use Rattle.std.proofs.Common.{◌≡◌, ℕ, zero, suc, ◌+◌, ◌-◌, ◌<◌, ◌≤◌, Bool, true, false, ◌||◌, List, [], ◌∷◌, ◌++◌, length, map, Some, refl, sym, ap, ap₂, ◌∙◌, subst, arith, append_assoc, length-append, IsTrue}
use Rattle.std.specs.Prelude.{slice_get}
use Rattle.std.specs.List.{All}
use Rattle.std.proofs.lemmas.List.Elements.{All-nil, All-cons, All-append}
use Rattle.dc_types.specs.declared.place.Place.{Place}
use Rattle.dc_types.specs.declared.ty.Ty.{Ty}
use Rattle.dc_types.specs.declared.ty.Ty.TheOpen.{Ty-F}
use Rattle.dc_types.specs.declared.ty.Ty.TheViews.{out-Ty}
use Rattle.dc_code.specs.Simple.{IsSimple}
use Rattle.dc_code.specs.Sound.{IsThere, IsLast, IsShortCode, FunctionFits, InstrFits, first_of, IsSound}
use Rattle.dc_code.specs.declared.instr.Op.TheVariants as op
use Rattle.dc_code.specs.declared.instr.Instr.{Instr}
use Rattle.dc_code.specs.declared.instr.Function.{Function}
use Rattle.dc_code.specs.declared.code.Draft.{Draft}
use Rattle.core_tree.specs.Nodes.{place_of, own_type}
use Rattle.core_tree.specs.Meaning.{body_at}
use Rattle.core_tree.specs.Typed.{Each, is_void, is_number, type_of, variables_of, IsTyped, IsTypedStart, AreTyped}
use Rattle.core_tree.specs.declared.tree.Tree.{Tree}
use Rattle.core_tree.specs.declared.body.Body.{Body}
use Rattle.core_lower_expr.specs.Lowered.{instr, tree_code}
use Rattle.core_lower_expr.proofs.Steps.{HasAt, has_front, has_back, has_all}
use Rattle.core_lower_expr.proofs.Locals.{some_is, none_some}
use Rattle.core_lower_expr.proofs.Exprs.{number_is, some_weight}
use Rattle.core_lower_expr.proofs.Fitting.{IsCallee, Fine, FineAt, fine_append, OpsStay, tree_stays}
use Rattle.core_lower.specs.Lowered.{return_ops, names_in, count_by, count_of, end_by, stmts_code, body_code, bodies_code, functions_from, function_of, start_code, starts_code, entry_of, entries_from, numbers_from, lowered}
use Rattle.core_lower.proofs.Stmts.{void_is, some_type}
use Rattle.core_lower.proofs.Calls.{end_room, room_there}
use Rattle.core_lower.proofs.Fits.{return_stays, stmts_stay, slots_there}
use Rattle.core_lower.proofs.Tables.{lowered_loaded, get_back, functions_length}

-- a function with its instructions, by the number of the first one
record Laid : Type 0 where
  pub made : ℕ → Function
  pub code : ℕ → List Instr

functions_of : List Laid → ℕ → List Function
functions_of [] pc = []
functions_of (u ∷ us) pc = u.made pc ∷ functions_of us (pc + length (u.code pc))

code_of : List Laid → ℕ → List Instr
code_of [] pc = []
code_of (u ∷ us) pc = u.code pc ++ code_of us (pc + length (u.code pc))

-- ---- functions that fit, one behind the other

module _ (draft : Draft) where
  record Fits (u : Laid) : Type 0 where
    pub first : (pc : ℕ) → (u.made pc).first ≡ pc
    pub weight : (pc : ℕ) → (u.made pc).weight ≤ 4194304
    pub some : (pc : ℕ) → 1 ≤ length (u.code pc)
    pub fine : (pc : ℕ) → HasAt draft.instrs pc (u.code pc) → FineAt draft (u.made pc) (pc + length (u.code pc)) pc (u.code pc)
    pub last : (pc : ℕ) → HasAt draft.instrs pc (u.code pc) → IsThere (slice_get draft.instrs (pc + length (u.code pc) - 1)) (λ i. IsLast i.op)

  fine_get : (f : Function) (end : ℕ) (is : List Instr) (pc d : ℕ) (i : Instr) → FineAt draft f end pc is → HasAt draft.instrs pc is → d < length is → slice_get draft.instrs (pc + d) ≡ Some i → Fine draft f end (pc + d) i.op
  fine_get f end [] pc d i fine has lt e = absurd (omega arith)
  fine_get f end (x ∷ is) pc zero i fine has lt e =
      let n : pc ≡ pc + 0 = omega arith in
      let same : x ≡ i = some_is x i (sym has.0 ∙ ap (slice_get draft.instrs) n ∙ e) in
      subst (λ p. Fine draft f end p i.op) n (subst (λ i. Fine draft f end pc i.op) same fine.0)
  fine_get f end (x ∷ is) pc (suc d) i fine has lt e =
      let n : pc + suc d ≡ pc + 1 + d = omega arith in
      subst (λ p. Fine draft f end p i.op) (sym n) (fine_get f end is (pc + 1) d i fine.1 has.1 (omega arith) (ap (slice_get draft.instrs) (sym n) ∙ e))

  next_first : (us : List Laid) (pc total : ℕ) → Each Fits us → total ≡ pc + length (code_of us pc) → first_of (slice_get (functions_of us pc) 0) total ≡ pc
  unfolding functions_of code_of
  next_first [] pc total h e = omega (arith, e)
  next_first (u ∷ us) pc total h e = h.0.first pc

  fits_here : (u : Laid) (pc end : ℕ) → Fits u → HasAt draft.instrs pc (u.code pc) → end ≡ pc + length (u.code pc) → end ≤ length draft.instrs → FunctionFits draft (u.made pc) end
  fits_here u pc end h has e le =
      let first = h.first pc in
      let n : end - 1 ≡ pc + length (u.code pc) - 1 = ap (λ n. n - 1) e in
      record {
        rises = omega (arith, first, e, h.some pc);
        ends = le;
        weight = h.weight pc;
        last = subst (λ p. IsThere (slice_get draft.instrs p) (λ i. IsLast i.op)) (sym n) (h.last pc has);
        each = λ k i from to there.
            let d = k - pc in
            let at : pc + d ≡ k = omega (arith, first, from) in
            let fine = fine_get (u.made pc) (pc + length (u.code pc)) (u.code pc) pc d i (h.fine pc has) has (omega (arith, e, to, at)) (ap (slice_get draft.instrs) at ∙ there) in
            subst (λ n. InstrFits draft (u.made pc) n k i.op) (sym e) (subst (λ p. InstrFits draft (u.made pc) (pc + length (u.code pc)) p i.op) at fine.fits);
      }

  fits_at : (us : List Laid) (pc total n : ℕ) (f : Function) → Each Fits us → HasAt draft.instrs pc (code_of us pc) → total ≡ pc + length (code_of us pc) → total ≤ length draft.instrs → slice_get (functions_of us pc) n ≡ Some f → FunctionFits draft f (first_of (slice_get (functions_of us pc) (n + 1)) total)
  unfolding functions_of code_of
  fits_at [] pc total n f h has e le is = absurd (none_some f is)
  fits_at (u ∷ us) pc total zero f h has e le is =
      let c = u.code pc in
      let pc' = pc + length c in
      let len = length-append c (code_of us pc') in
      let end = first_of (slice_get (functions_of us pc') 0) total in
      let at : end ≡ pc' = next_first us pc' total h.1 (omega (arith, e, len)) in
      subst (λ g. FunctionFits draft g end) (some_is (u.made pc) f is) (fits_here u pc end h.0 (has_front draft.instrs pc c (code_of us pc') has) at (omega (arith, at, e, le, len)))
  fits_at (u ∷ us) pc total (suc n) f h has e le is =
      let c = u.code pc in
      let pc' = pc + length c in
      let k : suc n + 1 ≡ suc (n + 1) = omega arith in
      subst (λ k. FunctionFits draft f (first_of (slice_get (u.made pc ∷ functions_of us pc') k) total)) (sym k)
      (fits_at us pc' total n f h.1 (has_back draft.instrs pc c (code_of us pc') has) (omega (arith, e, length-append c (code_of us pc'))) le is)

  all_simple : (f : Function) (end : ℕ) (is : List Instr) (pc : ℕ) → FineAt draft f end pc is → All (λ i. IsSimple i.op) is
  all_simple f end [] pc fine = All-nil (λ i. IsSimple i.op)
  all_simple f end (i ∷ is) pc fine = All-cons (λ i. IsSimple i.op) i is fine.0.simple (all_simple f end is (pc + 1) fine.1)

  code_simple : (us : List Laid) (pc : ℕ) → Each Fits us → HasAt draft.instrs pc (code_of us pc) → All (λ i. IsSimple i.op) (code_of us pc)
  unfolding code_of
  code_simple [] pc h has = All-nil (λ i. IsSimple i.op)
  code_simple (u ∷ us) pc h has =
      let c = u.code pc in
      let pc' = pc + length c in
      All-append (λ i. IsSimple i.op) c (code_of us pc') (all_simple (u.made pc) pc' c pc (h.0.fine pc (has_front draft.instrs pc c (code_of us pc') has)))
      (code_simple us pc' h.1 (has_back draft.instrs pc c (code_of us pc') has))

  -- ---- the end of a function

  last_is : (pc : ℕ) (a : List Instr) (i : Instr) → IsLast i.op → HasAt draft.instrs pc (a ++ i ∷ []) → IsThere (slice_get draft.instrs (pc + length (a ++ i ∷ []) - 1)) (λ i. IsLast i.op)
  last_is pc a i l has =
      let n : pc + length (a ++ i ∷ []) - 1 ≡ pc + length a = omega (arith, length-append a (i ∷ [])) in
      let there = ap (slice_get draft.instrs) n ∙ (has_back draft.instrs pc a (i ∷ []) has).0 in
      subst (λ o. IsThere o (λ i. IsLast i.op)) (sym there) l

  record EndFits (f : Function) (end : ℕ) (place : Place) (x : Ty-F Ty) : Type 0 where
    pub some : (d : ℕ) → 1 ≤ length (end_by x place d)
    pub stays : OpsStay draft f end (λ d. end_by x place d) (end_room x)
    pub last : (pc d : ℕ) → HasAt draft.instrs pc (end_by x place d) → IsThere (slice_get draft.instrs (pc + length (end_by x place d) - 1)) (λ i. IsLast i.op)

  number_end : (f : Function) (end : ℕ) (place : Place) (k : _) → f.result ≡ 1 → EndFits f end place (Ty-F.Int k)
  number_end f end place k gives = record {
    some = λ d. omega arith;
    stays = λ pc d room. (
      record { fits = record { jumps = tt; numbers = omega (arith, room); addresses = tt; blocks = tt; calls = tt; returns = tt; names = tt }; simple = tt },
      return_stays draft f end place 1 (sym gives) (pc + 1) d (omega (arith, room)),
    );
    last = λ pc d has. last_is pc (instr place (op.Const d 0) ∷ []) (instr place (op.Return d 1)) tt has;
  }

  void_end : (f : Function) (end : ℕ) (place : Place) → f.result ≡ 0 → EndFits f end place Ty-F.Void
  void_end f end place gives = record {
    some = λ d. omega arith;
    stays = λ pc d room. return_stays draft f end place 0 (sym gives) pc d (omega (arith, room));
    last = λ pc d has. last_is pc [] (instr place (op.Return d 0)) tt has;
  }

  end_fits : (f : Function) (end : ℕ) (place : Place) (rt : Ty) → f.result ≡ count_of rt → IsTrue (is_void rt || is_number rt) → EndFits f end place (out-Ty rt)
  end_fits f end place rt gives t = by_void (is_void rt) refl where
    by_void : (b : Bool) → is_void rt ≡ b → EndFits f end place (out-Ty rt)
    by_void true e = let v = void_is rt e in subst (EndFits f end place) (sym v) (void_end f end place (gives ∙ ap count_by v))
    by_void false e = let k = number_is rt (subst (λ b. IsTrue (b || is_number rt)) e t) in subst (EndFits f end place) (sym k.1) (number_end f end place k.0 (gives ∙ ap count_by k.1))

few_words : (x : Ty-F Ty) → count_by x ≤ 1
few_words (Ty-F.Int k) = omega arith
few_words Ty-F.Void = omega arith
few_words (Ty-F.Fixed a n) = omega arith
few_words (Ty-F.Slice a) = omega arith
few_words Ty-F.Str = omega arith
few_words (Ty-F.Struct p) = omega arith
few_words (Ty-F.Enum p a) = omega arith
few_words Ty-F.NullLit = omega arith
few_words Ty-F.EmptyLit = omega arith

counts_room : (x : Ty-F Ty) → count_by x ≤ end_room x
counts_room (Ty-F.Int k) = omega arith
counts_room Ty-F.Void = omega arith
counts_room (Ty-F.Fixed a n) = omega arith
counts_room (Ty-F.Slice a) = omega arith
counts_room Ty-F.Str = omega arith
counts_room (Ty-F.Struct p) = omega arith
counts_room (Ty-F.Enum p a) = omega arith
counts_room Ty-F.NullLit = omega arith
counts_room Ty-F.EmptyLit = omega arith

is_callee : (bodies : List Body) (b : Body) (first : ℕ) → IsTyped bodies b → IsCallee b (function_of b first)
is_callee bodies b first good = record {
  params = refl;
  params_fit = omega arith;
  result_fits = omega (arith, counts_room (out-Ty b.result), room_there bodies b good);
  few = few_words (out-Ty b.result);
}

-- ---- the code of bodies and starts

module _ (bodies : List Body) (starts : List Tree) (good : AreTyped bodies starts) where
  abbrev code : Draft
  code = lowered bodies starts

  abbrev of_body : Body → Laid
  of_body b = record { made = function_of b; code = body_code bodies b }

  abbrev of_start : Tree → Laid
  of_start e = record { made = entry_of e; code = start_code (names_in bodies []) e }

  callees : (place : Place) (b : Body) → body_at bodies place ≡ Some b → IsThere (slice_get code.functions ((names_in bodies []).function place)) (IsCallee b)
  callees place b found =
      let l = lowered_loaded bodies starts good place b found in
      subst (λ o. IsThere o (IsCallee b)) (sym l.0.there) (is_callee bodies b l.0.first l.1)

  body_fits : (b : Body) → IsTyped bodies b → Fits code (of_body b)
  body_fits b typed =
      let vars = variables_of b in
      let names = names_in bodies vars in
      let spare = length vars in
      let count = length-append b.params b.locals in
      let ends : (f : Function) (end : ℕ) → f.result ≡ count_of b.result → EndFits code f end b.place (out-Ty b.result) = λ f end gives. end_fits code f end b.place b.result gives typed.result in
      record {
        first = λ pc. refl;
        weight = λ pc. typed.weight;
        some = λ pc.
            let a = stmts_code names b.stmts pc spare in
            let z = end_by (out-Ty b.result) b.place spare in
            omega (arith, length-append a z, (ends (function_of b pc) 0 refl).some spare);
        fine = λ pc has.
            let f = function_of b pc in
            let a = stmts_code names b.stmts pc spare in
            let z = end_by (out-Ty b.result) b.place spare in
            let end = pc + length (a ++ z) in
            let last = ends f end refl in
            let len = length-append a z in
            let slots = slots_there bodies vars f.weight (omega (arith, count)) in
            fine_append code f end pc a z
            (stmts_stay code f end bodies vars b.result names refl slots callees b.stmts typed.stmts pc spare (has_front code.instrs pc a z has) (omega arith) (omega (arith, len, last.some spare)) (omega (arith, count)))
            (last.stays (pc + length a) spare (omega (arith, count, room_there bodies b typed)));
        last = λ pc has.
            let a = stmts_code names b.stmts pc spare in
            let z = end_by (out-Ty b.result) b.place spare in
            let last = ends (function_of b pc) 0 refl in
            let n : pc + length a + length z - 1 ≡ pc + length (a ++ z) - 1 = omega (arith, length-append a z) in
            subst (λ p. IsThere (slice_get code.instrs p) (λ i. IsLast i.op)) n (last.last (pc + length a) spare (has_back code.instrs pc a z has));
      }

  start_fits : (e : Tree) → IsTypedStart bodies e → Fits code (of_start e)
  start_fits e typed =
      let names = names_in bodies [] in
      let n = count_of (own_type e) in
      let few : n ≤ 1 = few_words (out-Ty (own_type e)) in
      record {
        first = λ pc. refl;
        weight = λ pc. typed.weight;
        some = λ pc. omega (arith, length-append (tree_code names e pc 0) (return_ops (place_of e) n 0));
        fine = λ pc has.
            let f = entry_of e pc in
            let a = tree_code names e pc 0 in
            let z = return_ops (place_of e) n 0 in
            let end = pc + length (a ++ z) in
            let ty = some_type (type_of bodies [] e) typed.typed in
            fine_append code f end pc a z
            (tree_stays code f end bodies [] names (λ place ty t. absurd (none_some ty t)) callees e ty.0 ty.1 pc 0 (has_front code.instrs pc a z has) (omega arith) (omega (arith, length-append a z)) (omega arith))
            (return_stays code f end (place_of e) n refl (pc + length a) 0 (omega (arith, few, some_weight e)));
        last = λ pc has. last_is code pc (tree_code names e pc 0) (instr (place_of e) (op.Return 0 n)) tt has;
      }

  bodies_laid : (fs : List Body) (pc : ℕ) → (functions_of (map of_body fs) pc ≡ functions_from bodies fs pc) × (code_of (map of_body fs) pc ≡ bodies_code bodies fs pc)
  unfolding functions_of code_of
  bodies_laid [] pc = (refl, refl)
  bodies_laid (f ∷ fs) pc =
      let c = body_code bodies f pc in
      let more = bodies_laid fs (pc + length c) in
      (ap (λ l. function_of f pc ∷ l) more.0, ap (λ l. c ++ l) more.1)

  starts_laid : (es : List Tree) (pc : ℕ) → (functions_of (map of_start es) pc ≡ entries_from (names_in bodies []) es pc) × (code_of (map of_start es) pc ≡ starts_code (names_in bodies []) es pc)
  unfolding functions_of code_of
  starts_laid [] pc = (refl, refl)
  starts_laid (e ∷ es) pc =
      let c = start_code (names_in bodies []) e pc in
      let more = starts_laid es (pc + length c) in
      (ap (λ l. entry_of e pc ∷ l) more.0, ap (λ l. c ++ l) more.1)

  laid_append : (us vs : List Laid) (pc : ℕ) → (functions_of (us ++ vs) pc ≡ functions_of us pc ++ functions_of vs (pc + length (code_of us pc))) × (code_of (us ++ vs) pc ≡ code_of us pc ++ code_of vs (pc + length (code_of us pc)))
  unfolding functions_of code_of
  laid_append [] vs pc = let n : pc ≡ pc + 0 = omega arith in (ap (functions_of vs) n, ap (code_of vs) n)
  laid_append (u ∷ us) vs pc =
      let c = u.code pc in
      let pc' = pc + length c in
      let r = code_of us pc' in
      let more = laid_append us vs pc' in
      let n : pc' + length r ≡ pc + length (c ++ r) = omega (arith, length-append c r) in (
        ap (λ l. u.made pc ∷ l) (more.0 ∙ ap (λ p. functions_of us pc' ++ functions_of vs p) n),
        ap (λ l. c ++ l) (more.1 ∙ ap (λ p. r ++ code_of vs p) n) ∙ sym (append_assoc c r (code_of vs (pc + length (c ++ r)))),
      )

  abbrev all : List Laid
  all = map of_body bodies ++ map of_start starts

  functions_are : functions_of all 0 ≡ code.functions
  functions_are =
      let b = bodies_laid bodies 0 in
      let n : 0 + length (code_of (map of_body bodies) 0) ≡ length (bodies_code bodies bodies 0) = omega (arith, ap length b.1) in
      (laid_append (map of_body bodies) (map of_start starts) 0).0 ∙ ap₂ (λ fs p. fs ++ functions_of (map of_start starts) p) b.0 n ∙ ap (λ l. functions_from bodies bodies 0 ++ l) (starts_laid starts (length (bodies_code bodies bodies 0))).0

  code_is : code_of all 0 ≡ code.instrs
  code_is =
      let b = bodies_laid bodies 0 in
      let n : 0 + length (code_of (map of_body bodies) 0) ≡ length (bodies_code bodies bodies 0) = omega (arith, ap length b.1) in
      (laid_append (map of_body bodies) (map of_start starts) 0).1 ∙ ap₂ (λ is p. is ++ code_of (map of_start starts) p) b.1 n ∙ ap (λ l. bodies_code bodies bodies 0 ++ l) (starts_laid starts (length (bodies_code bodies bodies 0))).1

  each_append : (us vs : List Laid) → Each (Fits code) us → Each (Fits code) vs → Each (Fits code) (us ++ vs)
  each_append [] vs h k = k
  each_append (u ∷ us) vs h k = (h.0, each_append us vs h.1 k)

  all_fit : Each (Fits code) all
  all_fit = each_append (map of_body bodies) (map of_start starts) (each_body bodies good.bodies_fit) (each_start starts good.starts_fit) where
    each_body : (fs : List Body) → Each (IsTyped bodies) fs → Each (Fits code) (map of_body fs)
    each_body [] h = tt
    each_body (f ∷ fs) h = (body_fits f h.0, each_body fs h.1)

    each_start : (es : List Tree) → Each (IsTypedStart bodies) es → Each (Fits code) (map of_start es)
    each_start [] h = tt
    each_start (e ∷ es) h = (start_fits e h.0, each_start es h.1)

  has_code : HasAt code.instrs 0 (code_of all 0)
  has_code = subst (HasAt code.instrs 0) (sym code_is) (has_all code.instrs [])

  -- ---- entries

  entry_there : (es : List Tree) (pc k : ℕ) → k < length es → IsThere (slice_get (entries_from (names_in bodies []) es pc) k) (λ f. f.params ≡ 0)
  entry_there [] pc k lt = absurd (omega arith)
  entry_there (e ∷ es) pc zero lt = refl
  entry_there (e ∷ es) pc (suc k) lt = entry_there es (pc + length (start_code (names_in bodies []) e pc)) k (omega arith)

  numbers_all : (P : ℕ → Type 0) (es : List Tree) (n : ℕ) → ((k : ℕ) → k < length es → P (n + k)) → All P (numbers_from n es)
  numbers_all P [] n h = All-nil P
  numbers_all P (e ∷ es) n h =
      let z : n + 0 ≡ n = omega arith in
      All-cons P n (numbers_from (n + 1) es) (subst P z (h 0 (omega arith))) (numbers_all P es (n + 1) (λ k lt. let s : n + suc k ≡ n + 1 + k = omega arith in subst P s (h (suc k) (omega (arith, lt)))))

  entries_there : All (λ n. IsThere (slice_get code.functions n) (λ f. f.params ≡ 0)) code.entries
  entries_there = numbers_all (λ n. IsThere (slice_get code.functions n) (λ f. f.params ≡ 0)) starts (length bodies)
      (λ k lt.
      let fs = functions_from bodies bodies 0 in
      let pc = length (bodies_code bodies bodies 0) in
      let there = ap (λ n. slice_get code.functions (n + k)) (sym (functions_length bodies bodies 0)) ∙ get_back fs (entries_from (names_in bodies []) starts pc) k in
      subst (λ o. IsThere o (λ f. f.params ≡ 0)) (sym there) (entry_there starts pc k lt))

  pub lowered_simple : All (λ i. IsSimple i.op) code.instrs
  lowered_simple = subst (All (λ i. IsSimple i.op)) code_is (code_simple code all 0 all_fit has_code)

  -- Code whose lists a number of 32 bits counts is sound.
  pub lowered_sound : IsShortCode code → IsSound code
  lowered_sound short =
      let total : length code.instrs ≡ 0 + length (code_of all 0) = omega (arith, ap length code_is) in
      record {
        short = short;
        begins = subst (λ fs. first_of (slice_get fs 0) (length code.instrs) ≡ 0) functions_are (next_first code all 0 (length code.instrs) all_fit total);
        functions = λ n f is. subst (λ fs. FunctionFits code f (first_of (slice_get fs (n + 1)) (length code.instrs))) functions_are
            (fits_at code all 0 (length code.instrs) n f all_fit has_code total (omega arith) (ap (λ fs. slice_get fs n) functions_are ∙ is));
        entries = entries_there;
      }

numbers_count : {X : Type 0} (n : ℕ) (xs : List X) → length (numbers_from n xs) ≡ length xs
numbers_count n [] = refl
numbers_count n (x ∷ xs) = ap suc (numbers_count (n + 1) xs)

pub lowered_entries : (bodies : List Body) (starts : List Tree) → length (lowered bodies starts).entries ≡ length starts
lowered_entries bodies starts = numbers_count (length bodies) starts
