-- Where the functions of the lowered code stand.
use Rattle.std.proofs.Common.{◌≡◌, ℕ, zero, suc, ◌+◌, List, [], ◌∷◌, ◌++◌, length, Some, refl, sym, ap, ◌∙◌, subst, arith}
use Rattle.std.specs.Prelude.{slice_get}
use Rattle.dc_types.specs.declared.place.Place.{Place}
use Rattle.dc_code.specs.Exec.{function_at}
use Rattle.dc_code.specs.declared.instr.Instr.{Instr}
use Rattle.dc_code.specs.declared.instr.Function.{Function}
use Rattle.core_tree.specs.Meaning.{body_at}
use Rattle.core_tree.specs.Typed.{Each, IsTyped, IsTypedStart, AreTyped}
use Rattle.core_tree.specs.declared.tree.Tree.{Tree}
use Rattle.core_tree.specs.declared.body.Body.{Body}
use Rattle.core_lower_expr.specs.Lowered.{Names}
use Rattle.core_lower_expr.proofs.Steps.{HasAt, has_front, has_back, has_all}
use Rattle.core_lower_expr.proofs.Locals.{some_is, none_some}
use Rattle.core_lower.specs.Lowered.{body_code, bodies_code, functions_from, function_of, start_code, starts_code, entry_of, entries_from, numbers_from, names_in, number_at, body_places, lowered}
use Rattle.core_lower.specs.Runs.{Runs}
use Rattle.core_lower.proofs.Leading.{body_numbered, number_is}
use Rattle.core_lower.proofs.Calls.{Loaded}
use Rattle.core_lower.proofs.Entries.{run_follows}

pub get_front : {A : Type 0} (xs ys : List A) (k : ℕ) (a : A) → slice_get xs k ≡ Some a → slice_get (xs ++ ys) k ≡ Some a
get_front [] ys k a e = absurd (none_some a e)
get_front (x ∷ xs) ys zero a e = e
get_front (x ∷ xs) ys (suc k) a e = get_front xs ys k a e

pub get_back : {A : Type 0} (xs ys : List A) (k : ℕ) → slice_get (xs ++ ys) (length xs + k) ≡ slice_get ys k
get_back [] ys k = ap (slice_get ys) (omega arith)
get_back (x ∷ xs) ys k = let n : length (x ∷ xs) + k ≡ suc (length xs + k) = omega arith in ap (slice_get (x ∷ (xs ++ ys))) n ∙ get_back xs ys k

pub each_get : {A : Type 0} (P : A → Type 0) (xs : List A) (k : ℕ) (a : A) → Each P xs → slice_get xs k ≡ Some a → P a
each_get P [] k a h e = absurd (none_some a e)
each_get P (x ∷ xs) zero a h e = subst P (some_is x a e) h.0
each_get P (x ∷ xs) (suc k) a h e = each_get P xs k a h.1 e

pub functions_length : (bodies fs : List Body) (pc : ℕ) → length (functions_from bodies fs pc) ≡ length fs
functions_length bodies [] pc = refl
functions_length bodies (f ∷ fs) pc = omega (arith, functions_length bodies fs (pc + length (body_code bodies f pc)))

-- a function of a list, and its code
pub record Listed (functions : List Function) (instrs : List Instr) (number : ℕ) (made : ℕ → Function) (code : ℕ → List Instr) : Type 0 where
  pub first : ℕ
  pub there : slice_get functions number ≡ Some (made first)
  pub has : HasAt instrs first (code first)

pub body_listed : (bodies fs : List Body) (instrs : List Instr) (pc k : ℕ) (b : Body) → HasAt instrs pc (bodies_code bodies fs pc) → slice_get fs k ≡ Some b → Listed (functions_from bodies fs pc) instrs k (function_of b) (body_code bodies b)
body_listed bodies [] instrs pc k b has e = absurd (none_some b e)
body_listed bodies (f ∷ fs) instrs pc zero b has e =
    let c = body_code bodies f pc in
    let is = some_is f b e in
    record {
      first = pc;
      there = ap (λ g. Some (function_of g pc)) is;
      has = subst (λ g. HasAt instrs pc (body_code bodies g pc)) is (has_front instrs pc c (bodies_code bodies fs (pc + length c)) has);
    }
body_listed bodies (f ∷ fs) instrs pc (suc k) b has e =
    let c = body_code bodies f pc in
    let r = body_listed bodies fs instrs (pc + length c) k b (has_back instrs pc c (bodies_code bodies fs (pc + length c)) has) e in
    record { first = r.first; there = r.there; has = r.has }

pub start_listed : (names : Names) (es : List Tree) (instrs : List Instr) (pc k : ℕ) (e : Tree) → HasAt instrs pc (starts_code names es pc) → slice_get es k ≡ Some e → Listed (entries_from names es pc) instrs k (entry_of e) (start_code names e)
start_listed names [] instrs pc k e has is = absurd (none_some e is)
start_listed names (d ∷ es) instrs pc zero e has is =
    let c = start_code names d pc in
    let same = some_is d e is in
    record {
      first = pc;
      there = ap (λ g. Some (entry_of g pc)) same;
      has = subst (λ g. HasAt instrs pc (start_code names g pc)) same (has_front instrs pc c (starts_code names es (pc + length c)) has);
    }
start_listed names (d ∷ es) instrs pc (suc k) e has is =
    let c = start_code names d pc in
    let r = start_listed names es instrs (pc + length c) k e (has_back instrs pc c (starts_code names es (pc + length c)) has) is in
    record { first = r.first; there = r.there; has = r.has }

numbers_get : {A : Type 0} (n : ℕ) (xs : List A) (k : ℕ) (a : A) → slice_get xs k ≡ Some a → slice_get (numbers_from n xs) k ≡ Some (n + k)
numbers_get n [] k a e = absurd (none_some a e)
numbers_get n (x ∷ xs) zero a e = ap Some (omega arith)
numbers_get n (x ∷ xs) (suc k) a e = numbers_get (n + 1) xs k a e ∙ ap Some (omega arith)

-- a body's function and its code are in the lowered code, and the body is typed
pub lowered_loaded : (bodies : List Body) (starts : List Tree) → AreTyped bodies starts → (f : Place) (b : Body) → body_at bodies f ≡ Some b → Loaded (lowered bodies starts) bodies (number_at f (body_places bodies)) b × IsTyped bodies b
lowered_loaded bodies starts good f b found =
    let code = lowered bodies starts in
    let cs = bodies_code bodies bodies 0 in
    let ss = starts_code (names_in bodies []) starts (length cs) in
    let fs = functions_from bodies bodies 0 in
    let es = entries_from (names_in bodies []) starts (length cs) in
    let r = body_numbered f b 0 bodies found in
    let l = body_listed bodies bodies code.instrs 0 r.number b (has_front code.instrs 0 cs ss (has_all code.instrs [])) r.there in
    (record { first = l.first; there = ap (slice_get code.functions) (number_is f b bodies r) ∙ get_front fs es r.number (function_of b l.first) l.there; has = l.has }, each_get (IsTyped bodies) bodies r.number b good.bodies_fit r.there)

-- The lowered code does what the bodies and starts mean.
pub lowered_runs : (bodies : List Body) (starts : List Tree) → AreTyped bodies starts → Runs bodies starts (lowered bodies starts)
lowered_runs bodies starts good entry e is limits n =
    let code = lowered bodies starts in
    let cs = bodies_code bodies bodies 0 in
    let ss = starts_code (names_in bodies []) starts (length cs) in
    let fs = functions_from bodies bodies 0 in
    let es = entries_from (names_in bodies []) starts (length cs) in
    let all = has_all code.instrs [] in
    let has_s : HasAt code.instrs (length cs) ss = subst (λ p. HasAt code.instrs p ss) (omega arith) (has_back code.instrs 0 cs ss all) in
    let s = start_listed (names_in bodies []) starts code.instrs (length cs) entry e has_s is in
    let at : function_at code (slice_get code.entries entry) ≡ Some (entry_of e s.first) =
    ap (function_at code) (numbers_get (length bodies) starts entry e is)
    ∙ ap (λ k. slice_get code.functions (k + entry)) (sym (functions_length bodies bodies 0)) ∙ get_back fs es entry ∙ s.there in
    run_follows code limits bodies (λ f b found. (lowered_loaded bodies starts good f b found).0) (λ f b found. (lowered_loaded bodies starts good f b found).1) e entry s.first at s.has (each_get (IsTypedStart bodies) starts entry e good.starts_fit is) n
