-- Functions and entries that are made one behind the other.
use Rattle.std.proofs.Common.{◌≡◌, ℕ, zero, suc, ◌+◌, ◌<◌, ◌≤◌, List, [], ◌∷◌, ◌++◌, length, take, get_or, refl, sym, ap, ap₂, ◌∙◌, arith, append_assoc, append-nil, length-append}
use Rattle.std.proofs.Math.Path.{fun_ext}
use Rattle.std.specs.Map.{lookup}
use Rattle.std.specs.Option.{unwrap_or}
use Rattle.dc_types.specs.declared.place.Place.{Place}
use Rattle.dc_types.specs.declared.ty.Ty.TheViews.{out-Ty}
use Rattle.dc_types.specs.Same as same
use Rattle.dc_code.specs.declared.instr.Instr.{Instr}
use Rattle.dc_code.specs.declared.instr.Function.{Function}
use Rattle.dc_code.specs.declared.code.Draft.{Draft}
use Rattle.std.proofs.lemmas.List.{length-take}
use Rattle.core_tree.specs.Typed.{Each, IsTypedStart, variables_of}
use Rattle.core_tree.specs.declared.tree.Variable.{Variable}
use Rattle.core_tree.specs.Weight.{tree_weight}
use Rattle.core_tree.specs.Nodes.{place_of, own_type}
use Rattle.core_tree.specs.declared.tree.Tree.{Tree}
use Rattle.core_tree.specs.declared.body.Body.{Body}
use Rattle.core_lower_expr.specs.Lowered.{Names, tree_code}
use Rattle.core_lower_expr.specs.Slots.{names_of}
use Rattle.core_lower_expr.specs.declared.slots.Slots.{Slots}
use Rattle.core_lower.specs.Lowered.{found_from, variable_places, body_places, names_in, end_by, stmts_code, body_code, bodies_code, function_of, functions_from, count_of, return_ops, start_code, starts_code, entry_of, entries_from, numbers_from}

pub each_at : {X : Type 0} (P : X → Type 0) (xs : List X) (i : ℕ) (d : X) → Each P xs → i < length xs → P (get_or xs i d)
each_at P [] i d h lt = absurd (omega arith)
each_at P (x ∷ xs) zero d h lt = h.0
each_at P (x ∷ xs) (suc i) d h lt = each_at P xs i d h.1 (omega arith)

-- the names that the tables give
pub names_are : (bodies : List Body) (vs : List Variable) (at : Slots) → ((q : Place) → lookup (same.place q) at.named ≡ found_from 0 q (variable_places vs)) → ((q : Place) → lookup (same.place q) at.functions ≡ found_from 0 q (body_places bodies)) → names_of at ≡ names_in bodies vs
names_are bodies vs at e f =
    ap₂ (λ (s g : Place → ℕ). let names : Names = record { slot = s; function = g } in names) (fun_ext (λ q. ap (λ o. unwrap_or o 0) (e q))) (fun_ext (λ q. ap (λ o. unwrap_or o 0) (f q)))

pub bodies_more : (all fs : List Body) (i pc : ℕ) (d : Body) → i < length fs → bodies_code all (take (i + 1) fs) pc ≡ bodies_code all (take i fs) pc ++ body_code all (get_or fs i d) (pc + length (bodies_code all (take i fs) pc))
bodies_more all [] i pc d h = absurd (omega arith)
bodies_more all (f ∷ fs) zero pc d h = append-nil (body_code all f pc) ∙ ap (body_code all f) (omega arith)
bodies_more all (f ∷ fs) (suc i) pc d h =
    let front = body_code all f pc in
    let more = bodies_code all (take i fs) (pc + length front) in
    let n : pc + length front + length more ≡ pc + length (front ++ more) = omega (arith, length-append front more) in
    let k : suc i + 1 ≡ suc (i + 1) = omega arith in
    ap (λ k. bodies_code all (take k (f ∷ fs)) pc) k
    ∙ ap (λ l. front ++ l) (bodies_more all fs i (pc + length front) d (omega arith))
    ∙ sym (append_assoc front more (body_code all (get_or fs i d) (pc + length front + length more)))
    ∙ ap (λ p. (front ++ more) ++ body_code all (get_or fs i d) p) n

pub functions_more : (all fs : List Body) (i pc : ℕ) (d : Body) → i < length fs → functions_from all (take (i + 1) fs) pc ≡ functions_from all (take i fs) pc ++ function_of (get_or fs i d) (pc + length (bodies_code all (take i fs) pc)) ∷ []
functions_more all [] i pc d h = absurd (omega arith)
functions_more all (f ∷ fs) zero pc d h = ap (λ p. function_of f p ∷ []) (omega arith)
functions_more all (f ∷ fs) (suc i) pc d h =
    let front = body_code all f pc in
    let more = bodies_code all (take i fs) (pc + length front) in
    let n : pc + length front + length more ≡ pc + length (front ++ more) = omega (arith, length-append front more) in
    let k : suc i + 1 ≡ suc (i + 1) = omega arith in
    ap (λ k. functions_from all (take k (f ∷ fs)) pc) k
    ∙ ap (λ l. function_of f pc ∷ l) (functions_more all fs i (pc + length front) d (omega arith) ∙ ap (λ p. functions_from all (take i fs) (pc + length front) ++ function_of (get_or fs i d) p ∷ []) n)

-- the code of one body more
pub bodies_step : (all : List Body) (i : ℕ) (f : Body) (at : Slots) (code new : List Instr) → code ≡ bodies_code all (take i all) 0 → i < length all → f ≡ get_or all i f → names_of at ≡ names_in all (variables_of f) → at.spare ≡ length (variables_of f) →
    new ≡ code ++ (stmts_code (names_of at) f.stmts (length code) at.spare ++ end_by (out-Ty f.result) f.place at.spare) → new ≡ bodies_code all (take (i + 1) all) 0
bodies_step all i f at code new e lt is names spare n =
    let len : length code ≡ 0 + length (bodies_code all (take i all) 0) = omega (arith, ap length e) in
    n ∙ ap₂ (λ x s. code ++ (stmts_code x f.stmts (length code) s ++ end_by (out-Ty f.result) f.place s)) names spare
    ∙ ap₂ (λ c p. c ++ body_code all f p) e len ∙ ap (λ g. bodies_code all (take i all) 0 ++ body_code all g (0 + length (bodies_code all (take i all) 0))) is
    ∙ sym (bodies_more all all i 0 f lt)

pub functions_step : (all : List Body) (i first : ℕ) (f : Body) (code : List Instr) (functions new : List Function) → code ≡ bodies_code all (take i all) 0 → functions ≡ functions_from all (take i all) 0 → first ≡ length code → i < length all → f ≡ get_or all i f → new ≡ functions ++ function_of f first ∷ [] → new ≡ functions_from all (take (i + 1) all) 0
functions_step all i first f code functions new e g m lt is n =
    let len : first ≡ 0 + length (bodies_code all (take i all) 0) = omega (arith, m, ap length e) in
    n ∙ ap₂ (λ c p. c ++ function_of f p ∷ []) g len ∙ ap (λ b. functions_from all (take i all) 0 ++ function_of b (0 + length (bodies_code all (take i all) 0)) ∷ []) is
    ∙ sym (functions_more all all i 0 f lt)

pub starts_more : (names : Names) (es : List Tree) (i pc : ℕ) (d : Tree) → i < length es → starts_code names (take (i + 1) es) pc ≡ starts_code names (take i es) pc ++ start_code names (get_or es i d) (pc + length (starts_code names (take i es) pc))
starts_more names [] i pc d h = absurd (omega arith)
starts_more names (e ∷ es) zero pc d h = append-nil (start_code names e pc) ∙ ap (start_code names e) (omega arith)
starts_more names (e ∷ es) (suc i) pc d h =
    let front = start_code names e pc in
    let more = starts_code names (take i es) (pc + length front) in
    let n : pc + length front + length more ≡ pc + length (front ++ more) = omega (arith, length-append front more) in
    let k : suc i + 1 ≡ suc (i + 1) = omega arith in
    ap (λ k. starts_code names (take k (e ∷ es)) pc) k
    ∙ ap (λ l. front ++ l) (starts_more names es i (pc + length front) d (omega arith))
    ∙ sym (append_assoc front more (start_code names (get_or es i d) (pc + length front + length more)))
    ∙ ap (λ p. (front ++ more) ++ start_code names (get_or es i d) p) n

pub entries_more : (names : Names) (es : List Tree) (i pc : ℕ) (d : Tree) → i < length es → entries_from names (take (i + 1) es) pc ≡ entries_from names (take i es) pc ++ entry_of (get_or es i d) (pc + length (starts_code names (take i es) pc)) ∷ []
entries_more names [] i pc d h = absurd (omega arith)
entries_more names (e ∷ es) zero pc d h = ap (λ p. entry_of e p ∷ []) (omega arith)
entries_more names (e ∷ es) (suc i) pc d h =
    let front = start_code names e pc in
    let more = starts_code names (take i es) (pc + length front) in
    let n : pc + length front + length more ≡ pc + length (front ++ more) = omega (arith, length-append front more) in
    let k : suc i + 1 ≡ suc (i + 1) = omega arith in
    ap (λ k. entries_from names (take k (e ∷ es)) pc) k
    ∙ ap (λ l. entry_of e pc ∷ l) (entries_more names es i (pc + length front) d (omega arith) ∙ ap (λ p. entries_from names (take i es) (pc + length front) ++ entry_of (get_or es i d) p ∷ []) n)

pub entries_length : (names : Names) (es : List Tree) (pc : ℕ) → length (entries_from names es pc) ≡ length es
entries_length names [] pc = refl
entries_length names (e ∷ es) pc = omega (arith, entries_length names es (pc + length (start_code names e pc)))

numbers_more : (n : ℕ) (es : List Tree) (i : ℕ) → i < length es → numbers_from n (take (i + 1) es) ≡ numbers_from n (take i es) ++ (n + i) ∷ []
numbers_more n [] i h = absurd (omega arith)
numbers_more n (e ∷ es) zero h = ap (λ k. k ∷ []) (omega arith)
numbers_more n (e ∷ es) (suc i) h =
    let k : suc i + 1 ≡ suc (i + 1) = omega arith in
    ap (λ k. numbers_from n (take k (e ∷ es))) k ∙ ap (λ l. n ∷ l) (numbers_more (n + 1) es i (omega arith) ∙ ap (λ m. numbers_from (n + 1) (take i es) ++ m ∷ []) (omega arith))

-- a draft with the entries of the first starts
abbrev pub with_starts : Names → Draft → List Tree → Draft
with_starts names old es = record old {
  functions = old.functions ++ entries_from names es (length old.instrs);
  instrs = old.instrs ++ starts_code names es (length old.instrs);
  entries = numbers_from (length old.functions) es;
}

-- one start more
pub starts_step : (names : Names) (old cur d1 d2 : Draft) (es : List Tree) (i first number spare : ℕ) (e : Tree) (functions : List Function) (entries : List ℕ) (instrs : List Instr) → cur ≡ with_starts names old (take i es) → i < length es → e ≡ get_or es i e → first ≡ length cur.instrs → number ≡ length cur.functions →
    functions ≡ cur.functions ++ entry_of e first ∷ [] → entries ≡ cur.entries ++ number ∷ [] → d1 ≡ record cur { functions = functions; entries = entries } → spare ≡ 0 → d2 ≡ record d1 { instrs = d1.instrs ++ tree_code names e (length d1.instrs) spare } →
    instrs ≡ d2.instrs ++ return_ops (place_of e) (count_of (own_type e)) 0 → record d2 { instrs = instrs } ≡ with_starts names old (take (i + 1) es)
starts_step names old cur d1 d2 es i first number spare e functions entries instrs is lt e_is f_is n_is fs ns one zero_spare two three =
    let done = take i es in
    let pc = length old.instrs in
    let cs = starts_code names done pc in
    let es' = entries_from names done pc in
    let len : length cur.instrs ≡ pc + length cs = ap (λ d. length d.instrs) is ∙ length-append old.instrs cs in
    let first_is : first ≡ pc + length cs = f_is ∙ len in
    let number_is : number ≡ length old.functions + i = omega (arith, n_is, ap (λ d. length d.functions) is ∙ length-append old.functions es', entries_length names done pc, length-take i es, lt) in
    let functions_are : d2.functions ≡ old.functions ++ entries_from names (take (i + 1) es) pc =
    ap (λ d. d.functions) two ∙ ap (λ d. d.functions) one ∙ fs ∙ ap₂ (λ l p. l ++ entry_of e p ∷ []) (ap (λ d. d.functions) is) first_is
    ∙ append_assoc old.functions es' (entry_of e (pc + length cs) ∷ []) ∙ ap (λ x. old.functions ++ (es' ++ entry_of x (pc + length cs) ∷ [])) e_is
    ∙ ap (λ l. old.functions ++ l) (sym (entries_more names es i pc e lt)) in
    let entries_are : d2.entries ≡ numbers_from (length old.functions) (take (i + 1) es) =
    ap (λ d. d.entries) two ∙ ap (λ d. d.entries) one ∙ ns ∙ ap₂ (λ l n. l ++ n ∷ []) (ap (λ d. d.entries) is) number_is ∙ sym (numbers_more (length old.functions) es i lt) in
    let ops = return_ops (place_of e) (count_of (own_type e)) 0 in
    let same : d1.instrs ≡ cur.instrs = ap (λ d. d.instrs) one in
    let instrs_are : instrs ≡ old.instrs ++ starts_code names (take (i + 1) es) pc =
    three ∙ ap (λ d. d.instrs ++ ops) two ∙ ap₂ (λ l s. (l ++ tree_code names e (length l) s) ++ ops) same zero_spare
    ∙ append_assoc cur.instrs (tree_code names e (length cur.instrs) 0) ops ∙ ap₂ (λ l p. l ++ start_code names e p) (ap (λ d. d.instrs) is) len
    ∙ append_assoc old.instrs cs (start_code names e (pc + length cs)) ∙ ap (λ x. old.instrs ++ (cs ++ start_code names x (pc + length cs))) e_is
    ∙ ap (λ l. old.instrs ++ l) (sym (starts_more names es i pc e lt)) in
    let blocks_are : d2.blocks ≡ old.blocks = ap (λ d. d.blocks) two ∙ ap (λ d. d.blocks) one ∙ ap (λ d. d.blocks) is in
    let globals_are : d2.globals ≡ old.globals = ap (λ d. d.globals) two ∙ ap (λ d. d.globals) one ∙ ap (λ d. d.globals) is in
    (λ j. record { functions = functions_are j; instrs = instrs_are j; blocks = blocks_are j; globals = globals_are j; entries = entries_are j })

-- the weights of starts
pub start_weights : (bodies : List Body) (es : List Tree) → Each (IsTypedStart bodies) es → Each (λ e. tree_weight e ≤ 4194304) es
start_weights bodies [] h = tt
start_weights bodies (e ∷ es) h = (h.0.weight, start_weights bodies es h.1)
