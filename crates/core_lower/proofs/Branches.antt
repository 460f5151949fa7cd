-- The code of branches as it is emitted, where their jumps to the end stand, and that it is the code of an `if`.
use Rattle.std.proofs.Common.{◌≡◌, ℕ, zero, suc, ◌+◌, ◌-◌, ◌<◌, ◌≤◌, List, [], ◌∷◌, ◌++◌, length, map, take, drop, get_or, refl, sym, ap, ap₂, ◌∙◌, arith, append_assoc, length-append}
use Rattle.std.specs.Prelude.{slice_set}
use Rattle.std.proofs.lemmas.List.{set_at, length-set}
use Rattle.dc_types.specs.declared.place.Place.{Place}
use Rattle.dc_code.specs.declared.instr.Op.TheVariants as op
use Rattle.dc_code.specs.declared.instr.Instr.{Instr}
use Rattle.core_tree.specs.Typed.{Each}
use Rattle.core_tree.specs.Nodes.{branch_with}
use Rattle.core_tree.specs.Weight.{stmt_weight, branches_weight, branch_weight}
use Rattle.core_tree.specs.declared.stmt.Branch.{Branch}
use Rattle.core_tree.specs.declared.stmt.Stmt.{Stmt}
use Rattle.core_tree.proofs.Adding.{branches_sum}
use Rattle.core_lower_expr.specs.Lowered.{Names, Codes, instr, block_code, tree_code}
use Rattle.core_lower_expr.proofs.Lists.{weight_below, block_step}
use Rattle.core_lower.specs.Lowered.{branched_code, branch_code, branches_code, last_of_each, branch_jumps, set_each, stmt_code}

regroup : (base a r tail : List Instr) (j : Instr) → base ++ (((a ++ j ∷ []) ++ r) ++ tail) ≡ (base ++ a) ++ (j ∷ (r ++ tail))
regroup base a r tail j = simp append_assoc

regroup_after : (base a more : List Instr) (j : Instr) → (base ++ a) ++ (j ∷ more) ≡ (base ++ (a ++ j ∷ [])) ++ more
regroup_after base a more j = simp append_assoc

regroup_flat : (t one q l : List Instr) (i j : Instr) → t ++ (i ∷ (one ++ (j ∷ (q ++ l)))) ≡ ((t ++ (i ∷ (one ++ j ∷ []))) ++ q) ++ l
regroup_flat t one q l i j = simp append_assoc

module _ (names : Names) (place : Place) (spare : ℕ) where
  abbrev jump : ℕ → Instr
  jump end = instr place (op.Jump end)

  abbrev branch : ℕ → Branch Codes → ℕ → List Instr
  branch end b pc = branch_code names place end b pc spare

  abbrev branches : ℕ → List (Branch Codes) → ℕ → List Instr
  branches end bs pc = branches_code names place end bs pc spare

  -- a branch without its jump to the end
  abbrev ahead : Branch Codes → ℕ → List Instr
  ahead b pc =
      let first = pc + length (tree_code names b.condition pc spare) + 1 in
      tree_code names b.condition pc spare ++ (instr place (op.JumpZero spare (first + length (block_code b.body first spare) + 1)) ∷ block_code b.body first spare)

  ahead_is : (end : ℕ) (b : Branch Codes) (pc : ℕ) → branch end b pc ≡ ahead b pc ++ jump end ∷ []
  ahead_is end b pc =
      let first = pc + length (tree_code names b.condition pc spare) + 1 in
      sym (append_assoc (tree_code names b.condition pc spare) (instr place (op.JumpZero spare (first + length (block_code b.body first spare) + 1)) ∷ block_code b.body first spare) (jump end ∷ []))

  branch_length : (end : ℕ) (b : Branch Codes) (pc : ℕ) → length (branch end b pc) ≡ length (ahead b pc) + 1
  branch_length end b pc = ap length (ahead_is end b pc) ∙ length-append (ahead b pc) (jump end ∷ [])

  same_length : (end : ℕ) (bs : List (Branch Codes)) (pc : ℕ) → length (branches end bs pc) ≡ length (branches 0 bs pc)
  same_length end [] pc = refl
  same_length end (b ∷ bs) pc =
      let a = branch end b pc in
      let a0 = branch 0 b pc in
      let e : length a ≡ length a0 = branch_length end b pc ∙ sym (branch_length 0 b pc) in
      let more = ap (λ n. length (branches end bs (pc + n))) e ∙ same_length end bs (pc + length a0) in
      omega (arith, e, more, length-append a (branches end bs (pc + length a)), length-append a0 (branches 0 bs (pc + length a0)))

  -- the jumps are told their end
  all_set : (end : ℕ) (bs : List (Branch Codes)) (base tail code : List Instr) → code ≡ base ++ (branches 0 bs (length base) ++ tail) →
      set_each code (branch_jumps names place bs (length base) spare) (jump end) ≡ base ++ (branches end bs (length base) ++ tail)
  all_set end [] base tail code e = e
  all_set end (b ∷ bs) base tail code e =
      let pc = length base in
      let a = ahead b pc in
      let old = branch 0 b pc in
      let new = branch end b pc in
      let pc' = pc + length old in
      let r = branches 0 bs pc' in
      let n = pc + length old - 1 in
      let base' = base ++ new in
      let here : length (base ++ a) ≡ n = omega (arith, branch_length 0 b pc, length-append base a) in
      let flat = ap (λ l. base ++ ((l ++ r) ++ tail)) (ahead_is 0 b pc) ∙ regroup base a r tail (jump 0) in
      let set : slice_set code n (jump end) ≡ base' ++ (r ++ tail) =
      ap (λ l. slice_set l n (jump end)) (e ∙ flat) ∙ set_at (base ++ a) (jump 0) (r ++ tail) (jump end) n here ∙ regroup_after base a (r ++ tail) (jump end) ∙ ap (λ l. (base ++ l) ++ (r ++ tail)) (sym (ahead_is end b pc)) in
      let len : length base' ≡ pc' = omega (arith, length-append base new, branch_length end b pc, branch_length 0 b pc) in
      let rest = all_set end bs base' tail (slice_set code n (jump end)) (set ∙ ap (λ p. base' ++ (branches 0 bs p ++ tail)) (sym len)) in
      ap (λ p. set_each (slice_set code n (jump end)) (branch_jumps names place bs p spare) (jump end)) (sym len) ∙ rest
      ∙ ap (λ p. base' ++ (branches end bs p ++ tail)) (length-append base new)
      ∙ append_assoc base new (branches end bs (pc + length new) ++ tail)
      ∙ ap (λ l. base ++ l) (sym (append_assoc new (branches end bs (pc + length new)) tail))

  abbrev whole : List (Branch Codes) → Codes → ℕ → List Instr
  whole bs last pc = branched_code names place bs last pc spare

  -- the branches one around the other are the branches one behind the other
  flat_is : (bs : List (Branch Codes)) (last : Codes) (pc end : ℕ) → end ≡ pc + length (whole bs last pc) → whole bs last pc ≡ branches end bs pc ++ last (pc + length (branches end bs pc)) spare
  flat_is [] last pc end e = let n : pc ≡ pc + 0 = omega arith in ap (λ p. last p spare) n
  flat_is (b ∷ bs) last pc end e =
      let t = tree_code names b.condition pc spare in
      let first = pc + length t + 1 in
      let one = block_code b.body first spare in
      let second = first + length one + 1 in
      let rest = whole bs last second in
      let i = instr place (op.JumpZero spare second) in
      let j = jump (second + length rest) in
      let new = branch end b pc in
      let q = branches end bs second in
      let e' : end ≡ second + length rest = omega (arith, e, length-append t (i ∷ (one ++ (j ∷ rest))), length-append one (j ∷ rest)) in
      let len : second ≡ pc + length new = omega (arith, length-append t (i ∷ (one ++ jump end ∷ [])), length-append one (jump end ∷ [])) in
      ap (λ p. t ++ (i ∷ (one ++ (jump p ∷ rest)))) (sym e')
      ∙ ap (λ l. t ++ (i ∷ (one ++ (jump end ∷ l)))) (flat_is bs last second end e')
      ∙ regroup_flat t one q (last (second + length q) spare) i (jump end)
      ∙ ap (λ p. (new ++ branches end bs p) ++ last (p + length (branches end bs p)) spare) len
      ∙ behind new (branches end bs (pc + length new)) where
        behind : (new more : List Instr) → (new ++ more) ++ last (pc + length new + length more) spare ≡ (new ++ more) ++ last (pc + length (new ++ more)) spare
        behind new more = let n : pc + length new + length more ≡ pc + length (new ++ more) = omega (arith, length-append new more) in ap (λ p. (new ++ more) ++ last p spare) n

  -- The branches are emitted, then the last part, and then the jumps are told where that ends.
  pub patched : (bs : List (Branch Codes)) (last : Codes) (base c1 c2 c3 : List Instr) (jumps : List ℕ) → c1 ≡ base ++ branches 0 bs (length base) → jumps ≡ branch_jumps names place bs (length base) spare → c2 ≡ c1 ++ last (length c1) spare → c3 ≡ set_each c2 jumps (jump (length c2)) → c3 ≡ base ++ whole bs last (length base)
  patched bs last base c1 c2 c3 jumps e1 ej e2 e3 =
      let pc = length base in
      let all = branches 0 bs pc in
      let tail = last (length c1) spare in
      let end = pc + length (whole bs last pc) in
      let flat = flat_is bs last pc end refl in
      let l1 : pc + length (branches end bs pc) ≡ length c1 = omega (arith, same_length end bs pc, ap length e1 ∙ length-append base all) in
      let whole_is : whole bs last pc ≡ branches end bs pc ++ tail = flat ∙ ap (λ p. branches end bs pc ++ last p spare) l1 in
      let at_end : length c2 ≡ end = omega (arith, ap length e2 ∙ length-append c1 tail, l1, ap length whole_is ∙ length-append (branches end bs pc) tail) in
      e3 ∙ ap₂ (λ js n. set_each c2 js (jump n)) ej at_end
      ∙ all_set end bs base tail c2 (e2 ∙ ap (λ l. l ++ tail) e1 ∙ append_assoc base all tail)
      ∙ ap (λ l. base ++ l) (sym whole_is)

  -- the jumps stand in what was emitted
  pub jumps_below : (bs : List (Branch Codes)) (pc bound : ℕ) → pc + length (branches 0 bs pc) ≤ bound → Each (λ n. n < bound) (branch_jumps names place bs pc spare)
  jumps_below [] pc bound le = tt
  jumps_below (b ∷ bs) pc bound le =
      let a = branch 0 b pc in
      let all = length-append a (branches 0 bs (pc + length a)) in
      (omega (arith, le, all, branch_length 0 b pc), jumps_below bs (pc + length a) bound (omega (arith, le, all)))

  -- a branch, whose jump past it is told its end
  pub branch_patched : (b : Branch Codes) (base c1 c2 c3 c4 c5 : List Instr) (x : Instr) (n1 n3 : ℕ) → c1 ≡ base ++ tree_code names b.condition (length base) spare → n1 ≡ length c1 → c2 ≡ c1 ++ x ∷ [] → c3 ≡ c2 ++ block_code b.body (length c2) spare → c4 ≡ c3 ++ jump 0 ∷ [] → n3 ≡ length c4 →
      c5 ≡ slice_set c4 n1 (instr place (op.JumpZero spare n3)) → (c5 ≡ base ++ branch 0 b (length base)) × (length c5 ≡ length c3 + 1)
  branch_patched b base c1 c2 c3 c4 c5 x n1 n3 e1 m1 e2 e3 e4 m3 s =
      let pc = length base in
      let t = tree_code names b.condition pc spare in
      let first = pc + length t + 1 in
      let one = block_code b.body first spare in
      let l1 : length c1 ≡ pc + length t = ap length e1 ∙ length-append base t in
      let l2 : length c2 ≡ first = omega (arith, l1, ap length e2 ∙ length-append c1 (x ∷ [])) in
      let e3' : c3 ≡ c2 ++ one = e3 ∙ ap (λ p. c2 ++ block_code b.body p spare) l2 in
      let l3 : length c3 ≡ first + length one = omega (arith, l2, ap length e3' ∙ length-append c2 one) in
      let l4 : length c4 ≡ length c3 + 1 = ap length e4 ∙ length-append c3 (jump 0 ∷ []) in
      let i = instr place (op.JumpZero spare n3) in
      let all : c4 ≡ ((c1 ++ x ∷ []) ++ one) ++ jump 0 ∷ [] = e4 ∙ ap (λ l. l ++ jump 0 ∷ []) (e3' ∙ ap (λ l. l ++ one) e2) in
      let flat : ((c1 ++ x ∷ []) ++ one) ++ jump 0 ∷ [] ≡ c1 ++ x ∷ (one ++ jump 0 ∷ []) = simp append_assoc in
      let n : n3 ≡ first + length one + 1 = omega (arith, m3, l4, l3) in
      let set : c5 ≡ c1 ++ i ∷ (one ++ jump 0 ∷ []) = s ∙ ap (λ l. slice_set l n1 i) (all ∙ flat) ∙ set_at c1 x (one ++ jump 0 ∷ []) i n1 (sym m1) in (
        set ∙ ap₂ (λ l p. l ++ instr place (op.JumpZero spare p) ∷ (one ++ jump 0 ∷ [])) e1 n ∙ append_assoc base t (instr place (op.JumpZero spare (first + length one + 1)) ∷ (one ++ jump 0 ∷ [])),
        ap length s ∙ length-set c4 n1 i ∙ l4,
      )

pub set_more : (ns : List ℕ) (i d : ℕ) (code : List Instr) (x : Instr) → i < length ns → set_each code (drop i ns) x ≡ set_each (slice_set code (get_or ns i d) x) (drop (i + 1) ns) x
set_more [] i d code x lt = absurd (omega arith)
set_more (n ∷ ns) zero d code x lt = refl
set_more (n ∷ ns) (suc i) d code x lt =
    let k : suc (i + 1) ≡ suc i + 1 = omega arith in
    set_more ns i d code x (omega arith) ∙ ap (λ k. set_each (slice_set code (get_or ns i d) x) (drop k (n ∷ ns)) x) k

pub each_at : (P : ℕ → Type 0) (ns : List ℕ) (i d : ℕ) → i < length ns → Each P ns → P (get_or ns i d)
each_at P [] i d lt h = absurd (omega arith)
each_at P (n ∷ ns) zero d lt h = h.0
each_at P (n ∷ ns) (suc i) d lt h = each_at P ns i d (omega arith) h.1

last_of_each_more : {X : Type 0} (c : X → Codes) (xs : List X) (i pc spare : ℕ) (d : X) → i < length xs →
    last_of_each (map c (take (i + 1) xs)) pc spare ≡ last_of_each (map c (take i xs)) pc spare ++ (pc + length (block_code (map c (take i xs)) pc spare) + length (c (get_or xs i d) (pc + length (block_code (map c (take i xs)) pc spare)) spare) - 1) ∷ []
last_of_each_more c [] i pc spare d h = absurd (omega arith)
last_of_each_more c (x ∷ xs) zero pc spare d h = let n : pc ≡ pc + 0 = omega arith in ap (λ p. (p + length (c x p spare) - 1) ∷ []) n
last_of_each_more c (x ∷ xs) (suc i) pc spare d h =
    let front = c x pc spare in
    let pc' = pc + length front in
    let more = block_code (map c (take i xs)) pc' spare in
    let n : pc' + length more ≡ pc + length (front ++ more) = omega (arith, length-append front more) in
    let k : suc i + 1 ≡ suc (i + 1) = omega arith in
    ap (λ k. last_of_each (map c (take k (x ∷ xs))) pc spare) k
    ∙ ap (λ l. (pc + length front - 1) ∷ l) (last_of_each_more c xs i pc' spare d (omega arith))
    ∙ ap (λ p. ((pc + length front - 1) ∷ last_of_each (map c (take i xs)) pc' spare) ++ (p + length (c (get_or xs i d) p spare) - 1) ∷ []) n

module _ (names : Names) (place : Place) (spare : ℕ) where
  -- the code of a branch of statements
  abbrev on_stmts : Branch Stmt → Codes
  on_stmts b = branch_code names place 0 (branch_with (stmt_code names) b)

  abbrev made : List (Branch Stmt) → List (Branch Codes)
  made bs = map (branch_with (stmt_code names)) bs

  codes_are : (bs : List (Branch Stmt)) → map on_stmts bs ≡ map (branch_code names place 0) (made bs)
  codes_are [] = refl
  codes_are (b ∷ bs) = ap (λ cs. on_stmts b ∷ cs) (codes_are bs)

  -- the step of a loop that emits the branches
  pub branch_step : (old code new : List Instr) (bs : List (Branch Stmt)) (i : ℕ) (b : Branch Stmt) → code ≡ old ++ branches_code names place 0 (made (take i bs)) (length old) spare → i < length bs → b ≡ get_or bs i b → new ≡ code ++ on_stmts b (length code) spare →
      new ≡ old ++ branches_code names place 0 (made (take (i + 1) bs)) (length old) spare
  branch_step old code new bs i b e lt is n =
      block_step (Branch Stmt) on_stmts old code new bs i spare b (e ∙ ap (λ cs. old ++ block_code cs (length old) spare) (sym (codes_are (take i bs)))) lt is n
      ∙ ap (λ cs. old ++ block_code cs (length old) spare) (codes_are (take (i + 1) bs))

  pub jump_step : (old code new : List Instr) (bs : List (Branch Stmt)) (i n : ℕ) (b : Branch Stmt) (jumps more : List ℕ) → code ≡ old ++ branches_code names place 0 (made (take i bs)) (length old) spare → i < length bs → b ≡ get_or bs i b → new ≡ code ++ on_stmts b (length code) spare →
      n + 1 ≡ length new → jumps ≡ branch_jumps names place (made (take i bs)) (length old) spare → more ≡ jumps ++ n ∷ [] → more ≡ branch_jumps names place (made (take (i + 1) bs)) (length old) spare
  jump_step old code new bs i n b jumps more e lt is f m js ms =
      let pc = length old in
      let done = block_code (map on_stmts (take i bs)) pc spare in
      let e' : code ≡ old ++ done = e ∙ ap (λ cs. old ++ block_code cs pc spare) (sym (codes_are (take i bs))) in
      let len : length code ≡ pc + length done = ap length e' ∙ length-append old done in
      let it = on_stmts (get_or bs i b) (pc + length done) spare in
      let f' : new ≡ code ++ it = f ∙ ap₂ (λ p x. code ++ on_stmts x p spare) len is in
      let at : n ≡ pc + length done + length it - 1 = omega (arith, m, ap length f' ∙ length-append code it, len) in
      ms ∙ ap₂ (λ l n. l ++ n ∷ []) (js ∙ ap (λ cs. last_of_each cs pc spare) (sym (codes_are (take i bs)))) at
      ∙ sym (last_of_each_more on_stmts bs i pc spare b lt)
      ∙ ap (λ cs. last_of_each cs pc spare) (codes_are (take (i + 1) bs))

-- the weight of a branch among the others
pub branch_at : (bs : List (Branch Stmt)) (i : ℕ) (d : Branch Stmt) → i < length bs → branch_weight (get_or bs i d) ≤ branches_weight (map (branch_with stmt_weight) bs)
branch_at bs i d lt = omega (arith, weight_below branch_weight bs i d lt, branches_sum bs)
