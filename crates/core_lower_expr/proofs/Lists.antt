-- Codes and weights of lists, one element on.
use Rattle.std.proofs.Common.{◌≡◌, ℕ, zero, suc, ◌+◌, ◌<◌, ◌≤◌, Bool, List, [], ◌∷◌, ◌++◌, length, map, take, get_or, refl, sym, ap, ap₂, ◌∙◌, arith, append_assoc, append-nil, length-append}
use Rattle.dc_types.specs.declared.kind.Kind.{Kind}
use Rattle.dc_types.specs.declared.place.Place.{Place}
use Rattle.dc_types.specs.declared.ty.Ty.{Ty}
use Rattle.dc_code.specs.declared.instr.Op.TheVariants as op
use Rattle.dc_code.specs.declared.instr.Instr.{Instr}
use Rattle.core_tree.specs.Weight.{sum, operations_weight, operation_weight, tree_weight}
use Rattle.core_tree.specs.Nodes.{operation_with}
use Rattle.core_tree.specs.declared.tree.Operation.{Operation}
use Rattle.core_tree.specs.declared.tree.Tree.{Tree}
use Rattle.core_tree.proofs.Adding.{operations_sum}
use Rattle.core_lower_expr.specs.Lowered.{Names, Codes, instr, kind_of, each_code, block_code, binary_ops, operation_code, operations_code, put_ops, line_ops, print_ops, tree_code}

-- the weight at an index, with one for each element before it
pub weight_at : {X : Type 0} (f : X → ℕ) (some : (x : X) → 5 ≤ f x) (xs : List X) (i : ℕ) (d : X) → i < length xs → i + f (get_or xs i d) ≤ sum (map f xs)
weight_at f some [] i d h = absurd (omega arith)
weight_at f some (x ∷ xs) zero d h = omega arith
weight_at f some (x ∷ xs) (suc i) d h = omega (arith, some x, weight_at f some xs i d (omega arith))

-- the code of one element more
pub each_code_more : {X : Type 0} (c : X → Codes) (xs : List X) (i pc spare : ℕ) (d : X) → i < length xs → each_code (map c (take (i + 1) xs)) pc spare ≡ each_code (map c (take i xs)) pc spare ++ c (get_or xs i d) (pc + length (each_code (map c (take i xs)) pc spare)) (spare + i)
each_code_more c [] i pc spare d h = absurd (omega arith)
each_code_more c (x ∷ xs) zero pc spare d h =
    append-nil (c x pc spare) ∙ ap₂ (λ p s. c x p s) (omega arith) (omega arith)
each_code_more c (x ∷ xs) (suc i) pc spare d h =
    let front = c x pc spare in
    let more = each_code (map c (take i xs)) (pc + length front) (spare + 1) in
    let n : pc + length front + length more ≡ pc + length (front ++ more) = omega (arith, length-append front more) in
    let s : spare + 1 + i ≡ spare + suc i = omega arith in
    let k : suc i + 1 ≡ suc (i + 1) = omega arith in
    ap (λ k. each_code (map c (take k (x ∷ xs))) pc spare) k
    ∙ ap (λ l. front ++ l) (each_code_more c xs i (pc + length front) (spare + 1) d (omega arith))
    ∙ sym (append_assoc front more (c (get_or xs i d) (pc + length front + length more) (spare + 1 + i)))
    ∙ ap₂ (λ p s. (front ++ more) ++ c (get_or xs i d) p s) n s

-- the step of a loop that emits the code of each element
pub each_step : {X : Type 0} (c : X → Codes) (old code new : List Instr) (xs : List X) (i spare slot : ℕ) (x : X) → code ≡ old ++ each_code (map c (take i xs)) (length old) spare → slot ≡ spare + i → i < length xs → x ≡ get_or xs i x → new ≡ code ++ c x (length code) slot → new ≡ old ++ each_code (map c (take (i + 1) xs)) (length old) spare
each_step c old code new xs i spare slot x e s lt is n =
    let done = each_code (map c (take i xs)) (length old) spare in
    let len : length code ≡ length old + length done = ap length e ∙ length-append old done in
    n ∙ ap₂ (λ p s. code ++ c x p s) len s ∙ ap₂ (λ l y. l ++ c y (length old + length done) (spare + i)) e is
    ∙ append_assoc old done (c (get_or xs i x) (length old + length done) (spare + i))
    ∙ ap (λ l. old ++ l) (sym (each_code_more c xs i (length old) spare x lt))

pub put_ops_more : (place : Place) (tys : List Ty) (i spare : ℕ) (d : Ty) → i < length tys → put_ops place (take (i + 1) tys) spare ≡ put_ops place (take i tys) spare ++ instr place (op.PutInt (kind_of (get_or tys i d)) (spare + i)) ∷ []
put_ops_more place [] i spare d h = absurd (omega arith)
put_ops_more place (ty ∷ tys) zero spare d h = ap (λ s. instr place (op.PutInt (kind_of ty) s) ∷ []) (omega arith)
put_ops_more place (ty ∷ tys) (suc i) spare d h =
    let s : spare + 1 + i ≡ spare + suc i = omega arith in
    let k : suc i + 1 ≡ suc (i + 1) = omega arith in
    ap (λ k. put_ops place (take k (ty ∷ tys)) spare) k
    ∙ ap (λ l. instr place (op.PutInt (kind_of ty) spare) ∷ l) (put_ops_more place tys i (spare + 1) d (omega arith))
    ∙ ap (λ s. instr place (op.PutInt (kind_of ty) spare) ∷ (put_ops place (take i tys) (spare + 1) ++ instr place (op.PutInt (kind_of (get_or tys i d)) s) ∷ [])) s

pub put_step : (place : Place) (old code new : List Instr) (tys : List Ty) (i spare slot : ℕ) (ty : Ty) → code ≡ old ++ put_ops place (take i tys) spare → slot ≡ spare + i → i < length tys → ty ≡ get_or tys i ty → new ≡ code ++ instr place (op.PutInt (kind_of ty) slot) ∷ [] → new ≡ old ++ put_ops place (take (i + 1) tys) spare
put_step place old code new tys i spare slot ty e s lt is n =
    n ∙ ap₂ (λ c s. c ++ instr place (op.PutInt (kind_of ty) s) ∷ []) e s ∙ ap (λ t. (old ++ put_ops place (take i tys) spare) ++ instr place (op.PutInt (kind_of t) (spare + i)) ∷ []) is
    ∙ append_assoc old (put_ops place (take i tys) spare) (instr place (op.PutInt (kind_of (get_or tys i ty)) (spare + i)) ∷ [])
    ∙ ap (λ l. old ++ l) (sym (put_ops_more place tys i spare ty lt))

-- the instructions of a print, put one part behind the other
pub printed : (place : Place) (tys : List Ty) (line : Bool) (old a c1 c2 c3 : List Instr) (spare : ℕ) → c1 ≡ old ++ a → c2 ≡ c1 ++ put_ops place tys spare → c3 ≡ c2 ++ line_ops place line spare → c3 ++ instr place op.Flush ∷ [] ≡ old ++ (a ++ print_ops place tys line spare)
printed place tys line old a c1 c2 c3 spare e1 e2 e3 =
    let b = put_ops place tys spare in
    let l = line_ops place line spare in
    let f = instr place op.Flush ∷ [] in
    ap (λ c. c ++ f) (e3 ∙ ap (λ c. c ++ l) (e2 ∙ ap (λ c. c ++ b) e1)) ∙ append_assoc ((old ++ a) ++ b) l f ∙ append_assoc (old ++ a) b (l ++ f) ∙ append_assoc old a (b ++ (l ++ f))

-- one part behind another
pub behind : (old a c b : List Instr) → c ≡ old ++ a → c ++ b ≡ old ++ (a ++ b)
behind old a c b e = ap (λ c. c ++ b) e ∙ append_assoc old a b

-- the weight at an index
pub weight_below : {X : Type 0} (f : X → ℕ) (xs : List X) (i : ℕ) (d : X) → i < length xs → f (get_or xs i d) ≤ sum (map f xs)
weight_below f [] i d h = absurd (omega arith)
weight_below f (x ∷ xs) zero d h = omega arith
weight_below f (x ∷ xs) (suc i) d h = omega (arith, weight_below f xs i d (omega arith))

pub block_code_more : {X : Type 0} (c : X → Codes) (xs : List X) (i pc spare : ℕ) (d : X) → i < length xs → block_code (map c (take (i + 1) xs)) pc spare ≡ block_code (map c (take i xs)) pc spare ++ c (get_or xs i d) (pc + length (block_code (map c (take i xs)) pc spare)) spare
block_code_more c [] i pc spare d h = absurd (omega arith)
block_code_more c (x ∷ xs) zero pc spare d h =
    append-nil (c x pc spare) ∙ ap (λ p. c x p spare) (omega arith)
block_code_more c (x ∷ xs) (suc i) pc spare d h =
    let front = c x pc spare in
    let more = block_code (map c (take i xs)) (pc + length front) spare in
    let n : pc + length front + length more ≡ pc + length (front ++ more) = omega (arith, length-append front more) in
    let k : suc i + 1 ≡ suc (i + 1) = omega arith in
    ap (λ k. block_code (map c (take k (x ∷ xs))) pc spare) k
    ∙ ap (λ l. front ++ l) (block_code_more c xs i (pc + length front) spare d (omega arith))
    ∙ sym (append_assoc front more (c (get_or xs i d) (pc + length front + length more) spare))
    ∙ ap (λ p. (front ++ more) ++ c (get_or xs i d) p spare) n

pub block_step : (X : Type 0) (c : X → Codes) (old code new : List Instr) (xs : List X) (i spare : ℕ) (x : X) → code ≡ old ++ block_code (map c (take i xs)) (length old) spare → i < length xs → x ≡ get_or xs i x → new ≡ code ++ c x (length code) spare → new ≡ old ++ block_code (map c (take (i + 1) xs)) (length old) spare
block_step X c old code new xs i spare x e lt is n =
    let done = block_code (map c (take i xs)) (length old) spare in
    let len : length code ≡ length old + length done = ap length e ∙ length-append old done in
    n ∙ ap (λ p. code ++ c x p spare) len ∙ ap₂ (λ l y. l ++ c y (length old + length done) spare) e is
    ∙ append_assoc old done (c (get_or xs i x) (length old + length done) spare)
    ∙ ap (λ l. old ++ l) (sym (block_code_more c xs i (length old) spare x lt))

-- the code of an operation on a tree
abbrev on_tree : Names → Place → Kind → Operation Tree → Codes
on_tree names place k o = operation_code place k (operation_with (tree_code names) o)

operations_are : (names : Names) (place : Place) (k : Kind) (os : List (Operation Tree)) → block_code (map (on_tree names place k) os) ≡ operations_code place k (map (operation_with (tree_code names)) os)
operations_are names place k os = ap block_code (by os) where
  by : (os : List (Operation Tree)) → map (on_tree names place k) os ≡ map (operation_code place k) (map (operation_with (tree_code names)) os)
  by [] = refl
  by (o ∷ os) = ap (λ cs. on_tree names place k o ∷ cs) (by os)

-- the step of a loop that emits the code of each operation
pub operation_step : (names : Names) (place : Place) (k : Kind) (old code mid new : List Instr) (os : List (Operation Tree)) (i spare : ℕ) (o : Operation Tree) → code ≡ old ++ operations_code place k (map (operation_with (tree_code names)) (take i os)) (length old) spare → i < length os → o ≡ get_or os i o →
    mid ≡ code ++ tree_code names o.operand (length code) (spare + 1) → new ≡ mid ++ binary_ops place o.operator k spare → new ≡ old ++ operations_code place k (map (operation_with (tree_code names)) (take (i + 1) os)) (length old) spare
operation_step names place k old code mid new os i spare o e lt is e1 e2 =
    let a = tree_code names o.operand (length code) (spare + 1) in
    let made = block_step (Operation Tree) (on_tree names place k) old code new os i spare o (e ∙ ap (λ c. old ++ c (length old) spare) (sym (operations_are names place k (take i os)))) lt is (e2 ∙ behind code a mid (binary_ops place o.operator k spare) e1) in
    made ∙ ap (λ c. old ++ c (length old) spare) (operations_are names place k (take (i + 1) os))

-- an operand's weight among those of its chain
pub operand_weight : (os : List (Operation Tree)) (i : ℕ) (d : Operation Tree) → i < length os → 5 + tree_weight (get_or os i d).operand ≤ operations_weight (map (operation_with tree_weight) os)
operand_weight os i d lt = omega (arith, weight_below operation_weight os i d lt, operations_sum os)
