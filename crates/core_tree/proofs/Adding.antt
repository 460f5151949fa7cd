-- Weights of lists, one element on, and weights of the parts of a node as sums.
use Rattle.std.proofs.Common.{◌≡◌, ℕ, zero, suc, ◌+◌, ◌<◌, List, [], ◌∷◌, length, map, take, get_or, refl, ap, arith, min}
use Rattle.core_tree.specs.Weight.{sum, tree_weight, operations_weight, operation_weight, stmt_weight, branches_weight, branch_weight}
use Rattle.core_tree.specs.Nodes.{operation_with, branch_with}
use Rattle.core_tree.specs.declared.tree.Operation.{Operation}
use Rattle.core_tree.specs.declared.tree.Tree.{Tree}
use Rattle.core_tree.specs.declared.stmt.Branch.{Branch}
use Rattle.core_tree.specs.declared.stmt.Stmt.{Stmt}

pub sum_more : {X : Type 0} (f : X → ℕ) (xs : List X) (i : ℕ) (d : X) → i < length xs → sum (map f (take (i + 1) xs)) ≡ sum (map f (take i xs)) + f (get_or xs i d)
sum_more f [] i d h = absurd (omega arith)
sum_more f (x ∷ xs) zero d h = omega arith
sum_more f (x ∷ xs) (suc i) d h =
    let k : suc i + 1 ≡ suc (i + 1) = omega arith in
    let e = ap (λ k. sum (map f (take k (x ∷ xs)))) k in
    omega (arith, e, sum_more f xs i d (omega arith))

-- the weight so far, up to the limit, and one more
pub sum_step : (X : Type 0) (f : X → ℕ) (xs : List X) (i w more new limit : ℕ) (x : X) → w ≡ min (sum (map f (take i xs))) limit → i < length xs → x ≡ get_or xs i x → more ≡ min (f x) limit → new ≡ min (w + more) limit → new ≡ min (sum (map f (take (i + 1) xs))) limit
sum_step X f xs i w more new limit x e lt is m n =
    let s = sum_more f xs i x lt in
    let g = ap f is in
    omega (arith, e, m, n, s, g)

pub operations_sum : (os : List (Operation Tree)) → operations_weight (map (operation_with tree_weight) os) ≡ sum (map operation_weight os)
operations_sum [] = refl
operations_sum (o ∷ os) = ap (λ n. 5 + tree_weight o.operand + n) (operations_sum os)

pub branches_sum : (bs : List (Branch Stmt)) → branches_weight (map (branch_with stmt_weight) bs) ≡ sum (map branch_weight bs)
branches_sum [] = refl
branches_sum (b ∷ bs) = ap (λ n. branch_weight b + n) (branches_sum bs)
