-- The meaning, computed on small parts. A part of a tree stands for the tree by the equations of its fold.
use Rattle.std.proofs.Common.{◌≡◌, ℕ, List, [], ◌∷◌, ◌++◌, refl, ap₂, ◌∙◌, true, ℤ, pos, neg_ℤ}
use Rattle.std.specs.Prelude.{codes, decimal, if◌then◌else◌}
use Rattle.dc_types.specs.declared.place.Place.{Place}
use Rattle.dc_types.specs.declared.place.Step.TheVariants.{At}
use Rattle.dc_types.specs.declared.kind.Kind.TheVariants as kind
use Rattle.dc_types.specs.declared.kind.BinOp.TheVariants as binop
use Rattle.dc_types.specs.declared.kind.CmpOp.TheVariants as cmpop
use Rattle.std.specs.Fmt.{digits}
use Rattle.dc_types.specs.declared.ty.Ty.TheViews.{roll-Ty, out-Ty}
use Rattle.dc_types.specs.declared.constant.CTree.TheOpen.{CTree-F}
use Rattle.dc_types.specs.declared.constant.CTree.TheViews.{roll-CTree, out-CTree}
use Rattle.dc_value.specs.declared.value.Value.{Value}
use Rattle.dc_value.specs.declared.value.Value.TheViews.{roll-Value, out-Value}
use Rattle.dc_types.specs.declared.event.TrapKind.TheVariants.{Divide, Depth}
use Rattle.dc_types.specs.declared.event.Event.{Event}
use Rattle.dc_types.specs.declared.event.Event.TheVariants.{Enter, Turn, Print}
use Rattle.dc_types.specs.declared.event.Limits.{Limits}
use Rattle.dc_types.specs.Integers.{wrap, binary, compare, residue, signed_residue, can_divide, least}
use Rattle.core_tree.specs.Values.{int, void, num, nothing, is_zero}
use Rattle.core_tree.specs.Meaning.{State, Trapped, Bound, Ran, Goes, Over, Part, and_then, Calls, tree_step, tree_meaning, Flow, Next, Back, block, branched, turns, no_calls, calls_of, begun}
use Rattle.core_tree.specs.declared.tree.Variable.{Variable}
use Rattle.core_tree.specs.declared.tree.Tree.{Tree}
use Rattle.core_tree.specs.declared.tree.Tree.TheOpen.{Tree-F}
use Rattle.core_tree.specs.declared.tree.Tree.TheViews.{roll-Tree}
use Rattle.core_tree.specs.declared.tree.Tree.TheFolds.{fold-roll-Tree}
use Rattle.core_tree.specs.declared.stmt.Branch.{Branch}
use Rattle.core_tree.specs.declared.body.Body.{Body}

abbrev at : ℕ → Place
at n = record { «module» = []; steps = At n ∷ [] }

abbrev limits : Limits
limits = record { ticks = 9; cells = 5; depth = 1; stack = 9 }

-- no function is called
abbrev calls : Calls
calls = calls_of [] limits 9 no_calls

abbrev number : ℤ → Part Value
number z = tree_step calls (Tree-F.Constant (at 0) (record { ty = int kind.I32; tree = roll-CTree (CTree-F.Num z) }))

abbrev x : Variable
x = record { place = at 1; ty = int kind.I32 }

-- x holds this number, and so many ticks are left
abbrev with : ℤ → ℕ → List Event → State
with z n events = record { locals = record { place = at 1; value = num z } ∷ []; left = n; events = events }

abbrev sum : Part Value → Part Value → Part Value
sum a b = tree_step calls (Tree-F.Chain (at 2) kind.I32 a (record { operator = binop.Add; operand = b } ∷ []))

-- `int.max + 1`
wraps : sum (number (pos 2147483647)) (number (pos 1)) (begun 0) ≡ Goes (num (neg_ℤ (pos 2147483648))) (begun 0)
unfolding wrap binary signed_residue residue can_divide least compare roll-CTree out-CTree roll-Value out-Value denote.Hole.Carrier.roll denote.Hole.Carrier.out
wraps = refl

abbrev assign : Part Value → Part Value
assign e = tree_step calls (Tree-F.Assign (at 3) x e)

abbrev read : Part Value
read = tree_step calls (Tree-F.Local (at 4) x)

-- `x + (x = 1)` and `(x = 1) + x`, where x is 5: from left to right
left_first : sum read (assign (number (pos 1))) (with (pos 5) 0 []) ≡ Goes (num (pos 6)) (with (pos 1) 0 [])
unfolding wrap binary signed_residue residue can_divide least compare roll-CTree out-CTree roll-Value out-Value denote.Hole.Carrier.roll denote.Hole.Carrier.out
left_first = refl

-- the other order
assigned_first : sum (assign (number (pos 1))) read (with (pos 5) 0 []) ≡ Goes (num (pos 2)) (with (pos 1) 0 [])
unfolding wrap binary signed_residue residue can_divide least compare roll-CTree out-CTree roll-Value out-Value denote.Hole.Carrier.roll denote.Hole.Carrier.out
assigned_first = refl

-- `8 - 3 - 2`: from left to right
differences : tree_step calls (Tree-F.Chain (at 2) kind.I32 (number (pos 8)) (record { operator = binop.Sub; operand = number (pos 3) } ∷ record { operator = binop.Sub; operand = number (pos 2) } ∷ [])) (begun 0) ≡ Goes (num (pos 3)) (begun 0)
unfolding wrap binary signed_residue residue can_divide least compare roll-CTree out-CTree roll-Value out-Value denote.Hole.Carrier.roll denote.Hole.Carrier.out
differences = refl

-- `1 / 0 * (x = 1)`: the trap comes before the operand behind it is evaluated
stops_there : tree_step calls (Tree-F.Chain (at 7) kind.I32 (number (pos 1)) (record { operator = binop.Div; operand = number (pos 0) } ∷ record { operator = binop.Mul; operand = assign (number (pos 1)) } ∷ [])) (with (pos 5) 0 []) ≡ Over (Trapped Divide (at 7)) []
unfolding wrap binary signed_residue residue can_divide least compare roll-CTree out-CTree roll-Value out-Value denote.Hole.Carrier.roll denote.Hole.Carrier.out
stops_there = refl

abbrev ratio : ℤ → ℤ → Part Value
ratio a b = tree_step calls (Tree-F.Chain (at 7) kind.I32 (number a) (record { operator = binop.Div; operand = number b } ∷ []))

-- `-7 / 2` is rounded towards zero, and `1 / 0` is a trap at its place
quotient : ratio (neg_ℤ (pos 7)) (pos 2) (begun 0) ≡ Goes (num (neg_ℤ (pos 3))) (begun 0)
unfolding wrap binary signed_residue residue can_divide least compare roll-CTree out-CTree roll-Value out-Value denote.Hole.Carrier.roll denote.Hole.Carrier.out
quotient = refl

-- a division by 0
no_quotient : ratio (pos 1) (pos 0) (begun 0) ≡ Over (Trapped Divide (at 7)) []
unfolding wrap binary signed_residue residue can_divide least compare roll-CTree out-CTree roll-Value out-Value denote.Hole.Carrier.roll denote.Hole.Carrier.out
no_quotient = refl

-- the left operand's trap comes first
first_trap : sum (ratio (pos 1) (pos 0)) (tree_step calls (Tree-F.Call (at 8) (at 9) void [])) (begun 0) ≡ Over (Trapped Divide (at 7)) []
unfolding wrap binary signed_residue residue can_divide least compare roll-CTree out-CTree roll-Value out-Value denote.Hole.Carrier.roll denote.Hole.Carrier.out
first_trap = refl

-- `while (x < 2) x = x + 1;`
abbrev counts : ℕ → Part Flow
counts n = turns n (at 6) (tree_step calls (Tree-F.Compare (at 5) cmpop.Less kind.I32 read (number (pos 2)))) (λ s. block ((λ s. Goes Next (with (pos 2) s.left s.events)) ∷ []) s)

-- a turn starts once its condition held, and the test that ends the loop takes no tick
one_turn : counts 1 (with (pos 1) 1 []) ≡ Goes Next (with (pos 2) 0 (Turn (at 6) ∷ []))
unfolding wrap binary signed_residue residue can_divide least compare roll-CTree out-CTree roll-Value out-Value denote.Hole.Carrier.roll denote.Hole.Carrier.out
one_turn = refl

-- without a tick it ends before the turn
no_turn : counts 0 (with (pos 1) 0 []) ≡ Over Bound []
unfolding wrap binary signed_residue residue can_divide least compare roll-CTree out-CTree roll-Value out-Value denote.Hole.Carrier.roll denote.Hole.Carrier.out
no_turn = refl

-- and where the condition doesn't hold it takes none
ended : counts 0 (with (pos 2) 0 []) ≡ Goes Next (with (pos 2) 0 [])
unfolding wrap binary signed_residue residue can_divide least compare roll-CTree out-CTree roll-Value out-Value denote.Hole.Carrier.roll denote.Hole.Carrier.out
ended = refl

-- a function without statements
abbrev empty : Body
empty = record { place = at 20; params = []; locals = []; result = void; stmts = [] }

abbrev called : Limits → ℕ → Ran Value
called limits n = calls_of (empty ∷ []) limits n no_calls (at 10) (at 20) [] (begun n)

-- the entry of a function takes a tick
entered : called limits 1 ≡ Goes nothing (record { locals = []; left = 0; events = Enter (at 20) ∷ [] })
unfolding wrap binary signed_residue residue can_divide least compare roll-CTree out-CTree roll-Value out-Value denote.Hole.Carrier.roll denote.Hole.Carrier.out
entered = refl

-- without one the run ends before it
not_entered : called limits 0 ≡ Over Bound []
unfolding wrap binary signed_residue residue can_divide least compare roll-CTree out-CTree roll-Value out-Value denote.Hole.Carrier.roll denote.Hole.Carrier.out
not_entered = refl

-- the limit on depth is looked at behind the event, and the trap is at the call
too_deep : called (record { ticks = 9; cells = 5; depth = 0; stack = 9 }) 1 ≡ Over (Trapped Depth (at 10)) (Enter (at 20) ∷ [])
unfolding wrap binary signed_residue residue can_divide least compare roll-CTree out-CTree roll-Value out-Value denote.Hole.Carrier.roll denote.Hole.Carrier.out
too_deep = refl

-- `writeln(12, true)`
prints : tree_step calls (Tree-F.Print (at 3) (int kind.I32 ∷ int kind.Bool ∷ []) (number (pos 12) ∷ number (pos 1) ∷ []) true) (begun 0) ≡ Goes nothing (record { locals = []; left = 0; events = Print (decimal 12 ++ (codes "true" ++ 10 ∷ [])) ∷ [] })
unfolding digits roll-Ty out-Ty wrap binary signed_residue residue can_divide least compare roll-CTree out-CTree roll-Value out-Value denote.Hole.Carrier.roll denote.Hole.Carrier.out
prints = refl

-- a constant condition, whose meaning is that of its first node
abbrev condition : ℤ → Tree
condition z = roll-Tree (Tree-F.Constant (at 0) (record { ty = int kind.I32; tree = roll-CTree (CTree-F.Num z) }))

condition_is : (z : ℤ) → tree_meaning calls (condition z) ≡ number z
condition_is z = fold-roll-Tree (Part Value) (tree_step calls) (Tree-F.Constant (at 0) (record { ty = int kind.I32; tree = roll-CTree (CTree-F.Num z) }))

-- `return z;`, as what a branch does
abbrev returns : ℤ → List (Part Flow)
returns z = (λ s. Goes (Back (num z)) s) ∷ []

abbrev branch : ℤ → ℤ → Branch (Part Flow)
branch c z = record { condition = condition c; body = returns z }

abbrev choice : Part Value → Part Value → Ran Flow
choice a b = and_then (a (begun 0)) (λ v s. if is_zero v then and_then (b s) (λ v s. if is_zero v then block (returns (pos 3)) s else block (returns (pos 2)) s) else block (returns (pos 1)) s)

-- `if (0) return 1; else if (1) return 2; else return 3;`
second_taken : branched calls (branch (pos 0) (pos 1) ∷ branch (pos 1) (pos 2) ∷ []) (block (returns (pos 3))) (begun 0) ≡ Goes (Back (num (pos 2))) (begun 0)
unfolding wrap binary signed_residue residue can_divide least compare roll-CTree out-CTree roll-Value out-Value denote.Hole.Carrier.roll denote.Hole.Carrier.out
second_taken = ap₂ choice (condition_is (pos 0)) (condition_is (pos 1)) ∙ refl

-- `if (0) return 1; else if (0) return 2; else return 3;`
last_taken : branched calls (branch (pos 0) (pos 1) ∷ branch (pos 0) (pos 2) ∷ []) (block (returns (pos 3))) (begun 0) ≡ Goes (Back (num (pos 3))) (begun 0)
unfolding wrap binary signed_residue residue can_divide least compare roll-CTree out-CTree roll-Value out-Value denote.Hole.Carrier.roll denote.Hole.Carrier.out
last_taken = ap₂ choice (condition_is (pos 0)) (condition_is (pos 0)) ∙ refl
