-- The machine, computed on small code.
use Rattle.std.proofs.Common.{◌≡◌, ℕ, List, [], ◌∷◌, refl, true, false, suc}
use Rattle.std.specs.Prelude.{codes, decimal}
use Rattle.dc_types.specs.declared.place.Place.{Place}
use Rattle.dc_types.specs.declared.place.Step.TheVariants.{At}
use Rattle.dc_types.specs.declared.kind.Kind.TheVariants as kind
use Rattle.dc_types.specs.declared.kind.BinOp.TheVariants as binop
use Rattle.dc_types.specs.declared.event.TrapKind.TheVariants.{Divide, Bounds, Overlap, Heap, Depth}
use Rattle.dc_types.specs.declared.event.Event.TheVariants.{Enter, Turn, Print}
use Rattle.dc_types.specs.declared.event.Limits.{Limits}
use Rattle.dc_types.specs.Integers.{wrap, binary, residue, signed_residue, can_divide, least}
use Rattle.dc_code.specs.State.{Returned, Trapped, Bound, Done}
use Rattle.dc_code.specs.Exec.{steps, begin}
use Rattle.dc_code.specs.declared.instr.Op.{Op}
use Rattle.dc_code.specs.declared.instr.Op.TheVariants as op
use Rattle.dc_code.specs.declared.instr.Instr.{Instr}
use Rattle.dc_code.specs.declared.instr.Function.{Function}
use Rattle.dc_code.specs.declared.code.Draft.{Draft}

abbrev pub at : ℕ → Place
at n = record { «module» = []; steps = At n ∷ [] }

-- each instruction at the place of its number
abbrev pub lines : ℕ → List Op → List Instr
lines n [] = []
lines n (o ∷ os) = record { place = at n; op = o } ∷ lines (suc n) os

abbrev pub function : ℕ → ℕ → ℕ → Function
function first weight result = record { place = at 100; first = first; weight = weight; params = 0; result = result }

abbrev one_function : ℕ → ℕ → List Op → Draft
one_function weight result ops = record {
  functions = function 0 weight result ∷ [];
  instrs = lines 0 ops;
  blocks = (104 ∷ 105 ∷ []) ∷ [];
  globals = [];
  entries = 0 ∷ [];
}

abbrev limits : Limits
limits = record { ticks = 9; cells = 5; depth = 1; stack = 9 }

-- A loop with no tick left ends before its turn.
a_turn : steps (one_function 1 0 (op.Turn ∷ op.Jump 0 ∷ [])) limits 3 (begin (one_function 1 0 (op.Turn ∷ op.Jump 0 ∷ [])) 0 1) ≡ Done Bound (Turn (at 0) ∷ []) 0
a_turn = refl

-- The second call passes the depth after its enter event.
abbrev calling : Draft
calling = one_function 1 0 (op.Call 0 0 0 ∷ op.Return 0 0 ∷ [])

deep : steps calling limits 2 (begin calling 0 5) ≡ Done (Trapped Depth (at 0)) (Enter (at 100) ∷ Enter (at 100) ∷ []) 0
deep = refl

-- 7 / 0, and -7 % 2, which prints -1
abbrev dividing : ℕ → Draft
dividing w = one_function 2 1 (op.Const 0 18446744073709551609 ∷ op.Const 1 w ∷ op.Binary binop.Rem kind.I32 0 0 1 ∷ op.PutInt kind.I32 0 ∷ op.Flush ∷ op.Return 0 1 ∷ [])

no_rest : steps (dividing 0) limits 3 (begin (dividing 0) 0 0) ≡ Done (Trapped Divide (at 2)) [] 0
unfolding wrap binary residue signed_residue can_divide least
no_rest = refl

a_rest : steps (dividing 2) limits 6 (begin (dividing 2) 0 0) ≡ Done (Returned (18446744073709551615 ∷ []) (record { words = 104 ∷ 105 ∷ []; growable = false } ∷ [])) (Print (45 ∷ decimal 1) ∷ []) 2
unfolding wrap binary residue signed_residue can_divide least
a_rest = refl

-- Two elements, one more behind them in place, and the third one read; then one cell too many.
abbrev appending : Draft
appending = one_function 8 1 (op.Const 0 1 ∷ op.Const 1 2 ∷ op.List 2 0 2 1 true ∷ op.List 5 1 1 1 true ∷ op.Append 2 2 5 1 true ∷ op.Item 5 2 1 1 ∷ op.Load 0 5 1 ∷ op.Append 2 2 2 1 true ∷ op.Return 0 1 ∷ [])

a_heap : steps appending limits 8 (begin appending 0 0) ≡ Done (Trapped Heap (at 7)) [] 4
a_heap = refl

abbrev reading : Draft
reading = one_function 8 1 (op.Const 0 1 ∷ op.Const 1 2 ∷ op.List 2 0 2 1 true ∷ op.List 5 1 1 1 true ∷ op.Append 2 2 5 1 true ∷ op.Item 5 2 1 1 ∷ op.Load 0 5 1 ∷ op.Const 1 3 ∷ op.Item 5 2 1 1 ∷ op.Return 0 1 ∷ [])

bounds : steps reading limits 9 (begin reading 0 0) ≡ Done (Trapped Bounds (at 8)) [] 3
bounds = refl

-- the data's text, and its words over themselves
abbrev texts : Draft
texts = one_function 3 0 (op.PutData 0 ∷ op.Data 0 0 ∷ op.PutText 0 ∷ op.Flush ∷ op.CopyPart 0 0 1 ∷ op.Return 0 0 ∷ [])

overlap : steps texts limits 5 (begin texts 0 0) ≡ Done (Trapped Overlap (at 4)) (Print (codes "hihi") ∷ []) 3
overlap = refl
