-- The rows of the table of instructions, each computed on small code. The values are by hand.
use Rattle.std.proofs.Common.{◌≡◌, ℕ, suc, List, [], ◌∷◌, ◌++◌, length, drop, refl, true, false}
use Rattle.std.specs.Prelude.{codes}
use Rattle.std.specs.Fmt.{digits}
use Rattle.dc_types.specs.declared.kind.Kind.TheVariants as kind
use Rattle.dc_types.specs.declared.kind.BinOp.TheVariants as binop
use Rattle.dc_types.specs.declared.kind.UnOp.TheVariants as unop
use Rattle.dc_types.specs.declared.kind.CmpOp.TheVariants as cmpop
use Rattle.dc_types.specs.declared.event.TrapKind.TheVariants.{Shift, Bounds, Length, Overlap, Assert, Heap, Depth}
use Rattle.dc_types.specs.declared.event.Event.TheVariants.{Enter, Print}
use Rattle.dc_types.specs.declared.event.Limits.{Limits}
use Rattle.dc_types.specs.Integers.{wrap, truth, binary, unary, compare, residue, signed_residue, can_shift, bits_of}
use Rattle.dc_code.specs.State.{Returned, Trapped, Bound, Run, Done}
use Rattle.dc_code.specs.Exec.{steps, begin}
use Rattle.dc_code.specs.declared.instr.Op.{Op}
use Rattle.dc_code.specs.declared.instr.Op.TheVariants as op
use Rattle.dc_code.specs.declared.code.Draft.{Draft}
use Rattle.dc_code.specs.declared.run.Block.{Block}
use Rattle.dc_code.proofs.Examples.{at, lines, function}

-- One function of 12 words. Blocks 1 and 2 are the data, block 3 the module variable.
abbrev code : List Op → Draft
code ops = record {
  functions = function 0 12 3 ∷ [];
  instrs = lines 0 ops;
  blocks = (104 ∷ 105 ∷ []) ∷ (5 ∷ 6 ∷ 7 ∷ []) ∷ [];
  globals = (70 ∷ 80 ∷ []) ∷ [];
  entries = 0 ∷ [];
}

abbrev limits : Limits
limits = record { ticks = 9; cells = 6; depth = 9; stack = 9 }

-- all instructions one after another
abbrev after : List Op → Run
after ops = steps (code ops) limits (length ops) (begin (code ops) 0 0)

abbrev returned : Run → List ℕ
returned (Done (Returned ws blocks) events taken) = ws
returned _ = codes "no value"

abbrev left_blocks : Run → List Block
left_blocks (Done (Returned ws blocks) events taken) = blocks
left_blocks _ = []

-- n slots from s on after some instructions, and the blocks that are there then, from the module variable's on
abbrev slots : List Op → ℕ → ℕ → List ℕ
slots ops s n = returned (after (ops ++ op.Return s n ∷ []))

abbrev blocks : List Op → List Block
blocks ops = drop 2 (left_blocks (after (ops ++ op.Return 0 0 ∷ [])))

abbrev variable : List ℕ → Block
variable ws = record { words = ws; growable = false }

abbrev array : List ℕ → Block
array ws = record { words = ws; growable = true }

-- words into the slots from s on
abbrev set : ℕ → List ℕ → List Op
set s [] = []
set s (w ∷ ws) = op.Const s w ∷ set (suc s) ws

-- ---- numbers

-- the source as it was before
copies : slots (set 0 (1 ∷ 2 ∷ 3 ∷ []) ++ op.Copy 1 0 2 ∷ []) 0 3 ≡ 1 ∷ 1 ∷ 2 ∷ []
copies = refl

-- a word is wrapped to the kind before: 128 is -128 as a `byte`
negates : slots (op.Const 0 128 ∷ op.Unary unop.Negate kind.I8 1 0 ∷ op.Const 2 1 ∷ op.Unary unop.Negate kind.U16 2 2 ∷ []) 1 2 ≡ 18446744073709551488 ∷ 65535 ∷ []
unfolding wrap residue signed_residue unary
negates = refl

flips : slots (op.Const 0 256 ∷ op.Unary unop.Flip kind.U8 1 0 ∷ op.Unary unop.Flip kind.I64 2 0 ∷ []) 1 2 ≡ 255 ∷ 18446744073709551359 ∷ []
unfolding wrap residue signed_residue unary bits_of
flips = refl

turns_truth : slots (op.Const 0 256 ∷ op.Unary unop.Not kind.Bool 1 0 ∷ op.Unary unop.Not kind.U8 2 0 ∷ []) 1 2 ≡ 0 ∷ 1 ∷ []
unfolding wrap truth residue unary
turns_truth = refl

compares : slots (set 0 (200 ∷ 1 ∷ []) ++ op.Compare cmpop.Less kind.I8 2 0 1 ∷ op.Compare cmpop.Less kind.U8 3 0 1 ∷ op.Compare cmpop.GreaterEq kind.I8 4 0 0 ∷ []) 2 3 ≡ 1 ∷ 0 ∷ 1 ∷ []
unfolding wrap residue signed_residue compare
compares = refl

casts : slots (op.Const 0 65736 ∷ op.Cast kind.I8 1 0 ∷ op.Cast kind.U16 2 0 ∷ op.Cast kind.Bool 3 0 ∷ []) 1 3 ≡ 18446744073709551560 ∷ 200 ∷ 1 ∷ []
unfolding wrap truth residue signed_residue
casts = refl

-- the count of a shift is a `long`, whatever the kind
shifts : after (set 0 (1 ∷ 18446744073709551615 ∷ []) ++ op.Binary binop.Shl kind.U8 2 0 1 ∷ []) ≡ Done (Trapped Shift (at 2)) [] 0
unfolding wrap residue signed_residue binary can_shift bits_of
shifts = refl

shifted : slots (set 0 (3 ∷ 7 ∷ []) ++ op.Binary binop.Shl kind.U8 2 0 1 ∷ []) 2 1 ≡ 128 ∷ []
unfolding wrap residue signed_residue binary can_shift bits_of
shifted = refl

-- ---- jumps, calls and checks

abbrev jumping : ℕ → List Op
jumping w = op.Const 0 w ∷ op.JumpZero 0 3 ∷ op.Const 1 9 ∷ op.JumpOther 0 5 ∷ op.Const 2 9 ∷ op.Return 1 2 ∷ []

zero_jumps : returned (after (jumping 0)) ≡ 0 ∷ 9 ∷ []
zero_jumps = refl

another_jumps : returned (after (jumping 7)) ≡ 9 ∷ 0 ∷ []
another_jumps = refl

checks : after (set 0 (7 ∷ 0 ∷ []) ++ op.Check 0 Assert ∷ op.Check 1 Length ∷ []) ≡ Done (Trapped Length (at 3)) [] 0
checks = refl

-- the entry at 0, and a function of 5 words at f
abbrev two_functions : ℕ → List Op → Draft
two_functions f ops = record {
  functions = function 0 12 3 ∷ record { place = at 200; first = f; weight = 5; params = 2; result = 2 } ∷ [];
  instrs = lines 0 ops;
  blocks = [];
  globals = [];
  entries = 0 ∷ [];
}

-- two arguments; the address of the second one's slot, and its word there, come back
abbrev calling : Draft
calling = two_functions 4 (set 3 (8 ∷ 9 ∷ []) ++ op.Call 1 3 1 ∷ op.Return 0 3 ∷ op.FrameAt 2 1 ∷ op.Load 4 2 1 ∷ op.Return 3 2 ∷ [])

calls : steps calling limits 7 (begin calling 0 1) ≡ Done (Returned (0 ∷ 13 ∷ 9 ∷ []) []) (Enter (at 200) ∷ []) 0
calls = refl

-- with no tick left the run ends before the event
no_tick : steps calling limits 7 (begin calling 0 0) ≡ Done Bound [] 0
no_tick = refl

abbrev nesting : Draft
nesting = two_functions 2 (op.Call 1 0 0 ∷ op.Return 0 3 ∷ op.Call 1 0 0 ∷ op.Return 0 2 ∷ [])

-- The entry's frame weighs nothing, the first call 5 of 9, and the second one too much.
too_heavy : steps nesting limits 2 (begin nesting 0 9) ≡ Done (Trapped Depth (at 2)) (Enter (at 200) ∷ Enter (at 200) ∷ []) 0
too_heavy = refl

abbrev wider : Limits
wider = record { ticks = 9; cells = 6; depth = 9; stack = 10 }

just_right : steps nesting wider 3 (begin nesting 0 9) ≡ Done (Trapped Depth (at 2)) (Enter (at 200) ∷ Enter (at 200) ∷ Enter (at 200) ∷ []) 0
just_right = refl

-- ---- addresses

of_a_slot : slots (op.Const 5 42 ∷ op.FrameAt 0 5 ∷ op.Load 2 0 1 ∷ []) 0 3 ≡ 0 ∷ 5 ∷ 42 ∷ []
of_a_slot = refl

into_a_slot : slots (op.Const 5 42 ∷ op.FrameAt 0 6 ∷ op.Store 0 5 1 ∷ []) 5 3 ≡ 42 ∷ 42 ∷ 0 ∷ []
into_a_slot = refl

of_a_variable : slots (op.GlobalAt 0 0 ∷ op.Load 2 0 2 ∷ []) 0 4 ≡ 3 ∷ 0 ∷ 70 ∷ 80 ∷ []
of_a_variable = refl

into_a_variable : blocks (set 2 (1 ∷ 2 ∷ []) ++ op.GlobalAt 0 0 ∷ op.Store 0 2 2 ∷ []) ≡ variable (1 ∷ 2 ∷ []) ∷ []
into_a_variable = refl

of_data : slots (op.Data 0 1 ∷ []) 0 3 ≡ 2 ∷ 0 ∷ 3 ∷ []
of_data = refl

load_too_far : after (op.GlobalAt 0 0 ∷ op.Const 1 1 ∷ op.Load 2 0 2 ∷ []) ≡ Done (Trapped Bounds (at 2)) [] 0
load_too_far = refl

store_too_far : after (op.GlobalAt 0 0 ∷ op.Const 1 1 ∷ op.Store 0 2 2 ∷ []) ≡ Done (Trapped Bounds (at 2)) [] 0
store_too_far = refl

-- no block has this number, and no word of it is named
none_is_there : slots (set 0 (77 ∷ 5 ∷ []) ++ op.Load 3 0 0 ∷ []) 3 1 ≡ 0 ∷ []
none_is_there = refl

no_block : after (set 0 (77 ∷ 5 ∷ []) ++ op.Load 3 0 1 ∷ []) ≡ Done (Trapped Bounds (at 2)) [] 0
no_block = refl

-- ---- elements and parts

-- two elements of two cells in a block of four words
abbrev pairs : List Op
pairs = op.Own 0 4 ∷ set 2 (2 ∷ 1 ∷ [])

an_item : slots (pairs ++ op.Item 4 0 3 2 ∷ []) 4 2 ≡ 4 ∷ 2 ∷ []
an_item = refl

a_fixed_item : slots (pairs ++ op.FixedItem 4 0 3 2 2 ∷ []) 4 2 ≡ 4 ∷ 2 ∷ []
a_fixed_item = refl

past_the_last : after (pairs ++ op.FixedItem 4 0 2 2 2 ∷ []) ≡ Done (Trapped Bounds (at 3)) [] 1
past_the_last = refl

-- three elements aren't there, so none of them is
not_all_there : after (pairs ++ op.FixedItem 4 0 3 3 2 ∷ []) ≡ Done (Trapped Bounds (at 3)) [] 1
not_all_there = refl

item_past_the_last : after (op.Data 0 1 ∷ op.Const 3 3 ∷ op.Item 4 0 3 1 ∷ []) ≡ Done (Trapped Bounds (at 2)) [] 0
item_past_the_last = refl

a_part : slots (op.Data 0 1 ∷ set 3 (1 ∷ 3 ∷ []) ++ op.Part 5 0 3 4 1 ∷ []) 5 3 ≡ 2 ∷ 1 ∷ 2 ∷ []
a_part = refl

part_at_the_end : slots (op.Data 0 1 ∷ set 3 (3 ∷ 3 ∷ []) ++ op.Part 5 0 3 4 1 ∷ []) 5 3 ≡ 2 ∷ 3 ∷ 0 ∷ []
part_at_the_end = refl

part_turned : after (op.Data 0 1 ∷ set 3 (2 ∷ 1 ∷ []) ++ op.Part 5 0 3 4 1 ∷ []) ≡ Done (Trapped Bounds (at 3)) [] 0
part_turned = refl

part_too_far : after (op.Data 0 1 ∷ set 3 (2 ∷ 4 ∷ []) ++ op.Part 5 0 3 4 1 ∷ []) ≡ Done (Trapped Bounds (at 3)) [] 0
part_too_far = refl

a_fixed_part : slots (pairs ++ op.Const 4 2 ∷ op.FixedPart 5 0 3 4 2 2 ∷ []) 5 3 ≡ 4 ∷ 2 ∷ 1 ∷ []
a_fixed_part = refl

fixed_part_too_far : after (pairs ++ op.Const 4 3 ∷ op.FixedPart 5 0 3 4 2 2 ∷ []) ≡ Done (Trapped Bounds (at 4)) [] 1
fixed_part_too_far = refl

-- ---- new blocks

owns : blocks (op.Own 0 3 ∷ []) ≡ variable (70 ∷ 80 ∷ []) ∷ variable (0 ∷ 0 ∷ 0 ∷ []) ∷ []
owns = refl

-- all six cells are used, and a seventh isn't there
just_enough : slots (op.Own 0 6 ∷ []) 0 2 ≡ 4 ∷ 0 ∷ []
just_enough = refl

one_too_many : after (op.Own 0 6 ∷ op.Own 0 1 ∷ []) ≡ Done (Trapped Heap (at 1)) [] 2
one_too_many = refl

makes : blocks (op.Const 0 2 ∷ op.Make 1 0 1 3 true ∷ []) ≡ variable (70 ∷ 80 ∷ []) ∷ array (5 ∷ 6 ∷ 7 ∷ 5 ∷ 6 ∷ 7 ∷ []) ∷ []
makes = refl

slice_of_made : slots (op.Const 0 2 ∷ op.Make 1 0 1 3 true ∷ []) 1 3 ≡ 4 ∷ 0 ∷ 2 ∷ []
slice_of_made = refl

a_list : blocks (set 0 (1 ∷ 2 ∷ 3 ∷ 4 ∷ []) ++ op.List 4 0 2 2 false ∷ []) ≡ variable (70 ∷ 80 ∷ []) ∷ variable (1 ∷ 2 ∷ 3 ∷ 4 ∷ []) ∷ []
a_list = refl

slice_of_a_list : slots (set 0 (1 ∷ 2 ∷ 3 ∷ 4 ∷ []) ++ op.List 4 0 2 2 false ∷ []) 4 3 ≡ 4 ∷ 0 ∷ 2 ∷ []
slice_of_a_list = refl

joins : blocks (op.Data 0 0 ∷ op.Data 3 1 ∷ op.Join 6 0 3 1 true ∷ []) ≡ variable (70 ∷ 80 ∷ []) ∷ array (104 ∷ 105 ∷ 5 ∷ 6 ∷ 7 ∷ []) ∷ []
joins = refl

slice_of_joined : slots (op.Data 0 0 ∷ op.Data 3 1 ∷ op.Join 6 0 3 1 true ∷ []) 6 3 ≡ 4 ∷ 0 ∷ 5 ∷ []
slice_of_joined = refl

-- data don't grow, so an append behind them is a new block
copying : slots (op.Data 0 0 ∷ op.Data 3 1 ∷ op.Append 6 0 3 1 true ∷ []) 6 3 ≡ 4 ∷ 0 ∷ 5 ∷ []
copying = refl

-- a growable block of two words, and a slice of all of them or of the first
abbrev growing : ℕ → List Op
growing n = set 9 (1 ∷ 2 ∷ []) ++ op.List 0 9 2 1 true ∷ op.Const 2 n ∷ op.Data 3 0 ∷ op.Append 6 0 3 1 true ∷ []

in_place : blocks (growing 2) ≡ variable (70 ∷ 80 ∷ []) ∷ array (1 ∷ 2 ∷ 104 ∷ 105 ∷ []) ∷ []
in_place = refl

slice_in_place : slots (growing 2) 6 3 ≡ 4 ∷ 0 ∷ 4 ∷ []
slice_in_place = refl

not_at_the_end : blocks (growing 1) ≡ variable (70 ∷ 80 ∷ []) ∷ array (1 ∷ 2 ∷ []) ∷ array (1 ∷ 104 ∷ 105 ∷ []) ∷ []
not_at_the_end = refl

-- in place only the new cells are counted, and a copy counts all
behind_itself : after (set 9 (1 ∷ 2 ∷ 3 ∷ []) ++ op.List 0 9 3 1 true ∷ op.Append 3 0 0 1 true ∷ op.Append 3 0 0 1 true ∷ []) ≡ Done (Trapped Heap (at 5)) [] 3
behind_itself = refl

-- ---- elements written and compared

copies_part : blocks (set 0 (3 ∷ 0 ∷ 2 ∷ []) ++ op.Data 3 0 ∷ op.CopyPart 0 3 1 ∷ []) ≡ variable (104 ∷ 105 ∷ []) ∷ []
copies_part = refl

-- beside one another they share no element
side_by_side : slots (set 0 (2 ∷ 0 ∷ 1 ∷ 2 ∷ 1 ∷ 1 ∷ 2 ∷ 0 ∷ []) ++ op.CopyPart 0 3 1 ∷ op.Load 8 6 3 ∷ []) 8 3 ≡ 6 ∷ 6 ∷ 7 ∷ []
side_by_side = refl

overlap : after (set 0 (2 ∷ 0 ∷ 2 ∷ 2 ∷ 1 ∷ 2 ∷ []) ++ op.CopyPart 0 3 1 ∷ []) ≡ Done (Trapped Overlap (at 6)) [] 0
overlap = refl

-- the lengths are looked at first
lengths : after (set 0 (2 ∷ 0 ∷ 2 ∷ 2 ∷ 0 ∷ 1 ∷ []) ++ op.CopyPart 0 3 1 ∷ []) ≡ Done (Trapped Length (at 6)) [] 0
lengths = refl

fills : blocks (set 0 (3 ∷ 0 ∷ 2 ∷ 9 ∷ []) ++ op.Fill 0 3 1 ∷ []) ≡ variable (9 ∷ 9 ∷ []) ∷ []
fills = refl

fills_by_pairs : blocks (set 0 (3 ∷ 0 ∷ 1 ∷ 8 ∷ 9 ∷ []) ++ op.Fill 0 3 2 ∷ []) ≡ variable (8 ∷ 9 ∷ []) ∷ []
fills_by_pairs = refl

same : slots (op.Data 0 0 ∷ op.Data 3 1 ∷ op.Same 6 0 3 1 ∷ op.Same 7 0 0 1 ∷ set 3 (3 ∷ 0 ∷ 2 ∷ []) ++ op.Same 8 0 3 1 ∷ []) 6 3 ≡ 0 ∷ 1 ∷ 0 ∷ []
same = refl

-- ---- texts

abbrev minus_seven : ℕ
minus_seven = 18446744073709551609

a_number : blocks (op.Const 5 minus_seven ∷ op.Number 0 kind.I32 5 ∷ []) ≡ variable (70 ∷ 80 ∷ []) ∷ variable (codes "-7") ∷ []
unfolding digits wrap residue signed_residue
a_number = refl

a_truth : slots (op.Number 0 kind.Bool 5 ∷ []) 0 3 ≡ 4 ∷ 0 ∷ 5 ∷ []
unfolding wrap truth
a_truth = refl

-- what is pending is printed at once
abbrev printing : List Op
printing = op.Const 5 minus_seven ∷ op.PutInt kind.I16 5 ∷ op.PutInt kind.Bool 5 ∷ op.Const 6 353 ∷ op.PutInt kind.Char 6 ∷ op.PutData 0 ∷ op.Data 0 0 ∷ op.PutText 0 ∷ op.Flush ∷ op.Flush ∷ op.Check 11 Assert ∷ []

prints : after printing ≡ Done (Trapped Assert (at 10)) (Print (codes "-7trueahihi") ∷ Print [] ∷ []) 7
unfolding digits wrap truth residue signed_residue
prints = refl

lists : after (op.Data 0 1 ∷ op.PutList kind.U8 0 ∷ op.PutList kind.I32 3 ∷ op.Flush ∷ op.Check 11 Assert ∷ []) ≡ Done (Trapped Assert (at 4)) (Print (codes "[5, 6, 7][]") ∷ []) 3
unfolding digits wrap residue signed_residue
lists = refl
