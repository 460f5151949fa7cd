-- The slots that an instruction touches lie in its function's frame, which has this many words.
use Rattle.std.specs.Prelude.{ℕ, ◌+◌, ◌*◌, ◌<◌, ◌≤◌}
use Rattle.dc_code.specs.declared.instr.Op.{Op}
use Rattle.dc_code.specs.declared.instr.Op.TheVariants as op

-- those of numbers, copies, tests and returns. The slots of a call are told with the function that it calls.
abbrev pub NumberSlots : ℕ → Op → Type 0
NumberSlots weight (op.Const d w) = d < weight
NumberSlots weight (op.Copy d s n) = (d + n ≤ weight) × (s + n ≤ weight)
NumberSlots weight (op.Binary o k d a b) = (d < weight) × (a < weight) × (b < weight)
NumberSlots weight (op.Unary o k d a) = (d < weight) × (a < weight)
NumberSlots weight (op.Compare o k d a b) = (d < weight) × (a < weight) × (b < weight)
NumberSlots weight (op.Cast k d a) = (d < weight) × (a < weight)
NumberSlots weight (op.JumpZero s t) = s < weight
NumberSlots weight (op.JumpOther s t) = s < weight
NumberSlots weight (op.Return s n) = s + n ≤ weight
NumberSlots weight (op.PutInt k s) = s < weight
NumberSlots weight (op.Check s t) = s < weight
NumberSlots weight _ = Unit {0}

-- those of addresses: two words for an address, three for a slice
abbrev pub AddressSlots : ℕ → Op → Type 0
AddressSlots weight (op.FrameAt d s) = (d + 2 ≤ weight) × (s < weight)
AddressSlots weight (op.GlobalAt d g) = d + 2 ≤ weight
AddressSlots weight (op.Data d g) = d + 3 ≤ weight
AddressSlots weight (op.Load d p n) = (d + n ≤ weight) × (p + 2 ≤ weight)
AddressSlots weight (op.Store p s n) = (p + 2 ≤ weight) × (s + n ≤ weight)
AddressSlots weight (op.Item d v s c) = (d + 2 ≤ weight) × (v + 3 ≤ weight) × (s < weight)
AddressSlots weight (op.FixedItem d p s m c) = (d + 2 ≤ weight) × (p + 2 ≤ weight) × (s < weight)
AddressSlots weight (op.Part d v a b c) = (d + 3 ≤ weight) × (v + 3 ≤ weight) × (a < weight) × (b < weight)
AddressSlots weight (op.FixedPart d p a b m c) = (d + 3 ≤ weight) × (p + 2 ≤ weight) × (a < weight) × (b < weight)
AddressSlots weight _ = Unit {0}

-- those of instructions on blocks and slices
abbrev pub BlockSlots : ℕ → Op → Type 0
BlockSlots weight (op.Own d c) = d + 2 ≤ weight
BlockSlots weight (op.Make d s e c g) = (d + 3 ≤ weight) × (s < weight)
BlockSlots weight (op.List d s n c g) = (d + 3 ≤ weight) × (s + n * c ≤ weight)
BlockSlots weight (op.Join d a b c g) = (d + 3 ≤ weight) × (a + 3 ≤ weight) × (b + 3 ≤ weight)
BlockSlots weight (op.Append d a b c g) = (d + 3 ≤ weight) × (a + 3 ≤ weight) × (b + 3 ≤ weight)
BlockSlots weight (op.CopyPart a b c) = (a + 3 ≤ weight) × (b + 3 ≤ weight)
BlockSlots weight (op.Fill a s c) = (a + 3 ≤ weight) × (s + c ≤ weight)
BlockSlots weight (op.Same d a b c) = (d < weight) × (a + 3 ≤ weight) × (b + 3 ≤ weight)
BlockSlots weight (op.Number d k s) = (d + 3 ≤ weight) × (s < weight)
BlockSlots weight (op.PutText v) = v + 3 ≤ weight
BlockSlots weight (op.PutList k v) = v + 3 ≤ weight
BlockSlots weight _ = Unit {0}
