-- What holds of the machine between two instructions of sound code.
use Rattle.std.specs.Prelude.{◌≡◌, ℕ, ◌+◌, ◌-◌, ◌*◌, ◌<◌, ◌≤◌, List, [], ◌∷◌, length, Option, Some, None, slice_get}
use Rattle.dc_types.specs.declared.event.Limits.{Limits}
use Rattle.dc_code.specs.State.{Machine}
use Rattle.dc_code.specs.Sound.{end_of}
use Rattle.dc_code.specs.declared.instr.Op.{Op}
use Rattle.dc_code.specs.declared.instr.Op.TheVariants as op
use Rattle.dc_code.specs.declared.instr.Instr.{Instr}
use Rattle.dc_code.specs.declared.instr.Function.{Function}
use Rattle.dc_code.specs.declared.code.Draft.{Draft}
use Rattle.dc_code.specs.declared.run.Caller.{Caller}

-- The instruction pc belongs to the function f of the code.
pub record Within (code : Draft) (f : Function) (pc : ℕ) : Type 0 where
  pub number : ℕ
  pub there : slice_get code.functions number ≡ Some f
  pub from_first : f.first ≤ pc
  pub to_end : pc < end_of code number

-- A call waits in a frame that ends where the next one begins and has room for the result, and so do those before it.
-- `first` is the weight of the run's first frame.
pub record Waiting (code : Draft) (first : ℕ) (c : Caller) (base result : ℕ) : Type 0 where
  pub function : Function
  pub within : Within code function c.pc
  pub frame : c.base + function.weight ≡ base
  pub room : c.slot + result ≤ function.weight
  pub weight : first + c.nest.weight ≡ base

abbrev pub Waits : Draft → ℕ → List Caller → ℕ → ℕ → Type 0
Waits code first [] base result = base ≡ 0
Waits code first (c ∷ cs) base result = (w : Waiting code first c base result) × (c.nest.depth ≡ length cs) × Waits code first cs c.base w.function.result

-- The machine is in a function whose frame ends with the words, and the open calls are within the limits.
pub record Stands (code : Draft) (limits : Limits) (first : ℕ) (m : Machine) : Type 0 where
  pub function : Function
  pub within : Within code function m.pc
  pub frame : m.base + function.weight ≡ length m.words
  pub waits : Waits code first m.callers m.base function.result
  pub weight : first + m.nest.weight ≡ length m.words
  pub depth : m.nest.depth ≡ length m.callers
  pub deep : m.nest.depth ≤ limits.depth
  pub heavy : m.nest.weight ≤ limits.stack

-- ---- how far it is at most to the end

abbrev pub far_op : ℕ → ℕ → Op → ℕ
far_op all pc op.Turn = 0
far_op all pc _ = all + 1 - pc

abbrev pub far_by : ℕ → ℕ → Option Instr → ℕ
far_by all pc None = 0
far_by all pc (Some i) = far_op all pc i.op

-- how many instructions there are at most from one to the next tick or return
abbrev pub far : List Instr → ℕ → ℕ
far instrs pc = far_by (length instrs) pc (slice_get instrs pc)

-- a number that falls with each instruction
abbrev pub rank : Draft → Machine → ℕ
rank code m = m.left * (2 * (length code.instrs + 2)) + length m.callers * (length code.instrs + 2) + far code.instrs m.pc
