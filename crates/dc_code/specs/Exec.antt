-- The machine on code, step by step.
use Rattle.std.specs.Prelude.{◌≡◌, ℕ, zero, suc, ◌+◌, ◌<◌, Bool, true, false, List, [], ◌++◌, Option, Some, None, map, replicate, slice_get}
use Rattle.dc_types.specs.declared.event.Event.{Event}
use Rattle.dc_types.specs.declared.event.Limits.{Limits}
use Rattle.dc_code.specs.State.{Machine, End, Stuck, Run, On, Done}
use Rattle.dc_code.specs.Table.{effect, is_taking}
use Rattle.dc_code.specs.Perform.{ended, perform}
use Rattle.dc_code.specs.declared.instr.Instr.{Instr}
use Rattle.dc_code.specs.declared.instr.Function.{Function}
use Rattle.dc_code.specs.declared.code.Draft.{Draft}
use Rattle.dc_code.specs.declared.run.Block.{Block}

-- the count of the instructions that take memory, one more or not
abbrev pub counted : Bool → Machine → Machine
counted true m = record m { taken = m.taken + 1 }
counted false m = m

abbrev pub does : Draft → Limits → Instr → Machine → Run
does code limits i m = perform limits i.place (effect code m i.op) (counted (is_taking i.op) m)

abbrev pub at_instr : Draft → Limits → Option Instr → Machine → Run
at_instr code limits None m = ended Stuck m
at_instr code limits (Some i) m = does code limits i m

-- one instruction
abbrev pub step : Draft → Limits → Machine → Run
step code limits m = at_instr code limits (slice_get code.instrs m.pc) m

-- k instructions, or fewer where the run ends before
abbrev pub steps : Draft → Limits → ℕ → Run → Run
steps code limits zero run = run
steps code limits (suc k) (On m) = steps code limits k (step code limits m)
steps code limits (suc k) (Done end events taken) = Done end events taken

-- the data and the module variables, which no append lengthens
abbrev pub program_block : List ℕ → Block
program_block words = record { words = words; growable = false }

abbrev pub first_blocks : Draft → List Block
first_blocks code = map program_block (code.blocks ++ code.globals)

-- A function's frame of zeros before its first instruction, with n ticks left. This first frame takes no event, and
-- counts to neither the depth nor the sum of weights.
abbrev pub start : Draft → ℕ → Function → Machine
start code n f = record {
  pc = f.first;
  words = replicate f.weight 0;
  base = 0;
  callers = [];
  nest = record { depth = 0; weight = 0 };
  blocks = first_blocks code;
  cells = 0;
  pending = [];
  left = n;
  taken = 0;
  events = [];
}

abbrev pub begin_at : Draft → ℕ → Option Function → Run
begin_at code n None = Done Stuck [] 0
begin_at code n (Some f) = On (start code n f)

-- a run of the code's entry number `entry`
abbrev pub function_at : Draft → Option ℕ → Option Function
function_at code None = None
function_at code (Some f) = slice_get code.functions f

abbrev pub begin : Draft → ℕ → ℕ → Run
begin code entry n = begin_at code n (function_at code (slice_get code.entries entry))

-- The run of an entry in at most n ticks ends so, after these events.
pub record Exec (code : Draft) (entry : ℕ) (limits : Limits) (n : ℕ) (events : List Event) (end : End) : Type 0 where
  pub count : ℕ
  pub taken : ℕ
  pub ends : steps code limits count (begin code entry n) ≡ Done end events taken

-- how many instructions that take memory a run has come to so far
abbrev pub taken_by : Run → ℕ
taken_by (On m) = m.taken
taken_by (Done end events taken) = taken

-- The run of an entry comes to an instruction that takes memory.
pub record Takes (code : Draft) (entry : ℕ) (limits : Limits) (n : ℕ) : Type 0 where
  pub count : ℕ
  pub some : 0 < taken_by (steps code limits count (begin code entry n))
