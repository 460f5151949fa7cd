-- What one instruction does, in the machine's own terms.
use Rattle.std.specs.Prelude.{ℕ, List, Bool}
use Rattle.dc_types.specs.declared.event.TrapKind.{TrapKind}
use Rattle.dc_code.specs.declared.instr.Function.{Function}

pub data Effect : Type 0 where
  -- words are written to the slots from one on
  Writes : ℕ → List ℕ → Effect
  -- the machine goes on at an instruction
  Goes : ℕ → Effect
  -- a turn of a loop begins
  Turns : Effect
  -- a function is called with the words from a slot on, and its result goes to the slots from another on
  Calls : Function → ℕ → ℕ → Effect
  -- words are given to the caller
  Returns : List ℕ → Effect
  -- words are written to a block from an offset on
  Changes : ℕ → ℕ → List ℕ → Effect
  -- A block of these words is made, which may grow or not. Its number and these words behind it are written to the
  -- slots from one on.
  Makes : ℕ → List ℕ → List ℕ → Bool → Effect
  -- Words are added at the end of a block, and these are written to the slots from one on.
  Lengthens : ℕ → List ℕ → ℕ → List ℕ → Effect
  -- bytes are added to the pending text
  Prints : List ℕ → Effect
  -- the pending text is printed
  Flushes : Effect
  -- the run ends
  Traps : TrapKind → Effect
  Sticks : Effect
