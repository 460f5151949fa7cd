use Rattle.std.proofs.Common.{take, ◌≡◌, ◌++◌, length}
use Rattle.core_lower_expr.specs.Slots.{names_of}
use Rattle.core_lower.specs.Lowered.{entries_from, starts_code, numbers_from}
use Rattle.core_lower.proofs.starts.lower_starts.Given as goal

abbrev pub invariant-loop-e : goal.invariant-loop-e
invariant-loop-e l =
    let done = take l.e-index l.starts in
    let pc = length l.fn.draft.instrs in
    l.draft ≡ record l.fn.draft {
      functions = l.fn.draft.functions ++ entries_from (names_of l.at) done pc;
      instrs = l.fn.draft.instrs ++ starts_code (names_of l.at) done pc;
      entries = numbers_from (length l.fn.draft.functions) done;
    }
