use Rattle.std.proofs.Common.{◌≡◌, ℕ, ◌<◌, ◌≤◌, Some}
use Rattle.std.specs.Prelude.{slice_get}
use Rattle.dc_code.specs.Sound.{InstrFits}
use Rattle.dc_code.specs.declared.instr.Instr.{Instr}
use Rattle.dc_code.proofs.check.instrs_fit.Given as goal

abbrev pub invariant-loop-pc : goal.invariant-loop-pc
invariant-loop-pc l = (k : ℕ) (i : Instr) → l.f.first ≤ k → k < l.pc → slice_get l.draft.instrs k ≡ Some i → InstrFits l.draft l.f l.end k i.op
