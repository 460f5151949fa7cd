use Rattle.std.proofs.Common.{◌≡◌, ℕ, ◌<◌, Some}
use Rattle.std.specs.Prelude.{slice_get}
use Rattle.dc_code.specs.Sound.{FunctionFits, end_of}
use Rattle.dc_code.specs.declared.instr.Function.{Function}
use Rattle.dc_code.proofs.check.functions_fit.Given as goal

abbrev pub invariant-loop-n : goal.invariant-loop-n
invariant-loop-n l = (k : ℕ) (f : Function) → k < l.n → slice_get l.draft.functions k ≡ Some f → FunctionFits l.draft f (end_of l.draft k)
