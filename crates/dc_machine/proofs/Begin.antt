-- The first state of a run.
use Rattle.std.proofs.Common.{◌≡◌, ℕ, [], Some, replicate, reverse, ap, ◌∙◌}
use Rattle.std.specs.Prelude.{slice_get}
use Rattle.dc_code.specs.State.{On}
use Rattle.dc_code.specs.Exec.{start, begin_at, function_at, begin}
use Rattle.dc_code.specs.declared.code.Draft.{Draft}
use Rattle.dc_code.specs.declared.instr.Function.{Function}
use Rattle.dc_machine.specs.declared.state.State.{State}
use Rattle.dc_machine.specs.After.{machine_of}

pub begins_at : (code : Draft) (entry n k : ℕ) (f : Function) → slice_get code.entries entry ≡ Some k → slice_get code.functions k ≡ Some f → begin code entry n ≡ On (start code n f)
begins_at code entry n k f is there = ap (λ o. begin_at code n (function_at code o)) is ∙ ap (begin_at code n) there

pub first_is : (code : Draft) (n : ℕ) (f : Function) (s : State) → s.pc ≡ f.first → s.words.items ≡ replicate f.weight 0 → s.base ≡ 0 → s.callers.items ≡ [] → s.nest ≡ record { depth = 0; weight = 0 } → s.pending.items ≡ [] → s.left ≡ n → machine_of code s 0 [] ≡ start code n f
first_is code n f s pc words base callers nest pending left =
    let none : reverse s.callers.items ≡ [] = ap reverse callers in
    cc
