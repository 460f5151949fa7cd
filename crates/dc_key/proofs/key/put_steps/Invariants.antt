use Rattle.std.proofs.Common.{◌≡◌, ◌++◌, take}
use Rattle.dc_key.specs.KeyTexts.{steps_text}
use Rattle.dc_key.proofs.key.put_steps.Given as goal

abbrev pub invariant-loop-step : goal.invariant-loop-step
invariant-loop-step l = l.out ≡ l.initial.out ++ steps_text (take l.step-index l.steps)
