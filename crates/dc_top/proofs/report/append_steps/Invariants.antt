use Rattle.std.proofs.Common.{◌≡◌, ◌++◌, drop, codes}
use Rattle.dc_top.specs.Reports.{steps_text}
use Rattle.dc_top.proofs.report.append_steps.Given as goal

abbrev pub invariant-loop-step : goal.invariant-loop-step
invariant-loop-step l =
    l.line ++ steps_text l.ahead.front.now l.ahead.texts.now (drop l.step-index l.steps) ≡ l.initial.line ++ steps_text (codes ":") l.texts l.steps
