use Rattle.std.proofs.Common.{[], ◌∷◌, ◌++◌, length, ap, ◌∙◌, subst}
use Rattle.core_lower.specs.Runs.{Runs}
use Rattle.dc_top.proofs.Exits.{opened_holds}
use Rattle.dc_top.proofs.run.load.Goals as goal

pub returns : goal.returns
returns c =
    let starts = c.in_ok-push.ensures.ok ∙ ap (λ l. l ++ c.args.program.start ∷ []) c.new-starts.ensures in
    opened_holds c.args.program c.args.limits c.in_ok-code.code c.open.result
    (subst (λ l. Runs c.args.program.bodies l c.in_ok-code.code) starts c.in_ok-code.ensures.runs)
    (c.in_ok-code.ensures.entries ∙ ap length starts)
    c.open.ensures
