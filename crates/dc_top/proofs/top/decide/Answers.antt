use Rattle.std.proofs.Common.{rules, ◌≡◌, subst, Err}
use Rattle.dc_top.specs.Front.{IsRefusedBy, FrontAnswers}
use Rattle.dc_top.proofs.top.decide.Goals as goal

pub returns-clause-plan : goal.returns-clause-plan
returns-clause-plan g c =
    let refused : IsRefusedBy c.in-Some.job.file.now c.in-Ok.text c.in-Err-Refused.refusal = subst (λ f. FrontAnswers c.in-Some.job.file.now c.in-Ok.text (Err f)) c.in-Err-Refused.field-0-is c.in-Err-Refused.ensures.answers in
    (record { file = c.in-Some.job.file.now; ticks = c.in-Some.job.ticks; text = c.in-Ok.text; refusal = c.in-Err-Refused.refusal; of_job = search rules; read = search rules; refused = refused; line_is = search rules }, search rules)
