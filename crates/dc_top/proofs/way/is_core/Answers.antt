use Rattle.dc_top.proofs.Ways.{on_text, on_resolution, on_refusal, programs_inside, refusals_inside}
use Rattle.dc_top.proofs.way.is_core.Goals as goal

pub returns-in-Err-Refused-clause-forms : goal.returns-in-Err-Refused-clause-forms
returns-in-Err-Refused-clause-forms c =
    let e = c.in-Err-Refused in
    on_text c.args.file.now c.args.text.now e.field-0 e.field-0-0 e.field-0-is e.ensures.refused

pub returns-in-Ok-judge-clause-forms : goal.returns-in-Ok-judge-clause-forms
returns-in-Ok-judge-clause-forms c =
    let p = c.in-Ok.parsed in
    on_resolution c.args.file.now c.args.text.now c.default_name.result.now p.name p.tokens p.tree c.default_name.ensures c.in-Ok.ensures.parsed
    c.in-Ok-judge.field-0 c.in-Ok-judge.ensures.answers

pub returns-in-Err-Refused-judge-clause-forms : goal.returns-in-Err-Refused-judge-clause-forms
returns-in-Err-Refused-judge-clause-forms c =
    let p = c.in-Ok.parsed in let e = c.in-Err-Refused-judge in
    on_refusal c.args.file.now c.args.text.now c.default_name.result.now p.name p.tokens p.tree c.default_name.ensures c.in-Ok.ensures.parsed
    e.field-0 e.refusal e.field-0-is e.ensures.answers

pub returns-in-Err-Refused-judge-clause-programs : goal.returns-in-Err-Refused-judge-clause-programs
returns-in-Err-Refused-judge-clause-programs c =
    let p = c.in-Ok.parsed in let e = c.in-Err-Refused-judge in
    programs_inside c.args.file.now c.args.text.now _
    (on_refusal c.args.file.now c.args.text.now c.default_name.result.now p.name p.tokens p.tree c.default_name.ensures c.in-Ok.ensures.parsed
    e.field-0 e.refusal e.field-0-is e.ensures.answers)

pub returns-in-Err-Refused-judge-clause-refusals : goal.returns-in-Err-Refused-judge-clause-refusals
returns-in-Err-Refused-judge-clause-refusals c =
    let p = c.in-Ok.parsed in let e = c.in-Err-Refused-judge in
    refusals_inside c.args.file.now c.args.text.now _
    (on_refusal c.args.file.now c.args.text.now c.default_name.result.now p.name p.tokens p.tree c.default_name.ensures c.in-Ok.ensures.parsed
    e.field-0 e.refusal e.field-0-is e.ensures.answers)
