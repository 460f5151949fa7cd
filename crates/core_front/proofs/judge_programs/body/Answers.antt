use Rattle.std.proofs.Common.{◌∙◌, sym, ap, [], map}
use Rattle.core_front.specs.Judging.{variable_in}
use Rattle.core_front.specs.JudgingStatements.{each_parameter, steps_of}
use Rattle.core_front.proofs.Bodies.{body_answers}
use Rattle.core_front.proofs.judge_programs.body.Goals as goal

pub returns : goal.returns
returns c =
    let k = c.args.known.now in
    let f = c.args.f.now in
    let ps = c.in_ok-scope.scope in
    body_answers k f ps c.in_ok-resolved.resolved c.in_ok-params.params c.in_ok-body.body c.finished.result
    (ap (λ w. each_parameter [] w k) (sym c.as_slice.ensures) ∙ c.in_ok-scope.ensures)
    (ap (λ d. steps_of k f.gives_int (record { scope = ps; declared = d }) f.body) (sym c.new.ensures) ∙ (ap (λ a. steps_of k f.gives_int (record { scope = ps; declared = c.new.result }) a) (sym c.as_slice-3.ensures) ∙ c.in_ok-resolved.ensures))
    (c.in_ok-params.ensures ∙ ap (map (λ l. variable_in k l.at)) c.as_slice-2.ensures)
    c.in_ok-body.ensures
    c.finished.ensures
