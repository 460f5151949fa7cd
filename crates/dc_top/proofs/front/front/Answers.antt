use Rattle.std.proofs.Common.{rules, ◌≡◌, ◌∙◌, ap, sym, subst, refl, Ok, Err}
use Rattle.core_front.specs.Front.{judged_of}
use Rattle.core_front.specs.Judging.{Answers}
use Rattle.dc_top.proofs.Verdicts.{module_fails, module_is}
use Rattle.dc_top.proofs.front.front.Goals as goal

pub returns-in_err-resolution-clause-answers : goal.returns-in_err-resolution-clause-answers
returns-in_err-resolution-clause-answers c =
    let p = c.in_ok-parsed.parsed in
    let f = c.in_err-resolution.field-0.0 in
    let a = subst (λ n. Answers (judged_of n p.tokens p.tree) (Err f)) c.default_name.ensures c.in_err-resolution.ensures.answers in
    let h = module_fails c.args.file.now c.args.text.now p.name p.tokens p.tree f c.in_ok-parsed.ensures.parsed a in
    search (rules, h)

pub returns-clause-answers : goal.returns-clause-answers
returns-clause-answers c =
    let p = c.in_ok-parsed.parsed in
    let r = c.in_ok-resolution.resolution in
    module_is c.args.file.now c.args.text.now p.name p.tokens p.tree r (record { bodies = r.bodies; start = r.start }) c.in_ok-parsed.ensures.parsed
    (ap (λ n. judged_of n p.tokens p.tree) (sym c.default_name.ensures) ∙ c.in_ok-resolution.ensures.answers) refl
