-- The body that a function is resolved to, step by step.
use Rattle.std.proofs.Common.{◌≡◌, ◌∙◌, sym, ap, subst, List, [], map, Result, Ok}
use Rattle.dc_types.specs.declared.refusal.Fail.{Fail}
use Rattle.core_tree.specs.declared.tree.Variable.{Variable}
use Rattle.core_tree.specs.declared.body.Body.{Body}
use Rattle.core_front.specs.Judging.{Answers, go_on, variable_in}
use Rattle.core_front.specs.JudgingStatements.{steps_of, each_parameter, finished, body_with, body_of}
use Rattle.core_front.specs.declared.built.Function.{Function}
use Rattle.core_front.specs.declared.judged.Known.{Known}
use Rattle.core_front.specs.declared.judged.Stepped.{Stepped}
use Rattle.core_front.specs.declared.scope.Local.{Local}

pub body_answers : (k : Known) (f : Function) (ps : List Local) (x : Stepped) (params : List Variable) (b : Body) (r : Result Body Fail) → each_parameter [] f.parameters k ≡ Ok ps
    → steps_of k f.gives_int (record { scope = ps; declared = [] }) f.body ≡ Ok x → params ≡ map (λ l. variable_in k l.at) ps → b ≡ body_with k f params x
    → Answers (finished k f b) r → Answers (body_of k f) r
unfolding body_of
body_answers k f ps x params b r parameters steps variables body answers =
    let made : b ≡ body_with k f (map (λ l. variable_in k l.at) ps) x = body ∙ ap (λ vs. body_with k f vs x) variables in
    let first = ap (λ j. go_on j (λ ps. go_on (steps_of k f.gives_int (record { scope = ps; declared = [] }) f.body) (λ x. finished k f (body_with k f (map (λ l. variable_in k l.at) ps) x)))) parameters in
    let then_ = ap (λ j. go_on j (λ x. finished k f (body_with k f (map (λ l. variable_in k l.at) ps) x))) steps in
    subst (λ j. Answers j r) (sym (first ∙ (then_ ∙ ap (finished k f) (sym made)))) answers
