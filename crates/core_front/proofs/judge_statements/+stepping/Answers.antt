use Rattle.std.proofs.Common.{rules, ◌≡◌, ◌∙◌, ap, sym, subst, [], ◌∷◌, ◌++◌, Ok, Err}
use Rattle.core_tree.specs.declared.stmt.Stmt.TheVariants as stmt
use Rattle.core_front.specs.Judging.{Answers}
use Rattle.core_front.specs.JudgingStatements.{moved, one_scoped, step}
use Rattle.core_front.proofs.Loops.{while_done, while_fails, branch_untested, branch_done, branch_fails}
use Rattle.core_front.proofs.judge_statements.+stepping.Goals as goal

pub statement-returns-in_ok-body-in-While : goal.statement-returns-in_ok-body-in-While
statement-returns-in_ok-body-in-While t c =
    let k = c.args.known.now in
    let e = c.in_ok-condition-in-While.field-0 in
    let x = c.in_ok-body-in-While.body in
    let inner : c.into_inner.result ≡ e = c.into_inner.ensures ∙ c.in_ok-condition-in-While-2.ensures in
    let inside : one_scoped (step c.in-While.body) k c.args.gives_int c.args.state ≡ Ok x = ap (λ b. one_scoped (step b) k c.args.gives_int c.args.state) (sym c.get.ensures) ∙ c.in_ok-body-in-While.ensures in
    while_done k c.args.gives_int c.args.state c.args.action.now c.in-While.at c.in-While.test c.in-While.body e x c.in-While.is c.in_ok-condition-in-While.ensures inside ∙
    (ap (λ p. Ok (moved (stmt.While p e x.stmts) x.state)) (sym c.in_ok-place-in-While.ensures) ∙ ap (λ e. Ok (moved (stmt.While c.in_ok-place-in-While.place e x.stmts) x.state)) (sym inner))

pub statement-returns-in_err-body-in-While : goal.statement-returns-in_err-body-in-While
statement-returns-in_err-body-in-While t c =
    let k = c.args.known.now in
    let e = c.in_ok-condition-in-While.field-0 in
    let f = c.in_err-body-in-While.field-0.0 in
    let inside : Answers (one_scoped (step c.in-While.body) k c.args.gives_int c.args.state) (Err f) =
    subst (λ b. Answers (one_scoped (step b) k c.args.gives_int c.args.state) (Err f)) c.get.ensures c.in_err-body-in-While.ensures in
    let h = while_fails k c.args.gives_int c.args.state c.args.action.now c.in-While.at c.in-While.test c.in-While.body e f c.in-While.is c.in_ok-condition-in-While.ensures inside in
    search (rules, h)

pub choice-returns-in_err-test : goal.choice-returns-in_err-test
choice-returns-in_err-test t c =
    let h = branch_untested c.args.known.now c.args.gives_int c.args.from c.args.branch.now c.in_err-test.field-0.0 c.in_err-test.ensures in
    search (rules, h)

pub choice-returns-in_err-inside : goal.choice-returns-in_err-inside
choice-returns-in_err-inside t c =
    let h = branch_fails c.args.known.now c.args.gives_int c.args.from c.args.branch.now c.in_ok-test.test c.in_err-inside.field-0.0 c.in_ok-test.ensures c.in_err-inside.ensures in
    search (rules, h)

pub choice-returns : goal.choice-returns
choice-returns t c =
    let from = c.args.from in
    let e = c.in_ok-test.test in
    let x = c.in_ok-inside.inside in
    let inner : c.into_inner.result ≡ e = c.into_inner.ensures ∙ c.in_ok-condition.ensures in
    branch_done c.args.known.now c.args.gives_int from c.args.branch.now e x c.in_ok-test.ensures c.in_ok-inside.ensures ∙
    (ap (λ e. Ok (record { branches = from.branches ++ record { condition = e; body = x.stmts } ∷ []; state = x.state })) (sym inner) ∙ ap (λ bs. Ok (record { branches = bs; state = x.state })) (sym c.in_ok-push.ensures.ok))
