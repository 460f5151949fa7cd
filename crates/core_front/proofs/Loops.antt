-- What a `while` and a branch are resolved to, step by step.
use Rattle.std.proofs.Common.{◌≡◌, ◌∙◌, sym, ap, ℕ, Bool, [], ◌∷◌, ◌++◌, Ok, Err}
use Rattle.dc_types.specs.declared.refusal.Fail.{Fail}
use Rattle.dc_types.specs.declared.refusal.Fail.TheVariants as fail
use Rattle.core_tree.specs.declared.tree.Tree.{Tree}
use Rattle.core_tree.specs.declared.stmt.Stmt.TheVariants as stmt
use Rattle.core_front.specs.Judging.{Answers, Judged, go_on, place_in, condition_of}
use Rattle.core_front.specs.JudgingStatements.{Step, Choice, moved, one_scoped, action_step, branch_step, step, choice, step_of, choice_of}
use Rattle.core_front.specs.declared.built.Action.{Action}
use Rattle.core_front.specs.declared.built.Action.TheVariants as action
use Rattle.core_front.specs.declared.built.Action.TheOpen.{Action-F}
use Rattle.core_front.specs.declared.built.Action.TheFolds.{fold-roll-Action, fold_out-Branch}
use Rattle.core_front.specs.declared.built.Branch.{Branch}
use Rattle.core_front.specs.declared.built.Test.{Test}
use Rattle.core_front.specs.declared.judged.Chosen.{Chosen}
use Rattle.core_front.specs.declared.judged.Known.{Known}
use Rattle.core_front.specs.declared.judged.Moved.{Moved}
use Rattle.core_front.specs.declared.judged.State.{State}
use Rattle.core_front.specs.declared.judged.Stepped.{Stepped}

while_is : (k : Known) (g : Bool) (s : State) (at : ℕ) (test : Test) (body : Action) → step (action.While at test body) k g s ≡ action_step (Action-F.While at test (step body)) k g s
while_is k g s at test body = ap (λ a. step a k g s) (sym (action.rolls-While at test body)) ∙ ap (λ (f : Step). f k g s) (fold-roll-Action Step Choice action_step branch_step (Action-F.While at test body))

-- what is done with a condition, and with the statement behind it
abbrev looped : Known → ℕ → Tree → Stepped → Judged Moved
looped k at e x = Ok (moved (stmt.While (place_in k at) e x.stmts) x.state)

abbrev behind : Known → Bool → State → ℕ → Action → Tree → Judged Moved
behind k g s at body e = go_on (one_scoped (step body) k g s) (looped k at e)

pub while_goes : (k : Known) (g : Bool) (s : State) (a : Action) (at : ℕ) (test : Test) (body : Action) (e : Tree) → a ≡ action.While at test body → condition_of k s.scope test ≡ Ok e
    → step_of k g s a ≡ behind k g s at body e
unfolding step_of
while_goes k g s a at test body e is condition = ap (λ a. step a k g s) is ∙ (while_is k g s at test body ∙ ap (λ j. go_on j (behind k g s at body)) condition)

pub while_done : (k : Known) (g : Bool) (s : State) (a : Action) (at : ℕ) (test : Test) (body : Action) (e : Tree) (x : Stepped) → a ≡ action.While at test body → condition_of k s.scope test ≡ Ok e
    → one_scoped (step body) k g s ≡ Ok x → step_of k g s a ≡ Ok (moved (stmt.While (place_in k at) e x.stmts) x.state)
while_done k g s a at test body e x is condition inside = while_goes k g s a at test body e is condition ∙ ap (λ j. go_on j (looped k at e)) inside

pub while_fails : (k : Known) (g : Bool) (s : State) (a : Action) (at : ℕ) (test : Test) (body : Action) (e : Tree) (f : Fail) → a ≡ action.While at test body → condition_of k s.scope test ≡ Ok e
    → Answers (one_scoped (step body) k g s) (Err f) → Answers (step_of k g s a) (Err f)
while_fails k g s a at test body e (fail.Refused r) is condition inside = while_goes k g s a at test body e is condition ∙ ap (λ j. go_on j (looped k at e)) inside
while_fails k g s a at test body e fail.NoMemory is condition inside = tt

-- ---- branches

abbrev pub more : Chosen → Tree → Stepped → Judged Chosen
more from e x = Ok (record { branches = from.branches ++ record { condition = e; body = x.stmts } ∷ []; state = x.state })

abbrev taken : Known → Bool → Chosen → Action → Tree → Judged Chosen
taken k g from body e = go_on (one_scoped (step body) k g from.state) (more from e)

branch_is : (k : Known) (g : Bool) (from : Chosen) (b : Branch) → choice b k g from ≡ go_on (condition_of k from.state.scope b.test) (taken k g from b.body)
branch_is k g from b = ap (λ (f : Choice). f k g from) (fold_out-Branch Step Choice action_step branch_step b)

pub branch_goes : (k : Known) (g : Bool) (from : Chosen) (b : Branch) (e : Tree) → condition_of k from.state.scope b.test ≡ Ok e → choice_of k g from b ≡ taken k g from b.body e
unfolding choice_of
branch_goes k g from b e condition = branch_is k g from b ∙ ap (λ j. go_on j (taken k g from b.body)) condition

pub branch_untested : (k : Known) (g : Bool) (from : Chosen) (b : Branch) (f : Fail) → Answers (condition_of k from.state.scope b.test) (Err f) → Answers (choice_of k g from b) (Err f)
unfolding choice_of
branch_untested k g from b (fail.Refused r) h = branch_is k g from b ∙ ap (λ j. go_on j (taken k g from b.body)) h
branch_untested k g from b fail.NoMemory h = tt

pub branch_done : (k : Known) (g : Bool) (from : Chosen) (b : Branch) (e : Tree) (x : Stepped) → condition_of k from.state.scope b.test ≡ Ok e → one_scoped (step b.body) k g from.state ≡ Ok x
    → choice_of k g from b ≡ more from e x
branch_done k g from b e x condition inside = branch_goes k g from b e condition ∙ ap (λ j. go_on j (more from e)) inside

pub branch_fails : (k : Known) (g : Bool) (from : Chosen) (b : Branch) (e : Tree) (f : Fail) → condition_of k from.state.scope b.test ≡ Ok e → Answers (one_scoped (step b.body) k g from.state) (Err f)
    → Answers (choice_of k g from b) (Err f)
branch_fails k g from b e (fail.Refused r) condition inside = branch_goes k g from b e condition ∙ ap (λ j. go_on j (more from e)) inside
branch_fails k g from b e fail.NoMemory condition inside = tt
