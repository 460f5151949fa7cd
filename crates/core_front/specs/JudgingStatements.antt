-- What statements and functions are resolved to, or the first rule that they break (D specification, "Statements",
-- "Functions"). They are judged in the order of the text.
use Rattle.std.specs.Prelude.{ℕ, nat_le, nat_eq, Bool, true, false, ◌&&◌, List, [], ◌∷◌, ◌++◌, map, length, take, Option, Some, None, Ok, Err, if◌then◌else◌, codes}
use Rattle.dc_types.specs.declared.refusal.Refusal.{Refusal}
use Rattle.core_tree.specs.Weight.{body_weight}
use Rattle.core_tree.specs.Typed.{all_of, completes}
use Rattle.core_tree.specs.declared.tree.Variable.{Variable}
use Rattle.core_tree.specs.declared.tree.Tree.{Tree}
use Rattle.core_tree.specs.declared.tree.Tree.TheVariants as tree
use Rattle.core_tree.specs.declared.stmt.Stmt.{Stmt}
use Rattle.core_tree.specs.declared.stmt.Stmt.TheVariants as stmt
use Rattle.core_tree.specs.declared.body.Body.{Body}
use Rattle.dc_ast.specs.declared.name.Name.{Name}
use Rattle.core_front.specs.declared.built.Value.{Value}
use Rattle.core_front.specs.declared.built.Action.{Action}
use Rattle.core_front.specs.declared.built.Action.TheOpen.{Action-F, Branch-F}
use Rattle.core_front.specs.declared.built.Action.TheFolds.{fold-Action, fold-Branch}
use Rattle.core_front.specs.declared.built.Branch.{Branch}
use Rattle.core_front.specs.declared.built.Parameter.{Parameter}
use Rattle.core_front.specs.declared.built.Function.{Function}
use Rattle.core_front.specs.declared.scope.Local.{Local}
use Rattle.core_front.specs.declared.judged.Known.{Known}
use Rattle.core_front.specs.declared.judged.State.{State}
use Rattle.core_front.specs.declared.judged.Moved.{Moved}
use Rattle.core_front.specs.declared.judged.Stepped.{Stepped}
use Rattle.core_front.specs.declared.judged.Chosen.{Chosen}
use Rattle.core_front.specs.declared.judged.Resolution.{Resolution}
use Rattle.core_front.specs.Building.{is_some}
use Rattle.core_front.specs.Naming.{visible, named}
use Rattle.core_front.specs.Judging.{Judged, go_on, refuse, place_in, variable_in, result_of, variable_of, int_of, condition_of, callee_of, arguments_of, called}

-- a statement of a function that gives an `int` or nothing
abbrev pub Step : Type 0
Step = Known → Bool → State → Judged Moved

abbrev pub Choice : Type 0
Choice = Known → Bool → Chosen → Judged Chosen

abbrev pub moved : Stmt → State → Moved
moved s state = record { stmt = s; state = state }

-- statements one behind the other
abbrev pub each_step : List Step → Known → Bool → Stepped → Judged Stepped
each_step [] k gives_int so_far = Ok so_far
each_step (s ∷ ss) k gives_int so_far = go_on (s k gives_int so_far.state) (λ x. each_step ss k gives_int (record { stmts = so_far.stmts ++ x.stmt ∷ []; state = x.state }))

-- what is declared inside ends there
abbrev pub left : State → State → State
left outer inner = record { scope = take (length outer.scope) inner.scope; declared = inner.declared }

abbrev pub scoped : List Step → Known → Bool → State → Judged Stepped
scoped ss k gives_int state = go_on (each_step ss k gives_int (record { stmts = []; state = state })) (λ x. Ok (record { stmts = x.stmts; state = left state x.state }))

-- the same of one statement, as that of a branch or loop
unfoldable pub one_scoped : Step → Known → Bool → State → Judged Stepped
one_scoped s k gives_int state = scoped (s ∷ []) k gives_int state

-- a variable more, whose name stands for none
unfoldable pub declaring : Known → State → ℕ → Name → State
declaring k state at name = record { scope = state.scope ++ record { name = name.spelling; at = at } ∷ []; declared = state.declared ++ variable_in k at ∷ [] }

-- `int name = value;`, where the name stands for no variable yet. The value doesn't see the new one.
unfoldable pub declare_of : Known → State → ℕ → Name → Value → Judged Moved
declare_of k state at name v =
    if is_some (visible name.spelling state.scope) then Err (refuse k 7 at name.spelling)
    else go_on (int_of k state.scope v) (λ e. Ok (moved (stmt.Declare (variable_in k at) e) (declaring k state at name)))

unfoldable pub assignment : Known → ℕ → ℕ → Tree → Stmt
assignment k at to e = stmt.Eval (tree.Assign (place_in k at) (variable_in k to) e)

unfoldable pub assign_of : Known → State → ℕ → Name → Value → Judged Moved
assign_of k state at name v =
    go_on (variable_of k state.scope name) (λ to. go_on (int_of k state.scope v) (λ e.
    Ok (moved (assignment k at to e) state)))

unfoldable pub call_of : Known → State → Name → List Value → Judged Moved
call_of k state name vs =
    go_on (callee_of k state.scope name) (λ c. go_on (arguments_of k state.scope vs) (λ xs. go_on (called k name xs c) (λ x. Ok (moved (stmt.Eval x.tree) state))))

-- a `return` has a value exactly in a function that gives an `int`
unfoldable pub return_of : Known → Bool → State → ℕ → Option Value → Judged Moved
return_of k true state at None = Err (refuse k 10 at [])
return_of k false state at None = Ok (moved (stmt.Return (place_in k at) None) state)
return_of k true state at (Some v) = go_on (int_of k state.scope v) (λ e. Ok (moved (stmt.Return (place_in k at) (Some e)) state))
return_of k false state at (Some v) = Err (refuse k 10 at [])

abbrev pub each_choice : List Choice → Known → Bool → Chosen → Judged Chosen
each_choice [] k gives_int so_far = Ok so_far
each_choice (b ∷ bs) k gives_int so_far = go_on (b k gives_int so_far) (each_choice bs k gives_int)

abbrev pub action_step : Action-F Step Choice → Step
action_step (Action-F.Block ss) k gives_int state = go_on (scoped ss k gives_int state) (λ x. Ok (moved (stmt.Block x.stmts) x.state))
action_step (Action-F.Declare at name v) k gives_int state = declare_of k state at name v
action_step (Action-F.Assign at name v) k gives_int state = assign_of k state at name v
action_step (Action-F.Call name vs) k gives_int state = call_of k state name vs
action_step (Action-F.If at bs last) k gives_int state =
    go_on (each_choice bs k gives_int (record { branches = []; state = state })) (λ x. go_on (scoped last k gives_int x.state) (λ y.
    Ok (moved (stmt.If (place_in k at) x.branches y.stmts) y.state)))
action_step (Action-F.While at test body) k gives_int state =
    go_on (condition_of k state.scope test) (λ e. go_on (one_scoped body k gives_int state) (λ x. Ok (moved (stmt.While (place_in k at) e x.stmts) x.state)))
action_step (Action-F.Return at v) k gives_int state = return_of k gives_int state at v

abbrev pub branch_step : Branch-F Step Choice → Choice
branch_step b k gives_int so_far =
    go_on (condition_of k so_far.state.scope b.test) (λ e. go_on (one_scoped b.body k gives_int so_far.state) (λ x.
    Ok (record { branches = so_far.branches ++ record { condition = e; body = x.stmts } ∷ []; state = x.state })))

abbrev pub step : Action → Step
step = fold-Action Step Choice action_step branch_step

abbrev pub choice : Branch → Choice
choice = fold-Branch Step Choice action_step branch_step

-- what a statement is resolved to, statements one behind the other, and those whose declarations end with them
unfoldable pub step_of : Known → Bool → State → Action → Judged Moved
step_of k gives_int state a = step a k gives_int state

abbrev pub nothing_yet : State → Stepped
nothing_yet state = record { stmts = []; state = state }

unfoldable pub steps_of : Known → Bool → State → List Action → Judged Stepped
steps_of k gives_int state as_ = each_step (map step as_) k gives_int (nothing_yet state)

unfoldable pub scoped_of : Known → Bool → State → List Action → Judged Stepped
scoped_of k gives_int state as_ = scoped (map step as_) k gives_int state

abbrev pub scoped_one_of : Known → Bool → State → Action → Judged Stepped
scoped_one_of k gives_int state a = one_scoped (step a) k gives_int state

unfoldable pub choice_of : Known → Bool → Chosen → Branch → Judged Chosen
choice_of k gives_int so_far b = choice b k gives_int so_far

unfoldable pub choices_of : Known → Bool → State → List Branch → Judged Chosen
choices_of k gives_int state bs = each_choice (map choice bs) k gives_int (record { branches = []; state = state })

-- ---- functions

abbrev pub each_parameter : List Local → List Parameter → Known → Judged (List Local)
each_parameter all [] k = Ok all
each_parameter all (p ∷ ps) k =
    if is_some (visible p.name.spelling all) then Err (refuse k 7 p.at p.name.spelling)
    else each_parameter (all ++ record { name = p.name.spelling; at = p.at } ∷ []) ps k

-- a function that gives an `int` doesn't come to its end, and no function weighs too much
unfoldable pub finished : Known → Function → Body → Judged Body
finished k f body =
    if f.gives_int && all_of (map completes body.stmts) then Err (refuse k 25 f.at [])
    else if nat_le (body_weight body) 4194304 then Ok body else Err (refuse k 18 f.at [])

unfoldable pub body_with : Known → Function → List Variable → Stepped → Body
body_with k f params x = record { place = place_in k f.at; params = params; locals = x.state.declared; result = result_of f.gives_int; stmts = x.stmts }

unfoldable pub body_of : Known → Function → Judged Body
body_of k f =
    go_on (each_parameter [] f.parameters k) (λ ps. go_on (steps_of k f.gives_int (record { scope = ps; declared = [] }) f.body) (λ x.
    finished k f (body_with k f (map (λ l. variable_in k l.at) ps) x)))

abbrev pub each_body : List Body → List Function → Known → Judged (List Body)
each_body all [] k = Ok all
each_body all (f ∷ fs) k = go_on (body_of k f) (λ b. each_body (all ++ b ∷ []) fs k)

-- a call of `main`, with which a run begins
unfoldable pub main_call : Known → Function → Tree
main_call k f = tree.Call (place_in k f.at) (place_in k f.at) (result_of f.gives_int) []

-- the refusal of a program without one plain `main()`, which has no place
abbrev pub no_main : Refusal
no_main = record { rule = 20; place = record { «module» = []; steps = [] }; detail = [] }

abbrev pub main_by : Known → Option Function → Judged Tree
main_by k None = Err no_main
main_by k (Some f) = if nat_eq (length f.parameters) 0 then Ok (main_call k f) else Err no_main

unfoldable pub main_of : Known → Judged Tree
main_of k = main_by k (named (codes "main") k.functions)

-- the bodies of all functions in the order of the text, and then the start
unfoldable pub bodies_of : Known → Judged (List Body)
bodies_of k = each_body [] k.functions k

unfoldable pub resolved_of : Known → Judged Resolution
resolved_of k = go_on (bodies_of k) (λ bodies. go_on (main_of k) (λ start. Ok (record { bodies = bodies; start = start })))
