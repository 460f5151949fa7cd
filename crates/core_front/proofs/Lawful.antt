-- Each refusal of a module is that of an unbuilt form, of a broken rule, or of a program without `main`.
use Rattle.std.proofs.Common.{◌≡◌, refl, sym, subst, ℕ, Bool, true, false, cond, ◌&&◌, ◌||◌, List, [], ◌∷◌, ◌++◌, map, length, ℤ, Option, Some, None, Ok, Err}
use Rattle.std.specs.Prelude.{int_le, nat_le, nat_eq, codes}
use Rattle.dc_types.specs.declared.kind.Kind.TheVariants as kind
use Rattle.dc_types.specs.declared.kind.CmpOp.{CmpOp}
use Rattle.dc_types.specs.declared.refusal.Refusal.{Refusal}
use Rattle.dc_types.specs.Integers.{least, greatest}
use Rattle.core_tree.specs.Weight.{body_weight}
use Rattle.core_tree.specs.Typed.{Each, all_of, completes}
use Rattle.core_tree.specs.declared.tree.Tree.TheVariants as tree
use Rattle.core_tree.specs.declared.stmt.Stmt.TheVariants as stmt
use Rattle.core_tree.specs.declared.body.Body.{Body}
use Rattle.dc_token.specs.declared.token.Token.{Token}
use Rattle.dc_ast.specs.declared.name.Name.{Name}
use Rattle.dc_ast.specs.declared.declaration.Declaration.{Declaration}
use Rattle.dc_ast.specs.declared.declaration.ModuleLine.{ModuleLine}
use Rattle.dc_ast.specs.declared.declaration.ModuleTree.{ModuleTree}
use Rattle.core_front.specs.Operators.{resolved}
use Rattle.core_front.specs.Building.{Built, is_some}
use Rattle.core_front.specs.Naming.{visible, named}
use Rattle.core_front.specs.Programs.{program_of}
use Rattle.core_front.specs.Judging.{Judged, go_on, refuse, place_in, variable_in, is_other, print_of, no_such, no_value, variable_by, variable_of, print_by, callee_by, callee_of, Part, Linked, each_argument, each_operand, no_arguments, no_operands, function_call, print_call, called, chain_of, chained, local_of, constant_of, literal_of, value_step, part, linked, typed_of, arguments_of, int_by, begins_at, int_of, compared, condition_of}
use Rattle.core_front.specs.JudgingStatements.{Step, Choice, moved, each_step, left, scoped, one_scoped, declaring, declare_of, assignment, assign_of, call_of, return_of, each_choice, action_step, branch_step, step, choice, steps_of, each_parameter, finished, body_with, body_of, each_body, main_call, no_main, main_by, main_of, bodies_of, resolved_of}
use Rattle.core_front.specs.Front.{by_built, by_line, judged_of}
use Rattle.core_front.specs.Refusals.{is_of_name, is_bare, IsBroken, IsOfFront, RefusalsAreOfFront}
use Rattle.core_front.specs.declared.built.Action.{Action}
use Rattle.core_front.specs.declared.built.Action.TheOpen.{Action-F, Branch-F}
use Rattle.core_front.specs.declared.built.Action.TheViews.{roll-Action}
use Rattle.core_front.specs.declared.built.Action.TheFolds.{map-Action, map-Branch, fold-roll-Action, fold-roll-Branch, ind-Action}
use Rattle.core_front.specs.declared.built.Branch.{Branch, roll-Branch}
use Rattle.core_front.specs.declared.built.Function.{Function}
use Rattle.core_front.specs.declared.built.Link.{Link, roll-Link}
use Rattle.core_front.specs.declared.built.Parameter.{Parameter}
use Rattle.core_front.specs.declared.built.Program.{Program}
use Rattle.core_front.specs.declared.built.Test.{Test}
use Rattle.core_front.specs.declared.built.Test.TheVariants as test
use Rattle.core_front.specs.declared.built.Value.{Value}
use Rattle.core_front.specs.declared.built.Value.TheOpen.{Value-F, Link-F}
use Rattle.core_front.specs.declared.built.Value.TheViews.{roll-Value}
use Rattle.core_front.specs.declared.built.Value.TheFolds.{map-Value, map-Link, fold-roll-Value, fold-roll-Link, ind-Value}
use Rattle.core_front.specs.declared.judged.Arguments.{Arguments}
use Rattle.core_front.specs.declared.judged.Callee.{Callee}
use Rattle.core_front.specs.declared.judged.Callee.TheVariants as callee
use Rattle.core_front.specs.declared.judged.Chosen.{Chosen}
use Rattle.core_front.specs.declared.judged.Known.{Known}
use Rattle.core_front.specs.declared.judged.Operands.{Operands}
use Rattle.core_front.specs.declared.judged.State.{State}
use Rattle.core_front.specs.declared.judged.Stepped.{Stepped}
use Rattle.core_front.specs.declared.judged.Typed.{Typed}
use Rattle.core_front.specs.declared.scope.Local.{Local}

-- ---- what is judged, whose refusal has a property

abbrev Lawful : (Refusal → Type 0) → {A : Type 0} → Judged A → Type 0
Lawful P (Ok x) = Unit {0}
Lawful P (Err r) = P r

keeps : (P : Refusal → Type 0) {A B : Type 0} (j : Judged A) (f : A → Judged B) → Lawful P j → ((x : A) → Lawful P (f x)) → Lawful P (go_on j f)
keeps P (Ok x) f h g = g x
keeps P (Err r) f h g = h

by_case : (P : Refusal → Type 0) {A : Type 0} (b : Bool) (x y : Judged A) → Lawful P x → Lawful P y → Lawful P (cond b x y)
by_case P true x y h g = h
by_case P false x y h g = g

either : (P : Refusal → Type 0) (b : Bool) (r s : Refusal) → P r → P s → P (cond b r s)
either P true r s h g = h
either P false r s h g = g

wider : (P Q : Refusal → Type 0) → ((r : Refusal) → P r → Q r) → {A : Type 0} (j : Judged A) → Lawful P j → Lawful Q j
wider P Q f (Ok x) h = tt
wider P Q f (Err r) h = f r h

module _ (k : Known) where
  abbrev Broken : Refusal → Type 0
  Broken r = IsBroken k.home r

  abbrev Fine : {A : Type 0} → Judged A → Type 0
  Fine j = Lawful Broken j

  of_name : (rule at : ℕ) (name : List ℕ) → is_of_name rule ≡ true → Broken (refuse k rule at name)
  unfolding refuse place_in
  of_name rule at name is = IsBroken.OfName rule at name is refl

  bare : (rule at : ℕ) → is_bare rule ≡ true → Broken (refuse k rule at [])
  unfolding refuse place_in
  bare rule at is = IsBroken.Bare rule at is refl

  -- ---- names

  no_such_fine : (name : Name) → Broken (no_such k name)
  unfolding no_such
  no_such_fine name = either Broken (is_other k name.spelling) (refuse k 10 name.at []) (refuse k 5 name.at name.spelling) (bare 10 name.at refl) (of_name 5 name.at name.spelling refl)

  no_value_fine : (name : Name) → Broken (no_value k name)
  unfolding no_value
  no_value_fine name = either Broken (is_some (named name.spelling k.functions) || is_some (print_of k name.spelling)) (refuse k 10 name.at []) (no_such k name) (bare 10 name.at refl) (no_such_fine name)

  variable_fine : (locals : List Local) (name : Name) → Fine (variable_of k locals name)
  unfolding variable_of
  variable_fine locals name = by_name (visible name.spelling locals) where
    by_name : (o : Option ℕ) → Fine (variable_by k name o)
    by_name (Some at) = tt
    by_name None = no_value_fine name

  callee_fine : (locals : List Local) (name : Name) → Fine (callee_of k locals name)
  unfolding callee_of
  callee_fine locals name = by_case Broken (is_some (visible name.spelling locals)) (Err (refuse k 10 name.at [])) (callee_by k name (named name.spelling k.functions)) (bare 10 name.at refl) (by_name (named name.spelling k.functions)) where
    by_print : (o : Option Bool) → Fine (print_by k name o)
    by_print (Some line) = tt
    by_print None = no_such_fine name

    by_name : (o : Option Function) → Fine (callee_by k name o)
    by_name (Some f) = tt
    by_name None = by_print (print_of k name.spelling)

  -- ---- values

  called_fine : (name : Name) (args : Arguments) (c : Callee) → Fine (called k name args c)
  unfolding called
  called_fine name args (callee.Declared at arity gives_int) = by_case Broken (args.are_int && nat_eq (length args.trees) arity) (Ok (function_call k name at gives_int args.trees)) (Err (refuse k 11 name.at name.spelling)) tt (of_name 11 name.at name.spelling refl)
  called_fine name args (callee.Print line) = by_case Broken args.are_int (Ok (print_call k name line args.trees)) (Err (refuse k 11 name.at name.spelling)) tt (of_name 11 name.at name.spelling refl)

  chained_fine : (at : ℕ) (first : Typed) (rest : Operands) → Fine (chained k at first rest)
  unfolding chained
  chained_fine at first rest = by_case Broken (first.gives_int && rest.are_int) (Ok (chain_of k at first.tree rest.operations)) (Err (refuse k 10 at [])) tt (bare 10 at refl)

  literal_fine : (at : ℕ) (n : ℤ) → Fine (literal_of k at n)
  unfolding literal_of
  literal_fine at n = by_case Broken (int_le (least kind.I32) n && int_le n (greatest kind.I32)) (Ok (constant_of k at n)) (Err (refuse k 10 at [])) tt (bare 10 at refl)

  abbrev FinePart : Part → Type 0
  FinePart p = (locals : List Local) → Fine (p.typed k locals)

  arguments_fine : (all : Arguments) (ps : List Part) → Each FinePart ps → (locals : List Local) → Fine (each_argument all ps k locals)
  arguments_fine all [] h locals = tt
  arguments_fine all (p ∷ ps) h locals =
      keeps Broken (p.typed k locals) (λ x. each_argument (record { trees = all.trees ++ x.tree ∷ []; are_int = all.are_int && x.gives_int }) ps k locals) (h.0 locals)
      (λ x. arguments_fine (record { trees = all.trees ++ x.tree ∷ []; are_int = all.are_int && x.gives_int }) ps h.1 locals)

  module _ {Y Z : Type 0} (p : Y → Value) (q : (y : Y) → FinePart (part (p y))) (pl : Z → Link) (ql : (z : Z) → FinePart (linked (pl z)).operand) where
    parts_fine : (ys : List Y) → Each FinePart (map part (map p ys))
    parts_fine [] = tt
    parts_fine (y ∷ ys) = (q y, parts_fine ys)

    operands_fine : (all : Operands) (zs : List Z) (locals : List Local) → Fine (each_operand all (map linked (map pl zs)) k locals)
    operands_fine all [] locals = tt
    operands_fine all (z ∷ zs) locals =
        let l = linked (pl z) in
        keeps Broken (l.operand.typed k locals) (λ x. each_operand (record { operations = all.operations ++ record { operator = resolved l.operator; operand = x.tree } ∷ []; are_int = all.are_int && x.gives_int }) (map linked (map pl zs)) k locals) (ql z locals)
        (λ x. operands_fine (record { operations = all.operations ++ record { operator = resolved l.operator; operand = x.tree } ∷ []; are_int = all.are_int && x.gives_int }) zs locals)

    value_layer : (y : Value-F Y Z) → FinePart (value_step (map-Value Value Link Part Linked part linked (map-Value Y Z Value Link p pl y)))
    value_layer (Value-F.Number at n) locals = literal_fine at n
    value_layer (Value-F.Name name) locals = keeps Broken (variable_of k locals name) (λ at. Ok (local_of k name at)) (variable_fine locals name) (λ at. tt)
    value_layer (Value-F.Call name args) locals =
        keeps Broken (callee_of k locals name) (λ c. go_on (each_argument no_arguments (map part (map p args)) k locals) (λ xs. called k name xs c)) (callee_fine locals name)
        (λ c. keeps Broken (each_argument no_arguments (map part (map p args)) k locals) (λ xs. called k name xs c) (arguments_fine no_arguments (map part (map p args)) (parts_fine args) locals) (λ xs. called_fine name xs c))
    value_layer (Value-F.Chain at first rest) locals =
        keeps Broken ((part (p first)).typed k locals) (λ x. go_on (each_operand no_operands (map linked (map pl rest)) k locals) (λ os. chained k at x os)) (q first locals)
        (λ x. keeps Broken (each_operand no_operands (map linked (map pl rest)) k locals) (λ os. chained k at x os) (operands_fine no_operands rest locals) (λ os. chained_fine at x os))

    link_layer : (z : Link-F Y Z) → FinePart (linked (roll-Link (map-Link Y Z Value Link p pl z))).operand
    link_layer z = subst (λ l. FinePart l.operand) (sym (fold-roll-Link Part Linked value_step (λ l. record { operator = l.operator; operand = l.operand }) (map-Link Y Z Value Link p pl z))) (q z.operand)

  rolled : (x : Value-F Value Link) → FinePart (value_step (map-Value Value Link Part Linked part linked x)) → FinePart (part (roll-Value x))
  rolled x g = subst FinePart (sym (fold-roll-Value Part Linked value_step (λ l. record { operator = l.operator; operand = l.operand }) x)) g

  part_fine : (v : Value) → FinePart (part v)
  part_fine = ind-Value (λ v. FinePart (part v)) (λ l. FinePart (linked l).operand)
      (λ x y is. subst (λ z. FinePart (part (roll-Value z))) is (rolled _ (value_layer (λ e. e.0) (λ e. e.1) (λ e. e.0) (λ e. e.1) y)))
      (λ x y is. subst (λ z. FinePart (linked (roll-Link z)).operand) is (link_layer (λ e. e.0) (λ e. e.1) (λ e. e.0) (λ e. e.1) y))

  typed_fine : (locals : List Local) (v : Value) → Fine (typed_of k locals v)
  unfolding typed_of
  typed_fine locals v = part_fine v locals

  all_parts : (vs : List Value) → Each FinePart (map part vs)
  all_parts [] = tt
  all_parts (v ∷ vs) = (part_fine v, all_parts vs)

  all_arguments : (locals : List Local) (vs : List Value) → Fine (arguments_of k locals vs)
  unfolding arguments_of
  all_arguments locals vs = arguments_fine no_arguments (map part vs) (all_parts vs) locals

  int_fine : (locals : List Local) (v : Value) → Fine (int_of k locals v)
  unfolding int_of
  int_fine locals v =
      keeps Broken (typed_of k locals v) (int_by k (begins_at v)) (typed_fine locals v)
      (λ x. by_case Broken x.gives_int (Ok x.tree) (Err (refuse k 10 (begins_at v) [])) tt (bare 10 (begins_at v) refl))

  compared_fine : (at : ℕ) (o : CmpOp) (a b : Typed) → Fine (compared k at o a b)
  unfolding compared
  compared_fine at o a b = by_case Broken (a.gives_int && b.gives_int) (Ok (tree.Compare (place_in k at) o kind.I32 a.tree b.tree)) (Err (refuse k 10 at [])) tt (bare 10 at refl)

  condition_fine : (locals : List Local) (c : Test) → Fine (condition_of k locals c)
  unfolding condition_of
  condition_fine locals (test.Always at) = tt
  condition_fine locals (test.Compare at o a b) =
      keeps Broken (typed_of k locals a) (λ x. go_on (typed_of k locals b) (compared k at o x)) (typed_fine locals a)
      (λ x. keeps Broken (typed_of k locals b) (compared k at o x) (typed_fine locals b) (λ y. compared_fine at o x y))

  -- ---- statements

  abbrev FineStep : Step → Type 0
  FineStep s = (gives_int : Bool) (state : State) → Fine (s k gives_int state)

  abbrev FineChoice : Choice → Type 0
  FineChoice b = (gives_int : Bool) (so_far : Chosen) → Fine (b k gives_int so_far)

  steps_fine : (ss : List Step) → Each FineStep ss → (gives_int : Bool) (from : Stepped) → Fine (each_step ss k gives_int from)
  steps_fine [] h gives_int from = tt
  steps_fine (s ∷ ss) h gives_int from =
      keeps Broken (s k gives_int from.state) (λ x. each_step ss k gives_int (record { stmts = from.stmts ++ x.stmt ∷ []; state = x.state })) (h.0 gives_int from.state)
      (λ x. steps_fine ss h.1 gives_int (record { stmts = from.stmts ++ x.stmt ∷ []; state = x.state }))

  scoped_fine : (ss : List Step) → Each FineStep ss → (gives_int : Bool) (state : State) → Fine (scoped ss k gives_int state)
  scoped_fine ss h gives_int state =
      keeps Broken (each_step ss k gives_int (record { stmts = []; state = state })) (λ x. Ok (record { stmts = x.stmts; state = left state x.state })) (steps_fine ss h gives_int (record { stmts = []; state = state })) (λ x. tt)

  one_fine : (s : Step) → FineStep s → (gives_int : Bool) (state : State) → Fine (one_scoped s k gives_int state)
  unfolding one_scoped
  one_fine s h gives_int state = scoped_fine (s ∷ []) (h, tt) gives_int state

  choices_fine : (bs : List Choice) → Each FineChoice bs → (gives_int : Bool) (from : Chosen) → Fine (each_choice bs k gives_int from)
  choices_fine [] h gives_int from = tt
  choices_fine (b ∷ bs) h gives_int from = keeps Broken (b k gives_int from) (each_choice bs k gives_int) (h.0 gives_int from) (λ x. choices_fine bs h.1 gives_int x)

  declare_fine : (state : State) (at : ℕ) (name : Name) (v : Value) → Fine (declare_of k state at name v)
  unfolding declare_of
  declare_fine state at name v =
      by_case Broken (is_some (visible name.spelling state.scope)) (Err (refuse k 7 at name.spelling)) (go_on (int_of k state.scope v) (λ e. Ok (moved (stmt.Declare (variable_in k at) e) (declaring k state at name)))) (of_name 7 at name.spelling refl)
      (keeps Broken (int_of k state.scope v) (λ e. Ok (moved (stmt.Declare (variable_in k at) e) (declaring k state at name))) (int_fine state.scope v) (λ e. tt))

  assign_fine : (state : State) (at : ℕ) (name : Name) (v : Value) → Fine (assign_of k state at name v)
  unfolding assign_of
  assign_fine state at name v =
      keeps Broken (variable_of k state.scope name) (λ to. go_on (int_of k state.scope v) (λ e. Ok (moved (assignment k at to e) state))) (variable_fine state.scope name)
      (λ to. keeps Broken (int_of k state.scope v) (λ e. Ok (moved (assignment k at to e) state)) (int_fine state.scope v) (λ e. tt))

  call_fine : (state : State) (name : Name) (vs : List Value) → Fine (call_of k state name vs)
  unfolding call_of
  call_fine state name vs =
      keeps Broken (callee_of k state.scope name) (λ c. go_on (arguments_of k state.scope vs) (λ xs. go_on (called k name xs c) (λ x. Ok (moved (stmt.Eval x.tree) state)))) (callee_fine state.scope name)
      (λ c. keeps Broken (arguments_of k state.scope vs) (λ xs. go_on (called k name xs c) (λ x. Ok (moved (stmt.Eval x.tree) state))) (all_arguments state.scope vs)
      (λ xs. keeps Broken (called k name xs c) (λ x. Ok (moved (stmt.Eval x.tree) state)) (called_fine name xs c) (λ x. tt)))

  return_fine : (gives_int : Bool) (state : State) (at : ℕ) (v : Option Value) → Fine (return_of k gives_int state at v)
  unfolding return_of
  return_fine true state at None = bare 10 at refl
  return_fine false state at None = tt
  return_fine true state at (Some v) = keeps Broken (int_of k state.scope v) (λ e. Ok (moved (stmt.Return (place_in k at) (Some e)) state)) (int_fine state.scope v) (λ e. tt)
  return_fine false state at (Some v) = bare 10 at refl

  module _ {Y Z : Type 0} (p : Y → Action) (q : (y : Y) → FineStep (step (p y))) (pb : Z → Branch) (qb : (z : Z) → FineChoice (choice (pb z))) where
    each_fine : (ys : List Y) → Each FineStep (map step (map p ys))
    each_fine [] = tt
    each_fine (y ∷ ys) = (q y, each_fine ys)

    each_choice_fine : (zs : List Z) → Each FineChoice (map choice (map pb zs))
    each_choice_fine [] = tt
    each_choice_fine (z ∷ zs) = (qb z, each_choice_fine zs)

    action_layer : (y : Action-F Y Z) → FineStep (action_step (map-Action Action Branch Step Choice step choice (map-Action Y Z Action Branch p pb y)))
    action_layer (Action-F.Block ss) gives_int state =
        keeps Broken (scoped (map step (map p ss)) k gives_int state) (λ x. Ok (moved (stmt.Block x.stmts) x.state)) (scoped_fine (map step (map p ss)) (each_fine ss) gives_int state) (λ x. tt)
    action_layer (Action-F.Declare at name v) gives_int state = declare_fine state at name v
    action_layer (Action-F.Assign at name v) gives_int state = assign_fine state at name v
    action_layer (Action-F.Call name vs) gives_int state = call_fine state name vs
    action_layer (Action-F.If at bs last) gives_int state =
        let choices = map choice (map pb bs) in
        let lasts = map step (map p last) in
        let from : Chosen = record { branches = []; state = state } in
        keeps Broken (each_choice choices k gives_int from) (λ x. go_on (scoped lasts k gives_int x.state) (λ y. Ok (moved (stmt.If (place_in k at) x.branches y.stmts) y.state))) (choices_fine choices (each_choice_fine bs) gives_int from)
        (λ x. keeps Broken (scoped lasts k gives_int x.state) (λ y. Ok (moved (stmt.If (place_in k at) x.branches y.stmts) y.state)) (scoped_fine lasts (each_fine last) gives_int x.state) (λ y. tt))
    action_layer (Action-F.While at test body) gives_int state =
        keeps Broken (condition_of k state.scope test) (λ e. go_on (one_scoped (step (p body)) k gives_int state) (λ x. Ok (moved (stmt.While (place_in k at) e x.stmts) x.state))) (condition_fine state.scope test)
        (λ e. keeps Broken (one_scoped (step (p body)) k gives_int state) (λ x. Ok (moved (stmt.While (place_in k at) e x.stmts) x.state)) (one_fine (step (p body)) (q body) gives_int state) (λ x. tt))
    action_layer (Action-F.Return at v) gives_int state = return_fine gives_int state at v

    branch_layer : (z : Branch-F Y Z) → FineChoice (branch_step (map-Branch Action Branch Step Choice step choice (map-Branch Y Z Action Branch p pb z)))
    branch_layer z gives_int from =
        keeps Broken (condition_of k from.state.scope z.test) (λ e. go_on (one_scoped (step (p z.body)) k gives_int from.state) (λ x. Ok (record { branches = from.branches ++ record { condition = e; body = x.stmts } ∷ []; state = x.state }))) (condition_fine from.state.scope z.test)
        (λ e. keeps Broken (one_scoped (step (p z.body)) k gives_int from.state) (λ x. Ok (record { branches = from.branches ++ record { condition = e; body = x.stmts } ∷ []; state = x.state })) (one_fine (step (p z.body)) (q z.body) gives_int from.state) (λ x. tt))

  step_fine : (a : Action) → FineStep (step a)
  step_fine = ind-Action (λ a. FineStep (step a)) (λ b. FineChoice (choice b))
      (λ x y is. subst (λ z. FineStep (step (roll-Action z))) is (subst FineStep (sym (fold-roll-Action Step Choice action_step branch_step (map-Action _ _ Action Branch (λ e. e.0) (λ e. e.0) y))) (action_layer (λ e. e.0) (λ e. e.1) (λ e. e.0) (λ e. e.1) y)))
      (λ x y is. subst (λ z. FineChoice (choice (roll-Branch z))) is (subst FineChoice (sym (fold-roll-Branch Step Choice action_step branch_step (map-Branch _ _ Action Branch (λ e. e.0) (λ e. e.0) y))) (branch_layer (λ e. e.0) (λ e. e.1) (λ e. e.0) (λ e. e.1) y)))

  all_steps : (as_ : List Action) → Each FineStep (map step as_)
  all_steps [] = tt
  all_steps (a ∷ as_) = (step_fine a, all_steps as_)

  -- ---- functions

  parameters_fine : (all : List Local) (ps : List Parameter) → Fine (each_parameter all ps k)
  parameters_fine all [] = tt
  parameters_fine all (p ∷ ps) =
      by_case Broken (is_some (visible p.name.spelling all)) (Err (refuse k 7 p.at p.name.spelling)) (each_parameter (all ++ record { name = p.name.spelling; at = p.at } ∷ []) ps k)
      (of_name 7 p.at p.name.spelling refl) (parameters_fine (all ++ record { name = p.name.spelling; at = p.at } ∷ []) ps)

  finished_fine : (f : Function) (body : Body) → Fine (finished k f body)
  unfolding finished
  finished_fine f body =
      by_case Broken (f.gives_int && all_of (map completes body.stmts)) (Err (refuse k 25 f.at [])) (cond (nat_le (body_weight body) 4194304) (Ok body) (Err (refuse k 18 f.at []))) (bare 25 f.at refl)
      (by_case Broken (nat_le (body_weight body) 4194304) (Ok body) (Err (refuse k 18 f.at [])) tt (bare 18 f.at refl))

  body_fine : (f : Function) → Fine (body_of k f)
  unfolding body_of steps_of
  body_fine f =
      keeps Broken (each_parameter [] f.parameters k) (λ ps. go_on (steps_of k f.gives_int (record { scope = ps; declared = [] }) f.body) (λ x. finished k f (body_with k f (map (λ l. variable_in k l.at) ps) x))) (parameters_fine [] f.parameters)
      (λ ps. keeps Broken (steps_of k f.gives_int (record { scope = ps; declared = [] }) f.body) (λ x. finished k f (body_with k f (map (λ l. variable_in k l.at) ps) x))
      (steps_fine (map step f.body) (all_steps f.body) f.gives_int (record { stmts = []; state = record { scope = ps; declared = [] } }))
      (λ x. finished_fine f (body_with k f (map (λ l. variable_in k l.at) ps) x)))

  each_body_fine : (all : List Body) (fs : List Function) → Fine (each_body all fs k)
  each_body_fine all [] = tt
  each_body_fine all (f ∷ fs) = keeps Broken (body_of k f) (λ b. each_body (all ++ b ∷ []) fs k) (body_fine f) (λ b. each_body_fine (all ++ b ∷ []) fs)

  bodies_fine : Fine (bodies_of k)
  unfolding bodies_of
  bodies_fine = each_body_fine [] k.functions

  -- ---- modules

  module _ (tokens : List Token) where
    abbrev OfFront : Refusal → Type 0
    OfFront r = IsOfFront k.home tokens r

    main_lawful : Lawful OfFront (main_of k)
    unfolding main_of
    main_lawful = by_name (named (codes "main") k.functions) where
      by_name : (o : Option Function) → Lawful OfFront (main_by k o)
      by_name None = IsOfFront.NoMain refl
      by_name (Some f) = by_case OfFront (nat_eq (length f.parameters) 0) (Ok (main_call k f)) (Err no_main) tt (IsOfFront.NoMain refl)

    resolved_lawful : Lawful OfFront (resolved_of k)
    unfolding resolved_of
    resolved_lawful =
        keeps OfFront (bodies_of k) (λ bodies. go_on (main_of k) (λ start. Ok (record { bodies = bodies; start = start }))) (wider Broken OfFront (λ r b. IsOfFront.Broken b) (bodies_of k) bodies_fine)
        (λ bodies. keeps OfFront (main_of k) (λ start. Ok (record { bodies = bodies; start = start })) main_lawful (λ start. tt))

module _ (home : List ℕ) (tokens : List Token) where
  by_built_lawful : (b : Built Program) → Lawful (IsOfFront home tokens) (by_built home tokens b)
  by_built_lawful (Err at) = IsOfFront.Unbuilt at refl
  by_built_lawful (Ok program) = resolved_lawful (record { home = home; prints = program.prints; functions = program.functions }) tokens

  by_line_lawful : (ds : List Declaration) (line : Option ModuleLine) → Lawful (IsOfFront home tokens) (by_line home tokens ds line)
  by_line_lawful ds (Some line) = IsOfFront.Unbuilt line.at refl
  by_line_lawful ds None = by_built_lawful (program_of ds)

  judged_lawful : (tree : ModuleTree) → Lawful (IsOfFront home tokens) (judged_of home tokens tree)
  unfolding judged_of
  judged_lawful tree = by_line_lawful tree.declarations tree.line

pub refusals_are_of_front : RefusalsAreOfFront
refusals_are_of_front home tokens tree r e = subst (λ j. Lawful (IsOfFront home tokens) j) e (judged_lawful home tokens tree)
