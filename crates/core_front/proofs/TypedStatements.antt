-- What statements are resolved to is typed, and their variables are those of the function.
use Rattle.std.proofs.Common.{◌≡◌, refl, sym, ap, subst, ◌∙◌, ℕ, zero, suc, Bool, true, false, ◌&&◌, List, [], ◌∷◌, ◌++◌, map, length, take, Option, Some, None, Ok}
use Rattle.dc_types.specs.declared.kind.Kind.TheVariants as kind
use Rattle.dc_types.specs.declared.place.Place.{Place}
use Rattle.dc_types.specs.declared.ty.Ty.{Ty}
use Rattle.core_tree.specs.Values.{int, void}
use Rattle.core_tree.specs.Nodes.{branch_with}
use Rattle.core_tree.specs.Typed.{Each, all_of, is_of, is_among, is_condition, is_number, is_typed, is_void, branches_typed, returns, stmt_typed_step, stmt_typed, typed_as, type_of}
use Rattle.core_tree.specs.declared.tree.Variable.{Variable}
use Rattle.core_tree.specs.declared.tree.Tree.{Tree}
use Rattle.core_tree.specs.declared.tree.Tree.TheVariants as tree
use Rattle.core_tree.specs.declared.stmt.Branch.{Branch as Resolved}
use Rattle.core_tree.specs.declared.stmt.Stmt.{Stmt}
use Rattle.core_tree.specs.declared.stmt.Stmt.TheVariants as stmt
use Rattle.core_tree.specs.declared.stmt.Stmt.TheOpen.{Stmt-F}
use Rattle.core_tree.specs.declared.stmt.Stmt.TheFolds.{fold-roll-Stmt}
use Rattle.core_tree.specs.declared.body.Body.{Body}
use Rattle.dc_ast.specs.declared.name.Name.{Name}
use Rattle.core_front.specs.Building.{is_some}
use Rattle.core_front.specs.Naming.{visible}
use Rattle.core_front.specs.Judging.{go_on, refuse, place_in, variable_in, result_of, variable_of, int_of, condition_of, callee_of, arguments_of, called}
use Rattle.core_front.specs.JudgingStatements.{Step, Choice, moved, each_step, left, scoped, one_scoped, declaring, declare_of, assignment, assign_of, call_of, return_of, each_choice, action_step, branch_step, step, choice}
use Rattle.core_front.specs.declared.built.Action.{Action}
use Rattle.core_front.specs.declared.built.Action.TheOpen.{Action-F, Branch-F}
use Rattle.core_front.specs.declared.built.Action.TheViews.{roll-Action}
use Rattle.core_front.specs.declared.built.Action.TheFolds.{map-Action, map-Branch, fold-roll-Action, fold-roll-Branch, ind-Action}
use Rattle.core_front.specs.declared.built.Branch.{Branch, roll-Branch}
use Rattle.core_front.specs.declared.built.Value.{Value}
use Rattle.core_front.specs.declared.judged.Chosen.{Chosen}
use Rattle.core_front.specs.declared.judged.Known.{Known}
use Rattle.core_front.specs.declared.judged.Moved.{Moved}
use Rattle.core_front.specs.declared.judged.State.{State}
use Rattle.core_front.specs.declared.judged.Stepped.{Stepped}
use Rattle.core_front.specs.declared.scope.Local.{Local}
use Rattle.core_front.proofs.TypedValues.{ok_is, no_ok, goes, other, both, and_true, same_ty, is_int, int_is_number, each_more, Held, CallsFit, t_assign, variable_int, variable_held, int_fine, call_fine, condition_fine}

pub each_front : {X : Type 0} (P : X → Type 0) (xs ys : List X) → Each P (xs ++ ys) → Each P xs
each_front P [] ys h = tt
each_front P (x ∷ xs) ys h = (h.0, each_front P xs ys h.1)

pub each_back : {X : Type 0} (P : X → Type 0) (xs ys : List X) → Each P (xs ++ ys) → Each P ys
each_back P [] ys h = h
each_back P (x ∷ xs) ys h = each_back P xs ys h.1

each_take : {X : Type 0} (P : X → Type 0) (n : ℕ) (xs : List X) → Each P xs → Each P (take n xs)
each_take P zero xs h = tt
each_take P (suc n) [] h = tt
each_take P (suc n) (x ∷ xs) h = (h.0, each_take P n xs h.1)

all_more : (bs : List Bool) (b : Bool) → all_of bs ≡ true → b ≡ true → all_of (bs ++ b ∷ []) ≡ true
all_more [] b h e = and_true b true e refl
all_more (c ∷ bs) b h e = let x = both c (all_of bs) h in and_true c (all_of (bs ++ b ∷ [])) x.0 (all_more bs b x.1 e)

map_more : {A B : Type 0} (f : A → B) (xs : List A) (y : A) → map f (xs ++ y ∷ []) ≡ map f xs ++ f y ∷ []
map_more f [] y = refl
map_more f (x ∷ xs) y = ap (λ l. f x ∷ l) (map_more f xs y)

-- a variable is a number of type `int`
abbrev pub IsInt : Variable → Type 0
IsInt v = v.ty ≡ int kind.I32

some_typed : (o : Option Ty) (ty : Ty) → o ≡ Some ty → is_typed o ≡ true
some_typed o ty e = ap is_typed e

module _ (k : Known) (bodies : List Body) (vars : List Variable) (gives_int : Bool) (calls : CallsFit k bodies vars) where
  abbrev T : Tree → Option Ty
  T = type_of bodies vars

  abbrev S : Stmt → Bool
  S = stmt_typed bodies vars (result_of gives_int)

  abbrev All : List Stmt → Bool
  All ss = all_of (map S ss)

  abbrev Branches : List (Resolved Stmt) → Bool
  Branches bs = branches_typed bodies vars (map (branch_with S) bs)

  -- the variables are among those of the function
  abbrev Within : List Variable → Type 0
  Within vs = Each (λ v. is_among v vars ≡ true) vs

  abbrev H : List Local → Type 0
  H = Held k bodies vars

  -- ---- nodes

  s_eval : (e : Tree) → S (stmt.Eval e) ≡ is_typed (T e)
  s_eval e = ap S (sym (stmt.rolls-Eval e)) ∙ fold-roll-Stmt Bool (stmt_typed_step bodies vars (result_of gives_int)) (Stmt-F.Eval e)

  s_declare : (v : Variable) (e : Tree) → S (stmt.Declare v e) ≡ (is_among v vars && is_of v.ty (T e))
  s_declare v e = ap S (sym (stmt.rolls-Declare v e)) ∙ fold-roll-Stmt Bool (stmt_typed_step bodies vars (result_of gives_int)) (Stmt-F.Declare v e)

  s_block : (ss : List Stmt) → S (stmt.Block ss) ≡ All ss
  s_block ss = ap S (sym (stmt.rolls-Block ss)) ∙ fold-roll-Stmt Bool (stmt_typed_step bodies vars (result_of gives_int)) (Stmt-F.Block ss)

  s_if : (p : Place) (bs : List (Resolved Stmt)) (last : List Stmt) → S (stmt.If p bs last) ≡ (Branches bs && All last)
  s_if p bs last = ap S (sym (stmt.rolls-If p bs last)) ∙ fold-roll-Stmt Bool (stmt_typed_step bodies vars (result_of gives_int)) (Stmt-F.If p bs last)

  s_while : (p : Place) (e : Tree) (body : List Stmt) → S (stmt.While p e body) ≡ (is_condition (T e) && All body)
  s_while p e body = ap S (sym (stmt.rolls-While p e body)) ∙ fold-roll-Stmt Bool (stmt_typed_step bodies vars (result_of gives_int)) (Stmt-F.While p e body)

  s_return : (p : Place) (e : Option Tree) → S (stmt.Return p e) ≡ returns bodies vars (result_of gives_int) e
  s_return p e = ap S (sym (stmt.rolls-Return p e)) ∙ fold-roll-Stmt Bool (stmt_typed_step bodies vars (result_of gives_int)) (Stmt-F.Return p e)

  branches_more : (bs : List (Resolved Stmt)) (b : Resolved Stmt) → Branches bs ≡ true → is_condition (T b.condition) ≡ true → All b.body ≡ true → Branches (bs ++ b ∷ []) ≡ true
  branches_more [] b h c e = and_true (is_condition (T b.condition)) (All b.body && true) c (and_true (All b.body) true e refl)
  branches_more (d ∷ bs) b h c e =
      let x = both (is_condition (T d.condition)) (All d.body && Branches bs) h in
      let y = both (All d.body) (Branches bs) x.1 in
      and_true (is_condition (T d.condition)) (All d.body && Branches (bs ++ b ∷ [])) x.0 (and_true (All d.body) (Branches (bs ++ b ∷ [])) y.0 (branches_more bs b y.1 c e))

  -- ---- what is known of what a statement is resolved to

  -- The variables before are among those behind. Where those are the function's, what is open is held, and the statement is typed.
  pub record Fits (state : State) (m : Moved) : Type 0 where
    pub ints : Each IsInt state.declared → Each IsInt m.state.declared
    pub back : Within m.state.declared → Within state.declared
    pub held : Within m.state.declared → H state.scope → H m.state.scope
    pub typed : Within m.state.declared → H state.scope → S m.stmt ≡ true

  pub record AllFit (from to : Stepped) : Type 0 where
    pub ints : Each IsInt from.state.declared → Each IsInt to.state.declared
    pub back : Within to.state.declared → Within from.state.declared
    pub held : Within to.state.declared → H from.state.scope → H to.state.scope
    pub typed : Within to.state.declared → H from.state.scope → All from.stmts ≡ true → All to.stmts ≡ true

  pub record BranchesFit (from to : Chosen) : Type 0 where
    pub ints : Each IsInt from.state.declared → Each IsInt to.state.declared
    pub back : Within to.state.declared → Within from.state.declared
    pub held : Within to.state.declared → H from.state.scope → H to.state.scope
    pub typed : Within to.state.declared → H from.state.scope → Branches from.branches ≡ true → Branches to.branches ≡ true

  abbrev GoodStep : Step → Type 0
  GoodStep s = (state : State) (m : Moved) → s k gives_int state ≡ Ok m → Fits state m

  abbrev GoodChoice : Choice → Type 0
  GoodChoice b = (from to : Chosen) → b k gives_int from ≡ Ok to → BranchesFit from to

  -- a statement that declares nothing
  same_state : (state : State) (s : Stmt) → (H state.scope → S s ≡ true) → Fits state (moved s state)
  same_state state s h = record { ints = λ i. i; back = λ w. w; held = λ w x. x; typed = λ w x. h x }

  -- ---- one behind the other

  steps_fit : (ss : List Step) → Each GoodStep ss → (from to : Stepped) → each_step ss k gives_int from ≡ Ok to → AllFit from to
  steps_fit [] goods from to e = subst (AllFit from) (ok_is from to e) (record { ints = λ i. i; back = λ w. w; held = λ w x. x; typed = λ w x t. t })
  steps_fit (s ∷ ss) goods from to e =
      let g = goes (s k gives_int from.state) (λ x. each_step ss k gives_int (record { stmts = from.stmts ++ x.stmt ∷ []; state = x.state })) to e in
      let m = g.0 in
      let a = goods.0 from.state m g.1 in
      let mid : Stepped = record { stmts = from.stmts ++ m.stmt ∷ []; state = m.state } in
      let b = steps_fit ss goods.1 mid to g.2 in
      record {
        ints = λ i. b.ints (a.ints i);
        back = λ w. a.back (b.back w);
        held = λ w x. b.held w (a.held (b.back w) x);
        typed = λ w x t. b.typed w (a.held (b.back w) x) (ap all_of (map_more S from.stmts m.stmt) ∙ all_more (map S from.stmts) (S m.stmt) t (a.typed (b.back w) x));
      }

  abbrev none_yet : State → Stepped
  none_yet state = record { stmts = []; state = state }

  -- what is declared inside ends there
  scoped_fit : (ss : List Step) → Each GoodStep ss → (state : State) (to : Stepped) → scoped ss k gives_int state ≡ Ok to → AllFit (none_yet state) to
  scoped_fit ss goods state to e =
      let g = goes (each_step ss k gives_int (none_yet state)) (λ x. Ok (record { stmts = x.stmts; state = left state x.state })) to e in
      let x = g.0 in
      let a = steps_fit ss goods (none_yet state) x g.1 in
      subst (AllFit (none_yet state)) (ok_is (record { stmts = x.stmts; state = left state x.state }) to g.2) (record {
        ints = a.ints;
        back = a.back;
        held = λ w h. each_take (λ l. is_among (variable_in k l.at) vars ≡ true) (length state.scope) x.state.scope (a.held w h);
        typed = a.typed;
      })

  one_fits : (s : Step) → GoodStep s → (state : State) (to : Stepped) → one_scoped s k gives_int state ≡ Ok to → AllFit (none_yet state) to
  unfolding one_scoped
  one_fits s good state to e = scoped_fit (s ∷ []) (good, tt) state to e

  choices_fit : (bs : List Choice) → Each GoodChoice bs → (from to : Chosen) → each_choice bs k gives_int from ≡ Ok to → BranchesFit from to
  choices_fit [] goods from to e = subst (BranchesFit from) (ok_is from to e) (record { ints = λ i. i; back = λ w. w; held = λ w x. x; typed = λ w x t. t })
  choices_fit (c ∷ bs) goods from to e =
      let g = goes (c k gives_int from) (each_choice bs k gives_int) to e in
      let a = goods.0 from g.0 g.1 in
      let b = choices_fit bs goods.1 g.0 to g.2 in
      record {
        ints = λ i. b.ints (a.ints i);
        back = λ w. a.back (b.back w);
        held = λ w x. b.held w (a.held (b.back w) x);
        typed = λ w x t. b.typed w (a.held (b.back w) x) (a.typed (b.back w) x t);
      }

  -- ---- statements

  declare_fits : (state : State) (at : ℕ) (name : Name) (v : Value) (m : Moved) → declare_of k state at name v ≡ Ok m → Fits state m
  unfolding declare_of declaring
  declare_fits state at name v m e =
      let o = other (is_some (visible name.spelling state.scope)) (go_on (int_of k state.scope v) (λ x. Ok (moved (stmt.Declare (variable_in k at) x) (declaring k state at name)))) m (refuse k 7 at name.spelling) e in
      let g = goes (int_of k state.scope v) (λ x. Ok (moved (stmt.Declare (variable_in k at) x) (declaring k state at name))) m o.1 in
      let x = g.0 in
      let new = variable_in k at in
      let is = variable_int k bodies vars calls at in
      subst (Fits state) (ok_is (moved (stmt.Declare new x) (declaring k state at name)) m g.2) (record {
        ints = λ i. each_more IsInt state.declared new i is;
        back = λ w. each_front (λ v. is_among v vars ≡ true) state.declared (new ∷ []) w;
        held = λ w h. each_more (λ l. is_among (variable_in k l.at) vars ≡ true) state.scope (record { name = name.spelling; at = at }) h (each_back (λ v. is_among v vars ≡ true) state.declared (new ∷ []) w).0;
        typed = λ w h. s_declare new x ∙ and_true (is_among new vars) (is_of new.ty (T x)) (each_back (λ v. is_among v vars ≡ true) state.declared (new ∷ []) w).0 (ap (λ t. is_of t (T x)) is ∙ is_int (T x) (int_fine k bodies vars calls state.scope h v x g.1));
      })

  assign_fits : (state : State) (at : ℕ) (name : Name) (v : Value) (m : Moved) → assign_of k state at name v ≡ Ok m → Fits state m
  unfolding assign_of assignment
  assign_fits state at name v m e =
      let f = goes (variable_of k state.scope name) (λ to. go_on (int_of k state.scope v) (λ x. Ok (moved (assignment k at to x) state))) m e in
      let to = f.0 in
      let g = goes (int_of k state.scope v) (λ x. Ok (moved (assignment k at to x) state)) m f.2 in
      let x = g.0 in
      let new = variable_in k to in
      let assigned = tree.Assign (place_in k at) new x in
      subst (Fits state) (ok_is (moved (assignment k at to x) state) m g.2) (same_state state (assignment k at to x) (λ h.
      let good = and_true (is_among new vars) (is_of new.ty (T x)) (variable_held k bodies vars calls state.scope h name to f.1) (ap (λ t. is_of t (T x)) (variable_int k bodies vars calls to) ∙ is_int (T x) (int_fine k bodies vars calls state.scope h v x g.1)) in
      s_eval assigned ∙ some_typed (T assigned) new.ty (t_assign k bodies vars (place_in k at) new x ∙ ap (λ b. typed_as b new.ty) good)))

  call_fits : (state : State) (name : Name) (vs : List Value) (m : Moved) → call_of k state name vs ≡ Ok m → Fits state m
  unfolding call_of
  call_fits state name vs m e =
      let c = goes (callee_of k state.scope name) (λ c. go_on (arguments_of k state.scope vs) (λ xs. go_on (called k name xs c) (λ x. Ok (moved (stmt.Eval x.tree) state)))) m e in
      let a = goes (arguments_of k state.scope vs) (λ xs. go_on (called k name xs c.0) (λ x. Ok (moved (stmt.Eval x.tree) state))) m c.2 in
      let g = goes (called k name a.0 c.0) (λ x. Ok (moved (stmt.Eval x.tree) state)) m a.2 in
      let x = g.0 in
      subst (Fits state) (ok_is (moved (stmt.Eval x.tree) state) m g.2) (same_state state (stmt.Eval x.tree) (λ h.
      s_eval x.tree ∙ some_typed (T x.tree) (result_of x.gives_int) (call_fine k bodies vars calls state.scope h name vs c.0 a.0 x c.1 a.1 g.1)))

  return_fits : (g : Bool) → g ≡ gives_int → (state : State) (at : ℕ) (v : Option Value) (m : Moved) → return_of k g state at v ≡ Ok m → Fits state m
  unfolding return_of
  return_fits true is state at None m e = no_ok (refuse k 10 at []) m e
  return_fits false is state at None m e =
      let r = stmt.Return (place_in k at) None in
      subst (Fits state) (ok_is (moved r state) m e) (same_state state r (λ h. s_return (place_in k at) None ∙ (ap (λ b. is_void (result_of b)) (sym is) ∙ same_ty void)))
  return_fits true is state at (Some v) m e =
      let g = goes (int_of k state.scope v) (λ x. Ok (moved (stmt.Return (place_in k at) (Some x)) state)) m e in
      let x = g.0 in
      let r = stmt.Return (place_in k at) (Some x) in
      subst (Fits state) (ok_is (moved r state) m g.2) (same_state state r (λ h.
      s_return (place_in k at) (Some x) ∙ (ap (λ b. is_number (result_of b) && is_of (result_of b) (T x)) (sym is) ∙
      and_true (is_number (int kind.I32)) (is_of (int kind.I32) (T x)) int_is_number (is_int (T x) (int_fine k bodies vars calls state.scope h v x g.1)))))
  return_fits false is state at (Some v) m e = no_ok (refuse k 10 at []) m e

  module _ {Y Z : Type 0} (p : Y → Action) (q : (y : Y) → GoodStep (step (p y))) (pb : Z → Branch) (qb : (z : Z) → GoodChoice (choice (pb z))) where
    good_steps : (ys : List Y) → Each GoodStep (map step (map p ys))
    good_steps [] = tt
    good_steps (y ∷ ys) = (q y, good_steps ys)

    good_choices : (zs : List Z) → Each GoodChoice (map choice (map pb zs))
    good_choices [] = tt
    good_choices (z ∷ zs) = (qb z, good_choices zs)

    layer : (y : Action-F Y Z) → GoodStep (action_step (map-Action Action Branch Step Choice step choice (map-Action Y Z Action Branch p pb y)))
    layer (Action-F.Block ss) state m e =
        let steps = map step (map p ss) in
        let g = goes (scoped steps k gives_int state) (λ x. Ok (moved (stmt.Block x.stmts) x.state)) m e in
        let x = g.0 in
        let a = scoped_fit steps (good_steps ss) state x g.1 in
        subst (Fits state) (ok_is (moved (stmt.Block x.stmts) x.state) m g.2) (record { ints = a.ints; back = a.back; held = a.held; typed = λ w h. s_block x.stmts ∙ a.typed w h refl })
    layer (Action-F.Declare at name v) state m e = declare_fits state at name v m e
    layer (Action-F.Assign at name v) state m e = assign_fits state at name v m e
    layer (Action-F.Call name vs) state m e = call_fits state name vs m e
    layer (Action-F.If at bs last) state m e =
        let choices = map choice (map pb bs) in
        let lasts = map step (map p last) in
        let from : Chosen = record { branches = []; state = state } in
        let g = goes (each_choice choices k gives_int from) (λ x. go_on (scoped lasts k gives_int x.state) (λ y. Ok (moved (stmt.If (place_in k at) x.branches y.stmts) y.state))) m e in
        let x = g.0 in
        let f = goes (scoped lasts k gives_int x.state) (λ y. Ok (moved (stmt.If (place_in k at) x.branches y.stmts) y.state)) m g.2 in
        let y = f.0 in
        let a = choices_fit choices (good_choices bs) from x g.1 in
        let b = scoped_fit lasts (good_steps last) x.state y f.1 in
        subst (Fits state) (ok_is (moved (stmt.If (place_in k at) x.branches y.stmts) y.state) m f.2) (record {
          ints = λ i. b.ints (a.ints i);
          back = λ w. a.back (b.back w);
          held = λ w h. b.held w (a.held (b.back w) h);
          typed = λ w h. s_if (place_in k at) x.branches y.stmts ∙ and_true (Branches x.branches) (All y.stmts) (a.typed (b.back w) h refl) (b.typed w (a.held (b.back w) h) refl);
        })
    layer (Action-F.While at test body) state m e =
        let g = goes (condition_of k state.scope test) (λ t. go_on (one_scoped (step (p body)) k gives_int state) (λ x. Ok (moved (stmt.While (place_in k at) t x.stmts) x.state))) m e in
        let t = g.0 in
        let f = goes (one_scoped (step (p body)) k gives_int state) (λ x. Ok (moved (stmt.While (place_in k at) t x.stmts) x.state)) m g.2 in
        let x = f.0 in
        let a = one_fits (step (p body)) (q body) state x f.1 in
        subst (Fits state) (ok_is (moved (stmt.While (place_in k at) t x.stmts) x.state) m f.2) (record {
          ints = a.ints;
          back = a.back;
          held = a.held;
          typed = λ w h. s_while (place_in k at) t x.stmts ∙ and_true (is_condition (T t)) (All x.stmts) (condition_fine k bodies vars calls state.scope h test t g.1) (a.typed w h refl);
        })
    layer (Action-F.Return at v) state m e = return_fits gives_int refl state at v m e

    branch_layer : (z : Branch-F Y Z) → GoodChoice (branch_step (map-Branch Action Branch Step Choice step choice (map-Branch Y Z Action Branch p pb z)))
    branch_layer z from to e =
        let g = goes (condition_of k from.state.scope z.test) (λ t. go_on (one_scoped (step (p z.body)) k gives_int from.state) (λ x. Ok (record { branches = from.branches ++ record { condition = t; body = x.stmts } ∷ []; state = x.state }))) to e in
        let t = g.0 in
        let f = goes (one_scoped (step (p z.body)) k gives_int from.state) (λ x. Ok (record { branches = from.branches ++ record { condition = t; body = x.stmts } ∷ []; state = x.state })) to g.2 in
        let x = f.0 in
        let a = one_fits (step (p z.body)) (q z.body) from.state x f.1 in
        subst (BranchesFit from) (ok_is (record { branches = from.branches ++ record { condition = t; body = x.stmts } ∷ []; state = x.state }) to f.2) (record {
          ints = a.ints;
          back = a.back;
          held = a.held;
          typed = λ w h bs. branches_more from.branches (record { condition = t; body = x.stmts }) bs (condition_fine k bodies vars calls from.state.scope h z.test t g.1) (a.typed w h refl);
        })

  pub good_step : (a : Action) → GoodStep (step a)
  good_step = ind-Action (λ a. GoodStep (step a)) (λ b. GoodChoice (choice b))
      (λ x y is. subst (λ z. GoodStep (step (roll-Action z))) is (subst GoodStep (sym (fold-roll-Action Step Choice action_step branch_step (map-Action _ _ Action Branch (λ e. e.0) (λ e. e.0) y))) (layer (λ e. e.0) (λ e. e.1) (λ e. e.0) (λ e. e.1) y)))
      (λ x y is. subst (λ z. GoodChoice (choice (roll-Branch z))) is (subst GoodChoice (sym (fold-roll-Branch Step Choice action_step branch_step (map-Branch _ _ Action Branch (λ e. e.0) (λ e. e.0) y))) (branch_layer (λ e. e.0) (λ e. e.1) (λ e. e.0) (λ e. e.1) y)))

  all_good : (as_ : List Action) → Each GoodStep (map step as_)
  all_good [] = tt
  all_good (a ∷ as_) = (good_step a, all_good as_)

  -- the statements of a function, whose declared variables are among its own
  pub statements_fit : (as_ : List Action) (from to : Stepped) → each_step (map step as_) k gives_int from ≡ Ok to → AllFit from to
  statements_fit as_ from to e = steps_fit (map step as_) (all_good as_) from to e
