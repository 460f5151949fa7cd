-- What resolved trees do (D specification, "Expressions", "Statements" and "Functions"). A part of a tree goes on from
-- where the parts before it have come to, and gives a value or ends the run. Operands go from left to right.
use Rattle.std.specs.Prelude.{ℕ, zero, suc, ◌+◌, ◌||◌, nat_lt, nat_le, Bool, List, [], ◌∷◌, ◌++◌, Option, Some, None, Result, Ok, Err, ℤ, map, if◌then◌else◌}
use Rattle.dc_types.specs.declared.kind.Kind.{Kind}
use Rattle.dc_types.specs.declared.kind.BinOp.{BinOp}
use Rattle.dc_types.specs.declared.place.Place.{Place}
use Rattle.dc_types.specs.declared.ty.Ty.{Ty}
use Rattle.dc_value.specs.declared.value.Value.{Value}
use Rattle.dc_types.specs.declared.event.TrapKind.{TrapKind}
use Rattle.dc_types.specs.declared.event.TrapKind.TheVariants.{Depth}
use Rattle.dc_types.specs.declared.event.Event.{Event}
use Rattle.dc_types.specs.declared.event.Event.TheVariants.{Enter, Turn, Print}
use Rattle.dc_types.specs.declared.event.Limits.{Limits}
use Rattle.dc_types.specs.Integers.{binary, compare}
use Rattle.dc_types.specs.Same as same
use Rattle.core_tree.specs.Values.{num, number_in, nothing, number_of_tree, truth_number, is_zero, texts_of}
use Rattle.core_tree.specs.Weight.{body_weight}
use Rattle.core_tree.specs.declared.tree.Variable.{Variable}
use Rattle.core_tree.specs.declared.tree.Operation.{Operation}
use Rattle.core_tree.specs.declared.tree.Tree.{Tree}
use Rattle.core_tree.specs.declared.tree.Tree.TheOpen.{Tree-F}
use Rattle.core_tree.specs.declared.tree.Tree.TheFolds.{fold-Tree}
use Rattle.core_tree.specs.declared.stmt.Branch.{Branch}
use Rattle.core_tree.specs.declared.stmt.Stmt.{Stmt}
use Rattle.core_tree.specs.declared.stmt.Stmt.TheOpen.{Stmt-F}
use Rattle.core_tree.specs.declared.stmt.Stmt.TheFolds.{fold-Stmt}
use Rattle.core_tree.specs.declared.body.Body.{Body}

-- ---- a run

-- what the variable declared at a place holds
pub record Held : Type 0 where
  pub place : Place
  pub value : Value

-- a run so far: the variables of the function that runs, the ticks that are left, and the events
pub record State : Type 0 where
  pub locals : List Held
  pub left : ℕ
  pub events : List Event

-- How a run ends: with a value, with a trap at a place, before an event that has no tick left, or, which closed trees
-- never do, at a call of a function without a body.
pub data End : Type 0 where
  Gave : Value → End
  Trapped : TrapKind → Place → End
  Bound : End
  Missing : Place → End

-- what a part of a tree comes to
pub data Ran (A : Type 0) : Type 0 where
  Goes : A → State → Ran A
  Over : End → List Event → Ran A

abbrev pub Part : Type 0 → Type 0
Part A = State → Ran A

abbrev pub and_then : {A B : Type 0} → Ran A → (A → Part B) → Ran B
and_then (Goes a s) go = go a s
and_then (Over end events) go = Over end events

-- two parts, from left to right
abbrev pub both : {A B : Type 0} → Part A → Part B → Part (A × B)
both a b s = and_then (a s) (λ x s. and_then (b s) (λ y s. Goes (x, y) s))

-- several parts, from left to right
abbrev pub each : {A : Type 0} → List (Part A) → Part (List A)
each [] s = Goes [] s
each (part ∷ parts) s = and_then (part s) (λ x s. and_then (each parts s) (λ xs s. Goes (x ∷ xs) s))

abbrev pub happens : Event → State → State
happens event s = record s { events = s.events ++ event ∷ [] }

-- An event that takes a tick. Where none is left the run is over before it.
abbrev pub tick_by : {A : Type 0} → ℕ → Event → Part A → Part A
tick_by zero event go s = Over Bound s.events
tick_by (suc n) event go s = go (record s { left = n; events = s.events ++ event ∷ [] })

abbrev pub tick : {A : Type 0} → Event → Part A → Part A
tick event go s = tick_by s.left event go s

-- ---- expressions

abbrev pub value_at : Place → List Held → Value
value_at place [] = nothing
value_at place (h ∷ hs) = if same.place h.place place then h.value else value_at place hs

abbrev pub with_value : Place → Value → List Held → List Held
with_value place v [] = []
with_value place v (h ∷ hs) = if same.place h.place place then record h { value = v } ∷ hs else h ∷ with_value place v hs

abbrev pub assigned : Place → Value → Part Value
assigned place v s = Goes v (record s { locals = with_value place v s.locals })

-- a number, or the trap that an operator meets
abbrev pub given : Place → Result ℤ TrapKind → Part Value
given place (Ok z) s = Goes (num z) s
given place (Err trap) s = Over (Trapped trap place) s.events

abbrev pub operated : Place → BinOp → Kind → Value × Value → Part Value
operated place op k xy = given place (binary op k (number_in xy.0) (number_in xy.1))

-- The operations of a chain go on from the value so far. Each one's operand is evaluated before its operator is applied.
abbrev pub chained : Place → Kind → List (Operation (Part Value)) → Value → Part Value
chained place k [] x s = Goes x s
chained place k (o ∷ os) x s = and_then (o.operand s) (λ y s. and_then (operated place o.operator k (x, y) s) (chained place k os))

-- All arguments are evaluated, and then printed as one piece. A line feed ends a line.
abbrev pub printed : List Ty → Bool → List Value → Part Value
printed tys line vs s = Goes nothing (happens (Print (texts_of tys vs ++ (if line then 10 ∷ [] else []))) s)

-- a call at a place of the function declared at another, with its arguments
abbrev pub Calls : Type 0
Calls = Place → Place → List Value → Part Value

abbrev pub tree_step : Calls → Tree-F (Part Value) → Part Value
tree_step calls (Tree-F.Constant place c) s = Goes (num (number_of_tree c.tree)) s
tree_step calls (Tree-F.Local place v) s = Goes (value_at v.place s.locals) s
tree_step calls (Tree-F.Assign place v e) s = and_then (e s) (assigned v.place)
tree_step calls (Tree-F.Chain place k first rest) s = and_then (first s) (chained place k rest)
tree_step calls (Tree-F.Compare place op k a b) s = and_then (both a b s) (λ xy s. Goes (num (truth_number (compare op (number_in xy.0) (number_in xy.1)))) s)
tree_step calls (Tree-F.Call place f ty args) s = and_then (each args s) (calls place f)
tree_step calls (Tree-F.Print place tys args line) s = and_then (each args s) (printed tys line)

abbrev pub tree_meaning : Calls → Tree → Part Value
tree_meaning calls = fold-Tree (Part Value) (tree_step calls)

-- ---- statements

-- the next statement follows, or the function returns
pub data Flow : Type 0 where
  Next : Flow
  Back : Value → Flow

abbrev pub next_or : Flow → Part Flow → Part Flow
next_or Next go s = go s
next_or (Back v) go s = Goes (Back v) s

abbrev pub block : List (Part Flow) → Part Flow
block [] s = Goes Next s
block (part ∷ parts) s = and_then (part s) (λ flow. next_or flow (block parts))

-- A turn starts once its condition held, and the test that ends the loop takes no tick. There are at most n turns, which
-- is no limit where no more than n ticks are left.
abbrev pub turns : ℕ → Place → Part Value → Part Flow → Part Flow
turns zero place test body s = and_then (test s) (λ v s. if is_zero v then Goes Next s else Over Bound s.events)
turns (suc n) place test body s =
    and_then (test s) (λ v s. if is_zero v then Goes Next s else tick (Turn place) (λ s. and_then (body s) (λ flow. next_or flow (turns n place test body))) s)

abbrev pub returned : Calls → Option Tree → Part Flow
returned calls None s = Goes (Back nothing) s
returned calls (Some e) s = and_then (tree_meaning calls e s) (λ v s. Goes (Back v) s)

-- the first branch whose condition holds, and the last part where none does
abbrev pub branched : Calls → List (Branch (Part Flow)) → Part Flow → Part Flow
branched calls [] last s = last s
branched calls (b ∷ bs) last s = and_then (tree_meaning calls b.condition s) (λ v s. if is_zero v then branched calls bs last s else block b.body s)

abbrev pub stmt_step : Calls → Stmt-F (Part Flow) → Part Flow
stmt_step calls (Stmt-F.Eval e) s = and_then (tree_meaning calls e s) (λ v s. Goes Next s)
stmt_step calls (Stmt-F.Declare v e) s = and_then (and_then (tree_meaning calls e s) (assigned v.place)) (λ v s. Goes Next s)
stmt_step calls (Stmt-F.Block stmts) s = block stmts s
stmt_step calls (Stmt-F.If place branches last) s = branched calls branches (block last) s
stmt_step calls (Stmt-F.While place e body) s = turns s.left place (tree_meaning calls e) (block body) s
stmt_step calls (Stmt-F.Return place e) s = returned calls e s

abbrev pub stmt_meaning : Calls → Stmt → Part Flow
stmt_meaning calls = fold-Stmt (Part Flow) (stmt_step calls)

abbrev pub stmts_meaning : Calls → List Stmt → Part Flow
stmts_meaning calls stmts = block (map (stmt_meaning calls) stmts)

-- ---- calls

-- the calls that are open: their number, and the sum of their weights
pub record Opened : Type 0 where
  pub depth : ℕ
  pub weight : ℕ

-- one more open call of this weight passes a limit
abbrev pub is_too_deep : Limits → Opened → ℕ → Bool
is_too_deep limits opened weight = nat_le limits.depth opened.depth || nat_lt limits.stack (opened.weight + weight)

abbrev pub within : Opened → ℕ → Opened
within opened weight = record { depth = opened.depth + 1; weight = opened.weight + weight }

-- the variables of a function that begins. None but the parameters is read before it is declared.
abbrev pub handed : List Variable → List Value → List Held
handed [] vs = []
handed (p ∷ ps) [] = record { place = p.place; value = nothing } ∷ handed ps []
handed (p ∷ ps) (v ∷ vs) = record { place = p.place; value = v } ∷ handed ps vs

abbrev pub frame : Body → List Value → List Held
frame f args = handed f.params args ++ handed f.locals []

abbrev pub body_at : List Body → Place → Option Body
body_at [] place = None
body_at (f ∷ fs) place = if same.place f.place place then Some f else body_at fs place

-- A function that comes to its end returns nothing.
abbrev pub result_of : Flow → Value
result_of Next = nothing
result_of (Back v) = v

-- The function is entered, and then the limits are looked at. Its caller goes on with its own variables.
abbrev pub enter : (Opened → Calls) → Limits → Opened → Place → Place → Option Body → List Value → Part Value
enter calls limits opened place f None args s = Over (Missing f) s.events
enter calls limits opened place f (Some b) args s = tick (Enter b.place) (λ s.
    if is_too_deep limits opened (body_weight b) then Over (Trapped Depth place) s.events else
    and_then (stmts_meaning (calls (within opened (body_weight b))) b.stmts (record s { locals = frame b args }))
    (λ flow t. Goes (result_of flow) (record t { locals = s.locals }))) s

-- Calls stand at most n deep in one another, which is no limit where no more than n ticks are left.
abbrev pub calls_of : List Body → Limits → ℕ → Opened → Calls
calls_of bodies limits zero opened place f args s = Over Bound s.events
calls_of bodies limits (suc n) opened place f args s = enter (calls_of bodies limits n) limits opened place f (body_at bodies f) args s

-- ---- whole runs

pub record Outcome : Type 0 where
  pub events : List Event
  pub end : End

abbrev pub outcome : Ran Value → Outcome
outcome (Goes v s) = record { events = s.events; end = Gave v }
outcome (Over end events) = record { events = events; end = end }

abbrev pub no_calls : Opened
no_calls = record { depth = 0; weight = 0 }

abbrev pub begun : ℕ → State
begun n = record { locals = []; left = n; events = [] }

-- What an expression does over these bodies, in at most n ticks.
abbrev pub meaning : List Body → Tree → Limits → ℕ → Outcome
meaning bodies start limits n = outcome (tree_meaning (calls_of bodies limits n no_calls) start (begun n))
