-- How the machine follows the code of an expression.
use Rattle.std.specs.Prelude.{◌≡◌, ℕ, ◌+◌, ◌≤◌, List, [], ◌∷◌, ◌++◌, length, map, Some, slice_get, IsTrue}
use Rattle.dc_types.specs.declared.kind.Kind.{Kind}
use Rattle.dc_types.specs.declared.place.Place.{Place}
use Rattle.dc_types.specs.declared.ty.Ty.{Ty}
use Rattle.dc_types.specs.declared.ty.Ty.TheOpen.{Ty-F}
use Rattle.dc_types.specs.declared.ty.Ty.TheViews.{out-Ty}
use Rattle.dc_value.specs.declared.value.Value.{Value}
use Rattle.dc_types.specs.declared.event.Event.{Event}
use Rattle.dc_types.specs.declared.event.Limits.{Limits}
use Rattle.dc_types.specs.Integers.{InKind}
use Rattle.dc_code.specs.State as machine
use Rattle.dc_code.specs.State.{Machine, Run, On, Done}
use Rattle.dc_code.specs.Exec.{first_blocks, steps}
use Rattle.dc_code.specs.declared.instr.Instr.{Instr}
use Rattle.dc_code.specs.declared.run.Nest.{Nest}
use Rattle.dc_code.specs.declared.run.Caller.{Caller}
use Rattle.dc_code.specs.declared.code.Draft.{Draft}
use Rattle.core_tree.specs.Values.{number_in}
use Rattle.core_tree.specs.Weight.{tree_weight}
use Rattle.core_tree.specs.Meaning.{Held, State, End, Gave, Trapped, Bound, Missing, Ran, Goes, Over, Part, Calls, body_at, tree_meaning}
use Rattle.core_tree.specs.Typed.{are_numbers, types_of, type_of}
use Rattle.core_tree.specs.declared.tree.Variable.{Variable}
use Rattle.core_tree.specs.declared.tree.Tree.{Tree}
use Rattle.core_tree.specs.declared.body.Body.{Body}
use Rattle.core_lower_expr.specs.Lowered.{Names, Codes, call_ops, tree_code}
use Rattle.core_lower_expr.specs.Frames.{word, fine_at, words_at, Slotted}

-- ---- code and runs

-- the instructions stand in the list at this place
abbrev pub HasAt : List Instr → ℕ → List Instr → Type 0
HasAt code pc [] = Unit {0}
HasAt code pc (i ∷ is) = (slice_get code pc ≡ Some i) × HasAt code (pc + 1) is

-- A run comes to another: for each number of steps from there, a number of steps from here gives the same.
pub record Leads (code : Draft) (limits : Limits) (from to : Run) : Type 0 where
  pub by : (k : ℕ) → (j : ℕ) × (steps code limits j from ≡ steps code limits k to)

-- ---- variables and their words

abbrev pub words_of : List Held → List ℕ
words_of hs = map (λ h. word h.value) hs

pub record Fits (v : Variable) (h : Held) : Type 0 where
  pub place : h.place ≡ v.place
  pub fine : fine_at (out-Ty v.ty) h.value

-- the variables hold values of their types
abbrev pub Good : List Variable → List Held → Type 0
Good [] [] = Unit {0}
Good (v ∷ vs) (h ∷ hs) = Fits v h × Good vs hs
Good [] (h ∷ hs) = ⊥
Good (v ∷ vs) [] = ⊥

-- where a function runs: the words of the frames below its own, and where its callers go on
pub record Here : Type 0 where
  pub below : List ℕ
  pub callers : List Caller

abbrev pub front : Here → State → List ℕ → List ℕ
front h s temps = (h.below ++ words_of s.locals) ++ temps

-- ---- ends

-- an end but a value, as the machine has it
abbrev pub stop_of : End → machine.End
stop_of (Gave v) = machine.Stuck
stop_of (Trapped trap place) = machine.Trapped trap place
stop_of Bound = machine.Bound
stop_of (Missing f) = machine.Stuck

abbrev pub IsStop : End → Type 0
IsStop (Gave v) = ⊥
IsStop (Trapped trap place) = Unit {0}
IsStop Bound = Unit {0}
IsStop (Missing f) = Unit {0}

pub record Ended (code : Draft) (limits : Limits) (from : Run) (end : End) (events : List Event) : Type 0 where
  pub taken : ℕ
  pub stops : IsStop end
  pub by : Leads code limits from (Done (stop_of end) events taken)

-- ---- results

-- a form of results: the words that they take, and what is known of them
pub record Form : Type 1 where
  pub A : Type 0
  pub words : A → List ℕ
  pub Fine : A → Type 0

-- a value of a type
abbrev pub value : Ty-F Ty → Form
value x = record { A = Value; words = words_at x; Fine = fine_at x }

-- a value that is a number of the kind that its type says
pub record IsNumber (ty : Ty) (v : Value) : Type 0 where
  pub kind : Kind
  pub is : out-Ty ty ≡ Ty-F.Int kind
  pub fine : InKind kind (number_in v)

abbrev pub AreFine : List Ty → List Value → Type 0
AreFine [] [] = Unit {0}
AreFine (ty ∷ tys) (v ∷ vs) = IsNumber ty v × AreFine tys vs
AreFine [] (v ∷ vs) = ⊥
AreFine (ty ∷ tys) [] = ⊥

-- numbers of these types
abbrev pub values : List Ty → Form
values tys = record { A = List Value; words = map word; Fine = AreFine tys }

module _ (code : Draft) (limits : Limits) (nest : Nest) (h : Here) (vars : List Variable) where
  -- the machine in the function: its memory is a function of the state of the meaning
  abbrev pub having : ℕ → ℕ → State → List ℕ → Machine
  having pc taken s words = record {
    pc = pc;
    words = words;
    base = length h.below;
    callers = h.callers;
    nest = nest;
    blocks = first_blocks code;
    cells = 0;
    pending = [];
    left = s.left;
    taken = taken;
    events = s.events;
  }

  abbrev pub at : ℕ → ℕ → State → List ℕ → List ℕ → Machine
  at pc taken s temps more = having pc taken s (front h s temps ++ more)

  abbrev pub M : ℕ → ℕ → State → List ℕ → List ℕ → Run
  M pc taken s temps more = On (at pc taken s temps more)

  -- the slots of the variables
  abbrev pub fixed : ℕ
  fixed = length vars

  -- The machine has come to a place: its memory is that of the state, the temporaries stand, and the result's words follow.
  pub record Went (F : Form) (from : Run) (pc : ℕ) (temps : List ℕ) (room before : ℕ) (a : F.A) (s : State) : Type 0 where
    pub rest : List ℕ
    pub taken : ℕ
    pub fine : F.Fine a
    pub good : Good vars s.locals
    pub fills : length (F.words a) + length rest ≡ room
    pub ticks : s.left ≤ before
    pub by : Leads code limits from (M pc taken s temps (F.words a ++ rest))

  abbrev pub Gives : (F : Form) → Run → ℕ → List ℕ → ℕ → ℕ → Ran F.A → Type 0
  Gives F from pc temps room before (Goes a s) = Went F from pc temps room before a s
  Gives F from pc temps room before (Over end events) = Ended code limits from end events

  module _ (fuel : ℕ) where
    -- the code of a part does what the part does, where at most fuel ticks are left
    abbrev pub Follows : (F : Form) → Codes → ℕ → Part F.A → Type 0
    Follows F c size m =
        (pc spare taken : ℕ) (temps more : List ℕ) (s : State) →
        HasAt code.instrs pc (c pc spare) → spare ≡ fixed + length temps → Good vars s.locals → size ≤ length more → s.left ≤ fuel →
        Gives F (M pc taken s temps more) (pc + length (c pc spare)) temps (length more) s.left (m s)

    -- instructions on the words of a result, of which there are some more behind
    abbrev pub Operates : (F G : Form) → (ℕ → List Instr) → (F.A → Part G.A) → Type 0
    Operates F G ops go =
        (pc spare taken : ℕ) (temps rest : List ℕ) (s : State) (a : F.A) →
        HasAt code.instrs pc (ops spare) → spare ≡ fixed + length temps → Good vars s.locals → F.Fine a → 5 ≤ length (F.words a ++ rest) → s.left ≤ fuel →
        Gives G (M pc taken s temps (F.words a ++ rest)) (pc + length (ops spare)) temps (length (F.words a ++ rest)) s.left (go a s)

-- The machine's calls do what these calls do, where the function has a body and is handed values of its parameters' types.
abbrev pub CallsFollow : (code : Draft) (limits : Limits) (nest : Nest) (bodies : List Body) (fuel : ℕ) (function : Place → ℕ) → Calls → Type 0
CallsFollow code limits nest bodies fuel function calls =
    (h : Here) (vars : List Variable) (place f : Place) (b : Body) → body_at bodies f ≡ Some b →
    Operates code limits nest h vars fuel (values (types_of b.params)) (value (out-Ty b.result)) (call_ops place (function f)) (calls place f)

-- The code of a typed expression does what the expression means, wherever its instructions stand and however many ticks are
-- left: it stops as the meaning does, after the same events, or the words of the value stand from the first spare slot on,
-- behind all that stood below it. It asks for no more words than the expression weighs. Variables are numbers and have the
-- slots of their names, and calls are followed.
abbrev pub Lowers : Type 0
Lowers =
    (code : Draft) (limits : Limits) (nest : Nest) (h : Here) (vars : List Variable) (fuel : ℕ) (bodies : List Body) (names : Names) (calls : Calls) →
    IsTrue (are_numbers (types_of vars)) → Slotted vars names.slot →
    ((f : Place) (b : Body) → body_at bodies f ≡ Some b → IsTrue (are_numbers (types_of b.params))) →
    CallsFollow code limits nest bodies fuel names.function calls →
    (e : Tree) (ty : Ty) → type_of bodies vars e ≡ Some ty →
    Follows code limits nest h vars fuel (value (out-Ty ty)) (tree_code names e) (tree_weight e) (tree_meaning calls e)
