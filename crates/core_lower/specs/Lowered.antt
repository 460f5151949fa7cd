-- The code of bodies, and of the expressions with which runs begin.
use Rattle.std.specs.Prelude.{ℕ, ◌+◌, ◌-◌, List, [], ◌∷◌, ◌++◌, length, map, Option, Some, None, slice_set, if◌then◌else◌}
use Rattle.std.specs.Option.{unwrap_or}
use Rattle.dc_types.specs.declared.place.Place.{Place}
use Rattle.dc_types.specs.declared.ty.Ty.{Ty}
use Rattle.dc_types.specs.declared.ty.Ty.TheOpen.{Ty-F}
use Rattle.dc_types.specs.declared.ty.Ty.TheViews.{out-Ty}
use Rattle.dc_types.specs.Same as same
use Rattle.dc_code.specs.declared.instr.Op.TheVariants as op
use Rattle.dc_code.specs.declared.instr.Instr.{Instr}
use Rattle.dc_code.specs.declared.instr.Function.{Function}
use Rattle.dc_code.specs.declared.code.Draft.{Draft}
use Rattle.core_tree.specs.Weight.{tree_weight, body_weight}
use Rattle.core_tree.specs.Typed.{variables_of}
use Rattle.core_tree.specs.Nodes.{place_of, own_type}
use Rattle.core_tree.specs.declared.tree.Variable.{Variable}
use Rattle.core_tree.specs.declared.tree.Tree.{Tree}
use Rattle.core_tree.specs.declared.stmt.Branch.{Branch}
use Rattle.core_tree.specs.declared.stmt.Stmt.{Stmt}
use Rattle.core_tree.specs.declared.stmt.Stmt.TheOpen.{Stmt-F}
use Rattle.core_tree.specs.declared.stmt.Stmt.TheFolds.{fold-Stmt}
use Rattle.core_tree.specs.declared.body.Body.{Body}
use Rattle.core_lower_expr.specs.Lowered.{Names, Codes, instr, no_code, block_code, then_ops, assign_ops, tree_code}

-- ---- statements

-- the test, a jump past the first side, that side with a jump past the second, and the second
abbrev pub if_code : Place → Codes → Codes → Codes → Codes
if_code place test one other pc spare =
    let first = pc + length (test pc spare) + 1 in
    let second = first + length (one first spare) + 1 in
    test pc spare ++ (instr place (op.JumpZero spare second) ∷ (one first spare ++
    (instr place (op.Jump (second + length (other second spare))) ∷ other second spare)))

-- each branch an `if` whose second side are the branches behind it, or the last part
abbrev pub branched_code : Names → Place → List (Branch Codes) → Codes → Codes
branched_code names place [] last = last
branched_code names place (b ∷ bs) last = if_code place (tree_code names b.condition) (block_code b.body) (branched_code names place bs last)

-- A branch with a jump to an end. Such branches one behind the other, and the last part behind them, are what the branches
-- of an `if` are, where the end is behind them all.
abbrev pub branch_code : Names → Place → ℕ → Branch Codes → Codes
branch_code names place end b pc spare =
    let first = pc + length (tree_code names b.condition pc spare) + 1 in
    let second = first + length (block_code b.body first spare) + 1 in
    tree_code names b.condition pc spare ++ (instr place (op.JumpZero spare second) ∷ (block_code b.body first spare ++ instr place (op.Jump end) ∷ []))

abbrev pub branches_code : Names → Place → ℕ → List (Branch Codes) → Codes
branches_code names place end bs = block_code (map (branch_code names place end) bs)

-- where the last instruction of each of these codes stands
abbrev pub last_of_each : List Codes → ℕ → ℕ → List ℕ
last_of_each [] pc spare = []
last_of_each (c ∷ cs) pc spare = (pc + length (c pc spare) - 1) ∷ last_of_each cs (pc + length (c pc spare)) spare

-- where the jumps to the end stand
abbrev pub branch_jumps : Names → Place → List (Branch Codes) → ℕ → ℕ → List ℕ
branch_jumps names place bs = last_of_each (map (branch_code names place 0) bs)

-- one instruction at each of these numbers
abbrev pub set_each : List Instr → List ℕ → Instr → List Instr
set_each instrs [] i = instrs
set_each instrs (n ∷ ns) i = set_each (slice_set instrs n i) ns i

-- A jump to the test, the turn, the body, the test, and a jump back to the turn: so the test of a loop stands behind its
-- body, and the only jump that leads back leads to a turn.
abbrev pub while_code : Place → Codes → Codes → Codes
while_code place test body pc spare =
    let at = pc + 2 + length (body (pc + 2) spare) in
    instr place (op.Jump at) ∷ (instr place op.Turn ∷ (body (pc + 2) spare ++ (test at spare ++ instr place (op.JumpOther spare (pc + 1)) ∷ [])))

abbrev pub return_ops : Place → ℕ → ℕ → List Instr
return_ops place n d = instr place (op.Return d n) ∷ []

abbrev pub returned_code : Names → Place → Option Tree → Codes
returned_code names place None = then_ops no_code (return_ops place 0)
returned_code names place (Some e) = then_ops (tree_code names e) (return_ops place 1)

abbrev pub stmt_code_step : Names → Stmt-F Codes → Codes
stmt_code_step names (Stmt-F.Eval e) = tree_code names e
stmt_code_step names (Stmt-F.Declare v e) = then_ops (tree_code names e) (assign_ops v.place (names.slot v.place))
stmt_code_step names (Stmt-F.Block stmts) = block_code stmts
stmt_code_step names (Stmt-F.If place branches last) = branched_code names place branches (block_code last)
stmt_code_step names (Stmt-F.While place e body) = while_code place (tree_code names e) (block_code body)
stmt_code_step names (Stmt-F.Return place e) = returned_code names place e

abbrev pub stmt_code : Names → Stmt → Codes
stmt_code names = fold-Stmt Codes (stmt_code_step names)

abbrev pub stmts_code : Names → List Stmt → Codes
stmts_code names stmts = block_code (map (stmt_code names) stmts)

-- ---- names

-- the number of a place in a list, counted from n, if it stands there
abbrev pub found_from : ℕ → Place → List Place → Option ℕ
found_from n place [] = None
found_from n place (p ∷ ps) = if same.place p place then Some n else found_from (n + 1) place ps

abbrev pub number_at : Place → List Place → ℕ
number_at place ps = unwrap_or (found_from 0 place ps) 0

abbrev pub variable_places : List Variable → List Place
variable_places vs = map (λ v. v.place) vs

abbrev pub body_places : List Body → List Place
body_places fs = map (λ f. f.place) fs

-- the names in a function with these variables: each variable has a slot, in their order, and each body a function
abbrev pub names_in : List Body → List Variable → Names
names_in bodies vs = record { slot = λ place. number_at place (variable_places vs); function = λ place. number_at place (body_places bodies) }

-- ---- functions

-- how many words a value of the type has
abbrev pub count_by : {A : Type 0} → Ty-F A → ℕ
count_by (Ty-F.Int k) = 1
count_by _ = 0

abbrev pub count_of : Ty → ℕ
count_of ty = count_by (out-Ty ty)

-- A function that comes to its end returns nothing. One that is to give a number never comes there.
abbrev pub end_by : {A : Type 0} → Ty-F A → Place → ℕ → List Instr
end_by (Ty-F.Int k) place d = instr place (op.Const d 0) ∷ instr place (op.Return d 1) ∷ []
end_by _ place d = instr place (op.Return d 0) ∷ []

abbrev pub body_code : List Body → Body → ℕ → List Instr
body_code bodies f pc =
    let spare = length (variables_of f) in
    stmts_code (names_in bodies (variables_of f)) f.stmts pc spare ++ end_by (out-Ty f.result) f.place spare

abbrev pub function_of : Body → ℕ → Function
function_of f first = record { place = f.place; first = first; weight = body_weight f; params = length f.params; result = count_of f.result }

-- the code of functions one after another from an instruction on, and the functions
abbrev pub bodies_code : List Body → List Body → ℕ → List Instr
bodies_code bodies [] pc = []
bodies_code bodies (f ∷ fs) pc = body_code bodies f pc ++ bodies_code bodies fs (pc + length (body_code bodies f pc))

abbrev pub functions_from : List Body → List Body → ℕ → List Function
functions_from bodies [] pc = []
functions_from bodies (f ∷ fs) pc = function_of f pc ∷ functions_from bodies fs (pc + length (body_code bodies f pc))

-- an entry, which gives the value of an expression
abbrev pub start_code : Names → Tree → ℕ → List Instr
start_code names e pc = tree_code names e pc 0 ++ return_ops (place_of e) (count_of (own_type e)) 0

abbrev pub entry_of : Tree → ℕ → Function
entry_of e first = record { place = place_of e; first = first; weight = tree_weight e; params = 0; result = count_of (own_type e) }

abbrev pub starts_code : Names → List Tree → ℕ → List Instr
starts_code names [] pc = []
starts_code names (e ∷ es) pc = start_code names e pc ++ starts_code names es (pc + length (start_code names e pc))

abbrev pub entries_from : Names → List Tree → ℕ → List Function
entries_from names [] pc = []
entries_from names (e ∷ es) pc = entry_of e pc ∷ entries_from names es (pc + length (start_code names e pc))

abbrev pub numbers_from : {X : Type 0} → ℕ → List X → List ℕ
numbers_from n [] = []
numbers_from n (x ∷ xs) = n ∷ numbers_from (n + 1) xs

-- the functions of the bodies, and behind them an entry for each start
abbrev pub lowered : List Body → List Tree → Draft
lowered bodies starts =
    let code = bodies_code bodies bodies 0 in
    record {
      functions = functions_from bodies bodies 0 ++ entries_from (names_in bodies []) starts (length code);
      instrs = code ++ starts_code (names_in bodies []) starts (length code);
      blocks = [];
      globals = [];
      entries = numbers_from (length bodies) starts;
    }
