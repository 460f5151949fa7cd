-- Code does what bodies and starts mean.
use Rattle.std.specs.Prelude.{◌≡◌, ℕ, List, Some, slice_get}
use Rattle.dc_types.specs.declared.ty.Ty.{Ty}
use Rattle.dc_types.specs.declared.ty.Ty.TheViews.{out-Ty}
use Rattle.dc_types.specs.declared.event.Limits.{Limits}
use Rattle.dc_code.specs.State as machine
use Rattle.dc_code.specs.Exec.{Exec, first_blocks}
use Rattle.dc_code.specs.declared.code.Draft.{Draft}
use Rattle.core_tree.specs.Meaning.{End, Gave, Trapped, Bound, Missing, meaning}
use Rattle.core_tree.specs.Nodes.{own_type}
use Rattle.core_tree.specs.declared.tree.Tree.{Tree}
use Rattle.core_tree.specs.declared.body.Body.{Body}
use Rattle.core_lower_expr.specs.Frames.{words_at}

-- How the machine ends where the meaning ends so, with a value of this type: the words of the value, the same trap at the
-- same place, or the bound. The code's own blocks are as they were. It is never at a call of a function without a body.
abbrev pub machine_end : Draft → Ty → End → machine.End
machine_end code ty (Gave v) = machine.Returned (words_at (out-Ty ty) v) (first_blocks code)
machine_end code ty (Trapped trap place) = machine.Trapped trap place
machine_end code ty Bound = machine.Bound
machine_end code ty (Missing f) = machine.Stuck

-- For each start, within all limits and for every bound of ticks, the run of its entry has the events and the end of its
-- meaning over the bodies.
abbrev pub Runs : List Body → List Tree → Draft → Type 0
Runs bodies starts code =
    (entry : ℕ) (start : Tree) → slice_get starts entry ≡ Some start → (limits : Limits) (n : ℕ) →
    Exec code entry limits n (meaning bodies start limits n).events (machine_end code (own_type start) (meaning bodies start limits n).end)
