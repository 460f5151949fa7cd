-- What the bound on ticks does to a meaning.
use Rattle.std.specs.Prelude.{◌≡◌, ℕ, ◌≤◌, List}
use Rattle.dc_types.specs.declared.event.Limits.{Limits}
use Rattle.dc_types.specs.Events.{ticks, BeginsWith}
use Rattle.core_tree.specs.Meaning.{Bound, meaning}
use Rattle.core_tree.specs.declared.tree.Tree.{Tree}
use Rattle.core_tree.specs.declared.body.Body.{Body}

-- A meaning within n ticks takes n at most, and all n where it ends for want of one more. A larger bound lengthens the list
-- of events alone, and changes nothing where the end is another one.
pub record IsBounded (bodies : List Body) (start : Tree) (limits : Limits) (n : ℕ) : Type 0 where
  pub at_most : ticks (meaning bodies start limits n).events ≤ n
  pub all_taken : (meaning bodies start limits n).end ≡ Bound → ticks (meaning bodies start limits n).events ≡ n
  pub lengthened : (m : ℕ) → n ≤ m → BeginsWith (meaning bodies start limits n).events (meaning bodies start limits m).events
  pub stays : (m : ℕ) → n ≤ m → ((meaning bodies start limits n).end ≡ Bound → ⊥) → meaning bodies start limits m ≡ meaning bodies start limits n

-- So it is with all bodies and starts, typed and closed or not.
abbrev pub TicksBound : Type 0
TicksBound = (bodies : List Body) (start : Tree) (limits : Limits) (n : ℕ) → IsBounded bodies start limits n
