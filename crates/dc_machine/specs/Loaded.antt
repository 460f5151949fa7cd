-- A machine that was opened on code.
use Rattle.std.specs.Prelude.{◌≡◌, ◌+◌, ◌≤◌, [], map, vec_capacity}
use Rattle.std.specs.List.{All}
use Rattle.dc_machine.specs.After.{IsSimple}
use Rattle.dc_machine.specs.declared.machine.Loaded.TheInside.{Inside}

-- The instructions are the code's, without their places, and the machine runs each of them. There is room for all
-- frames that the limits allow.
pub record IsLoaded (m : Inside) : Type 0 where
  pub ops : m.ops.items ≡ map (λ i. i.op) m.code.instrs
  pub simple : All (λ i. IsSimple i.op) m.code.instrs
  pub no_words : m.words.items ≡ []
  pub no_callers : m.callers.items ≡ []
  pub words : 4194304 + m.limits.stack ≤ vec_capacity m.words
  pub callers : m.limits.depth ≤ vec_capacity m.callers
