-- How the end of a run is told.
use Rattle.std.specs.Prelude.{ℕ, List, [], ◌∷◌, pos, if◌then◌else◌}
use Rattle.std.specs.Ordering.{int_eq}
use Rattle.dc_types.specs.declared.status.Status.TheVariants as status
use Rattle.dc_top.specs.declared.program.Ending.{Ending}
use Rattle.dc_top.specs.declared.program.Ending.TheVariants as ending
use Rattle.dc_top.specs.declared.told.Told.{Told}
use Rattle.dc_top.specs.Reports.{trap_line, bound_line, ended_line}

-- How the end of a run in at most n ticks is told: by its status, and by the line of the report, which is empty where
-- `main` gave nothing or 0. The text is the one that places count in.
abbrev pub told_as : List ℕ → ℕ → Ending → Told
told_as text n (ending.Number z) =
    if int_eq z (pos 0) then record { status = status.Done; line = [] } else record { status = status.EndedWith; line = ended_line z }
told_as text n (ending.Trapped trap) = record { status = status.Trapped; line = trap_line (text ∷ []) trap }
told_as text n ending.Bound = record { status = status.Bound; line = bound_line n }
