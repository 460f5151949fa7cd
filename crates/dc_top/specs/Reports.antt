-- The lines of a report.
use Rattle.std.specs.Prelude.{ℕ, ◌+◌, ◌==◌, List, [], ◌∷◌, ◌++◌, length, take, count_by, codes, if◌then◌else◌, ℤ}
use Rattle.std.specs.Fmt.{decimal, signed_decimal}
use Rattle.dc_types.specs.declared.place.Step.{Step}
use Rattle.dc_types.specs.declared.place.Step.TheVariants.{At, Round, With}
use Rattle.dc_types.specs.declared.place.Place.{Place}
use Rattle.dc_types.specs.declared.refusal.Refusal.{Refusal}
use Rattle.dc_types.specs.declared.event.TrapKind.{TrapKind}
use Rattle.dc_types.specs.declared.event.TrapKind.TheVariants as kind
use Rattle.dc_types.specs.declared.event.Trap.{Trap}
use Rattle.dc_top.specs.Names.{behind_last}

-- the line of an offset, from 1: one more than the line feeds before it
unfoldable pub line_of : List ℕ → ℕ → ℕ
line_of text offset = 1 + count_by (λ b. b == 10) (take offset text)

-- the column of an offset, from 1: one more than the bytes between the last line feed before it and the offset
unfoldable pub column_of : List ℕ → ℕ → ℕ
column_of text offset = 1 + length (behind_last 10 (take offset text))

-- `LINE:COLUMN`
unfoldable pub point_text : List ℕ → ℕ → List ℕ
point_text text offset = decimal (line_of text offset) ++ (codes ":" ++ decimal (column_of text offset))

-- the text that the next offset counts in
abbrev pub first_text : List (List ℕ) → List ℕ
first_text [] = []
first_text (text ∷ texts) = text

abbrev pub other_texts : List (List ℕ) → List (List ℕ)
other_texts [] = []
other_texts (text ∷ texts) = texts

-- The steps of a place: an offset is shown behind the front, and each one after the first behind `, mixin `. The texts are
-- those that the offsets count in: the file's, and then that of each mixin on the way.
abbrev pub steps_text : List ℕ → List (List ℕ) → List Step → List ℕ
steps_text front texts [] = []
steps_text front texts (At offset ∷ steps) = front ++ (point_text (first_text texts) offset ++ steps_text (codes ", mixin ") (other_texts texts) steps)
steps_text front texts (Round number ∷ steps) = codes ", round " ++ (decimal number ++ steps_text front texts steps)
steps_text front texts (With key ∷ steps) = codes ", with " ++ (key ++ steps_text front texts steps)

-- how a place is shown: `MODULE:LINE:COLUMN` and its further steps, or `-` for the whole program
unfoldable pub place_text : List (List ℕ) → Place → List ℕ
place_text texts place = if length place.module + length place.steps == 0 then codes "-" else place.module ++ steps_text (codes ":") texts place.steps

-- the name of a rule, by its number
unfoldable pub rule_name : ℕ → List ℕ
rule_name rule =
    if rule == 1 then codes "text" else
    (if rule == 2 then codes "grammar" else
    (if rule == 3 then codes "module twice" else
    (if rule == 4 then codes "no such module" else
    (if rule == 5 then codes "not found" else
    (if rule == 6 then codes "name conflict" else
    (if rule == 7 then codes "declared twice" else
    (if rule == 8 then codes "circular" else
    (if rule == 9 then codes "late declaration" else
    (if rule == 10 then codes "types" else
    (if rule == 11 then codes "no match" else
    (if rule == 12 then codes "ambiguous" else
    (if rule == 13 then codes "template" else
    (if rule == 14 then codes "static assert" else
    (if rule == 15 then codes "not constant" else
    (if rule == 16 then codes "compile-time trap" else
    (if rule == 17 then codes "compile-time ticks" else
    (if rule == 18 then codes "count" else
    (if rule == 19 then codes "mixin bytes" else
    (if rule == 20 then codes "no main" else
    (if rule == 21 then codes "mixin text" else
    (if rule == 22 then codes "not assignable" else
    (if rule == 23 then codes "outside profile" else
    (if rule == 24 then codes "size" else
    (if rule == 25 then codes "flow" else
    []))))))))))))))))))))))))

-- behind a colon, where there is one
unfoldable pub detail_text : List ℕ → List ℕ
detail_text [] = []
detail_text (b ∷ bs) = codes ": " ++ b ∷ bs

-- `refused: rule R NAME at PLACE: DETAIL`
unfoldable pub refused_line : List (List ℕ) → Refusal → List ℕ
refused_line texts refusal =
    codes "refused: rule " ++ (decimal refusal.rule ++ (codes " " ++ (rule_name refusal.rule
    ++ (codes " at " ++ (place_text texts refusal.place ++ (detail_text refusal.detail ++ codes "\n"))))))

unfoldable pub read_fault_line : List ℕ → List ℕ
read_fault_line file = codes "read fault: " ++ (file ++ codes "\n")

unfoldable pub usage_line : List ℕ
usage_line = codes "usage: dpc run|check|audit|gen\n"

-- the name of a trap
abbrev pub trap_name : TrapKind → List ℕ
trap_name kind.Divide = codes "Divide"
trap_name kind.Shift = codes "Shift"
trap_name kind.Bounds = codes "Bounds"
trap_name kind.Length = codes "Length"
trap_name kind.Overlap = codes "Overlap"
trap_name kind.Assert = codes "Assert"
trap_name kind.Heap = codes "Heap"
trap_name kind.Depth = codes "Depth"

-- `trap: KIND at PLACE`
unfoldable pub trap_line : List (List ℕ) → Trap → List ℕ
trap_line texts trap = codes "trap: " ++ (trap_name trap.kind ++ (codes " at " ++ (place_text texts trap.place ++ codes "\n")))

-- `bound: N ticks`
unfoldable pub bound_line : ℕ → List ℕ
bound_line ticks = codes "bound: " ++ (decimal ticks ++ codes " ticks\n")

-- `ended: N`
unfoldable pub ended_line : ℤ → List ℕ
ended_line number = codes "ended: " ++ (signed_decimal number ++ codes "\n")
