use Rattle.std.proofs.Common.{◌≡◌, ◌≤◌, drop}
use Rattle.dc_layout.specs.Cells.{total_in}
use Rattle.dc_layout.proofs.layout.struct_in.Given as goal

-- what is left decides
abbrev pub invariant-loop-field : goal.invariant-loop-field
invariant-loop-field l = (total_in l.known.entries l.total (drop l.field-index l.fields) ≡ total_in l.known.entries 0 l.fields) × (l.total ≤ 1048577)
