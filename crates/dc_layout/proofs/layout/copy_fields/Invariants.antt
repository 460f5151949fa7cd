use Rattle.std.proofs.Common.{◌≡◌, take}
use Rattle.dc_layout.proofs.layout.copy_fields.Given as goal

abbrev pub invariant-loop-field : goal.invariant-loop-field
invariant-loop-field l = l.copy ≡ take l.field-index l.field-items
