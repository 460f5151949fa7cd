use Rattle.std.proofs.Common.{◌≡◌, map, take}
use Rattle.dc_layout.proofs.start.field_starts.Given as goal

abbrev pub invariant-loop-field : goal.invariant-loop-field
invariant-loop-field l = l.trees ≡ map (λ f. f.start.tree) (take l.field-index l.fields)
