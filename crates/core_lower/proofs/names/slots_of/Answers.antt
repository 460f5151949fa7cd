use Rattle.std.proofs.Common.{◌++◌, refl, length, ap, ap₂, ◌∙◌}
use Rattle.std.specs.Map.{lookup}
use Rattle.dc_types.specs.Same as same
use Rattle.core_lower.specs.Lowered.{found_from, variable_places}
use Rattle.core_lower.proofs.Numbering.{both_numbered}
use Rattle.core_lower.proofs.names.slots_of.Goals as goal

pub returns : goal.returns
returns c = λ q.
    let params = c.as_slice-params.result.now in
    let locals = c.as_slice.result.now in
    both_numbered (λ v. v.place) q params locals (length params) (lookup (same.place q) c.number_variables-2.new.table) (lookup (same.place q) c.number_variables.new.table) (lookup (same.place q) c.new-table.result) refl
    (c.in_ok-number_variables-2.ensures q) (c.in_ok-number_variables.ensures q) (ap (lookup (same.place q)) c.new-table.ensures)
    ∙ ap₂ (λ a b. found_from 0 q (variable_places (a ++ b))) c.as_slice-params.ensures c.as_slice.ensures
