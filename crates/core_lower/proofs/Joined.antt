-- The whole of the lowered code.
use Rattle.std.proofs.Common.{◌≡◌, List, [], ◌++◌, length, ap, ◌∙◌}
use Rattle.dc_code.specs.declared.code.Draft.{Draft}
use Rattle.core_tree.specs.declared.tree.Tree.{Tree}
use Rattle.core_tree.specs.declared.body.Body.{Body}
use Rattle.core_lower_expr.specs.Lowered.{Names}
use Rattle.core_lower.specs.Lowered.{names_in, bodies_code, functions_from, starts_code, entries_from, numbers_from, lowered}
use Rattle.core_lower.proofs.Tables.{functions_length}
use Rattle.core_lower.proofs.Made.{with_starts}

pub whole_is : (bodies : List Body) (starts : List Tree) (names : Names) (old new : Draft) → old.functions ≡ functions_from bodies bodies 0 → old.instrs ≡ bodies_code bodies bodies 0 → old.blocks ≡ [] → old.globals ≡ [] → names ≡ names_in bodies [] →
    new ≡ with_starts names old starts → new ≡ lowered bodies starts
whole_is bodies starts names old new fs is bs gs ns e =
    let many : length old.functions ≡ length bodies = ap length fs ∙ functions_length bodies bodies 0 in
    e ∙ (λ j. record {
      functions = fs j ++ entries_from (ns j) starts (length (is j));
      instrs = is j ++ starts_code (ns j) starts (length (is j));
      blocks = bs j;
      globals = gs j;
      entries = numbers_from (many j) starts;
    })
