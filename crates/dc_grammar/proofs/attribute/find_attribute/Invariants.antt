use Rattle.std.proofs.Common.{◌≡◌, length, map}
use Rattle.dc_grammar.specs.Words.{find_attribute}
use Rattle.dc_grammar.proofs.attribute.find_attribute.Given as goal

abbrev pub invariant-loop-table : goal.invariant-loop-table
invariant-loop-table l = find_attribute (map (λ row. (row.0.now, row.1)) l.table) l.spelling ≡ find_attribute (map (λ row. (row.0.now, row.1)) l.initial.table) l.spelling

abbrev pub decreases-loop-table : goal.decreases-loop-table
decreases-loop-table l = length l.table
