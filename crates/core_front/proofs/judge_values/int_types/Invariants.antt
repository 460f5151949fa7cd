use Rattle.std.proofs.Common.{◌≡◌, map, take}
use Rattle.dc_types.specs.declared.kind.Kind.TheVariants as kind
use Rattle.core_tree.specs.Values.{int}
use Rattle.core_front.proofs.judge_values.int_types.Given as goal

abbrev pub invariant-loop : goal.invariant-loop
invariant-loop l = l.types ≡ map (λ t. int kind.I32) (take l.index l.trees)
