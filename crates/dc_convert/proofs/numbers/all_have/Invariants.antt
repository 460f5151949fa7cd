use Rattle.std.proofs.Common.{◌≡◌, map, drop}
use Rattle.std.specs.List.{list_all}
use Rattle.dc_types.specs.Same as same
use Rattle.dc_convert.specs.Levels.{type_of}
use Rattle.dc_convert.proofs.numbers.all_have.Given as goal

-- what is left decides
abbrev pub invariant-loop-part : goal.invariant-loop-part
invariant-loop-part l = list_all (λ u. same.ty l.ty u) (map type_of (drop l.part-index l.parts)) ≡ list_all (λ u. same.ty l.ty u) (map type_of l.parts)
