use Rattle.std.proofs.Common.{◌≡◌, map, drop, Some}
use Rattle.dc_convert.specs.CommonKinds.{kind_of, common_of}
use Rattle.dc_convert.specs.Levels.{type_of}
use Rattle.dc_convert.proofs.numbers.common_of.Given as goal

-- what is left decides
abbrev pub invariant-loop-part : goal.invariant-loop-part
invariant-loop-part l = common_of (Some l.joined) (map kind_of (map type_of (drop l.part-index l.parts))) ≡ common_of (Some l.fn.first) (map kind_of (map type_of l.parts))
