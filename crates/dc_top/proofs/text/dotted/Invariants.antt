use Rattle.std.proofs.Common.{◌≡◌, ◌++◌, drop}
use Rattle.std.specs.List.{flat_map}
use Rattle.dc_top.specs.Texts.{dotted, pointed}
use Rattle.dc_top.proofs.text.dotted.Given as goal

abbrev pub invariant-loop-part : goal.invariant-loop-part
invariant-loop-part l = dotted l.path ≡ l.text ++ flat_map pointed (drop l.part-index l.more)
