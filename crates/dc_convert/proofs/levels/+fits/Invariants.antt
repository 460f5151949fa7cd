use Rattle.std.proofs.Common.{◌≡◌, drop}
use Rattle.std.specs.List.{list_all}
use Rattle.dc_convert.specs.Levels.{fits}
use Rattle.dc_convert.proofs.levels.+fits.Given as goal

-- what is left decides
abbrev pub invariant-all_fit-loop-item : goal.invariant-all_fit-loop-item
invariant-all_fit-loop-item l = list_all (λ s. fits s l.to) (drop l.item-index l.items) ≡ list_all (λ s. fits s l.to) l.items
