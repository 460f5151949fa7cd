use Rattle.std.proofs.Common.{◌≡◌, ◌+◌, ◌*◌, drop, map, []}
use Rattle.core_front.specs.Building.{each_link, each_value, linked, seen}
use Rattle.core_front.proofs.values.+values.Given as goal

abbrev pub decreases-value : goal.decreases-value
decreases-value l = 4 * goal.size-value l

abbrev pub decreases-links : goal.decreases-links
decreases-links l = 4 * goal.size-links l + 1

abbrev pub decreases-values : goal.decreases-values
decreases-values l = 4 * goal.size-values l + 1

abbrev pub decreases-call_values : goal.decreases-call_values
decreases-call_values l = 4 * goal.size-call_values l + 2

abbrev pub decreases-call : goal.decreases-call
decreases-call l = 4 * goal.size-call l + 3

abbrev pub invariant-links-loop-step : goal.invariant-links-loop-step
invariant-links-loop-step l = each_link l.all (map linked (drop l.step-index l.steps)) ≡ each_link [] (map linked l.steps)

abbrev pub invariant-values-loop-e : goal.invariant-values-loop-e
invariant-values-loop-e l = each_value l.all (map seen (drop l.e-index l.es)) ≡ each_value [] (map seen l.es)
