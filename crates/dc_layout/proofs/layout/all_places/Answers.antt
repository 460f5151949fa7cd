use Rattle.std.proofs.Common.{◌≡◌, ◌∙◌, sym, ap, subst, ◌++◌, [], append-nil}
use Rattle.std.specs.Map.{keys_of}
use Rattle.dc_layout.specs.Cells.{Waits}
use Rattle.dc_layout.proofs.Settling.{waits_all}
use Rattle.dc_layout.proofs.layout.all_places.Goals as goal

pub returns : goal.returns
returns c =
    let s = c.args.structs.now.entries in
    let all : c.loop-at.places ≡ c.in_ok-places.places ++ keys_of s =
    sym (append-nil c.loop-at.places) ∙ ap (λ l. c.loop-at.places ++ l) (sym c.in-None.ensures.steps.0) ∙ c.loop-at.invariant ∙ ap (λ l. c.in_ok-places.places ++ l) (c.into_iter-at-iterator.ensures.into_iter_gives ∙ c.keys-at-items.ensures.rest) in
    subst (Waits s []) (sym all) (waits_all s c.in_ok-places.places)
