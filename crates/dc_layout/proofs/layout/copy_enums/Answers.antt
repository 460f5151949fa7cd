use Rattle.std.proofs.Common.{◌∙◌, sym, ap, ◌++◌, append-nil}
use Rattle.dc_layout.specs.Cells.{put}
use Rattle.dc_layout.proofs.Copying.{carried}
use Rattle.dc_layout.proofs.layout.copy_enums.Goals as goal

pub loop-at-preserved : goal.loop-at-preserved
loop-at-preserved c =
    let before = c.loop-at.copy.entries in
    carried before c.loop-at.at-iterator c.into_iter-at-iterator.result c.next.new.self c.put.new.map.entries c.in-Some.at.now c.in-Some.first.now c.loop-at.invariant c.in-Some.ensures.steps
    (c.in_ok-put.ensures ∙ ap (λ p. put before p c.in_ok-copy_const.field-0) c.in_ok-copy_place.ensures ∙ ap (λ v. put before c.in-Some.at.now v) c.in_ok-copy_const.ensures)

pub returns : goal.returns
returns c =
    sym (append-nil c.loop-at.copy.entries) ∙ ap (λ l. c.loop-at.copy.entries ++ l) (sym c.in-None.ensures.steps.0) ∙ c.loop-at.invariant.0 ∙ c.into_iter-at-iterator.ensures.into_iter_gives ∙ c.iter-at-items.ensures.rest
