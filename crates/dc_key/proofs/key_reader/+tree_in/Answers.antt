use Rattle.std.proofs.Common.{◌∙◌, sym, ap, length, subst, ◌<◌, ◌≤◌, not}
use Rattle.dc_key.specs.KeyReading.{has_item, next_item, tree_in, ends_list, past_comma, opens}
use Rattle.dc_key.proofs.Turning.{turn, stop, over, grown}
use Rattle.dc_key.proofs.Depths.{list_more}
use Rattle.dc_key.proofs.key_reader.+tree_in.Goals as goal
use Rattle.dc_key.proofs.key_reader.+tree_in.Goals.{items_in-else-loop-test, items_in-then-loop-test+then-ends_list}

pub items_in-loop-preserved : goal.items_in-loop-preserved
items_in-loop-preserved t c =
    turn has_item (next_item (tree_in c.args.depth)) (length c.args.from.now) c.loop.counter (c.loop.items, c.loop.from) (c.push.new.self, c.tree_in.new.from) _ (subst (λ n. c.loop.counter < n) c.len-end.ensures c.loop-test.true)
    (ap not (sym (c.ends_list.ensures ∙ ap ends_list c.first.ensures) ∙ c.if-ends_list.false))
    (grown c.loop.items c.push.new.self c.in_ok-tree_in.field-0 c.tree_in.new.from (tree_in c.args.depth (past_comma c.loop.from)) (c.in_ok-tree_in.ensures ∙ ap (tree_in c.args.depth) c.pass_comma.ensures) c.in_ok-push.ensures.ok) c.loop.invariant

pub items_in-returns : goal.items_in-returns
items_in-returns t c = elim c.loop-test.branch [
  | items_in-else-loop-test w ↦ over has_item (next_item (tree_in c.args.depth)) (length c.args.from.now) c.loop.counter (c.loop.items, c.loop.from) _ (subst (λ n. n ≤ c.loop.counter) c.len-end.ensures w.loop-test.false) c.loop.invariant
  | items_in-then-loop-test+then-ends_list w ↦ stop has_item (next_item (tree_in c.args.depth)) _ (c.loop.items, c.loop.from) _ (ap not (sym (w.ends_list.ensures ∙ ap ends_list w.first.ensures) ∙ w.if-ends_list.true)) c.loop.invariant
]

pub tree_in-returns-in_ok-items : goal.tree_in-returns-in_ok-items
tree_in-returns-in_ok-items t c =
    list_more c.args.depth c.args.from.now c.pass.new.self c.items_in.new.from c.pass-then-opens.new.self c.in_ok-items.items c.if-depth-eq0.false (sym (c.opens.ensures ∙ ap opens c.first.ensures) ∙ c.if-opens.true) c.pass.ensures c.in_ok-items.ensures c.pass-then-opens.ensures
