use Rattle.std.proofs.Common.{◌≡◌, ◌∙◌, sym, length}
use Rattle.dc_layout.proofs.Settling.{waits_on, is_table, shorter}
use Rattle.dc_layout.proofs.layout.table.Goals as goal

pub returns-then-len : goal.returns-then-len
returns-then-len c =
    let same : length c.in_ok-still.still ≡ length c.loop-waiting.waiting = sym c.len.ensures ∙ c.if-len.true ∙ c.len-in-loop-waiting.ensures in
    is_table c.args.structs.now.entries c.loop-waiting.known.entries c.loop-waiting.waiting (c.pass.new.known.entries, c.in_ok-still.still) c.in_ok-still.ensures c.loop-waiting.invariant.0 c.loop-waiting.invariant.1 same

pub loop-waiting-smaller : goal.loop-waiting-smaller
loop-waiting-smaller c =
    shorter c.args.structs.now.entries c.loop-waiting.known.entries c.loop-waiting.waiting (c.pass.new.known.entries, c.in_ok-still.still) c.in_ok-still.ensures c.loop-waiting.invariant.0
    (λ e. c.if-len.false (c.len.ensures ∙ e ∙ sym c.len-in-loop-waiting.ensures))

pub loop-waiting-preserved : goal.loop-waiting-preserved
loop-waiting-preserved c =
    waits_on c.args.structs.now.entries c.loop-waiting.known.entries c.loop-waiting.waiting (c.pass.new.known.entries, c.in_ok-still.still) c.in_ok-still.ensures c.loop-waiting.invariant.0 c.loop-waiting.invariant.1
