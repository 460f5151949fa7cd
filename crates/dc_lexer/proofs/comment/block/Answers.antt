use Rattle.std.proofs.Common.{◌∙◌, sym}
use Rattle.dc_lexer.proofs.Comments.{block_end, block_byte, block_never}
use Rattle.dc_lexer.proofs.comment.block.Goals as goal
use Rattle.dc_lexer.proofs.comment.block.Goals.{else-z-at-eq42-via-then-z-at-eq42+else-byte-eq47, else-z-at-eq42-via-else-z-at-eq42}

pub returns-then-byte-eq47 : goal.returns-then-byte-eq47
returns-then-byte-eq47 c = (block_end c.args.z.now c.loop-at.at c.requires c.loop-at.invariant c.if-z-at-eq42.true (sym c.byte.ensures.value ∙ c.if-byte-eq47.true)).1

pub loop-at-preserved : goal.loop-at-preserved
loop-at-preserved c =
    block_byte c.args.z.now c.loop-at.at c.loop-at.invariant c.loop-at-test.true
    (λ p q. elim c.else-z-at-eq42.branch [ else-z-at-eq42-via-then-z-at-eq42+else-byte-eq47 w ↦ w.if-byte-eq47.false (w.byte.ensures.value ∙ q) | else-z-at-eq42-via-else-z-at-eq42 w ↦ w.if-z-at-eq42.false p ])

pub returns : goal.returns
returns c = block_never c.args.z.now c.loop-at.at c.requires c.loop-at.invariant c.loop-at-test.false
