use Rattle.std.proofs.Common.{◌-◌, arith, ◌∙◌, sym}
use Rattle.dc_lexer.proofs.Comments.{nested_deeper, nested_out, nested_end, nested_byte, nested_never}
use Rattle.dc_lexer.proofs.comment.nested.Goals as goal
use Rattle.dc_lexer.proofs.comment.nested.Goals.{else-b-eq47-via-then-b-eq47+else-next-eq43, else-b-eq47-via-else-b-eq47, else-b-eq43-via-then-b-eq43+else-next-eq47, else-b-eq43-via-else-b-eq43}

pub loop-at-preserved-then-next-eq43 : goal.loop-at-preserved-then-next-eq43
loop-at-preserved-then-next-eq43 c = nested_deeper c.args.z.now c.loop-at.at c.loop-at.depth c.loop-at.invariant c.if-b-eq47.true (sym c.byte-next.ensures.value ∙ c.if-next-eq43.true)

pub returns-then-depth-eq0 : goal.returns-then-depth-eq0
returns-then-depth-eq0 c =
    let is_open = c.loop-at.invariant.is_open in
    nested_end c.args.z.now c.loop-at.at c.loop-at.depth (c.loop-at.depth - 1) c.requires c.loop-at.invariant c.if-b-eq43.true (sym c.byte-next.ensures.value ∙ c.if-next-eq47.true) (omega arith) c.if-depth-eq0.true

pub loop-at-preserved-then-next-eq47 : goal.loop-at-preserved-then-next-eq47
loop-at-preserved-then-next-eq47 c =
    let is_open = c.loop-at.invariant.is_open in
    nested_out c.args.z.now c.loop-at.at c.loop-at.depth (c.loop-at.depth - 1) c.loop-at.invariant c.if-b-eq43.true (sym c.byte-next.ensures.value ∙ c.if-next-eq47.true) (omega arith) c.if-depth-eq0.false

pub loop-at-preserved : goal.loop-at-preserved
loop-at-preserved c =
    nested_byte c.args.z.now c.loop-at.at c.loop-at.depth c.loop-at.invariant c.loop-at-test.true
    (λ p q. elim c.else-b-eq47.branch [ else-b-eq47-via-then-b-eq47+else-next-eq43 w ↦ w.if-next-eq43.false (c.byte-next.ensures.value ∙ q) | else-b-eq47-via-else-b-eq47 w ↦ w.if-b-eq47.false p ])
    (λ p q. elim c.else-b-eq43.branch [ else-b-eq43-via-then-b-eq43+else-next-eq47 w ↦ w.if-next-eq47.false (c.byte-next.ensures.value ∙ q) | else-b-eq43-via-else-b-eq43 w ↦ w.if-b-eq43.false p ])

pub returns : goal.returns
returns c = nested_never c.args.z.now c.loop-at.at c.loop-at.depth c.requires c.loop-at.invariant c.loop-at-test.false
