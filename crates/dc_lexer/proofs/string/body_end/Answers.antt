use Rattle.dc_lexer.proofs.Strings.{string_closes, string_never, escape_breaks, escape_scan, byte_scan}
use Rattle.dc_lexer.proofs.string.body_end.Goals as goal

pub returns-then-b-quote : goal.returns-then-b-quote
returns-then-b-quote c = string_closes c.args.z.now c.args.from c.args.quote c.args.escapes c.loop-at.at c.loop-at.invariant c.requires.short.0 c.loop-at-test.true c.if-b-quote.true

pub returns-then-size-eq0 : goal.returns-then-size-eq0
returns-then-size-eq0 c = escape_breaks c.args.z.now c.args.from c.args.quote c.args.escapes c.loop-at.at c.escape_len-size.result c.loop-at.invariant c.loop-at-test.true c.if-b-quote.false c.if-escapes.true c.if-b-eq92.true c.escape_len-size.ensures.value c.if-size-eq0.true

pub loop-at-preserved-then-b-eq92 : goal.loop-at-preserved-then-b-eq92
loop-at-preserved-then-b-eq92 c = escape_scan c.args.z.now c.args.from c.args.quote c.args.escapes c.loop-at.at c.escape_len-size.result c.loop-at.invariant c.loop-at-test.true c.if-b-quote.false c.if-escapes.true c.if-b-eq92.true c.escape_len-size.ensures.value c.escape_len-size.ensures.within c.if-size-eq0.false

pub loop-at-preserved : goal.loop-at-preserved
loop-at-preserved c = byte_scan c.args.z.now c.args.from c.args.quote c.args.escapes c.loop-at.at c.loop-at.invariant c.loop-at-test.true c.if-b-quote.false c.else-escapes.either

pub returns : goal.returns
returns c = string_never c.args.z.now c.args.from c.args.quote c.args.escapes c.loop-at.at c.loop-at.invariant c.loop-at-test.false
