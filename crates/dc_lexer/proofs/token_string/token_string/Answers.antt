use Rattle.std.proofs.Common.{◌-◌, ◌<◌, drop, arith, ◌∙◌, sym, subst}
use Rattle.dc_token.specs.Items.{PlainSpells}
use Rattle.dc_lexer.specs.Fronts.{Found}
use Rattle.dc_token.proofs.Lists.{rest_of}
use Rattle.dc_lexer.proofs.TokenStrings.{brace_open, brace_shut, brace_end, brace_string, brace_item, brace_stuck, brace_never}
use Rattle.dc_lexer.proofs.token_string.token_string.Goals as goal

pub loop-at-preserved-then-b-eq123 : goal.loop-at-preserved-then-b-eq123
loop-at-preserved-then-b-eq123 c = brace_open c.args.z.now c.loop-at.at c.loop-at.depth c.loop-at.invariant c.loop-at-test.true c.if-b-eq123.true

pub returns-then-depth-eq0 : goal.returns-then-depth-eq0
returns-then-depth-eq0 c =
    let is_open = c.loop-at.invariant.is_open in
    brace_end c.args.z.now c.loop-at.at c.loop-at.depth (c.loop-at.depth - 1) c.requires c.loop-at.invariant c.loop-at-test.true c.if-b-eq125.true (omega arith) c.if-depth-eq0.true

pub loop-at-preserved-then-b-eq125 : goal.loop-at-preserved-then-b-eq125
loop-at-preserved-then-b-eq125 c =
    let is_open = c.loop-at.invariant.is_open in
    brace_shut c.args.z.now c.loop-at.at c.loop-at.depth (c.loop-at.depth - 1) c.loop-at.invariant c.loop-at-test.true c.if-b-eq125.true (omega arith) c.if-depth-eq0.false

pub loop-at-preserved-then-begins_token_string : goal.loop-at-preserved-then-begins_token_string
loop-at-preserved-then-begins_token_string c = brace_string c.args.z.now c.loop-at.at c.loop-at.depth c.loop-at.invariant (sym c.begins_token_string.ensures.value ∙ c.if-begins_token_string.true)

pub returns-then-size-eq0 : goal.returns-then-size-eq0
returns-then-size-eq0 c =
    let z = c.args.z.now in let at = c.loop-at.at in let r = c.plain_item-size.result in
    brace_stuck z at c.loop-at.depth r.0 c.requires c.loop-at.invariant (subst (λ n. Found PlainSpells (drop at z) (r.0, n)) c.if-size-eq0.true (subst (λ x. Found PlainSpells x (r.0, r.1)) (rest_of z at) c.plain_item-size.ensures))
    c.if-b-eq123.false c.if-b-eq125.false (sym c.begins_token_string.ensures.value ∙ c.if-begins_token_string.false)

pub loop-at-preserved : goal.loop-at-preserved
loop-at-preserved c =
    let z = c.args.z.now in let at = c.loop-at.at in let r = c.plain_item-size.result in
    let some : 0 < r.1 = (let no = c.if-size-eq0.false in omega arith) in
    brace_item z at c.loop-at.depth r.1 r.0 c.loop-at.invariant (subst (λ x. Found PlainSpells x (r.0, r.1)) (rest_of z at) c.plain_item-size.ensures) some
    c.if-b-eq123.false c.if-b-eq125.false (sym c.begins_token_string.ensures.value ∙ c.if-begins_token_string.false)

pub returns : goal.returns
returns c = brace_never c.args.z.now c.loop-at.at c.loop-at.depth c.requires c.loop-at.invariant c.loop-at-test.false
