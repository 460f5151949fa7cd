use Rattle.std.proofs.Common.{drop, arith, subst}
use Rattle.dc_token.specs.Vocabulary.{is_xid_continue, starts_name}
use Rattle.dc_lexer.specs.Fronts.{PassesFor}
use Rattle.dc_lexer.proofs.Names.{name_start, name_more, name_stop, name_whole, name_never}
use Rattle.dc_lexer.proofs.name.name.Goals as goal

pub returns-then-at-eq0 : goal.returns-then-at-eq0
returns-then-at-eq0 c = name_never c.args.z.now (subst (λ n. PassesFor starts_name c.args.z.now n) c.if-at-eq0.true c.start_len-at.ensures)

pub loop-at-init : goal.loop-at-init
loop-at-init c = name_start c.args.z.now c.start_len-at.result c.start_len-at.ensures (let h = c.if-at-eq0.false in omega arith)

pub returns-then-size-eq0 : goal.returns-then-size-eq0
returns-then-size-eq0 c = name_stop c.args.z.now c.loop-at.at c.loop-at.invariant (subst (λ n. PassesFor is_xid_continue (drop c.loop-at.at c.args.z.now) n) c.if-size-eq0.true c.continue_at-size.ensures)

pub loop-at-preserved : goal.loop-at-preserved
loop-at-preserved c = name_more c.args.z.now c.loop-at.at c.continue_at-size.result c.loop-at.invariant c.continue_at-size.ensures (let h = c.if-size-eq0.false in omega arith)

pub returns : goal.returns
returns c = name_whole c.args.z.now c.loop-at.at c.loop-at.invariant c.loop-at-test.false
