use Rattle.std.proofs.Common.{◌≡◌, ap, arith}
use Rattle.dc_grammar.specs.Readers.{expr_to}
use Rattle.dc_grammar.proofs.Turns.{deeper}
use Rattle.dc_parse_expr.proofs.rules.+expr.Goals as goal

pub returns-then-depth-eq0 : goal.returns-then-depth-eq0
unfolding expr_to
returns-then-depth-eq0 t c = let none : c.args.depth ≡ 0 = omega arith in ap (λ n. expr_to n c.args.level c.args.tokens.now) none

pub returns : goal.returns
unfolding expr_to
returns t c = rw (deeper (λ n. expr_to n c.args.level c.args.tokens.now) c.args.depth (omega arith)) c.level.ensures
