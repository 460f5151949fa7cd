use Rattle.std.proofs.Common.{◌≡◌, ap, arith}
use Rattle.dc_grammar.specs.DeclReaders.{decl_to}
use Rattle.dc_grammar.proofs.Turns.{deeper}
use Rattle.dc_parse.specs.Left.{left}
use Rattle.dc_parse.proofs.declarations.+decl.Goals as goal

pub returns-then-depth-eq0 : goal.returns-then-depth-eq0
unfolding decl_to
returns-then-depth-eq0 g t c = let none : c.args.depth ≡ 0 = omega arith in ap (λ n. decl_to n (left c.args.source.now.tokens.now c.args.at)) none

pub returns : goal.returns
unfolding decl_to
returns g t c = rw (deeper (λ n. decl_to n (left c.args.source.now.tokens.now c.args.at)) c.args.depth (omega arith)) (rw c.in-Some.ensures at c.one_decl.ensures)
