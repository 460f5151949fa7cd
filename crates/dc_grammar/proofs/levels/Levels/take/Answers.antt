use Rattle.std.proofs.Common.{ap, ◌∙◌}
use Rattle.dc_grammar.specs.Nesting.{after}
use Rattle.dc_grammar.specs.declared.levels.Effect.TheVariants as f
use Rattle.dc_grammar.proofs.Tables.{ended, ended_brace}
use Rattle.dc_grammar.proofs.levels.Levels.take.Goals as goal

pub returns-then-self-gt0-clause-levels : goal.returns-then-self-gt0-clause-levels
returns-then-self-gt0-clause-levels c yes_taken = rw c.in-Close.is (c.end.ensures.levels ∙ ended c.args.self.now.counts c.args.self.now.open c.if-self-gt0.true)

pub returns-then-self-gt0-2-clause-levels : goal.returns-then-self-gt0-2-clause-levels
returns-then-self-gt0-2-clause-levels c yes_taken =
    rw c.in-CloseBrace.is (c.reset.ensures.levels ∙ ap (after f.Reset) c.end-then-self-gt0-2.ensures.levels ∙ ended_brace c.args.self.now.counts c.args.self.now.open c.if-self-gt0-2.true)
