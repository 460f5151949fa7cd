use Rattle.std.proofs.Common.{◌≡◌, ◌-◌}
use Rattle.dc_grammar.specs.Reading.{many_from}
use Rattle.dc_grammar.specs.Loops.{with_front}
use Rattle.dc_grammar.specs.Readers as spec
use Rattle.dc_parse_expr.proofs.rules.Rules.bit_ors.Given as goal

abbrev pub invariant-loop-turn : goal.invariant-loop-turn
invariant-loop-turn g l = with_front l.found (many_from (spec.bit_or_step (spec.expr_to l.self.depth)) (l._turn-end - l._turn) l.rest)
    ≡ spec.bit_ors (spec.expr_to l.self.depth) l.tokens
