use Rattle.std.proofs.Common.{◌≡◌, ◌-◌}
use Rattle.dc_grammar.specs.Reading.{Reader, many, many_from}
use Rattle.dc_grammar.specs.Loops.{with_front}
use Rattle.dc_parse.specs.Left.{left}
use Rattle.dc_parse.specs.Calls.{Calls}
use Rattle.dc_parse.proofs.parts.source.Source.many.Given as goal

abbrev pub invariant-loop-turn : goal.invariant-loop-turn
invariant-loop-turn g l = (p : Reader g.row.T.Denot) → Calls p l.self.tokens.now (goal.F-post g l.one)
    → with_front l.found (many_from p (l._turn-end - l._turn) (left l.self.tokens.now l.rest)) ≡ many p (left l.self.tokens.now l.at)
