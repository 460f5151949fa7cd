use Rattle.std.proofs.Common.{◌≡◌, ◌-◌, Bool}
use Rattle.dc_grammar.specs.Terminals.{Tokens}
use Rattle.dc_grammar.specs.Reading.{Reader}
use Rattle.dc_grammar.specs.StmtReaders.{chain, chain_from}
use Rattle.dc_parse.specs.Left.{left}
use Rattle.dc_parse.specs.Calls.{Calls}
use Rattle.dc_parse.specs.Nests.{Tests}
use Rattle.dc_parse.proofs.Links.{carried}
use Rattle.dc_parse.proofs.chain.chain.Given as goal

abbrev pub invariant-loop-turn : goal.invariant-loop-turn
invariant-loop-turn g l = (p : Reader (Bool × g.row.B.Denot)) (o : Tokens → Bool) (q : Reader (Bool × g.row.L.Denot))
    → Calls p l.source.tokens.now (goal.F-post g l.first) → Tests o l.source.tokens.now (goal.H-post g l.opens) → Calls q l.source.tokens.now (goal.G-post g l.other)
    → carried l.found (left l.source.tokens.now l.back) (chain_from p o q (l._turn-end - l._turn) (left l.source.tokens.now l.rest)) ≡ chain p o q (left l.source.tokens.now l.at)
