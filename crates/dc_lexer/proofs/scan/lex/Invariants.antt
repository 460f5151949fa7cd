use Rattle.std.proofs.Common.{length, ◌-◌}
use Rattle.dc_lexer.proofs.Scanning.{Scan}
use Rattle.dc_lexer.proofs.scan.lex.Given as goal

abbrev pub invariant-loop-offset : goal.invariant-loop-offset
invariant-loop-offset l = Scan l.bytes l.offset l.tokens

abbrev pub decreases-loop-offset : goal.decreases-loop-offset
decreases-loop-offset l = length l.bytes - l.offset
