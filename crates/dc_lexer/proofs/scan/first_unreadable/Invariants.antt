use Rattle.std.proofs.Common.{List, length, ◌-◌}
use Rattle.dc_token.specs.declared.token.Token.{Token}
use Rattle.dc_lexer.proofs.Scanning.{Scan}
use Rattle.dc_lexer.proofs.scan.first_unreadable.Given as goal

abbrev pub invariant-loop-from : goal.invariant-loop-from
invariant-loop-from l = record { found : List Token; scan : Scan l.bytes l.from found }

abbrev pub decreases-loop-from : goal.decreases-loop-from
decreases-loop-from l = length l.bytes - l.from
