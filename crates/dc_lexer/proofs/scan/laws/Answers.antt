use Rattle.std.proofs.Common.{drop, refl}
use Rattle.dc_token.specs.Text.{mark_len}
use Rattle.dc_lexer.proofs.Scanning.{rebuilt, apart, one_stop}
use Rattle.dc_lexer.proofs.Laying.{laid}
use Rattle.dc_lexer.proofs.OneKind.{one_reading}
use Rattle.dc_lexer.proofs.Inner.{into_items, from_items}
use Rattle.dc_lexer.proofs.scan.laws.Goals as goal

pub returns-clause-rebuilds : goal.returns-clause-rebuilds
returns-clause-rebuilds c text ts r = rebuilt (mark_len text) (drop (mark_len text) text) ts r

pub returns-clause-gaps : goal.returns-clause-gaps
returns-clause-gaps c text ts r = laid text (mark_len text) (drop (mark_len text) text) ts refl r

pub returns-clause-one_reading : goal.returns-clause-one_reading
returns-clause-one_reading c text ts us r s = one_reading (mark_len text) (drop (mark_len text) text) ts us r s

pub returns-clause-one_stop : goal.returns-clause-one_stop
returns-clause-one_stop c text n m r s = one_stop (mark_len text) n m (drop (mark_len text) text) r s

pub returns-clause-apart : goal.returns-clause-apart
returns-clause-apart c text ts n r s = apart (mark_len text) n (drop (mark_len text) text) ts r s

pub returns-clause-strings : goal.returns-clause-strings
returns-clause-strings c w rest = (into_items w rest, from_items w rest)
