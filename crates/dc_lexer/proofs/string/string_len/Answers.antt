use Rattle.dc_lexer.proofs.Strings.{string_longest}
use Rattle.dc_lexer.proofs.string.string_len.Goals as goal

pub returns : goal.returns
returns c = string_longest c.args.z.now c.args.opener_len c.args.quote c.args.escapes c.body_end.result c.suffixed.result c.body_end.ensures c.suffixed.ensures
