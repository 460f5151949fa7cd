use Rattle.dc_lexer.proofs.Hexadecimals.{hexadecimal_found, hex_float_found}
use Rattle.dc_lexer.proofs.number.hexadecimal.Goals as goal

pub returns-then-is_power_mark : goal.returns-then-is_power_mark
returns-then-is_power_mark c = hex_float_found c.args.z.now c.past-end.result c.past.result c.requires c.past-end.ensures.value (c.is_power_mark.ensures.yes c.if-is_power_mark.true) c.past.ensures.value

pub returns : goal.returns
returns c = hexadecimal_found c.args.z.now c.past-end.result c.hexadecimal_len.result c.requires c.past-end.ensures.value (c.is_power_mark.ensures.only c.if-is_power_mark.false) c.hexadecimal_len.ensures
