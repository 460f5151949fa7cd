use Rattle.std.proofs.Common.{ap, sym, ◌∙◌}
use Rattle.std.specs.Char.{is_ascii_digit}
use Rattle.dc_lexer.proofs.Finding.{point_float_found, point_sign_found}
use Rattle.dc_lexer.proofs.plain.point.Goals as goal

pub returns-then-is_ascii_digit : goal.returns-then-is_ascii_digit
returns-then-is_ascii_digit c = point_float_found c.args.z.now c.past.result c.requires (ap is_ascii_digit (sym c.byte.ensures.value) ∙ sym c.is_ascii_digit.ensures.value ∙ c.if-is_ascii_digit.true) c.past.ensures.value

pub returns : goal.returns
returns c = point_sign_found c.args.z.now c.sign_len.result c.requires (ap is_ascii_digit (sym c.byte.ensures.value) ∙ sym c.is_ascii_digit.ensures.value ∙ c.if-is_ascii_digit.false) c.sign_len.ensures
