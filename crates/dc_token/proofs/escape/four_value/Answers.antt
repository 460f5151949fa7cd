use Rattle.std.proofs.Common.{◌≡◌, true, sym, subst}
use Rattle.dc_token.specs.Bytes.{is_hex}
use Rattle.dc_token.proofs.Hex.{third_hex, fourth_hex}
use Rattle.dc_token.proofs.escape.four_value.Goals as goal

pub hex_digit-c-requires : goal.hex_digit-c-requires
hex_digit-c-requires c = subst (λ x. is_hex x ≡ true) (sym c.byte-3.ensures.value) (third_hex c.args.z.now c.args.at c.requires.digits)

pub hex_digit-d-requires : goal.hex_digit-d-requires
hex_digit-d-requires c = subst (λ x. is_hex x ≡ true) (sym c.byte-4.ensures.value) (fourth_hex c.args.z.now c.args.at c.requires.digits)
