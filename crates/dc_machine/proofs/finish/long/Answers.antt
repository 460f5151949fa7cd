use Rattle.std.proofs.Common.{rules, ◌≡◌, ◌∙◌, ◌%◌, ◌^◌, ap, sym, pos, arith, SFits}
use Rattle.std.specs.Int.{int_wrap, cast_signed, w64}
use Rattle.std.proofs.lemmas.Int.{to_z-of_z}
use Rattle.dc_types.proofs.Integers.{wrap-I64}
use Rattle.dc_machine.proofs.finish.long.Goals as goal

pub returns : goal.returns
unfolding int_wrap
returns c =
    let fits : SFits w64 c.cast_signed.result = search rules in
    let low : c.args.w ≡ c.args.w % 2 ^ 64 = omega arith in
    to_z-of_z w64 c.cast_signed.result fits ∙ c.cast_signed.ensures ∙ ap (cast_signed w64) low ∙ sym (wrap-I64 (pos c.args.w))
