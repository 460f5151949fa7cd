use Rattle.std.proofs.Common.{sym, ap, ◌∙◌}
use Rattle.dc_token.specs.Balance.{Bytes}
use Rattle.dc_token.specs.Literals.{digits_of, value_from, fitting}
use Rattle.dc_token.proofs.Values.{zero_refused, large_refused, with_value, integer_made}
use Rattle.dc_token.proofs.literal.integer.Goals as goal

pub returns-then-has_needless_zero : goal.returns-then-has_needless_zero
returns-then-has_needless_zero c = zero_refused c.args.spelling.now (sym c.has_needless_zero.ensures ∙ c.if-has_needless_zero.true)

pub returns-in_err-value : goal.returns-in_err-value
returns-in_err-value c =
    let w = c.args.spelling.now in
    let none = sym c.value_of.ensures ∙ c.in_err-value.was in
    c.from_residual.ensures ∙ large_refused w (sym c.has_needless_zero.ensures ∙ c.if-has_needless_zero.false) (ap (λ n. fitting (value_from n 0 (digits_of w))) (sym c.base_of-base.ensures.base) ∙ ap (λ (x : Bytes). fitting (value_from c.base_of-base.result 0 x)) (sym c.digits_of.ensures) ∙ none)

pub returns-in_err-integer_type : goal.returns-in_err-integer_type
returns-in_err-integer_type c =
    let w = c.args.spelling.now in
    c.from_residual-in_err-integer_type.ensures ∙ ap (λ o. with_value c.in_ok-value.value o) (sym c.in_err-integer_type.was)
    ∙ integer_made w c.base_of-base.result c.in_ok-value.value c.has_long.result c.has_unsigned.result c.digits_of.result.now c.integer_type.result (sym c.has_needless_zero.ensures ∙ c.if-has_needless_zero.false)
    c.base_of-base.ensures.base c.digits_of.ensures (sym c.in_ok-value.was ∙ c.value_of.ensures) c.has_long.ensures c.has_unsigned.ensures c.integer_type.ensures

pub returns : goal.returns
returns c =
    let w = c.args.spelling.now in
    ap (λ o. with_value c.in_ok-value.value o) (sym c.in_ok-integer_type.was)
    ∙ integer_made w c.base_of-base.result c.in_ok-value.value c.has_long.result c.has_unsigned.result c.digits_of.result.now c.integer_type.result (sym c.has_needless_zero.ensures ∙ c.if-has_needless_zero.false)
    c.base_of-base.ensures.base c.digits_of.ensures (sym c.in_ok-value.was ∙ c.value_of.ensures) c.has_long.ensures c.has_unsigned.ensures c.integer_type.ensures
