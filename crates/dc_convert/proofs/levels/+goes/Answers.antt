use Rattle.std.proofs.Common.{◌≡◌, ◌∙◌, sym, ap, true, false, ◌||◌, ◌&&◌}
use Rattle.dc_types.specs.Same as same
use Rattle.dc_types.specs.declared.ty.Ty.TheVariants as ty
use Rattle.dc_convert.specs.Levels.{goes}
use Rattle.dc_convert.proofs.Bases.{goes_enum, goes_fixed}
use Rattle.dc_convert.proofs.levels.+goes.Goals as goal

pub returns-then-same_ty : goal.returns-then-same_ty
returns-then-same_ty t c =
    let r = c.args.r.now in let p = c.args.place in let to = c.args.to.now in let base = c.in-Enum-default.base in
    let same_base : same.ty base to ≡ true = ap (λ b. same.ty b to) (sym c.get.ensures) ∙ sym c.same_ty.ensures ∙ c.if-same_ty.true in
    c.if-same_ty.true ∙ sym (ap (λ f. goes r p f to) c.in-Enum-default.is-0 ∙ goes_enum r p c.in-Enum-default.field-0-0 base to ∙ ap (λ t. t || goes r p base to) same_base)

pub returns-else-same_ty : goal.returns-else-same_ty
returns-else-same_ty t c =
    let r = c.args.r.now in let p = c.args.place in let to = c.args.to.now in let base = c.in-Enum-default.base in
    let other_base : same.ty base to ≡ false = ap (λ b. same.ty b to) (sym c.get.ensures) ∙ sym c.same_ty.ensures ∙ c.if-same_ty.false in
    let on : c.goes.result ≡ goes r p c.get-else-same_ty.result.now to = c.goes.ensures in
    on ∙ ap (λ b. goes r p b to) c.get-else-same_ty.ensures
    ∙ sym (ap (λ f. goes r p f to) c.in-Enum-default.is-0 ∙ goes_enum r p c.in-Enum-default.field-0-0 base to ∙ ap (λ t. t || goes r p base to) other_base)

pub returns-then-place : goal.returns-then-place
returns-then-place t c =
    let r = c.args.r.now in let p = c.args.place in
    let of = c.in-Fixed-Slice.of in let part = c.in-Fixed-Slice.part in
    c.same_ty-then-place.ensures ∙ ap (λ b. same.ty b c.get-then-place-2.result.now) c.get-then-place.ensures ∙ ap (same.ty of) c.get-then-place-2.ensures
    ∙ sym (ap (λ f. goes r p f c.args.to.now) c.in-Fixed-Slice.is-0 ∙ ap (goes r p (ty.Fixed of c.in-Fixed-Slice.field-1-0)) c.in-Fixed-Slice.is-1
    ∙ goes_fixed r p of c.in-Fixed-Slice.field-1-0 part ∙ ap (λ t. t && same.ty of part) c.if-place.true)
