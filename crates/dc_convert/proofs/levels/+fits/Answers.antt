use Rattle.std.proofs.Common.{eq-eqb, ◌≡◌, ◌∙◌, sym, ap, ◌==◌, true, false, ◌&&◌, Some, map, length, arith}
use Rattle.std.proofs.lemmas.Bool.Decides.{nat_tests}
use Rattle.dc_types.specs.declared.kind.Kind.TheVariants as kinds
use Rattle.dc_types.specs.declared.ty.Ty.TheVariants as ty
use Rattle.std.specs.List.{list_all}
use Rattle.dc_types.specs.declared.ty.Ty.TheViews.{out-Ty}
use Rattle.dc_convert.specs.Levels.{fits, literal_at}
use Rattle.dc_convert.proofs.Bases.{literal_slice, literal_fixed, literal_str}
use Rattle.dc_convert.proofs.levels.+fits.Goals as goal

pub literal_fits-returns-in-Slice : goal.literal_fits-returns-in-Slice
literal_fits-returns-in-Slice t c =
    let items = c.args.items.now in
    let on : c.all_fit.result ≡ list_all (λ s. fits s c.get.result.now) items = c.all_fit.ensures in
    on ∙ ap (λ p. list_all (λ s. fits s p) items) c.get.ensures
    ∙ sym (ap (λ t. literal_at (Some (map fits items)) (out-Ty t)) c.in-Slice.is ∙ literal_slice items c.in-Slice.part)

pub literal_fits-returns-then-items-n : goal.literal_fits-returns-then-items-n
literal_fits-returns-then-items-n t c =
    let items = c.args.items.now in let n = c.in-Fixed.n in let part = c.in-Fixed.part in
    let same : (length items == n) ≡ true = eq-eqb _ _ c.if-items-n.true in
    let on : c.all_fit-then-items-n.result ≡ list_all (λ s. fits s c.get-then-items-n.result.now) items = c.all_fit-then-items-n.ensures in
    on ∙ ap (λ p. list_all (λ s. fits s p) items) c.get-then-items-n.ensures
    ∙ sym (ap (λ t. literal_at (Some (map fits items)) (out-Ty t)) c.in-Fixed.is ∙ literal_fixed items part n ∙ ap (λ t. t && list_all (λ s. fits s part) items) same)

pub literal_fits-returns-else-items-n : goal.literal_fits-returns-else-items-n
literal_fits-returns-else-items-n t c =
    let items = c.args.items.now in let n = c.in-Fixed.n in let part = c.in-Fixed.part in
    let differs = c.if-items-n.false in
    let other : (length items == n) ≡ false = grind (arith, nat_tests) in
    other ∙ sym (ap (λ t. literal_at (Some (map fits items)) (out-Ty t)) c.in-Fixed.is ∙ literal_fixed items part n ∙ ap (λ t. t && list_all (λ s. fits s part) items) other)

pub literal_fits-returns-in-Str : goal.literal_fits-returns-in-Str
literal_fits-returns-in-Str t c =
    let items = c.args.items.now in
    let on : c.all_fit-in-Str.result ≡ list_all (λ s. fits s (ty.Int kinds.Char)) items = c.all_fit-in-Str.ensures in
    on ∙ sym (ap (λ t. literal_at (Some (map fits items)) (out-Ty t)) c.in-Str.is ∙ literal_str items)
