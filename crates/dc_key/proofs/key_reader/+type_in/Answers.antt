use Rattle.std.proofs.Common.{◌≡◌, ◌∙◌, sym, ap, subst, IfOk}
use Rattle.dc_key.specs.KeyTexts.{Bytes}
use Rattle.dc_types.specs.declared.ty.Ty.{Ty}
use Rattle.dc_key.specs.KeyReading.{wraps}
use Rattle.dc_key.proofs.Depths.{type_more}
use Rattle.dc_key.proofs.key_reader.+type_in.Goals as goal

pub type_in-returns : goal.type_in-returns
type_in-returns t c =
    let P : Ty × Bytes → Type 0 = λ x. IfOk c.wraps.result (λ ty. ◌≡◌ {A = Ty × Bytes} (ty, c.wraps.new.from) x) in
    subst P (ap wraps c.in_ok-leaf.ensures ∙ sym (type_more c.args.depth c.args.from.now c.if-depth-eq0.false)) c.wraps.ensures
