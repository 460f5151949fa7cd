use Rattle.std.proofs.Common.{◌∙◌, ◌++◌, sym, ap}
use Rattle.std.proofs.lemmas.Result.{IfOk-equal}
use Rattle.dc_shown.specs.Shown.{of_ty}
use Rattle.dc_shown.proofs.Showing.{of-NullLit}
use Rattle.dc_shown.proofs.shown.+say_ty.Goals as goal

pub returns-in-NullLit : goal.returns-in-NullLit
returns-in-NullLit t c =
    IfOk-equal c.say-in-NullLit.result _ _ _ c.say-in-NullLit.ensures (ap (λ v. c.args.out.now ++ v) (sym of-NullLit ∙ ap of_ty (sym c.in-NullLit.is)))
