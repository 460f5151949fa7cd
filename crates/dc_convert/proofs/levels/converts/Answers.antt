use Rattle.std.proofs.Common.{◌∙◌, refl, sym}
use Rattle.dc_types.specs.Exact.{ty-Decides}
use Rattle.dc_convert.specs.Levels.{type_of}
use Rattle.dc_convert.proofs.Keeping.{differ}
use Rattle.dc_convert.proofs.Losing.{equal_types, fitting_keeps}
use Rattle.dc_convert.proofs.levels.converts.Goals as goal

pub returns-then-same_ty-clause-same : goal.returns-then-same_ty-clause-same
returns-then-same_ty-clause-same c = (λ e. (ty-Decides _ _).0 (sym c.same_ty.ensures ∙ c.if-same_ty.true), λ e. refl)

pub returns-then-fits-clause-same : goal.returns-then-fits-clause-same
returns-then-fits-clause-same c = (λ e. absurd (cc), λ e. absurd (differ _ _ (sym c.same_ty.ensures ∙ c.if-same_ty.false) e))

pub returns-else-fits-clause-same : goal.returns-else-fits-clause-same
returns-else-fits-clause-same c = (λ e. absurd (cc), λ e. absurd (differ _ _ (sym c.same_ty.ensures ∙ c.if-same_ty.false) e))

pub returns-then-same_ty-clause-keeps : goal.returns-then-same_ty-clause-keeps
returns-then-same_ty-clause-keeps c k j z p q n h i = equal_types (type_of c.args.from.now) c.args.to.now k j z (sym c.same_ty.ensures ∙ c.if-same_ty.true) p q h

pub returns-then-fits-clause-keeps : goal.returns-then-fits-clause-keeps
returns-then-fits-clause-keeps c k j z p q n h i = fitting_keeps c.args.from.now c.args.to.now k j z (sym c.fits.ensures ∙ c.if-fits.true) p q h i

pub returns-else-fits-clause-keeps : goal.returns-else-fits-clause-keeps
returns-else-fits-clause-keeps c k j z p q n h i = absurd (n refl)
