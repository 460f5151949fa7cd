use Rattle.std.proofs.Common.{◌∙◌, sym, ap}
use Rattle.std.specs.Option.{option_copied}
use Rattle.dc_shown.proofs.Showing.{last_some, last_none}
use Rattle.dc_shown.proofs.shown.last_key.Goals as goal

pub returns-in-Some : goal.returns-in-Some
returns-in-Some c =
    c.step_key.ensures ∙ last_some c.args.steps.now c.in-Some.step.now (ap option_copied (sym c.in-Some.is) ∙ c.last.ensures.value)

pub returns-in-None : goal.returns-in-None
returns-in-None c = last_none c.args.steps.now (ap option_copied (sym c.in-None.is) ∙ c.last.ensures.value)
