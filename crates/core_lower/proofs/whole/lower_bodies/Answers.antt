use Rattle.std.proofs.Common.{length, All, sym, ap, ◌∙◌, subst}
use Rattle.dc_code.specs.Simple.{IsSimple}
use Rattle.dc_code.specs.Sound.{IsShortCode, IsSound}
use Rattle.core_lower.specs.Runs.{Runs}
use Rattle.core_lower.proofs.Tables.{lowered_runs}
use Rattle.core_lower.proofs.Soundness.{lowered_sound, lowered_simple, lowered_entries}
use Rattle.core_lower.proofs.whole.lower_bodies.Goals as goal

pub of_sound-requires : goal.of_sound-requires
of_sound-requires c =
    let short : IsShortCode c.in_ok-draft.draft = c.is_short.ensures.0 c.if-is_short.true in
    subst IsSound (sym c.in_ok-draft.ensures) (lowered_sound c.args.bodies.now c.args.starts.now c.requires (subst IsShortCode c.in_ok-draft.ensures short))

pub returns-then-is_short-clause-runs : goal.returns-then-is_short-clause-runs
returns-then-is_short-clause-runs c = subst (Runs c.args.bodies.now c.args.starts.now) (sym (c.of_sound.ensures ∙ c.in_ok-draft.ensures)) (lowered_runs c.args.bodies.now c.args.starts.now c.requires)

pub returns-then-is_short-clause-simple : goal.returns-then-is_short-clause-simple
returns-then-is_short-clause-simple c = subst (λ code. All (λ i. IsSimple i.op) code.instrs) (sym (c.of_sound.ensures ∙ c.in_ok-draft.ensures)) (lowered_simple c.args.bodies.now c.args.starts.now c.requires)

pub returns-then-is_short-clause-entries : goal.returns-then-is_short-clause-entries
returns-then-is_short-clause-entries c = ap (λ code. length code.entries) (c.of_sound.ensures ∙ c.in_ok-draft.ensures) ∙ lowered_entries c.args.bodies.now c.args.starts.now
