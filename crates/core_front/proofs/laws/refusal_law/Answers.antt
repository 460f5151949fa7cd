use Rattle.core_front.proofs.Lawful.{refusals_are_of_front}
use Rattle.core_front.proofs.laws.refusal_law.Goals as goal

pub returns : goal.returns
returns c home tokens tree r e = refusals_are_of_front home tokens tree r e
