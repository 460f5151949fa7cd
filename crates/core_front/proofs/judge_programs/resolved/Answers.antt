use Rattle.core_front.proofs.TypedPrograms.{answers_typed}
use Rattle.core_front.proofs.judge_programs.resolved.Goals as goal

pub returns-clause-typed : goal.returns-clause-typed
returns-clause-typed c = answers_typed c.args.known.now c.places_differ.ensures c.bodies_and_start.result c.bodies_and_start.ensures
