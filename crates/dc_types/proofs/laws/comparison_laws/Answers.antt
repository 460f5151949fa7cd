use Rattle.dc_types.specs.Equal.{kinds, texts, steps, places, types}
use Rattle.dc_types.proofs.laws.comparison_laws.Goals as goal

pub returns-clause-kinds : goal.returns-clause-kinds
returns-clause-kinds c = kinds

pub returns-clause-texts : goal.returns-clause-texts
returns-clause-texts c = texts

pub returns-clause-steps : goal.returns-clause-steps
returns-clause-steps c = steps

pub returns-clause-places : goal.returns-clause-places
returns-clause-places c = places

pub returns-clause-types : goal.returns-clause-types
returns-clause-types c = types
