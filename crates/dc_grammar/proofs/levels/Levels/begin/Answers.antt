use Rattle.dc_grammar.proofs.Tables.{begun, begun_levels}
use Rattle.dc_grammar.proofs.levels.Levels.begin.Goals as goal

pub returns-clause-table : goal.returns-clause-table
returns-clause-table c = begun c.args.self.now.counts c.args.self.now.open c.args.self.now.number c.requires.table c.requires.room

pub returns-clause-levels : goal.returns-clause-levels
returns-clause-levels c = begun_levels c.args.self.now.counts c.args.self.now.open c.args.self.now.number c.requires.table c.requires.room
