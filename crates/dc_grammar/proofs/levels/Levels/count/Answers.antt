use Rattle.std.proofs.Common.{arith}
use Rattle.dc_grammar.proofs.Tables.{put_table, count_levels}
use Rattle.dc_grammar.proofs.levels.Levels.count.Goals as goal

pub returns-clause-table : goal.returns-clause-table
returns-clause-table c =
    let room = c.requires.room in
    put_table c.args.self.now.counts c.args.self.now.open c.args.self.now.number c.requires.table _ _ (omega arith) (omega arith)

pub returns-clause-levels : goal.returns-clause-levels
returns-clause-levels c = count_levels c.args.self.now.counts c.args.self.now.open c.args.self.now.number c.requires.table
