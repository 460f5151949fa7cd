use Rattle.std.proofs.Common.{arith}
use Rattle.dc_grammar.proofs.Tables.{put_table, reset_levels, part}
use Rattle.dc_grammar.proofs.levels.Levels.reset.Goals as goal

pub returns-clause-table : goal.returns-clause-table
returns-clause-table c =
    let t = c.requires.table in
    let small = t.small in
    let le = part c.args.self.now.counts c.args.self.now.open c.args.self.now.number t in
    put_table c.args.self.now.counts c.args.self.now.open c.args.self.now.number t 0 _ (omega arith) (omega arith)

pub returns-clause-levels : goal.returns-clause-levels
returns-clause-levels c = reset_levels c.args.self.now.counts c.args.self.now.open c.args.self.now.number c.requires.table
