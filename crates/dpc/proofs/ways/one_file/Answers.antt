use Rattle.std.proofs.Common.{rules}
use Rattle.dpc.proofs.Alone.{got_alone}
use Rattle.dpc.proofs.ways.one_file.Goals as goal

pub returns : goal.returns
returns c = got_alone c.args.path.now c.args.bytes c.push.new.self (search rules)
