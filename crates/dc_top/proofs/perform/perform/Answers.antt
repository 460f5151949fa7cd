use Rattle.dc_top.proofs.Endings.{told_follows}
use Rattle.dc_top.proofs.perform.perform.Goals as goal

pub returns-in-Ok-clause-follows : goal.returns-in-Ok-clause-follows
returns-in-Ok-clause-follows g c =
    told_follows c.args.run _ _ _ _ c.report_ending.result c.in-Ok.ending c.in-Ok.ensures.ran.ended c.in-Ok.ensures.ran.put c.report_ending.ensures.told
