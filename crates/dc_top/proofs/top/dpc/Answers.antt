use Rattle.dc_top.proofs.Endings.{run_says, refusal_says}
use Rattle.dc_top.proofs.top.dpc.Goals as goal

pub returns-clause-runs : goal.returns-clause-runs
returns-clause-runs g c = λ some rose run is. run_says _ _ _ _ _ _ _ _ some rose c.carry_out.result c.carry_out.ensures.answers run is

pub returns-clause-refuses : goal.returns-clause-refuses
returns-clause-refuses g c = λ some rose line is. refusal_says _ _ _ _ _ _ _ _ some rose c.carry_out.result c.carry_out.ensures.answers line is
