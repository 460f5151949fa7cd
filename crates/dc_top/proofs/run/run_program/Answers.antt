use Rattle.std.proofs.Common.{sym, subst}
use Rattle.dc_top.specs.Outcomes.{RanSo}
use Rattle.dc_top.specs.Machines.{Holds}
use Rattle.dc_top.proofs.Exits.{holds_ran}
use Rattle.dc_top.proofs.run.run_program.Goals as goal

pub returns-clause-ran : goal.returns-clause-ran
returns-clause-ran g c =
    let holds = subst (λ l. Holds c.args.program l c.in-Ok.machine) c.limits_of.ensures c.in-Ok.ensures in
    subst (λ r. RanSo c.args.program c.args.ticks (g.S.Sink.taken c.args.out.now) (g.S.Sink.taken c.run.new.out) r) (sym c.ending_from.ensures) (holds_ran c.args.program c.args.ticks c.in-Ok.machine holds _ _ c.run.result.end c.run.ensures.ran)
