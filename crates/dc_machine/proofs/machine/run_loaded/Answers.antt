use Rattle.std.proofs.Common.{[], ap, ◌∙◌, subst}
use Rattle.std.specs.Prelude.{Result, Err}
use Rattle.dc_code.specs.State.{On}
use Rattle.dc_code.specs.Exec.{Takes}
use Rattle.dc_machine.specs.declared.state.Halt.{Halt}
use Rattle.dc_machine.specs.declared.state.Fault.{Fault}
use Rattle.dc_machine.specs.After.{machine_of}
use Rattle.dc_machine.specs.Program.{Program}
use Rattle.dc_machine.specs.Running.{Runs}
use Rattle.dc_machine.specs.Runs.{RanTo, BreaksOff, BreaksAtPut}
use Rattle.dc_machine.proofs.Reports.{ended, broken, broken_at_put, takes}
use Rattle.dc_machine.proofs.machine.run_loaded.Goals as goal

pub returns-in-Ok-clause-ran : goal.returns-in-Ok-clause-ran
returns-in-Ok-clause-ran g c =
    let code = c.loaded.inside.code in
    let limits = c.loaded.inside.limits in
    let old = g.S.Sink.taken c.args.out.now in
    let new = g.S.Sink.taken c.run_on.new.out in
    let from = On (machine_of code c.first_state-state.result 0 []) in
    let P : Result Halt Fault → Type 0 = λ r. Runs code limits from c.run_on.new.m old new r in
    let e = subst P c.in-Ok.is c.run_on.ensures.runs in
    let Q : Program → Type 0 = λ p. RanTo p.code c.args.entry p.limits old new c.finish.result in
    subst Q c.loaded.view_is (ended code c.args.entry limits old new from c.first_state-state.ensures.start c.in-Ok.halt c.run_on.new.m c.finish.result e c.finish.ensures)

pub returns-in-Err-NoMemory-clause-ran : goal.returns-in-Err-NoMemory-clause-ran
returns-in-Err-NoMemory-clause-ran g c =
    let code = c.loaded.inside.code in
    let limits = c.loaded.inside.limits in
    let old = g.S.Sink.taken c.args.out.now in
    let new = g.S.Sink.taken c.run_on.new.out in
    let from = On (machine_of code c.first_state-state.result 0 []) in
    let P : Result Halt Fault → Type 0 = λ r. Runs code limits from c.run_on.new.m old new r in
    let e = subst P (c.in-Err-NoMemory.is ∙ ap (λ f. Err f) c.in-Err-NoMemory.field-0-is) c.run_on.ensures.runs in
    let Q : Program → Type 0 = λ p. BreaksOff p.code c.args.entry p.limits old new × Takes p.code c.args.entry p.limits p.limits.ticks in
    subst Q c.loaded.view_is (broken code c.args.entry limits old new from c.first_state-state.ensures.start e.0, takes code c.args.entry limits old new from c.first_state-state.ensures.start e.1)

pub returns-clause-ran : goal.returns-clause-ran
returns-clause-ran g c =
    let code = c.loaded.inside.code in
    let limits = c.loaded.inside.limits in
    let old = g.S.Sink.taken c.args.out.now in
    let new = g.S.Sink.taken c.run_on.new.out in
    let from = On (machine_of code c.first_state-state.result 0 []) in
    let P : Result Halt Fault → Type 0 = λ r. Runs code limits from c.run_on.new.m old new r in
    let e = subst P (c.in-Err-Failed.is ∙ ap (λ f. Err f) c.in-Err-Failed.field-0-is) c.run_on.ensures.runs in
    let Q : Program → Type 0 = λ p. BreaksAtPut p.code c.args.entry p.limits old new in
    subst Q c.loaded.view_is (broken_at_put code c.args.entry limits old new from c.first_state-state.ensures.start e)
