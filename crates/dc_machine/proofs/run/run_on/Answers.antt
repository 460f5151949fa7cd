use Rattle.std.proofs.Common.{rules, Option, [], refl, ap, ◌∙◌, subst}
use Rattle.std.specs.Prelude.{Result, Ok}
use Rattle.dc_code.specs.State.{On}
use Rattle.dc_machine.specs.declared.state.Halt.{Halt}
use Rattle.dc_machine.specs.declared.state.Fault.{Fault}
use Rattle.dc_machine.specs.After.{machine_of}
use Rattle.dc_machine.specs.Running.{Advances}
use Rattle.dc_machine.proofs.Loop.{comes, goes_on, rank_falls, halts, fails}
use Rattle.dc_machine.proofs.run.run_on.Goals as goal

pub loop-halt-init : goal.loop-halt-init
loop-halt-init g c = record {
  comes = comes c.args.code.now c.args.limits c.args.m.now (g.S.Sink.taken c.args.out.now) c.requires.begins;
  faults = refl;
}

pub loop-halt-smaller : goal.loop-halt-smaller
loop-halt-smaller g c =
    let P : Result (Option Halt) Fault → Type 0 = λ r. Advances c.args.code.now c.args.limits c.loop-halt.m c.advance.new.m (g.S.Sink.taken c.loop-halt.out) (g.S.Sink.taken c.advance.new.out) r in
    let a = subst P (c.in-Ok-None.is ∙ ap (λ o. Ok o) c.in-Ok-None.field-0-is) c.advance.ensures.advances in
    rank_falls c.args.code.now c.args.limits (On (machine_of c.args.code.now c.args.m.now 0 [])) c.loop-halt.m (g.S.Sink.taken c.args.out.now) (g.S.Sink.taken c.loop-halt.out) c.loop-halt.invariant.comes (c.keeps_standing.ensures c.args.limits) c.advance.new.m (g.S.Sink.taken c.advance.new.out) a

pub loop-halt-preserved : goal.loop-halt-preserved
loop-halt-preserved g c =
    let P : Result (Option Halt) Fault → Type 0 = λ r. Advances c.args.code.now c.args.limits c.loop-halt.m c.advance.new.m (g.S.Sink.taken c.loop-halt.out) (g.S.Sink.taken c.advance.new.out) r in
    let a = subst P (c.in-Ok-None.is ∙ ap (λ o. Ok o) c.in-Ok-None.field-0-is) c.advance.ensures.advances in
    record {
      comes = goes_on c.args.code.now c.args.limits (On (machine_of c.args.code.now c.args.m.now 0 [])) c.loop-halt.m (g.S.Sink.taken c.args.out.now) (g.S.Sink.taken c.loop-halt.out) c.loop-halt.invariant.comes (c.keeps_standing.ensures c.args.limits) c.advance.new.m (g.S.Sink.taken c.advance.new.out) a c.advance.ensures.room;
      faults = search rules;
    }

pub returns-in-Ok-Some-clause-runs : goal.returns-in-Ok-Some-clause-runs
returns-in-Ok-Some-clause-runs g c =
    let P : Result (Option Halt) Fault → Type 0 = λ r. Advances c.args.code.now c.args.limits c.loop-halt.m c.advance.new.m (g.S.Sink.taken c.loop-halt.out) (g.S.Sink.taken c.advance.new.out) r in
    let a = subst P (c.in-Ok-Some.is ∙ ap (λ o. Ok o) c.in-Ok-Some.field-0-is) c.advance.ensures.advances in
    halts c.args.code.now c.args.limits (On (machine_of c.args.code.now c.args.m.now 0 [])) c.loop-halt.m (g.S.Sink.taken c.args.out.now) (g.S.Sink.taken c.loop-halt.out) c.loop-halt.invariant.comes (c.keeps_standing.ensures c.args.limits) c.in-Ok-Some.halt c.advance.new.m (g.S.Sink.taken c.advance.new.out) a

pub returns-in-Err-clause-runs : goal.returns-in-Err-clause-runs
returns-in-Err-clause-runs g c =
    let P : Result (Option Halt) Fault → Type 0 = λ r. Advances c.args.code.now c.args.limits c.loop-halt.m c.advance.new.m (g.S.Sink.taken c.loop-halt.out) (g.S.Sink.taken c.advance.new.out) r in
    let a = subst P c.in-Err.is c.advance.ensures.advances in
    fails c.args.code.now c.args.limits (On (machine_of c.args.code.now c.args.m.now 0 [])) c.loop-halt.m (g.S.Sink.taken c.args.out.now) (g.S.Sink.taken c.loop-halt.out) c.loop-halt.invariant.comes (c.keeps_standing.ensures c.args.limits) c.in-Err.fault c.advance.new.m (g.S.Sink.taken c.advance.new.out) a
