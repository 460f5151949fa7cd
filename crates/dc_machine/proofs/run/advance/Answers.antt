use Rattle.std.proofs.Common.{rules, refl, subst}
use Rattle.dc_machine.proofs.Advance.{goes, turns, enters, takes_some, stops, too_deep, prints, breaks}
use Rattle.dc_machine.specs.declared.state.Next.{Next}
use Rattle.dc_machine.specs.Running.{Stepped}
use Rattle.dc_machine.proofs.run.advance.Goals as goal

pub returns-in-Goes-clause-advances : goal.returns-in-Goes-clause-advances
returns-in-Goes-clause-advances g c = let P : Next → Type 0 = λ next. Stepped c.args.code.now c.args.limits c.args.m.now next c.step.new.m in let s = subst P c.in-Goes.is c.in-Ok.ensures.ok in goes c.args.code.now c.args.limits c.args.m.now c.step.new.m (g.S.Sink.taken c.args.out.now) s

pub returns-in-Turns-clause-advances : goal.returns-in-Turns-clause-advances
returns-in-Turns-clause-advances g c = let P : Next → Type 0 = λ next. Stepped c.args.code.now c.args.limits c.args.m.now next c.step.new.m in let s = subst P c.in-Turns.is c.in-Ok.ensures.ok in turns c.args.code.now c.args.limits c.args.m.now c.step.new.m (g.S.Sink.taken c.args.out.now) s

pub returns-in-Enters-clause-advances : goal.returns-in-Enters-clause-advances
returns-in-Enters-clause-advances g c = let P : Next → Type 0 = λ next. Stepped c.args.code.now c.args.limits c.args.m.now next c.step.new.m in let s = subst P c.in-Enters.is c.in-Ok.ensures.ok in enters c.args.code.now c.args.limits c.args.m.now c.step.new.m (g.S.Sink.taken c.args.out.now) c.in-Enters.field-0 s

pub returns-in-Takes-clause-advances : goal.returns-in-Takes-clause-advances
returns-in-Takes-clause-advances g c = let P : Next → Type 0 = λ next. Stepped c.args.code.now c.args.limits c.args.m.now next c.step.new.m in let s = subst P c.in-Takes.is c.in-Ok.ensures.ok in takes_some c.args.code.now c.args.limits c.args.m.now c.step.new.m (g.S.Sink.taken c.args.out.now) s

pub returns-in-Stops-clause-advances : goal.returns-in-Stops-clause-advances
returns-in-Stops-clause-advances g c = let P : Next → Type 0 = λ next. Stepped c.args.code.now c.args.limits c.args.m.now next c.step.new.m in let s = subst P c.in-Stops.is c.in-Ok.ensures.ok in stops c.args.code.now c.args.limits c.args.m.now c.step.new.m (g.S.Sink.taken c.args.out.now) c.in-Stops.stop s

pub returns-in-TooDeep-clause-advances : goal.returns-in-TooDeep-clause-advances
returns-in-TooDeep-clause-advances g c = let P : Next → Type 0 = λ next. Stepped c.args.code.now c.args.limits c.args.m.now next c.step.new.m in let s = subst P c.in-TooDeep.is c.in-Ok.ensures.ok in too_deep c.args.code.now c.args.limits c.args.m.now c.step.new.m (g.S.Sink.taken c.args.out.now) c.in-TooDeep.field-0 s

pub returns-in-Ok-print-clause-advances : goal.returns-in-Ok-print-clause-advances
returns-in-Ok-print-clause-advances g c = let P : Next → Type 0 = λ next. Stepped c.args.code.now c.args.limits c.args.m.now next c.step.new.m in let s = subst P c.in-Prints.is c.in-Ok.ensures.ok in prints c.args.code.now c.args.limits c.args.m.now c.step.new.m s _ (g.S.Sink.taken c.args.out.now) (g.S.Sink.taken c.print.new.out) refl refl refl refl refl refl c.in-Ok-print.ensures.empty (c.in-Ok-print.ensures.content).done

pub returns-in-Err-Failed-clause-advances : goal.returns-in-Err-Failed-clause-advances
returns-in-Err-Failed-clause-advances g c = let P : Next → Type 0 = λ next. Stepped c.args.code.now c.args.limits c.args.m.now next c.step.new.m in let s = subst P c.in-Prints.is c.in-Ok.ensures.ok in breaks c.args.code.now c.args.limits c.args.m.now c.step.new.m s (g.S.Sink.taken c.args.out.now) (g.S.Sink.taken c.print.new.out) (search rules) (search rules)
