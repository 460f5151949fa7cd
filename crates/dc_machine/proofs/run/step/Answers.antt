use Rattle.std.specs.Prelude.{slice_index_or}
use Rattle.dc_code.specs.declared.instr.Op.TheVariants.{Const}
use Rattle.dc_machine.proofs.Fit.{fitted}
use Rattle.dc_machine.proofs.Advance.{stepped_ok, takes_err}
use Rattle.dc_machine.proofs.run.step.Goals as goal

pub act-requires-clause-simple : goal.act-requires-clause-simple
act-requires-clause-simple c = (fitted c.args.code.now c.args.limits c.args.m.now c.requires.sound c.requires.ready c.args.ops.now (Const 0 0) c.requires.ops c.requires.simple).simple

pub act-requires-clause-slots : goal.act-requires-clause-slots
act-requires-clause-slots c = (fitted c.args.code.now c.args.limits c.args.m.now c.requires.sound c.requires.ready c.args.ops.now (Const 0 0) c.requires.ops c.requires.simple).slots

pub act-requires-clause-callee : goal.act-requires-clause-callee
act-requires-clause-callee c = (fitted c.args.code.now c.args.limits c.args.m.now c.requires.sound c.requires.ready c.args.ops.now (Const 0 0) c.requires.ops c.requires.simple).callee

pub act-requires-clause-back : goal.act-requires-clause-back
act-requires-clause-back c = (fitted c.args.code.now c.args.limits c.args.m.now c.requires.sound c.requires.ready c.args.ops.now (Const 0 0) c.requires.ops c.requires.simple).back

pub act-requires-clause-names : goal.act-requires-clause-names
act-requires-clause-names c = (fitted c.args.code.now c.args.limits c.args.m.now c.requires.sound c.requires.ready c.args.ops.now (Const 0 0) c.requires.ops c.requires.simple).names

pub returns-clause-ok : goal.returns-clause-ok
returns-clause-ok c =
    let f = fitted c.args.code.now c.args.limits c.args.m.now c.requires.sound c.requires.ready c.args.ops.now (Const 0 0) c.requires.ops c.requires.simple in
    stepped_ok c.args.code.now c.args.limits f.instr (slice_index_or c.args.ops.now c.args.m.now.pc (Const 0 0)) c.args.m.now c.act.result c.act.new.m f.there f.is c.act.ensures.does

pub returns-clause-err : goal.returns-clause-err
returns-clause-err c =
    let f = fitted c.args.code.now c.args.limits c.args.m.now c.requires.sound c.requires.ready c.args.ops.now (Const 0 0) c.requires.ops c.requires.simple in
    takes_err c.args.code.now c.args.limits f.instr (slice_index_or c.args.ops.now c.args.m.now.pc (Const 0 0)) c.args.m.now c.act.result f.there f.is c.act.ensures.wants
