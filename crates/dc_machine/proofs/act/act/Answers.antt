use Rattle.dc_machine.proofs.Ops.{leads_as, ok_leads_as}
use Rattle.dc_machine.proofs.act.act.Goals as goal

pub returns-in-Const-clause-does : goal.returns-in-Const-clause-does
returns-in-Const-clause-does c = leads_as c.args.code.now c.args.limits c.args.op _ c.args.m.now c.constant.result c.constant.new.m c.in-Const.is c.constant.ensures.does

pub returns-in-Copy-clause-does : goal.returns-in-Copy-clause-does
returns-in-Copy-clause-does c = leads_as c.args.code.now c.args.limits c.args.op _ c.args.m.now c.copy.result c.copy.new.m c.in-Copy.is c.copy.ensures.does

pub returns-in-Unary-clause-does : goal.returns-in-Unary-clause-does
returns-in-Unary-clause-does c = leads_as c.args.code.now c.args.limits c.args.op _ c.args.m.now c.unary.result c.unary.new.m c.in-Unary.is c.unary.ensures.does

pub returns-in-Compare-clause-does : goal.returns-in-Compare-clause-does
returns-in-Compare-clause-does c = leads_as c.args.code.now c.args.limits c.args.op _ c.args.m.now c.compare.result c.compare.new.m c.in-Compare.is c.compare.ensures.does

pub returns-in-Cast-clause-does : goal.returns-in-Cast-clause-does
returns-in-Cast-clause-does c = leads_as c.args.code.now c.args.limits c.args.op _ c.args.m.now c.cast.result c.cast.new.m c.in-Cast.is c.cast.ensures.does

pub returns-in-Jump-clause-does : goal.returns-in-Jump-clause-does
returns-in-Jump-clause-does c = leads_as c.args.code.now c.args.limits c.args.op _ c.args.m.now c.jump.result c.jump.new.m c.in-Jump.is c.jump.ensures.does

pub returns-in-JumpZero-clause-does : goal.returns-in-JumpZero-clause-does
returns-in-JumpZero-clause-does c = leads_as c.args.code.now c.args.limits c.args.op _ c.args.m.now c.jump_zero.result c.jump_zero.new.m c.in-JumpZero.is c.jump_zero.ensures.does

pub returns-in-JumpOther-clause-does : goal.returns-in-JumpOther-clause-does
returns-in-JumpOther-clause-does c = leads_as c.args.code.now c.args.limits c.args.op _ c.args.m.now c.jump_other.result c.jump_other.new.m c.in-JumpOther.is c.jump_other.ensures.does

pub returns-in-Turn-clause-does : goal.returns-in-Turn-clause-does
returns-in-Turn-clause-does c = leads_as c.args.code.now c.args.limits c.args.op _ c.args.m.now c.turn.result c.turn.new.m c.in-Turn.is c.turn.ensures.does

pub returns-in-Return-clause-does : goal.returns-in-Return-clause-does
returns-in-Return-clause-does c = leads_as c.args.code.now c.args.limits c.args.op _ c.args.m.now c.leave.result c.leave.new.m c.in-Return.is c.leave.ensures.does

pub returns-in-Flush-clause-does : goal.returns-in-Flush-clause-does
returns-in-Flush-clause-does c = leads_as c.args.code.now c.args.limits c.args.op _ c.args.m.now c.flush.result c.flush.new.m c.in-Flush.is c.flush.ensures.does

pub returns-in-PutInt-clause-does : goal.returns-in-PutInt-clause-does
returns-in-PutInt-clause-does c = ok_leads_as c.args.code.now c.args.limits c.args.op _ c.args.m.now c.put_int.result c.put_int.new.m c.in-PutInt.is c.put_int.ensures.does
