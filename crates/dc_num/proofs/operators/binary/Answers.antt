use Rattle.std.proofs.Common.{subst}
use Rattle.dc_types.specs.Integers.{FitsRight}
use Rattle.dc_types.specs.declared.kind.BinOp.TheVariants as binop
use Rattle.dc_num.proofs.Results.{sum_goal, sum_is, difference_goal, difference_is, product_is, of_op}
use Rattle.dc_num.proofs.operators.binary.Goals as goal

pub overflow_add-a : goal.overflow_add-a
overflow_add-a c = sum_goal c.args.k c.args.a c.args.b c.ranges.a c.ranges.b c.requires.left (subst (λ op. FitsRight op c.args.k c.args.b) c.in-Add.is c.requires.right)

pub overflow_sub-a : goal.overflow_sub-a
overflow_sub-a c = difference_goal c.args.k c.args.a c.args.b c.ranges.a c.ranges.b c.requires.left (subst (λ op. FitsRight op c.args.k c.args.b) c.in-Sub.is c.requires.right)

pub returns-in-Add : goal.returns-in-Add
returns-in-Add c = of_op c.args.op binop.Add c.args.k c.args.a c.args.b _ c.in-Add.is (sum_is c.args.k c.args.a c.args.b c.ranges.a c.ranges.b c.requires.left (subst (λ op. FitsRight op c.args.k c.args.b) c.in-Add.is c.requires.right) c.wrap.result c.wrap.ensures)

pub returns-in-Sub : goal.returns-in-Sub
returns-in-Sub c = of_op c.args.op binop.Sub c.args.k c.args.a c.args.b _ c.in-Sub.is (difference_is c.args.k c.args.a c.args.b c.ranges.a c.ranges.b c.requires.left (subst (λ op. FitsRight op c.args.k c.args.b) c.in-Sub.is c.requires.right) c.wrap-in-Sub.result c.wrap-in-Sub.ensures)

pub returns-in-Mul : goal.returns-in-Mul
returns-in-Mul c = of_op c.args.op binop.Mul c.args.k c.args.a c.args.b _ c.in-Mul.is (product_is c.args.k c.args.a c.args.b c.ranges.a c.ranges.b c.requires.left (subst (λ op. FitsRight op c.args.k c.args.b) c.in-Mul.is c.requires.right) c.wrap-in-Mul.result c.wrap-in-Mul.ensures)
