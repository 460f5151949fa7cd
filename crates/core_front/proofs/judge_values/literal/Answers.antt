use Rattle.std.proofs.Common.{rules, arith}
use Rattle.std.proofs.lemmas.Int.{ints}
use Rattle.dc_types.specs.Integers.{least, greatest}
use Rattle.core_front.proofs.Literals.{literal_is}
use Rattle.core_front.proofs.judge_values.literal.Goals as goal

pub returns : goal.returns
unfolding least greatest
returns c =
    let e = literal_is c.args.known.now c.args.at c.args.n (omega (arith, ints, c.ranges.n.sfits)) (omega (arith, ints, c.ranges.n.sfits)) in
    search (rules, e, c.in_ok-constant_of.ensures)
