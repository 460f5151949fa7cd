use Rattle.std.proofs.Common.{◌∙◌, sym, ap, arith}
use Rattle.std.proofs.lemmas.Int.{ints}
use Rattle.dc_convert.specs.Ranges.{fitted, sum, difference, range_of}
use Rattle.dc_convert.proofs.Ends.{same_ends, wide}
use Rattle.dc_convert.proofs.ranges.by_operator.Goals as goal

pub overflow_add-a : goal.overflow_add-a
overflow_add-a c = let l = wide _ c.requires.left in let r = wide _ c.requires.right in omega (arith, ints)

pub overflow_add-a-in-Add : goal.overflow_add-a-in-Add
overflow_add-a-in-Add c = let l = wide _ c.requires.left in let r = wide _ c.requires.right in omega (arith, ints)

pub overflow_sub-a : goal.overflow_sub-a
overflow_sub-a c = let l = wide _ c.requires.left in let r = wide _ c.requires.right in omega (arith, ints)

pub overflow_sub-a-in-Sub : goal.overflow_sub-a-in-Sub
overflow_sub-a-in-Sub c = let l = wide _ c.requires.left in let r = wide _ c.requires.right in omega (arith, ints)

pub returns-in-Add : goal.returns-in-Add
unfolding range_of sum
returns-in-Add c =
    let l = wide _ c.requires.left in let r = wide _ c.requires.right in
    c.range_as.ensures ∙ ap (fitted c.args.k) (same_ends _ _ _ _ (omega (arith, ints)) (omega (arith, ints)))
    ∙ ap (λ o. range_of o c.args.k c.args.a.now c.args.b.now) (sym c.in-Add.is)

pub returns-in-Sub : goal.returns-in-Sub
unfolding range_of difference
returns-in-Sub c =
    let l = wide _ c.requires.left in let r = wide _ c.requires.right in
    c.range_as-in-Sub.ensures ∙ ap (fitted c.args.k) (same_ends _ _ _ _ (omega (arith, ints)) (omega (arith, ints)))
    ∙ ap (λ o. range_of o c.args.k c.args.a.now c.args.b.now) (sym c.in-Sub.is)

pub quotient-requires : goal.quotient-requires
quotient-requires c = record { left = wide _ c.requires.left; right = wide _ c.requires.right }

pub remainder-requires : goal.remainder-requires
remainder-requires c = record { left = wide _ c.requires.left; right = wide _ c.requires.right }

pub disjunction-requires : goal.disjunction-requires
disjunction-requires c = record { left = wide _ c.requires.left; right = wide _ c.requires.right }
