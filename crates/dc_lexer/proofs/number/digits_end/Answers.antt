use Rattle.std.proofs.Common.{◌≤◌, length, arith, subst, sym}
use Rattle.dc_lexer.proofs.Numbers.{digits_within, digits_past}
use Rattle.dc_lexer.proofs.number.digits_end.Goals as goal

pub past-requires : goal.past-requires
past-requires c = let w = digits_within c.args.z.now c.requires in omega arith

pub returns-clause-value : goal.returns-clause-value
returns-clause-value c = digits_past c.args.z.now c.past.result c.requires c.past.ensures.value

pub returns-clause-within : goal.returns-clause-within
returns-clause-within c = let e = digits_past c.args.z.now c.past.result c.requires c.past.ensures.value in subst (λ n. (1 ≤ n) × (n ≤ length c.args.z.now)) (sym e) (digits_within c.args.z.now c.requires)
