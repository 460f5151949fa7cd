use Rattle.dc_lower.proofs.+value.Given as goal

abbrev pub decreases-prints::print : goal.decreases-prints::print
decreases-prints::print l = l.depth

abbrev pub decreases-places::place : goal.decreases-places::place
decreases-places::place l = l.depth

abbrev pub decreases-places::temporary : goal.decreases-places::temporary
decreases-places::temporary l = l.depth

abbrev pub decreases-places::element : goal.decreases-places::element
decreases-places::element l = l.depth

abbrev pub decreases-places::fixed_element : goal.decreases-places::fixed_element
decreases-places::fixed_element l = l.depth

abbrev pub decreases-values::operand : goal.decreases-values::operand
decreases-values::operand l = l.depth

abbrev pub decreases-values::kept : goal.decreases-values::kept
decreases-values::kept l = l.depth

abbrev pub decreases-values::value : goal.decreases-values::value
decreases-values::value l = l.depth

abbrev pub decreases-values::other_value : goal.decreases-values::other_value
decreases-values::other_value l = l.depth

abbrev pub decreases-values::compound : goal.decreases-values::compound
decreases-values::compound l = l.depth

abbrev pub decreases-values::array_value : goal.decreases-values::array_value
decreases-values::array_value l = l.depth

abbrev pub decreases-values::parts : goal.decreases-values::parts
decreases-values::parts l = l.depth

abbrev pub decreases-values::chain : goal.decreases-values::chain
decreases-values::chain l = l.depth

abbrev pub decreases-values::first_operand : goal.decreases-values::first_operand
decreases-values::first_operand l = l.depth

abbrev pub decreases-values::link : goal.decreases-values::link
decreases-values::link l = l.depth

abbrev pub decreases-values::compare : goal.decreases-values::compare
decreases-values::compare l = l.depth

abbrev pub decreases-values::choices : goal.decreases-values::choices
decreases-values::choices l = l.depth

abbrev pub decreases-values::conditional : goal.decreases-values::conditional
decreases-values::conditional l = l.depth

abbrev pub decreases-values::assign : goal.decreases-values::assign
decreases-values::assign l = l.depth

abbrev pub decreases-values::update : goal.decreases-values::update
decreases-values::update l = l.depth

abbrev pub decreases-values::call : goal.decreases-values::call
decreases-values::call l = l.depth

abbrev pub decreases-arrays::joined : goal.decreases-arrays::joined
decreases-arrays::joined l = l.depth

abbrev pub decreases-arrays::joins : goal.decreases-arrays::joins
decreases-arrays::joins l = l.depth

abbrev pub decreases-arrays::made : goal.decreases-arrays::made
decreases-arrays::made l = l.depth

abbrev pub decreases-arrays::join_two : goal.decreases-arrays::join_two
decreases-arrays::join_two l = l.depth

abbrev pub decreases-arrays::written : goal.decreases-arrays::written
decreases-arrays::written l = l.depth

abbrev pub decreases-arrays::all_values : goal.decreases-arrays::all_values
decreases-arrays::all_values l = l.depth

abbrev pub decreases-arrays::texts : goal.decreases-arrays::texts
decreases-arrays::texts l = l.depth

abbrev pub decreases-arrays::set_length : goal.decreases-arrays::set_length
decreases-arrays::set_length l = l.depth

abbrev pub decreases-arrays::update_length : goal.decreases-arrays::update_length
decreases-arrays::update_length l = l.depth

abbrev pub decreases-arrays::same : goal.decreases-arrays::same
decreases-arrays::same l = l.depth

abbrev pub decreases-conditions::decide : goal.decreases-conditions::decide
decreases-conditions::decide l = l.depth

abbrev pub decreases-conditions::decide_all : goal.decreases-conditions::decide_all
decreases-conditions::decide_all l = l.depth
