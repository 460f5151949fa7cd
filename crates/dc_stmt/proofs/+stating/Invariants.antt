use Rattle.dc_stmt.proofs.+stating.Given as goal

abbrev pub decreases-conditionals::contents : goal.decreases-conditionals::contents
decreases-conditionals::contents l = l.depth

abbrev pub decreases-conditionals::static_if : goal.decreases-conditionals::static_if
decreases-conditionals::static_if l = l.depth

abbrev pub decreases-conditionals::version : goal.decreases-conditionals::version
decreases-conditionals::version l = l.depth

abbrev pub decreases-conditionals::static_foreach : goal.decreases-conditionals::static_foreach
decreases-conditionals::static_foreach l = l.depth

abbrev pub decreases-conditionals::local_mixin : goal.decreases-conditionals::local_mixin
decreases-conditionals::local_mixin l = l.depth

abbrev pub decreases-loops::while_loop : goal.decreases-loops::while_loop
decreases-loops::while_loop l = l.depth

abbrev pub decreases-loops::do_loop : goal.decreases-loops::do_loop
decreases-loops::do_loop l = l.depth

abbrev pub decreases-loops::for_loop : goal.decreases-loops::for_loop
decreases-loops::for_loop l = l.depth

abbrev pub decreases-loops::count_or_walk : goal.decreases-loops::count_or_walk
decreases-loops::count_or_walk l = l.depth

abbrev pub decreases-loops::count : goal.decreases-loops::count
decreases-loops::count l = l.depth

abbrev pub decreases-loops::walk : goal.decreases-loops::walk
decreases-loops::walk l = l.depth

abbrev pub decreases-statements::statement : goal.decreases-statements::statement
decreases-statements::statement l = l.depth

abbrev pub decreases-statements::block : goal.decreases-statements::block
decreases-statements::block l = l.depth

abbrev pub decreases-statements::inner : goal.decreases-statements::inner
decreases-statements::inner l = l.depth

abbrev pub decreases-statements::if_chain : goal.decreases-statements::if_chain
decreases-statements::if_chain l = l.depth

abbrev pub decreases-switches::group : goal.decreases-switches::group
decreases-switches::group l = l.depth

abbrev pub decreases-switches::switch : goal.decreases-switches::switch
decreases-switches::switch l = l.depth
