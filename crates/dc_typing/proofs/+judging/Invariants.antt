use Rattle.dc_typing.proofs.+judging.Given as goal

abbrev pub decreases-aggregates::array : goal.decreases-aggregates::array
decreases-aggregates::array l = l.depth

abbrev pub decreases-assigns::assign_operator : goal.decreases-assigns::assign_operator
decreases-assigns::assign_operator l = l.depth

abbrev pub decreases-assigns::assign : goal.decreases-assigns::assign
decreases-assigns::assign l = l.depth

abbrev pub decreases-assigns::assign_part : goal.decreases-assigns::assign_part
decreases-assigns::assign_part l = l.depth

abbrev pub decreases-calls::call_plain : goal.decreases-calls::call_plain
decreases-calls::call_plain l = l.depth

abbrev pub decreases-calls::call_member : goal.decreases-calls::call_member
decreases-calls::call_member l = l.depth

abbrev pub decreases-calls::finish_call : goal.decreases-calls::finish_call
decreases-calls::finish_call l = l.depth

abbrev pub decreases-calls::call_set : goal.decreases-calls::call_set
decreases-calls::call_set l = l.depth

abbrev pub decreases-calls::construct : goal.decreases-calls::construct
decreases-calls::construct l = l.depth

abbrev pub decreases-deduce::bind_length : goal.decreases-deduce::bind_length
decreases-deduce::bind_length l = l.depth

abbrev pub decreases-deduce::deduce_one : goal.decreases-deduce::deduce_one
decreases-deduce::deduce_one l = l.depth

abbrev pub decreases-deduce::deduce : goal.decreases-deduce::deduce
decreases-deduce::deduce l = l.depth

abbrev pub decreases-elements::bound : goal.decreases-elements::bound
decreases-elements::bound l = l.depth

abbrev pub decreases-elements::judge_index : goal.decreases-elements::judge_index
decreases-elements::judge_index l = l.depth

abbrev pub decreases-elements::judge_part : goal.decreases-elements::judge_part
decreases-elements::judge_part l = l.depth

abbrev pub decreases-evals::evaluate : goal.decreases-evals::evaluate
decreases-evals::evaluate l = l.depth

abbrev pub decreases-expression::judge : goal.decreases-expression::judge
decreases-expression::judge l = l.depth

abbrev pub decreases-expression::judge_to : goal.decreases-expression::judge_to
decreases-expression::judge_to l = l.depth

abbrev pub decreases-expression::condition : goal.decreases-expression::condition
decreases-expression::condition l = l.depth

abbrev pub decreases-expression::unary : goal.decreases-expression::unary
decreases-expression::unary l = l.depth

abbrev pub decreases-expression::cast : goal.decreases-expression::cast
decreases-expression::cast l = l.depth

abbrev pub decreases-expression::chain : goal.decreases-expression::chain
decreases-expression::chain l = l.depth

abbrev pub decreases-expression::assert : goal.decreases-expression::assert
decreases-expression::assert l = l.depth

abbrev pub decreases-expression::new_array : goal.decreases-expression::new_array
decreases-expression::new_array l = l.depth

abbrev pub decreases-guards::is_valid : goal.decreases-guards::is_valid
decreases-guards::is_valid l = l.depth

abbrev pub decreases-guards::is_struct : goal.decreases-guards::is_struct
decreases-guards::is_struct l = l.depth

abbrev pub decreases-guards::is_type : goal.decreases-guards::is_type
decreases-guards::is_type l = l.depth

abbrev pub decreases-guards::fits_pattern : goal.decreases-guards::fits_pattern
decreases-guards::fits_pattern l = l.depth

abbrev pub decreases-guards::traits : goal.decreases-guards::traits
decreases-guards::traits l = l.depth

abbrev pub decreases-guards::compiles : goal.decreases-guards::compiles
decreases-guards::compiles l = l.depth

abbrev pub decreases-guards::trait_symbol : goal.decreases-guards::trait_symbol
decreases-guards::trait_symbol l = l.depth

abbrev pub decreases-guards::has_member : goal.decreases-guards::has_member
decreases-guards::has_member l = l.depth

abbrev pub decreases-guards::all_members : goal.decreases-guards::all_members
decreases-guards::all_members l = l.depth

abbrev pub decreases-mixins::mixin_text : goal.decreases-mixins::mixin_text
decreases-mixins::mixin_text l = l.depth

abbrev pub decreases-mixins::mixed_expression : goal.decreases-mixins::mixed_expression
decreases-mixins::mixed_expression l = l.depth

abbrev pub decreases-overloads::judged_candidate : goal.decreases-overloads::judged_candidate
decreases-overloads::judged_candidate l = l.depth

abbrev pub decreases-overloads::levelled : goal.decreases-overloads::levelled
decreases-overloads::levelled l = l.depth

abbrev pub decreases-overloads::choose : goal.decreases-overloads::choose
decreases-overloads::choose l = l.depth

abbrev pub decreases-overloads::best : goal.decreases-overloads::best
decreases-overloads::best l = l.depth

abbrev pub decreases-overloads::beats_all : goal.decreases-overloads::beats_all
decreases-overloads::beats_all l = l.depth

abbrev pub decreases-overloads::beats : goal.decreases-overloads::beats
decreases-overloads::beats l = l.depth

abbrev pub decreases-overloads::is_above : goal.decreases-overloads::is_above
decreases-overloads::is_above l = l.depth

abbrev pub decreases-overloads::is_callable : goal.decreases-overloads::is_callable
decreases-overloads::is_callable l = l.depth

abbrev pub decreases-resolution::applied : goal.decreases-resolution::applied
decreases-resolution::applied l = l.depth

abbrev pub decreases-resolution::resolve : goal.decreases-resolution::resolve
decreases-resolution::resolve l = l.depth

abbrev pub decreases-resolution::resolve_name : goal.decreases-resolution::resolve_name
decreases-resolution::resolve_name l = l.depth

abbrev pub decreases-resolution::resolve_chain : goal.decreases-resolution::resolve_chain
decreases-resolution::resolve_chain l = l.depth

abbrev pub decreases-resolution::step : goal.decreases-resolution::step
decreases-resolution::step l = l.depth

abbrev pub decreases-resolution::member : goal.decreases-resolution::member
decreases-resolution::member l = l.depth

abbrev pub decreases-resolution::resolved_value : goal.decreases-resolution::resolved_value
decreases-resolution::resolved_value l = l.depth

abbrev pub decreases-taking::parameter : goal.decreases-taking::parameter
decreases-taking::parameter l = l.depth

abbrev pub decreases-taking::parameters : goal.decreases-taking::parameters
decreases-taking::parameters l = l.depth

abbrev pub decreases-taking::parameters_in : goal.decreases-taking::parameters_in
decreases-taking::parameters_in l = l.depth

abbrev pub decreases-taking::trial_parameters : goal.decreases-taking::trial_parameters
decreases-taking::trial_parameters l = l.depth

abbrev pub decreases-taking::opaque_parameters : goal.decreases-taking::opaque_parameters
decreases-taking::opaque_parameters l = l.depth

abbrev pub decreases-templates::argument : goal.decreases-templates::argument
decreases-templates::argument l = l.depth

abbrev pub decreases-templates::arguments : goal.decreases-templates::arguments
decreases-templates::arguments l = l.depth

abbrev pub decreases-templates::apply : goal.decreases-templates::apply
decreases-templates::apply l = l.depth

abbrev pub decreases-templates::with_arguments : goal.decreases-templates::with_arguments
decreases-templates::with_arguments l = l.depth

abbrev pub decreases-templates::instantiate : goal.decreases-templates::instantiate
decreases-templates::instantiate l = l.depth

abbrev pub decreases-templates::match_args : goal.decreases-templates::match_args
decreases-templates::match_args l = l.depth

abbrev pub decreases-templates::match_one : goal.decreases-templates::match_one
decreases-templates::match_one l = l.depth

abbrev pub decreases-templates::value_type : goal.decreases-templates::value_type
decreases-templates::value_type l = l.depth

abbrev pub decreases-types::fixed_of : goal.decreases-types::fixed_of
decreases-types::fixed_of l = l.depth

abbrev pub decreases-types::judge_type : goal.decreases-types::judge_type
decreases-types::judge_type l = l.depth

abbrev pub decreases-types::bracketed : goal.decreases-types::bracketed
decreases-types::bracketed l = l.depth

abbrev pub decreases-types::type_of_expression : goal.decreases-types::type_of_expression
decreases-types::type_of_expression l = l.depth

abbrev pub decreases-types::named_type : goal.decreases-types::named_type
decreases-types::named_type l = l.depth
