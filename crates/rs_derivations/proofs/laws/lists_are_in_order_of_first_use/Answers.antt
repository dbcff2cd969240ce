use Rattle.rs_derivations.proofs.FirstUses.{each_list_is_new, first_nodes_have_the_first_lists, lists_are_used, no_list_is_empty}
use Rattle.rs_derivations.proofs.laws.lists_are_in_order_of_first_use.Goals as goal

pub returns-clause-used : goal.returns-clause-used
returns-clause-used c = lists_are_used

pub returns-clause-none_empty : goal.returns-clause-none_empty
returns-clause-none_empty c = no_list_is_empty

pub returns-clause-once : goal.returns-clause-once
returns-clause-once c = each_list_is_new

pub returns-clause-order : goal.returns-clause-order
returns-clause-order c = first_nodes_have_the_first_lists
