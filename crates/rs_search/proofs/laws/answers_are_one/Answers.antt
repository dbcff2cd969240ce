use Rattle.rs_search.proofs.Determined.{few_nodes, not_both_ways, one_answer, one_refusal}
use Rattle.rs_search.proofs.laws.answers_are_one.Goals as goal

pub returns-clause-derivation : goal.returns-clause-derivation
returns-clause-derivation c = one_answer

pub returns-clause-fault : goal.returns-clause-fault
returns-clause-fault c = one_refusal

pub returns-clause-either : goal.returns-clause-either
returns-clause-either c = not_both_ways

pub returns-clause-bounded : goal.returns-clause-bounded
returns-clause-bounded c = few_nodes
