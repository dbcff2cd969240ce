use Rattle.rs_prefix.proofs.Right.{first, none}
use Rattle.rs_prefix.proofs.laws.the_first_is_found.Goals as goal

pub returns-clause-found : goal.returns-clause-found
returns-clause-found c = first

pub returns-clause-absent : goal.returns-clause-absent
returns-clause-absent c = none
