use Rattle.rs_reasons.proofs.Brought.{brings_accepted, brings_told}
use Rattle.rs_reasons.proofs.laws.nothing_brings_what_no_node_takes.Goals as goal

pub returns-clause-accepted : goal.returns-clause-accepted
returns-clause-accepted c = brings_accepted

pub returns-clause-told : goal.returns-clause-told
returns-clause-told c = brings_told
