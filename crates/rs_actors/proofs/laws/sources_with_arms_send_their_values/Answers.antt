use Rattle.std.proofs.Common.{List, subst}
use Rattle.rs_model.specs.declared.values.Value.{Value}
use Rattle.rs_actors.specs.Talks.{SendsInOrder, values_sent}
use Rattle.rs_actors.proofs.Sending.{in_order}
use Rattle.rs_actors.proofs.laws.sources_with_arms_send_their_values.Goals as goal

pub returns-clause-from : goal.returns-clause-from
returns-clause-from c machine s t values left history has p = in_order machine history s t values left has p

pub returns-clause-plays : goal.returns-clause-plays
returns-clause-plays c machine values left history has p =
    subst (λ (z : List Value). SendsInOrder values (values_sent history) z) p.keeps (in_order machine history machine.start p.state values p.actor has p.plays)
