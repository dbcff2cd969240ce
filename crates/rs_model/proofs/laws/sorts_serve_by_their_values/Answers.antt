use Rattle.rs_model.proofs.Serving.{has_served_sort, serves_by_values}
use Rattle.rs_model.proofs.laws.sorts_serve_by_their_values.Goals as goal

pub returns-clause-values : goal.returns-clause-values
returns-clause-values c = has_served_sort

pub returns-clause-others : goal.returns-clause-others
returns-clause-others c = serves_by_values
