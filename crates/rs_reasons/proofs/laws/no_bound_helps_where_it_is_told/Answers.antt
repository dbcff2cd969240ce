use Rattle.rs_reasons.proofs.Hopeless.{no_bound_helps}
use Rattle.rs_reasons.proofs.laws.no_bound_helps_where_it_is_told.Goals as goal

pub returns : goal.returns
returns c = no_bound_helps
