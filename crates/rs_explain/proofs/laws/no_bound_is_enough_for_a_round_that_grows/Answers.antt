use Rattle.rs_explain.proofs.Growing.{endless}
use Rattle.rs_explain.proofs.laws.no_bound_is_enough_for_a_round_that_grows.Goals as goal

pub returns : goal.returns
returns c = endless
