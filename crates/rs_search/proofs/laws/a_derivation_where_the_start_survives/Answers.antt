use Rattle.rs_search.proofs.Deciding.{derived_where_whole}
use Rattle.rs_search.proofs.laws.a_derivation_where_the_start_survives.Goals as goal

pub returns : goal.returns
returns c = derived_where_whole
