use Rattle.rs_places.proofs.OneList.{some_places, one_places}
use Rattle.rs_places.proofs.laws.one_list_of_places.Goals as goal

pub returns-clause-some : goal.returns-clause-some
returns-clause-some c = some_places

pub returns-clause-one : goal.returns-clause-one
returns-clause-one c = one_places
