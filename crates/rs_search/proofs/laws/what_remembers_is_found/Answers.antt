use Rattle.rs_search.proofs.Remembering.{followed_is_found, followed_not_refused, not_forgetful}
use Rattle.rs_search.proofs.laws.what_remembers_is_found.Goals as goal

pub returns-clause-found : goal.returns-clause-found
returns-clause-found c = followed_is_found

pub returns-clause-refused : goal.returns-clause-refused
returns-clause-refused c = followed_not_refused

pub returns-clause-forgets : goal.returns-clause-forgets
returns-clause-forgets c = λ sub above bound d ws wa f v rem. not_forgetful sub above bound d ws wa v rem f
