use Rattle.rs_search.proofs.Accepted.{accepted, derives, remembers}
use Rattle.rs_search.proofs.laws.answers_are_accepted.Goals as goal

pub returns-clause-derivation : goal.returns-clause-derivation
returns-clause-derivation c = λ sub above bound d ws wa f. derives sub above bound d ws wa f.canonical

pub returns-clause-remembers : goal.returns-clause-remembers
returns-clause-remembers c = remembers

pub returns-clause-none : goal.returns-clause-none
returns-clause-none c = accepted
