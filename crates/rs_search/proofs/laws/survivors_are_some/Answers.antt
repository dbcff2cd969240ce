use Rattle.rs_search.proofs.Determined.{starts_survive}
use Rattle.rs_search.proofs.Small.{ends_survive, stuck_dies}
use Rattle.rs_search.proofs.Verdicts.{candidate_short}
use Rattle.rs_search.specs.Candidates.{Start}
use Rattle.rs_search.proofs.laws.survivors_are_some.Goals as goal

pub returns-clause-start : goal.returns-clause-start
returns-clause-start c = λ sub above bound. Start

pub returns-clause-short : goal.returns-clause-short
returns-clause-short c = candidate_short

pub returns-clause-canonical : goal.returns-clause-canonical
returns-clause-canonical c = starts_survive

pub returns-clause-ended : goal.returns-clause-ended
returns-clause-ended c = ends_survive

pub returns-clause-stuck : goal.returns-clause-stuck
returns-clause-stuck c = stuck_dies
