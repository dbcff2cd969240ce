use Rattle.rs_search.proofs.Remembering.{canonical_up}
use Rattle.rs_search.proofs.Uncut.{candidate_up, more_up, none_at_all, not_found_on, same_candidates, same_survivors, survives_up}
use Rattle.rs_search.proofs.laws.greater_bounds.Goals as goal

pub returns-clause-candidates : goal.returns-clause-candidates
returns-clause-candidates c = λ sub above bound more p le. candidate_up sub above bound more le p

pub returns-clause-survivors : goal.returns-clause-survivors
returns-clause-survivors c = λ sub above bound more p le. survives_up sub above bound more le p

pub returns-clause-large : goal.returns-clause-large
returns-clause-large c = more_up

pub returns-clause-derivation : goal.returns-clause-derivation
returns-clause-derivation c = canonical_up

pub returns-clause-uncut_candidates : goal.returns-clause-uncut_candidates
returns-clause-uncut_candidates c = λ sub above bound more p un le. same_candidates sub above bound more un le p

pub returns-clause-uncut_survivors : goal.returns-clause-uncut_survivors
returns-clause-uncut_survivors c = λ sub above bound more p un le. same_survivors sub above bound more un le p

pub returns-clause-not_found : goal.returns-clause-not_found
returns-clause-not_found c = not_found_on

pub returns-clause-none : goal.returns-clause-none
returns-clause-none c = none_at_all
