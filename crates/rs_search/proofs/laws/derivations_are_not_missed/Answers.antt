use Rattle.rs_search.proofs.Surviving.{derived_survives, survival_derives}
use Rattle.rs_search.proofs.Uncut.{none_is_not_found, none_within}
use Rattle.rs_search.proofs.laws.derivations_are_not_missed.Goals as goal

pub returns-clause-survives : goal.returns-clause-survives
returns-clause-survives c = derived_survives

pub returns-clause-derives : goal.returns-clause-derives
returns-clause-derives c = survival_derives

pub returns-clause-none : goal.returns-clause-none
returns-clause-none c = none_within

pub returns-clause-not_found : goal.returns-clause-not_found
returns-clause-not_found c = none_is_not_found
