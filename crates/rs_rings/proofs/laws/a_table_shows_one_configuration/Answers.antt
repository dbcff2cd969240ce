use Rattle.rs_rings.proofs.Shown.{shown, shown_once}
use Rattle.rs_rings.proofs.laws.a_table_shows_one_configuration.Goals as goal

pub returns-clause-some : goal.returns-clause-some
returns-clause-some c = shown

pub returns-clause-one : goal.returns-clause-one
returns-clause-one c = shown_once
