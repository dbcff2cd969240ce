use Rattle.rs_rings.proofs.Arms.{put_once, take_once}
use Rattle.rs_rings.proofs.laws.an_act_leads_to_one_state.Goals as goal

pub returns-clause-put : goal.returns-clause-put
returns-clause-put c = put_once

pub returns-clause-take : goal.returns-clause-take
returns-clause-take c = take_once
