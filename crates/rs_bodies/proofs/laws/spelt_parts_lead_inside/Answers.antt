use Rattle.rs_bodies.proofs.Leading.{leads_inside}
use Rattle.rs_bodies.proofs.laws.spelt_parts_lead_inside.Goals as goal

pub returns : goal.returns
returns c = leads_inside
