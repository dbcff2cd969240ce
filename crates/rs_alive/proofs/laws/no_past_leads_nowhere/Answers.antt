use Rattle.rs_alive.proofs.Agreeing.{leads_nowhere}
use Rattle.rs_alive.proofs.laws.no_past_leads_nowhere.Goals as goal

pub returns : goal.returns
returns c = leads_nowhere
