use Rattle.rs_alive.proofs.Agreeing.{one_configuration}
use Rattle.rs_alive.proofs.laws.a_past_leads_to_one_configuration.Goals as goal

pub returns : goal.returns
returns c = one_configuration
