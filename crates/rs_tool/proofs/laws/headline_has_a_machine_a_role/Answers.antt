use Rattle.rs_tool.proofs.OneSession.{one_machine_each}
use Rattle.rs_tool.proofs.laws.headline_has_a_machine_a_role.Goals as goal

pub returns : goal.returns
returns c = one_machine_each
