use Rattle.rs_core.proofs.Guards.{send}
use Rattle.rs_core.proofs.laws.each_arm_can_be_sent.Goals as goal

pub returns : goal.returns
returns c = send
