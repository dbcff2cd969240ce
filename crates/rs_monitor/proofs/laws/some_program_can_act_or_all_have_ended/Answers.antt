use Rattle.rs_monitor.proofs.Reaching.{acts_or_ended}
use Rattle.rs_monitor.proofs.laws.some_program_can_act_or_all_have_ended.Goals as goal

pub returns : goal.returns
returns c = acts_or_ended
