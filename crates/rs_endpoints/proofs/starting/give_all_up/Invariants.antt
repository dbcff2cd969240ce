use Rattle.std.proofs.Common.{vec_len}
use Rattle.rs_endpoints.proofs.starting.give_all_up.Given as goal

abbrev pub decreases-loop-stage : goal.decreases-loop-stage
decreases-loop-stage l = vec_len l.stages
