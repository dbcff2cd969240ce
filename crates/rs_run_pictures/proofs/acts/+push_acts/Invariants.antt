use Rattle.std.proofs.Common.{length}
use Rattle.rs_run_pictures.proofs.acts.+push_acts.Given as goal

abbrev pub decreases-push_acts : goal.decreases-push_acts
decreases-push_acts l = length l.machines.now
