use Rattle.rs_runs.proofs.DemoEndings.{never_stuck}
use Rattle.rs_runs.proofs.laws.runs_of_demos_are_never_stuck.Goals as goal

pub returns : goal.returns
returns c = λ text d ps ms ds actors capacity k doc h f enough p. never_stuck text d ps ms ds actors capacity doc h f enough k p
