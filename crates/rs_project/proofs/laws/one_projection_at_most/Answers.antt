use Rattle.rs_project.proofs.OneProjection.{one_projection}
use Rattle.rs_project.proofs.laws.one_projection_at_most.Goals as goal

pub returns : goal.returns
returns c = λ pr role p q wf h k. one_projection pr role p q wf h k
