use Rattle.rs_project.proofs.Deciding.{decided}
use Rattle.rs_project.proofs.laws.a_projection_or_a_refusal.Goals as goal

pub returns : goal.returns
returns c = decided
