use Rattle.rs_search.proofs.Deciding.{decided}
use Rattle.rs_search.proofs.laws.a_derivation_or_a_refusal.Goals as goal

pub returns : goal.returns
returns c = decided
