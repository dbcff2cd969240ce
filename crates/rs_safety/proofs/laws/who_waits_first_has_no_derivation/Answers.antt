use Rattle.rs_safety.proofs.Waiting.{no_derivation}
use Rattle.rs_safety.proofs.laws.who_waits_first_has_no_derivation.Goals as goal

pub returns : goal.returns
returns c = no_derivation
