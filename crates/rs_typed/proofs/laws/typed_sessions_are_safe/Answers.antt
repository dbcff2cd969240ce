use Rattle.rs_typed.proofs.Safe.{typed_are_safe}
use Rattle.rs_typed.proofs.laws.typed_sessions_are_safe.Goals as goal

pub returns : goal.returns
returns c = typed_are_safe
