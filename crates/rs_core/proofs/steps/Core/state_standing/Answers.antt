use Rattle.std.proofs.Common.{subst}
use Rattle.rs_core.specs.Core.{Core_data}
use Rattle.rs_core.specs.Queues.{IsStanding}
use Rattle.rs_core.proofs.Sessions.{standing}
use Rattle.rs_core.proofs.steps.Core.state_standing.Goals as goal

pub returns-clause-standing : goal.returns-clause-standing
returns-clause-standing c =
    let P : Core_data → Type 0 = λ z. IsStanding z in
    subst P c.self.view_is (standing c.self.inside.cells c.self.invariant)
