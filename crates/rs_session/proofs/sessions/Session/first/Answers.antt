use Rattle.std.proofs.Common.{IsSome, sym, subst}
use Rattle.rs_session.specs.Data.{Stage_data}
use Rattle.rs_session.specs.Stages.{state_of_stage}
use Rattle.rs_session.proofs.Beginning.{first_there}
use Rattle.rs_session.proofs.sessions.Session.first.Goals as goal

pub stage-requires-clause-present : goal.stage-requires-clause-present
stage-requires-clause-present c =
    subst (λ (z : Stage_data). IsSome (state_of_stage c.args.self.now z)) (sym c.in_ok-standing.ensures.same)
    (first_there c.args.self.now.machines c.args.role.0 c.machine.result.now c.args.pass.view c.requires.well_formed c.machine.ensures.machine c.requires.first)
