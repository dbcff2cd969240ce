use Rattle.std.proofs.Common.{◌<◌, subst}
use Rattle.rs_model.specs.Data.{Protocol_data}
use Rattle.rs_answers.proofs.EachRole.{next_projection, refused_at}
use Rattle.rs_answers.proofs.sessions.projections_of.Goals as goal

pub returns-in-Err-clause-err : goal.returns-in-Err-clause-err
returns-in-Err-clause-err c =
    refused_at c.args.protocol.now c.loop-role.role c.loop-role.projections.items c.in-Err.fault
    (subst (λ (p : Protocol_data). c.loop-role.role < p.roles) c.protocol.view_is c.loop-role-test.true) c.loop-role.invariant c.in-Err.ensures.err

pub loop-role-preserved : goal.loop-role-preserved
loop-role-preserved c =
    rw c.in_ok-push.ensures.items
    (next_projection c.args.protocol.now c.loop-role.role c.loop-role.projections.items c.in-Ok.projection c.loop-role.invariant c.in-Ok.ensures.ok)
