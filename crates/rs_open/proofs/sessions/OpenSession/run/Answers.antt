use Rattle.std.proofs.Common.{ap, length, min, ◌∙◌}
use Rattle.rs_model.specs.declared.limits.TheConstants.{MOST_CAPACITY}
use Rattle.rs_safety.specs.Room.{room_of}
use Rattle.rs_open.proofs.Runs.{run_told}
use Rattle.rs_open.proofs.sessions.OpenSession.run.Goals as goal

pub returns-clause-ran : goal.returns-clause-ran
returns-clause-ran g c =
    run_told g.A.Actor.behaviour c.args.self.now.session c.accepted.result.now _ c.in_ok-actors.actors.items c.args.limit c.messages.result
    (min (room_of c.args.self.now.session.derivations) MOST_CAPACITY) (length c.roles.result.now) c.accepted.ensures (c.messages.ensures.messages ∙ c.capacity-capacity.ensures)
    (ap length c.roles.ensures.roles ∙ c.roles.ensures.has.one_each) c.in_ok-actors.ensures c.run_inline.result c.run_inline.ensures.plain c.run_inline.ensures.closed c.run_inline.ensures.rings
