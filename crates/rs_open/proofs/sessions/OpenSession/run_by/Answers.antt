use Rattle.std.proofs.Common.{ap, length, ◌∙◌}
use Rattle.rs_safety.specs.Room.{room_of}
use Rattle.rs_open.proofs.Runs.{crew_told}
use Rattle.rs_open.proofs.sessions.OpenSession.run_by.Goals as goal

pub returns-clause-ran : goal.returns-clause-ran
returns-clause-ran g c =
    crew_told g.A.Actor.behaviour c.args.self.now.session c.accepted.result.now _ c.in_ok-actors.actors.items c.args.limit c.room-room.result
    (room_of c.args.self.now.session.derivations) (length c.roles.result.now) c.accepted.ensures c.room-room.ensures (ap length c.roles.ensures.roles ∙ c.roles.ensures.has.one_each)
    c.in_ok-actors.ensures c.in_ok-ran.ran c.in_ok-ran.ensures.plain c.in_ok-ran.ensures.session c.in_ok-ran.ensures.rings c.in_ok-ran.ensures.enough
