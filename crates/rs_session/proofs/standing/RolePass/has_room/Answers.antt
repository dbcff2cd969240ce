use Rattle.rs_session.proofs.OneRole.{room_looked, sends_there}
use Rattle.rs_session.proofs.standing.RolePass.has_room.Goals as goal

pub has_room-requires-clause-sends : goal.has_room-requires-clause-sends
has_room-requires-clause-sends c = sends_there c.args.rings.now c.args.peer c.args.self.now c.self.inside.role c.self.inside.pass c.self.view_is c.requires.stands

pub invariant_of-self : goal.invariant_of-self
invariant_of-self c =
    (room_looked c.args.rings.now c.args.peer.0 c.has_room.result c.self.inside.state c.self.inside.acts c.args.self.now c.self.inside.role c.self.inside.pass c.has_room.new.pass c.self.view_is
    c.self.invariant c.has_room.ensures.told c.has_room.ensures.table).one

pub returns : goal.returns
returns c = record {
  told = (room_looked c.args.rings.now c.args.peer.0 c.has_room.result c.self.inside.state c.self.inside.acts c.args.self.now c.self.inside.role c.self.inside.pass c.has_room.new.pass c.self.view_is
      c.self.invariant c.has_room.ensures.told c.has_room.ensures.table).looks;
}
