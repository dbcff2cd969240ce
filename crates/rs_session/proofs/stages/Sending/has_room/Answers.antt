use Rattle.rs_session.proofs.Telling.{looked}
use Rattle.rs_session.proofs.stages.Sending.has_room.Goals as goal

pub returns : goal.returns
returns c = record {
  told = looked c.args.session.now c.rings.result.now c.args.self.now c.self.inside.standing c.has_room.new.self c.sending_peer-peer.result c.has_room.result
      c.rings.ensures.rings c.self.view_is c.requires.of.table c.sending_peer-peer.ensures c.has_room.ensures.told;
}
