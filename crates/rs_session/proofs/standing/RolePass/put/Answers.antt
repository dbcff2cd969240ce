use Rattle.rs_session.proofs.OneRole.{put_done}
use Rattle.rs_session.proofs.standing.RolePass.put.Goals as goal

pub invariant_of-self : goal.invariant_of-self
invariant_of-self c =
    let role = c.self.inside.role in let state = c.self.inside.state in let acts = c.self.inside.acts in
    let is = c.self.view_is in
    let one = c.self.invariant in
    (put_done c.args.rings.now c.args.peer.0 c.args.parcel c.args.next state acts c.args.self.now role c.self.inside.pass c.put_next.new.pass is c.requires.well_formed c.requires.may one
    c.in-Done.ensures.told c.put_next.ensures.table).one

pub returns-in-Done : goal.returns-in-Done
returns-in-Done c =
    let role = c.self.inside.role in let state = c.self.inside.state in let acts = c.self.inside.acts in
    let is = c.self.view_is in
    let one = c.self.invariant in
    record {
      told = (put_done c.args.rings.now c.args.peer.0 c.args.parcel c.args.next state acts c.args.self.now role c.self.inside.pass c.put_next.new.pass is c.requires.well_formed
          c.requires.may one c.in-Done.ensures.told c.put_next.ensures.table).sent;
    }
