use Rattle.rs_session.proofs.Telling.{full, sends_to, went}
use Rattle.rs_session.proofs.stages.Sending.send_by.Goals as goal

pub returns-in-Done : goal.returns-in-Done
returns-in-Done c =
    let to = sends_to c.args.session.now c.args.self c.self.inside.standing c.args.place c.args.value c.args.peer c.args.arm c.self.view_is c.requires.by.0 c.requires.by.1 c.requires.by.2 in
    record {
      told = went c.args.session.now c.rings.result.now c.args.self c.self.inside.standing c.put.new.self c.args.place c.args.value c.args.peer c.args.arm c.stage.result
          c.rings.ensures.rings c.self.view_is c.requires.by.0 to c.in-Done.ensures.told c.stage.ensures.of c.stage.ensures.same;
    }

pub returns-in-Full : goal.returns-in-Full
returns-in-Full c =
    let to = sends_to c.args.session.now c.args.self c.self.inside.standing c.args.place c.args.value c.args.peer c.args.arm c.self.view_is c.requires.by.0 c.requires.by.1 c.requires.by.2 in
    record {
      told = full c.args.session.now c.rings.result.now c.args.self c.self.inside.standing c.put.new.self c.args.place c.args.value c.args.peer c.args.arm c.in-Full.sent c.in-Full.taken c.in-Full.parcel
          c.rings.ensures.rings c.self.view_is c.requires.table c.requires.by.0 to c.in-Full.ensures.told.0 c.in-Full.ensures.told.1;
    }
