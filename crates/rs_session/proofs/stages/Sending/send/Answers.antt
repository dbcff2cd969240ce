use Rattle.rs_session.proofs.Telling.{sends_by}
use Rattle.rs_session.proofs.stages.Sending.send.Goals as goal

pub send_by-requires-clause-by : goal.send_by-requires-clause-by
send_by-requires-clause-by c = sends_by c.args.session.now c.args.self c.self.inside.standing c.args.arm c.args.value c.sending_arm.result.0 c.sending_arm.result.1
    c.self.view_is c.requires.arm c.sending_arm.ensures
