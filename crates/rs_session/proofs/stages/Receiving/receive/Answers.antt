use Rattle.rs_session.proofs.Telling.{receives_by}
use Rattle.rs_session.proofs.stages.Receiving.receive.Goals as goal

pub receive_by-requires-clause-of : goal.receive_by-requires-clause-of
receive_by-requires-clause-of c = receives_by c.args.session.now c.args.self c.self.inside.standing c.receiving_arms.result.0 c.receiving_arms.result.1.now
    c.self.view_is c.requires.of.table c.receiving_arms.ensures
