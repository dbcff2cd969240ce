use Rattle.std.proofs.Common.{ap}
use Rattle.rs_session.specs.Stages.{sight_of_stage}
use Rattle.benches.proofs.Acts.{feeds}
use Rattle.benches.proofs.stage_acts.feed.Goals as goal

pub send-requires-clause-arm : goal.send-requires-clause-arm
send-requires-clause-arm c = feeds c.args.session.now c.args.stage c.in-Sending.sending c.get.result c.requires (ap sight_of_stage c.in-Sending.is) c.get.ensures.small
