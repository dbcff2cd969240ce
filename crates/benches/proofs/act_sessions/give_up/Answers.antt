use Rattle.benches.proofs.Acts.{all_there}
use Rattle.benches.proofs.act_sessions.give_up.Goals as goal

pub abandon-requires-clause-each : goal.abandon-requires-clause-each
abandon-requires-clause-each c = all_there c.args.session c.args.stages.items c.push_stage.new.stages.items c.push_stage-2.new.stages.items c.args.a c.args.b
    c.requires.machines c.requires.a c.requires.b c.requires.room.0 c.push_stage.ensures.items c.push_stage-2.ensures.items
