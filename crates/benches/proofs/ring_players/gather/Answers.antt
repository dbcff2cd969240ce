use Rattle.benches.proofs.Plays.{join_own, join_other, join_speaks, join_keeps}
use Rattle.benches.proofs.ring_players.gather.Goals as goal

pub returns-clause-speaks : goal.returns-clause-speaks
returns-clause-speaks c = join_speaks c.args.pass.now c.join.new.pass c.args.player.pass c.join.ensures.both c.args.player.role.0 c.requires.at.speaks

pub returns-clause-keeps : goal.returns-clause-keeps
returns-clause-keeps c = join_keeps c.args.pass.now c.join.new.pass c.args.player.pass c.join.ensures.both

pub returns-clause-others : goal.returns-clause-others
returns-clause-others c = join_own c.args.rings.now c.args.pass.now c.join.new.pass c.args.player.pass c.join.ensures.table c.join.ensures.both

pub returns-clause-own : goal.returns-clause-own
returns-clause-own c = λ quiet.
    join_other c.args.rings.now c.args.pass.now c.join.new.pass c.args.player.pass c.args.player.role.0 c.args.player.state c.args.player.acts c.requires.table c.join.ensures.table
    c.join.ensures.both quiet c.requires.at
