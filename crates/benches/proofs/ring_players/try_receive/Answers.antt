use Rattle.benches.proofs.Plays.{can_take, takes_on, empty_on}
use Rattle.benches.proofs.ring_players.try_receive.Goals as goal

pub look_take-requires-clause-can : goal.look_take-requires-clause-can
look_take-requires-clause-can c = can_take c.args.rings.now c.args.player.now.pass c.args.player.now.role.0 c.args.player.now.state c.args.player.now.acts c.args.next c.args.sender c.requires.at
    c.requires.takes

pub returns-in-One-clause-at : goal.returns-in-One-clause-at
returns-in-One-clause-at c =
    takes_on c.args.rings.now c.args.player.now.pass c.look_take.new.pass c.args.rings.now.capacity c.args.player.now.role.0 c.args.player.now.state
    c.args.player.now.acts c.args.next c.args.sender c.in-One.parcel
    c.requires.at c.look_take.ensures.table c.requires.takes c.in-One.ensures.told

pub returns-in-One-clause-spoken : goal.returns-in-One-clause-spoken
returns-in-One-clause-spoken c = c.in-One.ensures.told.changed.spoken

pub returns-in-Empty-clause-at : goal.returns-in-Empty-clause-at
returns-in-Empty-clause-at c =
    empty_on c.args.rings.now c.args.player.now.pass c.look_take.new.pass c.args.player.now.role.0 c.args.player.now.state c.args.player.now.acts c.args.sender.0
    _ c.requires.at c.look_take.ensures.table c.in-Empty.ensures.told

pub returns-in-Empty-clause-spoken : goal.returns-in-Empty-clause-spoken
returns-in-Empty-clause-spoken c = c.in-Empty.ensures.told.changed.spoken
