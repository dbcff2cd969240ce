use Rattle.std.proofs.Common.{refl}
use Rattle.benches.proofs.Plays.{can_put, put_on, full_on}
use Rattle.benches.proofs.ring_players.try_send.Goals as goal

pub put-requires-clause-can : goal.put-requires-clause-can
put-requires-clause-can c = can_put c.args.rings.now c.args.player.now.pass c.args.player.now.role.0 c.args.receiver.0 c.args.player.now.state c.args.player.now.acts c.args.next c.args.parcel
    c.requires.at c.requires.may

pub returns-in-Done-clause-at : goal.returns-in-Done-clause-at
returns-in-Done-clause-at c =
    put_on c.args.rings.now c.args.player.now.pass c.put.new.pass c.args.rings.now.capacity c.args.player.now.role.0 c.args.receiver.0 c.args.player.now.state c.args.player.now.acts c.args.next
    c.args.parcel
    c.requires.well_formed c.requires.at c.put.ensures.table c.requires.may c.in-Done.ensures.told

pub returns-in-Done-clause-role : goal.returns-in-Done-clause-role
returns-in-Done-clause-role c = (refl, c.in-Done.ensures.told.changed.spoken)

pub returns-in-Full-clause-at : goal.returns-in-Full-clause-at
returns-in-Full-clause-at c =
    full_on c.args.rings.now c.args.player.now.pass c.put.new.pass c.args.rings.now.capacity c.args.player.now.role.0 c.args.receiver.0 c.args.player.now.state c.args.player.now.acts c.args.parcel
    _ _ _ c.requires.at c.put.ensures.table c.in-Full.ensures.told

pub returns-in-Full-clause-role : goal.returns-in-Full-clause-role
returns-in-Full-clause-role c = (refl, c.in-Full.ensures.told.changed.spoken)
