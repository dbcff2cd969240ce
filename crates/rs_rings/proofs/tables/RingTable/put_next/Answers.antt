use Rattle.std.proofs.Common.{length, ap, ◌∙◌}
use Rattle.rs_rings.specs.Rule.{machines_in_key}
use Rattle.rs_rings.proofs.PassRows.{put_knows}
use Rattle.rs_rings.proofs.tables.RingTable.put_next.Goals as goal

pub put_by-requires-clause-pair : goal.put_by-requires-clause-pair
put_by-requires-clause-pair c =
    let k = put_knows (machines_in_key c.args.self.now.board.shared.key)
    c.args.self.now.layout.roles c.args.sender.0 c.args.receiver c.args.seat.now.me c.args.rows.now.items c.args.parcel c.counts-counts.result.state c.counts-counts.result.sent
    c.counts-counts.result.got
    (ap length c.args.self.now.same
    ∙ c.args.self.now.machine_count) c.args.self.now.layout.bounded c.requires.well_formed c.requires.may.between c.requires.may.speaks_for (c.args.next, c.requires.can) c.requires.may.acts
    c.counts-counts.ensures in
    k.pair

pub put_by-requires-clause-sent : goal.put_by-requires-clause-sent
put_by-requires-clause-sent c =
    let k = put_knows (machines_in_key c.args.self.now.board.shared.key)
    c.args.self.now.layout.roles c.args.sender.0 c.args.receiver c.args.seat.now.me c.args.rows.now.items c.args.parcel c.counts-counts.result.state c.counts-counts.result.sent
    c.counts-counts.result.got
    (ap length c.args.self.now.same
    ∙ c.args.self.now.machine_count) c.args.self.now.layout.bounded c.requires.well_formed c.requires.may.between c.requires.may.speaks_for (c.args.next, c.requires.can) c.requires.may.acts
    c.counts-counts.ensures in
    record { count = k.sent_is; fits = k.acts }
