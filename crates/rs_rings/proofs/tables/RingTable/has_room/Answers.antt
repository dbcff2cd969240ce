use Rattle.std.proofs.Common.{◌<◌, ◌≤◌, ◌+◌, ℕ, length, refl, sym, ap, ◌∙◌, subst}
use Rattle.rs_rings.specs.Rule.{machines_in_key}
use Rattle.rs_rings.proofs.PassRows.{idle_at, sender_knows, kept_looked, changed}
use Rattle.rs_rings.proofs.tables.RingTable.has_room.Goals as goal

pub has_room_behind-requires-clause-pair : goal.has_room_behind-requires-clause-pair
has_room_behind-requires-clause-pair c =
    let k = sender_knows (machines_in_key c.args.self.now.board.shared.key)
    c.args.self.now.layout.roles c.args.sender.0 c.args.receiver c.args.seat.now.me c.args.rows.now.items c.counts-counts.result.state c.counts-counts.result.sent
    c.counts-counts.result.got
    (ap length c.args.self.now.same
    ∙ c.args.self.now.machine_count) c.args.self.now.layout.bounded c.requires.well_formed c.requires.may.between c.requires.may.speaks_for c.requires.sends c.requires.may.acts
    c.counts-counts.ensures in
    k.pair

pub has_room_behind-requires-clause-idle : goal.has_room_behind-requires-clause-idle
has_room_behind-requires-clause-idle c = idle_at c.args.sender.0 c.args.seat.now.me c.args.rows.now.items c.requires.may

pub has_room_behind-requires-clause-sent : goal.has_room_behind-requires-clause-sent
has_room_behind-requires-clause-sent c =
    let k = sender_knows (machines_in_key c.args.self.now.board.shared.key)
    c.args.self.now.layout.roles c.args.sender.0 c.args.receiver c.args.seat.now.me c.args.rows.now.items c.counts-counts.result.state c.counts-counts.result.sent
    c.counts-counts.result.got
    (ap length c.args.self.now.same
    ∙ c.args.self.now.machine_count) c.args.self.now.layout.bounded c.requires.well_formed c.requires.may.between c.requires.may.speaks_for c.requires.sends c.requires.may.acts
    c.counts-counts.ensures in
    k.sent_is

pub returns-clause-kept : goal.returns-clause-kept
returns-clause-kept c =
    let d = c.has_room_behind.ensures.looked in
    kept_looked c.args.seat.now.me c.has_room_behind.new.seat.me c.args.rows.now.items c.args.sender.0 _ c.requires.may.between c.requires.may.speaks_for d.after refl refl refl

pub returns-clause-told : goal.returns-clause-told
returns-clause-told c =
    let k = sender_knows (machines_in_key c.args.self.now.board.shared.key)
    c.args.self.now.layout.roles c.args.sender.0 c.args.receiver c.args.seat.now.me c.args.rows.now.items c.counts-counts.result.state c.counts-counts.result.sent
    c.counts-counts.result.got
    (ap length c.args.self.now.same
    ∙ c.args.self.now.machine_count) c.args.self.now.layout.bounded c.requires.well_formed c.requires.may.between c.requires.may.speaks_for c.requires.sends c.requires.may.acts
    c.counts-counts.ensures in
    let d = c.has_room_behind.ensures.looked in
    let cap : ℕ = c.args.self.now.layout.capacity in
    record {
      taken = d.taken;
      not_less = d.not_less;
      not_more = subst (λ (z : ℕ). d.taken ≤ z) k.sent_is d.not_more;
      some = λ e. subst (λ (z : ℕ). z < d.taken + cap) k.sent_is (d.some e);
      none = λ e. sym k.sent_is ∙ d.none e;
      changed = changed c.args.sender.0 _ c.args.seat.now.me.0 c.has_room_behind.new.seat.me d.after;
      knows = d.knows;
      read = d.read;
    }
