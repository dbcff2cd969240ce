use Rattle.std.proofs.Common.{rules, ◌≡◌, ◌<◌, ◌≤◌, ◌+◌, ℕ, length, refl, ap, ◌∙◌, subst, arith}
use Rattle.rs_rings.specs.Acts.{parcels_got}
use Rattle.rs_rings.specs.Rule.{machines_in_key}
use Rattle.rs_rings.specs.Views.{the_part}
use Rattle.rs_rings.proofs.PassRows.{idle_at, take_knows, kept_got, kept_looked, changed}
use Rattle.rs_rings.proofs.tables.RingTable.take_by.Goals as goal

pub look_take-requires-clause-got : goal.look_take-requires-clause-got
look_take-requires-clause-got c =
    let k = take_knows (machines_in_key c.args.self.now.board.shared.key)
    c.args.self.now.layout.roles c.args.sender c.args.receiver.0 c.args.seat.now.me c.args.rows.now.items c.counts-counts.result.state c.counts-counts.result.sent c.counts-counts.result.got
    (ap length c.args.self.now.same
    ∙ c.args.self.now.machine_count) c.args.self.now.layout.bounded c.requires.well_formed c.requires.may.between c.requires.may.speaks_for (record { arms = c.args.arms.now; takes = c.requires.stands }) c.requires.may.acts
    c.counts-counts.ensures in
    record { count = k.got_is; fits = k.acts }

pub look_take-requires-clause-pair : goal.look_take-requires-clause-pair
look_take-requires-clause-pair c =
    let k = take_knows (machines_in_key c.args.self.now.board.shared.key)
    c.args.self.now.layout.roles c.args.sender c.args.receiver.0 c.args.seat.now.me c.args.rows.now.items c.counts-counts.result.state c.counts-counts.result.sent c.counts-counts.result.got
    (ap length c.args.self.now.same
    ∙ c.args.self.now.machine_count) c.args.self.now.layout.bounded c.requires.well_formed c.requires.may.between c.requires.may.speaks_for (record { arms = c.args.arms.now; takes = c.requires.stands }) c.requires.may.acts
    c.counts-counts.ensures in
    k.pair

pub look_take-requires-clause-idle : goal.look_take-requires-clause-idle
look_take-requires-clause-idle c = idle_at c.args.receiver.0 c.args.seat.now.me c.args.rows.now.items c.requires.may

pub overflow_add-counts : goal.overflow_add-counts
overflow_add-counts c =
    let k = take_knows (machines_in_key c.args.self.now.board.shared.key)
    c.args.self.now.layout.roles c.args.sender c.args.receiver.0 c.args.seat.now.me c.args.rows.now.items c.counts-counts.result.state c.counts-counts.result.sent c.counts-counts.result.got
    (ap length c.args.self.now.same
    ∙ c.args.self.now.machine_count) c.args.self.now.layout.bounded c.requires.well_formed c.requires.may.between c.requires.may.speaks_for (record { arms = c.args.arms.now; takes = c.requires.stands }) c.requires.may.acts
    c.counts-counts.ensures in
    let got : ℕ = c.counts-counts.result.got in let acts = k.acts in let fits : got + 1 < 18446744073709551616 = omega arith in search rules

pub note_got-requires : goal.note_got-requires
note_got-requires c =
    let k = take_knows (machines_in_key c.args.self.now.board.shared.key)
    c.args.self.now.layout.roles c.args.sender c.args.receiver.0 c.args.seat.now.me c.args.rows.now.items c.counts-counts.result.state c.counts-counts.result.sent c.counts-counts.result.got
    (ap length c.args.self.now.same
    ∙ c.args.self.now.machine_count) c.args.self.now.layout.bounded c.requires.well_formed c.requires.may.between c.requires.may.speaks_for (record { arms = c.args.arms.now; takes = c.requires.stands }) c.requires.may.acts
    c.counts-counts.ensures in
    record { present = k.small }

pub returns-in-One-clause-kept : goal.returns-in-One-clause-kept
returns-in-One-clause-kept c =
    let k = take_knows (machines_in_key c.args.self.now.board.shared.key)
    c.args.self.now.layout.roles c.args.sender c.args.receiver.0 c.args.seat.now.me c.args.rows.now.items c.counts-counts.result.state c.counts-counts.result.sent c.counts-counts.result.got
    (ap length c.args.self.now.same
    ∙ c.args.self.now.machine_count) c.args.self.now.layout.bounded c.requires.well_formed c.requires.may.between c.requires.may.speaks_for (record { arms = c.args.arms.now; takes = c.requires.stands }) c.requires.may.acts
    c.counts-counts.ensures in
    let d = c.in-One.ensures.taken in kept_got c.args.seat.now.me c.look_take.new.seat.me c.args.rows.now.items c.note_got.new.self.items c.args.receiver.0 c.args.sender.0 c.in-One.parcel d.0
    c.in-One.next d.5.0 (c.counts-counts.result.got + 1) k.small.1 c.requires.may.between c.requires.may.speaks_for d.5.1 (ap (λ (z : ℕ). z + 1) k.got_is) c.note_got.ensures

pub returns-in-One-clause-told : goal.returns-in-One-clause-told
returns-in-One-clause-told c =
    let k = take_knows (machines_in_key c.args.self.now.board.shared.key)
    c.args.self.now.layout.roles c.args.sender c.args.receiver.0 c.args.seat.now.me c.args.rows.now.items c.counts-counts.result.state c.counts-counts.result.sent c.counts-counts.result.got
    (ap length c.args.self.now.same
    ∙ c.args.self.now.machine_count) c.args.self.now.layout.bounded c.requires.well_formed c.requires.may.between c.requires.may.speaks_for (record { arms = c.args.arms.now; takes = c.requires.stands }) c.requires.may.acts
    c.counts-counts.ensures in
    let d = c.in-One.ensures.taken in
    let got : ℕ = c.counts-counts.result.got in
    let is : got ≡ length (parcels_got c.args.sender.0 (the_part c.args.receiver.0 c.args.seat.now.me.0.parts).history) = k.got_is in (
      record {
        put = d.0;
        next = c.in-One.next;
        not_less = d.2;
        more = λ e. d.1 (k.got_is ∙ e);
        above = subst (λ (z : ℕ). z < d.0) is d.9;
        not_more = subst (λ (z : ℕ). d.0 ≤ z + c.args.self.now.layout.capacity) is d.10;
        may = d.3;
        happened = d.4;
        loads = d.5.0;
        changed = changed c.args.receiver.0 _ c.args.seat.now.me.0 c.look_take.new.seat.me d.5.1;
        knows = d.6;
        read = d.8;
        oldest = d.7;
      },
      d.11,
    )

pub returns-in-Nothing-clause-kept : goal.returns-in-Nothing-clause-kept
returns-in-Nothing-clause-kept c =
    let d = c.in-Nothing.ensures.taken in kept_looked c.args.seat.now.me c.look_take.new.seat.me c.args.rows.now.items c.args.receiver.0 _ c.requires.may.between c.requires.may.speaks_for d.2 refl
    refl refl

pub returns-in-Nothing-clause-told : goal.returns-in-Nothing-clause-told
returns-in-Nothing-clause-told c =
    let k = take_knows (machines_in_key c.args.self.now.board.shared.key)
    c.args.self.now.layout.roles c.args.sender c.args.receiver.0 c.args.seat.now.me c.args.rows.now.items c.counts-counts.result.state c.counts-counts.result.sent c.counts-counts.result.got
    (ap length c.args.self.now.same
    ∙ c.args.self.now.machine_count) c.args.self.now.layout.bounded c.requires.well_formed c.requires.may.between c.requires.may.speaks_for (record { arms = c.args.arms.now; takes = c.requires.stands }) c.requires.may.acts
    c.counts-counts.ensures in
    let d = c.in-Nothing.ensures.taken in
    record { is_got = d.0 ∙ k.got_is; not_less = d.1; changed = changed c.args.receiver.0 _ c.args.seat.now.me.0 c.look_take.new.seat.me d.2; knows = d.3; read = d.4 }
