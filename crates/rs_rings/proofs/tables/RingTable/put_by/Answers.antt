use Rattle.std.proofs.Common.{rules, ◌≡◌, ◌<◌, ◌≤◌, ◌+◌, ℕ, length, refl, ap, ◌∙◌, subst, arith}
use Rattle.rs_rings.specs.Acts.{parcels_sent}
use Rattle.rs_rings.specs.Views.{the_part}
use Rattle.rs_rings.specs.declared.views.Part.{Part}
use Rattle.rs_rings.proofs.PassRows.{idle_at, kept_put, kept_looked, changed}
use Rattle.rs_rings.proofs.tables.RingTable.put_by.Goals as goal

pub put_to-requires-clause-idle : goal.put_to-requires-clause-idle
put_to-requires-clause-idle c = idle_at c.args.sender.0 c.args.seat.now.me c.args.rows.now.items c.requires.may

pub overflow_add-sent : goal.overflow_add-sent
overflow_add-sent c =
    let sent : ℕ = c.args.sent in let acts = c.requires.sent.fits in let fits : sent + 1 < 18446744073709551616 = omega arith in search rules

pub note_sent-requires : goal.note_sent-requires
note_sent-requires c =
    let few = c.args.self.now.layout.bounded in
    let one = c.requires.pair.sender in
    let other = c.requires.pair.receiver in
    let small : c.args.sender.0 < 16 = omega arith in
    let small' : c.args.receiver.0 < 16 = omega arith in
    record { present = (small, small') }

pub returns-in-Done-clause-kept : goal.returns-in-Done-clause-kept
returns-in-Done-clause-kept c =
    let few = c.args.self.now.layout.bounded in
    let other = c.requires.pair.receiver in
    let small : c.args.receiver.0 < 16 = omega arith in
    let d = c.in-Done.ensures.done in
    kept_put c.args.seat.now.me c.put_to.new.seat.me c.args.rows.now.items c.note_sent.new.self.items c.args.sender.0 c.args.receiver.0 c.args.parcel d.0
    c.args.next d.4.0 (c.args.sent + 1) small c.requires.may.between c.requires.may.speaks_for d.4.1 (ap (λ (z : ℕ). z + 1) c.requires.sent.count) c.note_sent.ensures

pub returns-in-Done-clause-told : goal.returns-in-Done-clause-told
returns-in-Done-clause-told c =
    let a : Part = the_part c.args.sender.0 c.args.seat.now.me.0.parts in
    let d = c.in-Done.ensures.done in
    let many : ℕ = length (parcels_sent c.args.receiver.0 a.history) in
    let is : c.args.sent ≡ many = c.requires.sent.count in
    record {
      taken = d.0;
      next = c.args.next;
      not_less = d.1;
      room = λ e. d.2 (is ∙ e);
      not_more = subst (λ (z : ℕ). d.0 ≤ z) is d.6;
      below = subst (λ (z : ℕ). z < d.0 + c.args.self.now.layout.capacity) is d.7;
      may = c.requires.can;
      happened = d.3;
      loads = d.4.0;
      changed = changed c.args.sender.0 _ c.args.seat.now.me.0 c.put_to.new.seat.me d.4.1;
      knows = d.5;
      read = d.8;
    }

pub returns-in-Full-clause-kept : goal.returns-in-Full-clause-kept
returns-in-Full-clause-kept c =
    let d = c.in-Full.ensures.done in kept_looked c.args.seat.now.me c.put_to.new.seat.me c.args.rows.now.items c.args.sender.0 _ c.requires.may.between c.requires.may.speaks_for d.4 refl refl refl

pub returns-in-Full-clause-told : goal.returns-in-Full-clause-told
returns-in-Full-clause-told c =
    let d = c.in-Full.ensures.done in
    record {
      is_sent = d.0 ∙ c.requires.sent.count;
      full = d.0 ∙ d.1;
      same = d.2;
      not_less = d.3;
      changed = changed c.args.sender.0 _ c.args.seat.now.me.0 c.put_to.new.seat.me d.4;
      knows = d.5;
      read = d.6;
    }
