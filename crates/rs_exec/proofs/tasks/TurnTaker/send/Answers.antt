use Rattle.std.proofs.Common.{Some, Vec, ap, refl}
use Rattle.std.specs.Global.{Global}
use Rattle.rs_core.specs.declared.transcripts.Entry.{Entry}
use Rattle.rs_model.specs.declared.graph.Arm.{Arm}
use Rattle.rs_model.specs.declared.values.Sort.TheVariants.{Unit}
use Rattle.rs_exec.proofs.Played.{arm_at_hand, arm_below, full_on, may_send, sent_by}
use Rattle.rs_exec.proofs.tasks.TurnTaker.send.Goals as goal

pub send_by-requires-clause-by : goal.send_by-requires-clause-by
send_by-requires-clause-by g c =
    arm_at_hand c.args.session.now c.args.stage c.sending_arms.result.0 c.sending_arms.result.1.now c.in-Ok.place c.in-Ok.value _ c.sending_arms.ensures.stands
    (may_send g.A.Actor.behaviour g.met.A.Actor.chooses_well c.args.session.now c.args.stage c.args.self.now.actor c.args.self.now.kept c.sending_arms.result.0 c.sending_arms.result.1.now
    c.in-Ok.place c.in-Ok.value c.offer.new.self.actor
    c.sending_arms.ensures.stands c.sending_arms.ensures.some c.requires.of.keeps c.in-Ok.ensures.offers)

pub bounds-arms-place : goal.bounds-arms-place
bounds-arms-place g c =
    arm_below c.args.session.now c.args.stage c.sending_arms.result.0 c.sending_arms.result.1.now c.in-Ok.place c.in-Ok.value c.sending_arms.ensures.stands
    (may_send g.A.Actor.behaviour g.met.A.Actor.chooses_well c.args.session.now c.args.stage c.args.self.now.actor c.args.self.now.kept c.sending_arms.result.0 c.sending_arms.result.1.now
    c.in-Ok.place c.in-Ok.value c.offer.new.self.actor
    c.sending_arms.ensures.stands c.sending_arms.ensures.some c.requires.of.keeps c.in-Ok.ensures.offers)

abbrev blank : Arm
blank = record { label = record { 0 = 0 }; sort = Unit; next = 0 }

pub returns-in-Went-clause-in_time : goal.returns-in-Went-clause-in_time
returns-in-Went-clause-in_time g c =
    let o = c.in-Ok.ensures in let n = c.note.ensures in
    (sent_by c.args.session.now g.A.Actor.behaviour c.args.stage c.in-Went.next c.args.self.now c.offer.new.self c.note.new.self c.sending_arms.result.0 c.sending_arms.result.1.now c.in-Ok.place
    c.in-Ok.value blank c.sending_arms.ensures.stands
    c.requires.in_time c.requires.below c.requires.well c.in-Went.ensures.told o.offers o.kept o.others n.others n.entries n.room).in_time

pub returns-in-Went-clause-tells : goal.returns-in-Went-clause-tells
returns-in-Went-clause-tells g c =
    let o = c.in-Ok.ensures in let n = c.note.ensures in
    let moved = sent_by c.args.session.now g.A.Actor.behaviour c.args.stage c.in-Went.next c.args.self.now c.offer.new.self c.note.new.self c.sending_arms.result.0 c.sending_arms.result.1.now
    c.in-Ok.place c.in-Ok.value blank c.sending_arms.ensures.stands
    c.requires.in_time c.requires.below c.requires.well c.in-Went.ensures.told o.offers o.kept o.others n.others n.entries n.room in
    (moved.goes, moved.acts)

pub returns-in-Full-clause-tells : goal.returns-in-Full-clause-tells
returns-in-Full-clause-tells g c =
    let o = c.in-Ok.ensures in
    let rests = full_on c.args.session.now g.A.Actor.behaviour c.args.stage c.in-Full.stage c.args.self.now
    record { actor = c.offer.new.self.actor; limit = c.offer.new.self.limit; kept = Some (c.in-Ok.place, c.in-Full.value); entries = c.offer.new.self.entries; failed = c.offer.new.self.failed }
    c.sending_arms.result.0 c.sending_arms.result.1.now c.in-Ok.place c.in-Ok.value c.in-Full.value c.in-Full.sent c.in-Full.taken c.sending_arms.ensures.stands
    c.requires.below c.requires.well c.in-Full.ensures.told o.offers refl (ap (λ (v : Vec Entry Global). v.items) o.others.0) o.others.1 o.others.2 in
    (rests.goes, rests.waits)
