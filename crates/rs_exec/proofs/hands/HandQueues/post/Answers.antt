use Rattle.std.proofs.Common.{Some, ap, refl, subst}
use Rattle.rs_model.specs.declared.graph.Arm.{Arm}
use Rattle.rs_core.specs.Queues.{FindsItFull, IsLongerBy, IsPosted, StayNoted}
use Rattle.rs_core.specs.Choosable.{CanChoose}
use Rattle.rs_core.specs.declared.transcripts.Entry.TheVariants as entry
use Rattle.rs_slots.specs.declared.parcels.Parcel.{Parcel}
use Rattle.rs_rings.specs.Views.{part_of, part_with_room}
use Rattle.rs_exec.specs.Hands.{Hand_data, core_of, notes_of}
use Rattle.rs_exec.proofs.Handed.{can_post, full_by, held_on, put_by, same_arm, sent_by}
use Rattle.rs_exec.proofs.hands.HandQueues.post.Goals as goal
use Rattle.rs_exec.proofs.hands.HandQueues.post.Goals.{in-Done, in-Full}

pub put_next-requires-clause-can : goal.put_next-requires-clause-can
put_next-requires-clause-can c =
    let p = can_post c.self.inside.session c.args.self.now c.self.inside.all c.self.inside.count c.args.role.0 c.args.peer c.args._place c.args.arm c.args.value c.self.view_is c.requires.can c.requires.present in
    put_by c.self.inside.session c.self.inside.all c.args.role.0 c.args.peer c.args._place c.args.arm c.args.value p

pub invariant_of-self : goal.invariant_of-self
invariant_of-self c =
    let h = c.self.invariant in
    let p = can_post c.self.inside.session c.args.self.now c.self.inside.all c.self.inside.count c.args.role.0 c.args.peer c.args._place c.args.arm c.args.value c.self.view_is c.requires.can c.requires.present in
    elim c.match-put_next.branch [
      | in-Done w ↦ (let put = w.in-Done.ensures.told in
          let s = sent_by c.self.inside.session c.args.role.0 c.self.inside.all.view c.put_next.new.self.view c.args.peer p.arms c.args._place c.args.value c.args.arm h.well_formed h.speaks
          p.present p.stands p.picks p.has put in
          held_on c.self.inside.session c.self.inside.all c.put_next.new.self c.self.inside.count c.args.role.0 c.args.arm.next (part_of c.put_next.new.self.view c.args.role.0)
          h w.in-Done.ensures.table (record { part = refl; spoken = put.changed.spoken; others = put.changed.others }) s.goes s.present)
      | in-Full w ↦ (let full = w.in-Full.ensures.told in
          held_on c.self.inside.session c.self.inside.all c.put_next.new.self c.self.inside.count c.args.role.0 (part_of c.self.inside.all.view c.args.role.0).state
          (part_with_room c.args.peer.0 w.in-Full.taken (part_of c.self.inside.all.view c.args.role.0)) h w.in-Full.ensures.table full.changed refl (h.somewhere c.args.role.0 p.present))
    ]

pub returns-clause-told : goal.returns-clause-told
returns-clause-told c =
    let h = c.self.invariant in
    let p = can_post c.self.inside.session c.args.self.now c.self.inside.all c.self.inside.count c.args.role.0 c.args.peer c.args._place c.args.arm c.args.value c.self.view_is c.requires.can c.requires.present in
    elim c.match-put_next.branch [
      | in-Done w ↦ rw w.result-is (let put = w.in-Done.ensures.told in
          let s = sent_by c.self.inside.session c.args.role.0 c.self.inside.all.view c.put_next.new.self.view c.args.peer p.arms c.args._place c.args.value c.args.arm h.well_formed h.speaks
          p.present p.stands p.picks p.has put in
          subst (λ (z : Hand_data). IsPosted (Some z.session.capacity) (core_of z.session.machines z.all.view) c.args.role.0 c.args.peer (c.args._place, c.args.value)
          (core_of c.self.inside.session.machines c.put_next.new.self.view)) c.self.view_is s.posted)
      | in-Full w ↦ rw w.result-is (let full = w.in-Full.ensures.told in
          let f = full_by c.self.inside.session c.args.role.0 c.self.inside.all.view c.put_next.new.self.view c.args.peer p.arms w.in-Full.sent w.in-Full.taken
          (record { label = c.args.arm.label; value = c.args.value }) w.in-Full.parcel h.well_formed h.speaks p.present p.stands full in (
            ap (λ (z : Parcel). z.value) full.same,
            subst (λ (z : Hand_data). FindsItFull (Some z.session.capacity) (core_of z.session.machines z.all.view) c.args.role.0 c.args.peer (core_of c.self.inside.session.machines c.put_next.new.self.view))
                c.self.view_is f.found,
          ))
    ]

pub returns-clause-noted : goal.returns-clause-noted
returns-clause-noted c =
    let h = c.self.invariant in
    let p = can_post c.self.inside.session c.args.self.now c.self.inside.all c.self.inside.count c.args.role.0 c.args.peer c.args._place c.args.arm c.args.value c.self.view_is c.requires.can c.requires.present in
    elim c.match-put_next.branch [
      | in-Done w ↦ rw w.result-is (let put = w.in-Done.ensures.told in
          let s = sent_by c.self.inside.session c.args.role.0 c.self.inside.all.view c.put_next.new.self.view c.args.peer p.arms c.args._place c.args.value c.args.arm h.well_formed h.speaks
          p.present p.stands p.picks p.has put in
          subst (λ (z : Hand_data). (can : CanChoose (core_of z.session.machines z.all.view) c.args.role.0 (c.args._place, c.args.value) c.args.peer)
          → IsLongerBy c.args.role.0 (entry.Sent c.args.peer can.arm.label) (notes_of z.all.view) (notes_of c.put_next.new.self.view)) c.self.view_is
          (λ can. subst (λ (z : Arm). IsLongerBy c.args.role.0 (entry.Sent c.args.peer z.label) (notes_of c.self.inside.all.view) (notes_of c.put_next.new.self.view))
          (same_arm c.self.inside.session c.self.inside.all.view c.args.role.0 c.args.peer c.args._place c.args.value p.arms c.args.arm p.present p.stands p.picks can) s.noted))
      | in-Full w ↦ rw w.result-is (let full = w.in-Full.ensures.told in
          let f = full_by c.self.inside.session c.args.role.0 c.self.inside.all.view c.put_next.new.self.view c.args.peer p.arms w.in-Full.sent w.in-Full.taken
          (record { label = c.args.arm.label; value = c.args.value }) w.in-Full.parcel h.well_formed h.speaks p.present p.stands full in
          subst (λ (z : Hand_data). StayNoted (notes_of z.all.view) (notes_of c.put_next.new.self.view)) c.self.view_is f.noted)
    ]
