use Rattle.std.proofs.Common.{◌≡◌, ◌∙◌, ℕ, List, None, Some, ap, refl, slice_get, subst, sym}
use Rattle.rs_model.specs.declared.graph.Arm.{Arm}
use Rattle.rs_model.specs.declared.machines.State.TheVariants.{Takes}
use Rattle.rs_core.specs.Choosable.{label_of}
use Rattle.rs_core.specs.Configurations.{state_of}
use Rattle.rs_core.specs.Queues.{FetchTells, IsLongerBy, StayNoted}
use Rattle.rs_core.specs.declared.transcripts.Entry.TheVariants as entry
use Rattle.rs_rings.specs.Acts.{message_of}
use Rattle.rs_rings.specs.Views.{part_of, part_with_parcel}
use Rattle.rs_exec.specs.Hands.{Hand_data, core_of, notes_of}
use Rattle.rs_exec.proofs.Handed.{can_fetch, got_by, held_on, none_by}
use Rattle.rs_exec.proofs.hands.HandQueues.fetch.Goals as goal
use Rattle.rs_exec.proofs.hands.HandQueues.fetch.Goals.{in-Empty, in-One}

pub arms_at-arms-requires-clause-takes : goal.arms_at-arms-requires-clause-takes
arms_at-arms-requires-clause-takes c =
    let f = can_fetch c.self.inside.session c.args.self.now c.self.inside.all c.self.inside.count c.args.role.0 c.args.peer c.self.view_is c.requires.takes c.requires.present in
    let here = ap (λ (n : ℕ). state_of (slice_get c.self.inside.session.machines c.args.role.0) n) c.state-number.ensures.state in
    (c.args.peer, f.arms, here ∙ f.stands)

pub take_by-requires-clause-stands : goal.take_by-requires-clause-stands
take_by-requires-clause-stands c =
    let f = can_fetch c.self.inside.session c.args.self.now c.self.inside.all c.self.inside.count c.args.role.0 c.args.peer c.self.view_is c.requires.takes c.requires.present in
    let here = ap (λ (n : ℕ). state_of (slice_get c.self.inside.session.machines c.args.role.0) n) c.state-number.ensures.state in
    f.stands ∙ ap (λ (l : List Arm). Some (Takes c.args.peer l)) (sym (c.arms_at-arms.ensures c.args.peer f.arms (here ∙ f.stands)))

pub invariant_of-self : goal.invariant_of-self
invariant_of-self c =
    let h = c.self.invariant in
    let f = can_fetch c.self.inside.session c.args.self.now c.self.inside.all c.self.inside.count c.args.role.0 c.args.peer c.self.view_is c.requires.takes c.requires.present in
    let here = ap (λ (n : ℕ). state_of (slice_get c.self.inside.session.machines c.args.role.0) n) c.state-number.ensures.state in
    let same = c.arms_at-arms.ensures c.args.peer f.arms (here ∙ f.stands) in
    elim c.match-take_by.branch [
      | in-Empty w ↦ held_on c.self.inside.session c.self.inside.all c.take_by.new.self c.self.inside.count c.args.role.0 (part_of c.self.inside.all.view c.args.role.0).state
          (part_with_parcel c.args.peer.0 w.in-Empty.seen (part_of c.self.inside.all.view c.args.role.0)) h w.in-Empty.ensures.table w.in-Empty.ensures.told.changed refl
          (h.somewhere c.args.role.0 f.present)
      | in-One w ↦ (let t = got_by c.self.inside.session c.args.role.0 c.self.inside.all.view c.take_by.new.self.view c.args.peer f.arms w.in-One.place w.in-One.parcel h.well_formed h.speaks
          f.present f.stands (w.in-One.ensures.told.0, subst (λ (l : List Arm). label_of (slice_get l w.in-One.place) ≡ Some w.in-One.parcel.label) same w.in-One.ensures.told.1) in
          held_on c.self.inside.session c.self.inside.all c.take_by.new.self c.self.inside.count c.args.role.0 t.arm.next (part_of c.take_by.new.self.view c.args.role.0) h w.in-One.ensures.table
          (record { part = refl; spoken = w.in-One.ensures.told.0.changed.spoken; others = w.in-One.ensures.told.0.changed.others }) t.goes t.present)
    ]

pub returns-clause-told : goal.returns-clause-told
returns-clause-told c =
    let h = c.self.invariant in
    let f = can_fetch c.self.inside.session c.args.self.now c.self.inside.all c.self.inside.count c.args.role.0 c.args.peer c.self.view_is c.requires.takes c.requires.present in
    let here = ap (λ (n : ℕ). state_of (slice_get c.self.inside.session.machines c.args.role.0) n) c.state-number.ensures.state in
    let same = c.arms_at-arms.ensures c.args.peer f.arms (here ∙ f.stands) in
    elim c.match-take_by.branch [
      | in-Empty w ↦ rw w.result-is (let e = none_by c.self.inside.session c.args.role.0 c.self.inside.all.view c.take_by.new.self.view c.args.peer f.arms w.in-Empty.seen h.well_formed h.speaks f.present f.stands
          w.in-Empty.ensures.told in
          subst (λ (z : Hand_data). FetchTells (core_of z.session.machines z.all.view) c.args.role.0 c.args.peer (core_of c.self.inside.session.machines c.take_by.new.self.view) None)
          c.self.view_is e.told)
      | in-One w ↦ rw w.result-is (let t = got_by c.self.inside.session c.args.role.0 c.self.inside.all.view c.take_by.new.self.view c.args.peer f.arms w.in-One.place w.in-One.parcel h.well_formed h.speaks
          f.present f.stands (w.in-One.ensures.told.0, subst (λ (l : List Arm). label_of (slice_get l w.in-One.place) ≡ Some w.in-One.parcel.label) same w.in-One.ensures.told.1) in
          subst (λ (z : Hand_data). FetchTells (core_of z.session.machines z.all.view) c.args.role.0 c.args.peer (core_of c.self.inside.session.machines c.take_by.new.self.view)
          (Some (record { arm = w.in-One.place; message = message_of w.in-One.parcel }))) c.self.view_is t.told)
    ]

pub returns-clause-noted : goal.returns-clause-noted
returns-clause-noted c =
    let h = c.self.invariant in
    let f = can_fetch c.self.inside.session c.args.self.now c.self.inside.all c.self.inside.count c.args.role.0 c.args.peer c.self.view_is c.requires.takes c.requires.present in
    let here = ap (λ (n : ℕ). state_of (slice_get c.self.inside.session.machines c.args.role.0) n) c.state-number.ensures.state in
    let same = c.arms_at-arms.ensures c.args.peer f.arms (here ∙ f.stands) in
    elim c.match-take_by.branch [
      | in-Empty w ↦ rw w.result-is (let e = none_by c.self.inside.session c.args.role.0 c.self.inside.all.view c.take_by.new.self.view c.args.peer f.arms w.in-Empty.seen h.well_formed h.speaks f.present f.stands
          w.in-Empty.ensures.told in
          subst (λ (z : Hand_data). StayNoted (notes_of z.all.view) (notes_of c.take_by.new.self.view)) c.self.view_is e.noted)
      | in-One w ↦ rw w.result-is (let t = got_by c.self.inside.session c.args.role.0 c.self.inside.all.view c.take_by.new.self.view c.args.peer f.arms w.in-One.place w.in-One.parcel h.well_formed h.speaks
          f.present f.stands (w.in-One.ensures.told.0, subst (λ (l : List Arm). label_of (slice_get l w.in-One.place) ≡ Some w.in-One.parcel.label) same w.in-One.ensures.told.1) in
          subst (λ (z : Hand_data). IsLongerBy c.args.role.0 (entry.Got c.args.peer w.in-One.parcel.label w.in-One.parcel.value) (notes_of z.all.view) (notes_of c.take_by.new.self.view))
          c.self.view_is t.noted)
    ]
