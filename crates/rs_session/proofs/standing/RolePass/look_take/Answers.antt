use Rattle.std.proofs.Common.{◌+◌, slice_get, sym, subst}
use Rattle.std.proofs.lemmas.Option.{get_or_from_slice_get, slice_get_within}
use Rattle.rs_model.specs.declared.graph.Arm.{Arm}
use Rattle.rs_session.specs.Standing.{IsOne}
use Rattle.rs_session.proofs.OneRole.{arm_of_label, look_one, stands_there}
use Rattle.rs_session.proofs.standing.RolePass.look_take.Goals as goal

pub take_by-requires-clause-stands : goal.take_by-requires-clause-stands
take_by-requires-clause-stands c =
    let is = c.self.view_is in
    stands_there c.args.rings.now c.args.peer c.args.arms.now c.args.self.now c.self.inside.role c.self.inside.pass is c.requires.stands

pub bounds-arms-place : goal.bounds-arms-place
bounds-arms-place c =
    let at = arm_of_label (slice_get c.args.arms.now c.in-One.place) c.in-One.parcel.label c.in-One.ensures.told.1 in
    slice_get_within c.args.arms.now c.in-One.place at.0 at.1

pub invariant_of-self : goal.invariant_of-self
invariant_of-self c =
    let role = c.self.inside.role in let state = c.self.inside.state in let acts = c.self.inside.acts in
    let is = c.self.view_is in
    let one = c.self.invariant in
    let at = arm_of_label (slice_get c.args.arms.now c.in-One.place) c.in-One.parcel.label c.in-One.ensures.told.1 in
    let took = look_one c.args.rings.now c.args.peer c.args.arms.now c.in-One.parcel c.in-One.place state acts c.args.self.now role c.self.inside.pass c.take_by.new.pass at.0 is
    c.requires.well_formed c.requires.stands
    at.1 at.2 one c.in-One.ensures.told.0 c.take_by.ensures.table in
    subst (λ (z : Arm). IsOne c.take_by.new.pass.view c.self.inside.role z.next (c.self.inside.acts + 1))
    (sym (get_or_from_slice_get c.args.arms.now c.in-One.place at.0 _ at.1)) took.one

pub returns-in-One : goal.returns-in-One
returns-in-One c =
    let role = c.self.inside.role in let state = c.self.inside.state in let acts = c.self.inside.acts in
    let is = c.self.view_is in
    let one = c.self.invariant in
    let at = arm_of_label (slice_get c.args.arms.now c.in-One.place) c.in-One.parcel.label c.in-One.ensures.told.1 in
    let took = look_one c.args.rings.now c.args.peer c.args.arms.now c.in-One.parcel c.in-One.place state acts c.args.self.now role c.self.inside.pass c.take_by.new.pass at.0 is
    c.requires.well_formed c.requires.stands
    at.1 at.2 one c.in-One.ensures.told.0 c.take_by.ensures.table in
    record { told = took.got }
