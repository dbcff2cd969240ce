use Rattle.std.proofs.Common.{◌≡◌, ℕ, List, length, slice_index_or, sym, ap, ◌∙◌, subst}
use Rattle.rs_rings.specs.declared.views.Part.{Part}
use Rattle.rs_model.specs.Data.{Machine_data}
use Rattle.rs_rings.specs.Acts.{parcels_got, MayTake, Happened, got_act}
use Rattle.rs_rings.specs.Rule.{machines_in_key}
use Rattle.rs_rings.specs.Told.{IsAfter}
use Rattle.rs_rings.specs.Views.{the_part, speaks, taking, getting}
use Rattle.rs_rings.proofs.Parts.{the_role, speaks_put, the_put_here}
use Rattle.rs_rings.proofs.ByLabel.{in_range, may_take_by, some_place, takes_once}
use Rattle.rs_rings.proofs.StepsAsked.{after_twice}
use Rattle.rs_rings.proofs.tables.RingTable.look_take.Goals as goal

pub place_by_label-place-requires-clause-once : goal.place_by_label-place-requires-clause-once
place_by_label-place-requires-clause-once c =
    takes_once (machines_in_key c.args.self.now.board.shared.key) c.args.receiver.0 (the_part c.args.receiver.0 c.args.seat.now.me.0.parts).state c.args.sender c.args.arms.now
    c.requires.well_formed c.requires.stands

pub place_by_label-place-requires-clause-some : goal.place_by_label-place-requires-clause-some
place_by_label-place-requires-clause-some c = some_place c.args.arms.now c.in-Found.parcel c.in-Found.ensures.looked.2

pub bounds-arms-place : goal.bounds-arms-place
bounds-arms-place c =
    in_range (machines_in_key c.args.self.now.board.shared.key) c.args.receiver.0 (the_part c.args.receiver.0 c.args.seat.now.me.0.parts).state c.args.sender c.args.arms.now
    c.requires.well_formed c.requires.stands c.in-Found.parcel c.in-Found.ensures.looked.2 c.place_by_label-place.result c.place_by_label-place.ensures

pub give-requires-clause-middle : goal.give-requires-clause-middle
give-requires-clause-middle c =
    let p : ℕ = c.args.sender.0 in
    let q : ℕ = c.args.receiver.0 in
    let v = c.args.seat.now.me.0 in
    let a : Part = the_part q v.parts in
    let told = c.in-Found.ensures.looked in
    let y : Part = taking p c.in-Found.parcel c.in-Found.seen a in
    let u = c.look.new.seat.me in
    let role = the_role q v.parts c.requires.idle.speaks_for in
    let here : the_part q u.0.parts ≡ y = ap (λ m. the_part q m.0.parts) told.3 ∙ the_put_here q y v.parts role c.requires.idle.speaks_for in
    record {
      speaks_for = ap (λ m. speaks q m.0.parts) told.3 ∙ speaks_put q q y v.parts role ∙ c.requires.idle.speaks_for;
      taking_it = ap (λ (z : Part). z.middle) here;
      holds = ap (λ m. m.1) told.3;
    }

pub give-requires-clause-may : goal.give-requires-clause-may
give-requires-clause-may c =
    let p : ℕ = c.args.sender.0 in
    let q : ℕ = c.args.receiver.0 in
    let v = c.args.seat.now.me.0 in
    let a : Part = the_part q v.parts in
    let told = c.in-Found.ensures.looked in
    let ms : List Machine_data = machines_in_key c.args.self.now.board.shared.key in
    let y : Part = taking p c.in-Found.parcel c.in-Found.seen a in
    let u = c.look.new.seat.me in
    let role = the_role q v.parts c.requires.idle.speaks_for in
    let here : the_part q u.0.parts ≡ y = ap (λ m. the_part q m.0.parts) told.3 ∙ the_put_here q y v.parts role c.requires.idle.speaks_for in
    let next : ℕ = (slice_index_or c.args.arms.now c.place_by_label-place.result _).next in
    let may : MayTake ms q p a.state c.in-Found.parcel next
    = may_take_by ms q a.state c.args.sender c.args.arms.now c.requires.well_formed c.requires.stands c.in-Found.parcel told.2 c.place_by_label-place.result c.place_by_label-place.ensures _ in
    subst (λ (z : Part). MayTake ms q p z.state c.in-Found.parcel next) (sym here) may

pub give-requires-clause-got : goal.give-requires-clause-got
give-requires-clause-got c =
    let p : ℕ = c.args.sender.0 in
    let q : ℕ = c.args.receiver.0 in
    let v = c.args.seat.now.me.0 in
    let a : Part = the_part q v.parts in
    let told = c.in-Found.ensures.looked in
    let y : Part = taking p c.in-Found.parcel c.in-Found.seen a in
    let u = c.look.new.seat.me in
    let role = the_role q v.parts c.requires.idle.speaks_for in
    let here : the_part q u.0.parts ≡ y = ap (λ m. the_part q m.0.parts) told.3 ∙ the_put_here q y v.parts role c.requires.idle.speaks_for in
    record { count = c.requires.got.count ∙ ap (λ (z : Part). length (parcels_got p z.history)) (sym here); fits = c.requires.got.fits }

pub returns-in-Found-clause-taken : goal.returns-in-Found-clause-taken
returns-in-Found-clause-taken c =
    let p : ℕ = c.args.sender.0 in
    let q : ℕ = c.args.receiver.0 in
    let v = c.args.seat.now.me.0 in
    let a : Part = the_part q v.parts in
    let told = c.in-Found.ensures.looked in
    let ms : List Machine_data = machines_in_key c.args.self.now.board.shared.key in
    let y : Part = taking p c.in-Found.parcel c.in-Found.seen a in
    let u = c.look.new.seat.me in
    let role = the_role q v.parts c.requires.idle.speaks_for in
    let here : the_part q u.0.parts ≡ y = ap (λ m. the_part q m.0.parts) told.3 ∙ the_put_here q y v.parts role c.requires.idle.speaks_for in
    let next : ℕ = (slice_index_or c.args.arms.now c.place_by_label-place.result _).next in
    let may : MayTake ms q p a.state c.in-Found.parcel next
    = may_take_by ms q a.state c.args.sender c.args.arms.now c.requires.well_formed c.requires.stands c.in-Found.parcel told.2 c.place_by_label-place.result c.place_by_label-place.ensures _ in (
      c.in-Found.seen,
      told.0,
      told.1,
      may,
      subst (λ (z : Part). Happened ms q z.history (got_act p c.in-Found.parcel)) here c.give.ensures.given.happened,
      (
        c.give.ensures.given.loads,
        after_twice q y (getting p c.in-Found.parcel next c.give.ensures.given.loads y) v u.0 c.give.new.seat.me c.requires.idle.speaks_for role (ap (λ m. m.0) told.3)
            (subst (λ (z : Part). IsAfter q (getting p c.in-Found.parcel next c.give.ensures.given.loads z) u.0 c.give.new.seat.me) here c.give.ensures.given.after),
      ),
      told.4,
      told.5,
      told.6,
      told.7,
      told.8,
      c.place_by_label-place.ensures,
    )
