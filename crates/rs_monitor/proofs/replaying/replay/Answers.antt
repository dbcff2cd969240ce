use Rattle.std.proofs.Common.{◌≡◌, ◌∙◌, sym, refl, arith, length, Some, ℕ, slice_get}
use Rattle.std.proofs.lemmas.Option.{slice_get_read}
use Rattle.rs_monitor.proofs.Making.{departs, makes_next}
use Rattle.rs_monitor.proofs.replaying.replay.Goals as goal

pub returns-in-Err-clause-departs : goal.returns-in-Err-clause-departs
returns-in-Err-clause-departs c =
    let there = slice_get_read c.args.acts.now (length c.args.acts.now) c.loop-place.place c.index-acts-place.result refl (let t = c.loop-place-test.true in omega arith) c.index-acts-place.is in
    departs c.args.machine.now c.args.acts.now c.loop-place.place c.loop-place.at c.index-acts-place.result c.in-Err.refusal c.loop-place.invariant there
    (sym c.next_after_act.ensures ∙ c.in-Err.is)

pub loop-place-preserved : goal.loop-place-preserved
loop-place-preserved c =
    let there = slice_get_read c.args.acts.now (length c.args.acts.now) c.loop-place.place c.index-acts-place.result refl (let t = c.loop-place-test.true in omega arith) c.index-acts-place.is in
    makes_next c.args.acts.now c.loop-place.place c.args.machine.now c.index-acts-place.result c.args.machine.now.start c.loop-place.at c.in-Ok.next c.loop-place.invariant
    there (sym c.next_after_act.ensures ∙ c.in-Ok.is)
