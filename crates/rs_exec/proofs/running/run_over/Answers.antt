use Rattle.std.proofs.Common.{◌≡◌, ◌∙◌, ℕ, List, Some, length, ap, subst, sym, arith}
use Rattle.rs_model.specs.Data.{Machine_data}
use Rattle.rs_core.specs.Histories.{transcript_of}
use Rattle.rs_core.specs.Runs.{HasPlayed}
use Rattle.rs_rings.proofs.Seats.{first_part_is}
use Rattle.rs_rings.specs.Views.{history_in}
use Rattle.rs_rings.specs.declared.views.Part.{Part}
use Rattle.rs_rings.specs.declared.views.View.{View}
use Rattle.rs_exec.specs.Hands.{MayEnd, core_of}
use Rattle.rs_exec.proofs.Spent.{may_end, session_of_run}
use Rattle.rs_exec.proofs.Together.{starts_in}
use Rattle.rs_core.proofs.Shown.{show_fault, show_plain}
use Rattle.rs_exec.proofs.running.run_over.Goals as goal

same_number : (a b : ℕ) → Some a ≡ Some b → a ≡ b
same_number a b h = cc (h)

pub play-requires-clause-fresh : goal.play-requires-clause-fresh
play-requires-clause-fresh g c = record {
  safe = c.requires.safe;
  well_formed = c.requires.well_formed;
  starts = starts_in c.args.hand.session.machines c.args.hand.all.view c.requires.first;
  nothing = λ r low. sym (ap transcript_of (ap (λ (v : View). history_in v r) c.requires.first
      ∙ ap (λ (z : Part). z.history) (first_part_is c.args.hand.session.machines (length c.args.hand.session.machines) r low)));
}

pub spend-closed-requires : goal.spend-closed-requires
spend-closed-requires g c =
    let p = c.in-Ok.ensures.played in
    let H : List Machine_data → Type 0 = λ z. HasPlayed g.A.Actor.behaviour c.args.hand.session.machines c.args.limit (Some c.args.hand.session.capacity) c.args.actors.items
    (core_of z c.play.new.queues.all.view) c.in-Ok.finished.end c.in-Ok.finished.players.items in
    let M : List Machine_data → Type 0 = λ z. MayEnd z c.play.new.queues.all.view c.in-Ok.finished.end in
    let some = c.requires.some in
    let many = c.requires.actors in
    record {
      ended = subst M (sym p.machines)
          (may_end g.A.Actor.behaviour c.args.hand.session c.args.limit c.args.actors.items c.play.new.queues.all.view c.in-Ok.finished.end c.in-Ok.finished.players.items (omega (arith, some, many))
          (subst H p.machines p) c.in-Ok.ensures.noted);
    }

pub returns-in-Ok-run_of-clause-plain : goal.returns-in-Ok-run_of-clause-plain
returns-in-Ok-run_of-clause-plain g c = show_plain g.A.Actor.behaviour c.args.hand.session.machines c.args.limit (Some c.args.hand.session.capacity) c.args.actors.items
    (core_of c.play.new.queues.session.machines c.play.new.queues.all.view) c.in-Ok.finished.end c.in-Ok.finished.players.items
    c.in-Ok-run_of.run'.outcome c.in-Ok-run_of.run'.actors.items c.in-Ok.ensures.played c.in-Ok-run_of.ensures.run

pub returns-in-Ok-run_of-clause-closed : goal.returns-in-Ok-run_of-clause-closed
returns-in-Ok-run_of-clause-closed g c =
    let p = c.in-Ok.ensures.played in
    let H : List Machine_data → Type 0 = λ z. HasPlayed g.A.Actor.behaviour c.args.hand.session.machines c.args.limit (Some c.args.hand.session.capacity) c.args.actors.items
    (core_of z c.play.new.queues.all.view) c.in-Ok.finished.end c.in-Ok.finished.players.items in
    let some = c.requires.some in
    let many = c.requires.actors in
    let s = c.spend-closed.ensures in
    session_of_run g.A.Actor.behaviour c.args.hand.session c.args.limit c.args.actors.items c.play.new.queues.all.view c.in-Ok.finished.end c.in-Ok.finished.players.items c.spend-closed.result
    c.in-Ok-run_of.run'.outcome c.in-Ok-run_of.run'.actors.items
    (omega (arith, some, many)) c.requires.well_formed (subst H p.machines p) c.in-Ok.ensures.noted (s.closed.0 ∙ p.machines) s.closed.1 s.spent c.in-Ok-run_of.ensures.run

pub returns-in-Err-run_of-clause-full : goal.returns-in-Err-run_of-clause-full
returns-in-Err-run_of-clause-full g c given is = show_fault g.A.Actor.behaviour c.args.hand.session.machines given c.args.limit c.args.hand.session.capacity c.args.actors.items
    (core_of c.play.new.queues.session.machines c.play.new.queues.all.view)
    c.in-Ok.finished.end c.in-Ok.finished.players.items c.in-Err-run_of.fault c.requires.well_formed c.in-Ok.ensures.played is c.in-Err-run_of.ensures.full

pub returns-in-Ok-run_of-clause-rings : goal.returns-in-Ok-run_of-clause-rings
returns-in-Ok-run_of-clause-rings g c = c.spend-closed.ensures.capacity ∙ same_number c.play.new.queues.session.capacity c.args.hand.session.capacity c.in-Ok.ensures.capacity
