use Rattle.std.proofs.Common.{rules, ◌∙◌, ◌+◌, ◌*◌, ◌-◌, ◌<◌, ◌≤◌, ℕ, true, false, List, length, arith, refl, subst, sym}
use Rattle.rs_model.specs.Data.{Machine_data}
use Rattle.rs_core.specs.declared.messages.Event.{Event}
use Rattle.rs_core.specs.Core.{configuration_of}
use Rattle.rs_core.proofs.Stands.{done_after}
use Rattle.rs_safety.specs.Room.{room_of}
use Rattle.rs_alive.specs.Schedule.{Advances, CanLeadOn}
use Rattle.rs_alive.specs.Taken.{CarryEmptyValues, IsTaken, acts_by}
use Rattle.rs_alive.proofs.Following.{Following, advances_as, all_empty, arrives, counts_down, done_in, falls, few_events, goes_on, leads, most_of, stands_at, start}
use Rattle.rs_alive.proofs.Scheduled.{total}
use Rattle.rs_alive.proofs.TheMessage.{the_message}
use Rattle.rs_alive.proofs.taking.taken_within.Goals as goal

pub loop-events-init : goal.loop-events-init
loop-events-init c =
    let P : List Event → Type 0
    = λ z. Following c.args.accepted.now c.args.past.now c.args.sender c.args.receiver c.args.place (configuration_of c.in_ok-core.core) (configuration_of c.in_ok-core.core) c.args.place z in (
      subst P (sym c.new-events.ensures.items)
          (start c.args.accepted.now c.args.past.now c.args.sender c.args.receiver c.args.place
          (configuration_of c.in_ok-core.core) c.machines-machines.ensures.session c.in_ok-core.ensures.leads c.requires.sender c.requires.receiver c.requires.apart
          (omega (arith, c.if-len-place.false, c.queue_len-len.ensures))),
      c.in_ok-core.ensures.machines,
    )

pub advance-requires-clause-leads : goal.advance-requires-clause-leads
advance-requires-clause-leads c =
    let P : List Machine_data → Type 0 = λ z. CanLeadOn z (configuration_of c.loop-events.core) c.args.receiver.0 in
    subst P (sym c.loop-events.invariant.1)
    (leads c.args.accepted.now c.args.past.now c.args.sender c.args.receiver c.args.place (configuration_of c.in_ok-core.core)
    (configuration_of c.loop-events.core) c.loop-events.before c.loop-events.events.items c.machines-machines.ensures.session c.requires.receiver c.loop-events.invariant.0)

pub returns-then-before-eq0-clause-continued : goal.returns-then-before-eq0-clause-continued
returns-then-before-eq0-clause-continued c =
    let M : List Machine_data → Type 0
    = λ z. Advances z c.args.sender c.args.receiver (configuration_of c.loop-events.core) (configuration_of c.advance.new.core) c.in_ok-event.field-0.event c.in_ok-event.field-0.takes in
    let made = advances_as c.args.accepted.now.machines c.args.sender c.args.receiver (configuration_of c.loop-events.core)
    (configuration_of c.advance.new.core) c.in_ok-event.field-0.event c.in_ok-event.field-0.event c.in_ok-event.field-0.takes true
    (subst M c.loop-events.invariant.1 c.in_ok-event.ensures.advances) refl (cc (c.if-takes.true)) in
    let F : ℕ → Type 0 = λ z. Following c.args.accepted.now c.args.past.now c.args.sender c.args.receiver c.args.place (configuration_of c.in_ok-core.core)
    (configuration_of c.loop-events.core) z c.loop-events.events.items in
    let E : List Event → Type 0 = λ z. CarryEmptyValues c.args.accepted.now.machines (configuration_of c.in_ok-core.core) z in
    let T : List Event → Type 0 = λ z. IsTaken c.args.accepted.now.machines c.args.sender c.args.receiver (configuration_of c.in_ok-core.core) c.args.place z in
    let taken = subst T (sym c.in_ok-push.ensures)
    (arrives c.args.accepted.now c.args.past.now c.args.sender c.args.receiver c.args.place (configuration_of c.in_ok-core.core) (configuration_of c.loop-events.core)
    (configuration_of c.advance.new.core) c.loop-events.events.items c.in_ok-event.field-0.event c.machines-machines.ensures.session c.requires.receiver
    (subst F c.if-before-eq0.true c.loop-events.invariant.0) made) in
    let message = stands_at ((configuration_of c.in_ok-core.core).queue c.args.sender.0 c.args.receiver.0) c.args.place (omega (arith, c.if-len-place.false, c.queue_len-len.ensures)) in
    record {
      at = configuration_of c.in_ok-core.core;
      message = message.0;
      leads = c.in_ok-core.ensures.leads;
      stands = message.1;
      taken = taken;
      ends = the_message c.args.accepted.now.machines c.args.sender c.args.receiver (configuration_of c.in_ok-core.core) c.args.place c.push.new.events.items message.0 taken message.1;
      values = subst E (sym c.in_ok-push.ensures)
          (all_empty c.args.accepted.now c.args.past.now c.args.sender c.args.receiver c.args.place (configuration_of c.in_ok-core.core) (configuration_of c.loop-events.core)
          (configuration_of c.advance.new.core) c.loop-events.before c.loop-events.events.items c.in_ok-event.field-0.event true c.loop-events.invariant.0 made);
    }

pub returns-then-before-eq0-clause-bounded : goal.returns-then-before-eq0-clause-bounded
returns-then-before-eq0-clause-bounded c =
    let M : List Machine_data → Type 0
    = λ z. Advances z c.args.sender c.args.receiver (configuration_of c.loop-events.core) (configuration_of c.advance.new.core) c.in_ok-event.field-0.event c.in_ok-event.field-0.takes in
    let made = advances_as c.args.accepted.now.machines c.args.sender c.args.receiver (configuration_of c.loop-events.core)
    (configuration_of c.advance.new.core) c.in_ok-event.field-0.event c.in_ok-event.field-0.event c.in_ok-event.field-0.takes true
    (subst M c.loop-events.invariant.1 c.in_ok-event.ensures.advances) refl (cc (c.if-takes.true)) in
    let T : List Event → Type 0
    = λ z. length z ≤ 2 * length c.args.accepted.now.machines * length c.args.accepted.now.protocol.nodes * (acts_by c.args.sender.0 c.args.past.now + 3 * room_of c.args.accepted.now.derivations) in
    subst T (sym c.in_ok-push.ensures)
    (few_events c.args.accepted.now c.args.past.now c.args.sender c.args.receiver c.args.place (configuration_of c.in_ok-core.core) (configuration_of c.loop-events.core)
    (configuration_of c.advance.new.core) c.loop-events.before c.loop-events.events.items c.in_ok-event.field-0.event true c.machines-machines.ensures.session c.requires.receiver
    c.loop-events.invariant.0 made)

pub loop-events-smaller-then-takes : goal.loop-events-smaller-then-takes
loop-events-smaller-then-takes c =
    let M : List Machine_data → Type 0
    = λ z. Advances z c.args.sender c.args.receiver (configuration_of c.loop-events.core) (configuration_of c.advance.new.core) c.in_ok-event.field-0.event c.in_ok-event.field-0.takes in
    let made = advances_as c.args.accepted.now.machines c.args.sender c.args.receiver (configuration_of c.loop-events.core)
    (configuration_of c.advance.new.core) c.in_ok-event.field-0.event c.in_ok-event.field-0.event c.in_ok-event.field-0.takes true
    (subst M c.loop-events.invariant.1 c.in_ok-event.ensures.advances) refl (cc (c.if-takes.true)) in
    let T : List Event → Type 0
    = λ z. total (length c.args.accepted.now.machines) (most_of c.args.accepted.now c.args.past.now c.args.sender) (done_after (done_in c.args.past.now) z) < total
    (length c.args.accepted.now.machines) (most_of c.args.accepted.now c.args.past.now c.args.sender) (done_after (done_in c.args.past.now) c.loop-events.events.items) in
    subst T (sym c.in_ok-push.ensures)
    (falls c.args.accepted.now c.args.past.now c.args.sender c.args.receiver c.args.place (configuration_of c.in_ok-core.core) (configuration_of c.loop-events.core)
    (configuration_of c.advance.new.core) c.loop-events.before c.loop-events.events.items c.in_ok-event.field-0.event true c.machines-machines.ensures.session c.requires.receiver
    c.loop-events.invariant.0 made)

pub loop-events-preserved-then-takes : goal.loop-events-preserved-then-takes
loop-events-preserved-then-takes c =
    let M : List Machine_data → Type 0
    = λ z. Advances z c.args.sender c.args.receiver (configuration_of c.loop-events.core) (configuration_of c.advance.new.core) c.in_ok-event.field-0.event c.in_ok-event.field-0.takes in
    let made = advances_as c.args.accepted.now.machines c.args.sender c.args.receiver (configuration_of c.loop-events.core)
    (configuration_of c.advance.new.core) c.in_ok-event.field-0.event c.in_ok-event.field-0.event c.in_ok-event.field-0.takes true
    (subst M c.loop-events.invariant.1 c.in_ok-event.ensures.advances) refl (cc (c.if-takes.true)) in
    let T : List Event → Type 0
    = λ z. Following c.args.accepted.now c.args.past.now c.args.sender c.args.receiver c.args.place (configuration_of c.in_ok-core.core) (configuration_of c.advance.new.core)
    (c.loop-events.before - 1) z in (
      subst T (sym c.in_ok-push.ensures)
          (counts_down c.args.accepted.now c.args.past.now c.args.sender c.args.receiver c.args.place (configuration_of c.in_ok-core.core) (configuration_of c.loop-events.core)
          (configuration_of c.advance.new.core) c.loop-events.before c.loop-events.events.items c.in_ok-event.field-0.event c.machines-machines.ensures.session c.requires.receiver
          c.loop-events.invariant.0 made (search rules)),
      c.advance.ensures.machines ∙ c.loop-events.invariant.1,
    )

pub loop-events-smaller : goal.loop-events-smaller
loop-events-smaller c =
    let M : List Machine_data → Type 0
    = λ z. Advances z c.args.sender c.args.receiver (configuration_of c.loop-events.core) (configuration_of c.advance.new.core) c.in_ok-event.field-0.event c.in_ok-event.field-0.takes in
    let made = advances_as c.args.accepted.now.machines c.args.sender c.args.receiver (configuration_of c.loop-events.core)
    (configuration_of c.advance.new.core) c.in_ok-event.field-0.event c.in_ok-event.field-0.event c.in_ok-event.field-0.takes false
    (subst M c.loop-events.invariant.1 c.in_ok-event.ensures.advances) refl (cc (c.if-takes.false)) in
    let T : List Event → Type 0
    = λ z. total (length c.args.accepted.now.machines) (most_of c.args.accepted.now c.args.past.now c.args.sender) (done_after (done_in c.args.past.now) z) < total
    (length c.args.accepted.now.machines) (most_of c.args.accepted.now c.args.past.now c.args.sender) (done_after (done_in c.args.past.now) c.loop-events.events.items) in
    subst T (sym c.in_ok-push.ensures)
    (falls c.args.accepted.now c.args.past.now c.args.sender c.args.receiver c.args.place (configuration_of c.in_ok-core.core) (configuration_of c.loop-events.core)
    (configuration_of c.advance.new.core) c.loop-events.before c.loop-events.events.items c.in_ok-event.field-0.event false c.machines-machines.ensures.session c.requires.receiver
    c.loop-events.invariant.0 made)

pub loop-events-preserved : goal.loop-events-preserved
loop-events-preserved c =
    let M : List Machine_data → Type 0
    = λ z. Advances z c.args.sender c.args.receiver (configuration_of c.loop-events.core) (configuration_of c.advance.new.core) c.in_ok-event.field-0.event c.in_ok-event.field-0.takes in
    let made = advances_as c.args.accepted.now.machines c.args.sender c.args.receiver (configuration_of c.loop-events.core)
    (configuration_of c.advance.new.core) c.in_ok-event.field-0.event c.in_ok-event.field-0.event c.in_ok-event.field-0.takes false
    (subst M c.loop-events.invariant.1 c.in_ok-event.ensures.advances) refl (cc (c.if-takes.false)) in
    let T : List Event → Type 0
    = λ z. Following c.args.accepted.now c.args.past.now c.args.sender c.args.receiver c.args.place (configuration_of c.in_ok-core.core)
    (configuration_of c.advance.new.core) c.loop-events.before z in (
      subst T (sym c.in_ok-push.ensures)
          (goes_on c.args.accepted.now c.args.past.now c.args.sender c.args.receiver c.args.place (configuration_of c.in_ok-core.core) (configuration_of c.loop-events.core)
          (configuration_of c.advance.new.core) c.loop-events.before c.loop-events.events.items c.in_ok-event.field-0.event c.machines-machines.ensures.session c.requires.receiver
          c.loop-events.invariant.0 made),
      c.advance.ensures.machines ∙ c.loop-events.invariant.1,
    )
