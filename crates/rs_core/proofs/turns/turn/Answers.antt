use Rattle.std.proofs.Common.{◌≡◌, ◌∙◌, ℕ, List, [], ◌∷◌, ◌++◌, Some, ap, subst, subst₂, sym, refl, slice_get}
use Rattle.rs_model.specs.Data.{Machine_data}
use Rattle.rs_model.specs.declared.machines.State.TheVariants.{Takes}
use Rattle.rs_core.specs.Configurations.{state_of}
use Rattle.rs_core.specs.Core.{configuration_of}
use Rattle.rs_core.specs.Queues.{PostNotes, PostTells}
use Rattle.rs_core.specs.Turns.{NextTells}
use Rattle.rs_core.specs.declared.players.Player.{Player}
use Rattle.rs_core.specs.declared.queues.Posted.{Posted}
use Rattle.rs_core.specs.declared.transcripts.Entry.{Entry}
use Rattle.rs_core.specs.declared.transcripts.Entry.TheVariants as entry
use Rattle.rs_core.specs.declared.turns.NextAct.{NextAct}
use Rattle.rs_core.proofs.Turning.{one_place, sent_turn, got_turn}
use Rattle.rs_core.proofs.turns.turn.Goals as goal

pub post-requires-clause-can : goal.post-requires-clause-can
post-requires-clause-can g c =
    let N : NextAct → Type 0 = λ n. NextTells g.A.Actor.behaviour c.args.limit (g.Q.Queues.core c.args.queues.now) c.args.role.0 c.args.player.now c.next_of.new.player n in
    let offers = (subst N c.in-Sends.is c.in_ok-next_of.ensures.tells).1 in (offers.can, offers.same_arm)

pub returns-in_ok-push-in-Sent-clause-tells : goal.returns-in_ok-push-in-Sent-clause-tells
returns-in_ok-push-in-Sent-clause-tells g c =
    let N : NextAct → Type 0 = λ n. NextTells g.A.Actor.behaviour c.args.limit (g.Q.Queues.core c.args.queues.now) c.args.role.0 c.args.player.now c.next_of.new.player n in
    let tells = subst N c.in-Sends.is c.in_ok-next_of.ensures.tells in
    let P : Posted → Type 0 = λ z. PostTells (g.Q.Queues.capacity c.args.queues.now) (g.Q.Queues.core c.args.queues.now) c.args.role.0 c.in-Sends.peer (c.in-Sends.place, c.in-Sends.value)
    (g.Q.Queues.core c.post.new.self) z in
    let sent = subst P c.in-Sent.is c.in_ok-post-in-Sends.ensures.told in (
      tells.0,
      sent_turn g.A.Actor.behaviour (g.Q.Queues.capacity c.args.queues.now) (g.Q.Queues.core c.args.queues.now) (g.Q.Queues.core c.post.new.self) c.args.role.0 c.args.player.now c.next_of.new.player
          record { actor = c.next_of.new.player.actor; kept = c.next_of.new.player.kept; transcript = c.push.new.self }
          c.in-Sends.peer c.in-Sends.arm c.in-Sends.place c.in-Sends.value tells.1 sent.room sent.step refl refl c.in_ok-push-in-Sent.ensures.ok,
      sent.machines,
    )

pub returns-in_ok-push-in-Sent-clause-noted : goal.returns-in_ok-push-in-Sent-clause-noted
returns-in_ok-push-in-Sent-clause-noted g c =
    let N : NextAct → Type 0 = λ n. NextTells g.A.Actor.behaviour c.args.limit (g.Q.Queues.core c.args.queues.now) c.args.role.0 c.args.player.now c.next_of.new.player n in
    let tells = subst N c.in-Sends.is c.in_ok-next_of.ensures.tells in
    let P : Posted → Type 0 = λ z. PostNotes (g.Q.Queues.core c.args.queues.now) c.args.role.0 c.in-Sends.peer (c.in-Sends.place, c.in-Sends.value) (g.Q.Queues.notes c.args.queues.now)
    (g.Q.Queues.notes c.post.new.self) z in
    let noted = (subst P c.in-Sent.is c.in_ok-post-in-Sends.ensures.noted) tells.1.can in
    record {
      own = subst (λ (t : List Entry). g.Q.Queues.notes c.post.new.self c.args.role.0 t)
          ((λ i. sym tells.1.transcript i ++ entry.Sent c.in-Sends.peer (tells.1.same_arm i).label ∷ []) ∙ sym c.in_ok-push-in-Sent.ensures.ok)
          (noted.adds c.args.player.now.transcript c.requires.noted);
      others = noted.others;
    }

pub returns-in-Full-clause-tells : goal.returns-in-Full-clause-tells
returns-in-Full-clause-tells g c =
    let N : NextAct → Type 0 = λ n. NextTells g.A.Actor.behaviour c.args.limit (g.Q.Queues.core c.args.queues.now) c.args.role.0 c.args.player.now c.next_of.new.player n in
    let tells = subst N c.in-Sends.is c.in_ok-next_of.ensures.tells in
    let P : Posted → Type 0 = λ z. PostTells (g.Q.Queues.capacity c.args.queues.now) (g.Q.Queues.core c.args.queues.now) c.args.role.0 c.in-Sends.peer (c.in-Sends.place, c.in-Sends.value)
    (g.Q.Queues.core c.post.new.self) z in
    let found = subst P c.in-Full.is c.in_ok-post-in-Sends.ensures.told in (
      tells.0,
      record {
        choice = (c.in-Sends.place, c.in-Sends.value);
        peer = c.in-Sends.peer;
        can = tells.1.can;
        full = found.1.full;
        offers = tells.1.offers;
        kept = ap (λ v. Some (c.in-Sends.place, v)) found.0;
        transcript = tells.1.transcript;
      },
      found.1.same,
    )

pub returns-in_ok-push-in-Some-clause-tells : goal.returns-in_ok-push-in-Some-clause-tells
returns-in_ok-push-in-Some-clause-tells g c =
    let N : NextAct → Type 0 = λ n. NextTells g.A.Actor.behaviour c.args.limit (g.Q.Queues.core c.args.queues.now) c.args.role.0 c.args.player.now c.next_of.new.player n in
    let tells = subst N c.in-Receives.is c.in_ok-next_of.ensures.tells in
    let got = c.in-Some.ensures.told in (
      tells.0,
      got_turn g.A.Actor.behaviour (g.Q.Queues.capacity c.args.queues.now) (g.Q.Queues.core c.args.queues.now) (g.Q.Queues.core c.fetch.new.self) c.args.role.0 c.args.player.now
          record { actor = c.tell_actor.new.actor; kept = c.next_of.new.player.kept; transcript = c.push-in-Some.new.self }
          c.in-Receives.peer tells.1.0 c.in-Some.got.message.label c.in-Some.got.message.value tells.1.1 got.0
          (λ peer arms place arm takes follows same.
          (let R : List Machine_data → ℕ → Type 0 = λ ms n. state_of (slice_get ms c.args.role.0) n ≡ Some (Takes peer arms) in
          ap (λ (z : Player g.row.A.Denot). g.A.Actor.behaviour.told z.actor arms place c.in-Some.got.message.value) (sym tells.2)
          ∙ ap (λ (n : ℕ). g.A.Actor.behaviour.told c.next_of.new.player.actor arms n c.in-Some.got.message.value)
          (one_place (g.Q.Queues.core c.args.queues.now).machines c.args.role.0 ((configuration_of (g.Q.Queues.core c.args.queues.now)).at c.args.role.0) peer arms place c.in-Some.got.arm arm
          c.in-Some.got.message.label c.state-number.ensures.standing.well_formed takes follows same (got.2 peer arms takes))
          ∙ c.in_ok-tell_actor-in-Some.ensures.becomes peer arms (subst₂ R (sym got.1) (sym c.state-number.ensures.state) takes)))
          (ap (λ (z : Player g.row.A.Denot). z.kept) tells.2)
          (c.in_ok-push-in-Some.ensures.ok ∙ ap (λ (z : Player g.row.A.Denot). z.transcript ++ (entry.Got c.in-Receives.peer c.in-Some.got.message.label c.in-Some.got.message.value ∷ [])) tells.2),
      got.1,
    )
