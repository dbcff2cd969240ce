-- Two roles that send to each other before they receive are stuck with rings of one message.
use Rattle.std.proofs.Common.{◌≡◌, ℕ, zero, suc, ◌<◌, [], ◌∷◌, Some, slice_get, length, refl, sym, ap, ◌∙◌, subst, arith}
use Rattle.rs_model.specs.Data.{Machine_data}
use Rattle.rs_model.specs.declared.graph.Arm.{Arm}
use Rattle.rs_model.specs.declared.graph.Role.{Role}
use Rattle.rs_model.specs.declared.machines.State.TheVariants.{Puts}
use Rattle.rs_model.specs.declared.values.Sort.TheVariants as sort
use Rattle.rs_model.specs.declared.values.Value.{Value}
use Rattle.rs_model.specs.declared.values.Value.TheVariants as value
use Rattle.rs_core.specs.declared.messages.Event.{Event}
use Rattle.rs_core.specs.declared.messages.Event.TheVariants.{Send, Receive}
use Rattle.rs_core.specs.Configurations.{Configuration, Sends, Receives, StartsAt, state_at}
use Rattle.rs_core.proofs.Items.{put_at}
use Rattle.rs_core.proofs.Moves.{after_send, send_step}
use Rattle.rs_room.specs.Bounded.{BoundedStep, IsReachableWithin, IsStuck}
use Rattle.rs_room.specs.Crossing.{a, b, x, y, projection_for_a, b_ahead, machines_of_crossing}

-- at the start, after A has sent once, and after B has sent once

abbrev at_first : Configuration
at_first = record { at = λ p. 0; queue = λ p q. [] }

abbrev arm_to : ℕ → ℕ → Arm
arm_to label next = record { label = record { 0 = label }; sort = sort.Unit; next = next }

abbrev x_sent : Configuration
x_sent = after_send at_first 0 b (arm_to 0 1) value.Unit

abbrev both_sent : Configuration
both_sent = after_send x_sent 1 a (arm_to 1 1) value.Unit

starts : StartsAt machines_of_crossing at_first
starts = record { states = states; queues = λ p q. refl }
  where
    states : (p : ℕ) (m : Machine_data) → slice_get machines_of_crossing p ≡ Some m → 0 ≡ m.start
    states zero m h = let e : projection_for_a.machine ≡ m = cc (h) in ap (λ (o : Machine_data). o.start) e
    states (suc zero) m h = let e : b_ahead ≡ m = cc (h) in ap (λ (o : Machine_data). o.start) e
    states (suc (suc p)) m h = absurd (cc (h))

reached : IsReachableWithin machines_of_crossing 1 both_sent
unfolding put_at
reached = record {
  first = at_first;
  events = Send a 0 value.Unit ∷ Send b 0 value.Unit ∷ [];
  starts = starts;
  steps = (
    x_sent,
    (send_step machines_of_crossing at_first 0 0 value.Unit b (x 1) (arm_to 0 1) refl refl refl, omega arith),
    (both_sent, (send_step machines_of_crossing x_sent 1 0 value.Unit a (y 1) (arm_to 1 1) refl refl refl, omega arith), refl),
  );
}

a_stands : state_at machines_of_crossing both_sent 0 ≡ Some (Puts b (x 2))
unfolding put_at
a_stands = refl

b_stands : state_at machines_of_crossing both_sent 1 ≡ Some (Puts a (y 2))
unfolding put_at
b_stands = refl

a_is_full : length (both_sent.queue 0 1) ≡ 1
unfolding put_at
a_is_full = refl

b_is_full : length (both_sent.queue 1 0) ≡ 1
unfolding put_at
b_is_full = refl

-- neither can send, since its ring is full, nor receive, since it stands at a send

no_send : (p place : ℕ) (v : Value) (d : Configuration) (st : Sends machines_of_crossing both_sent p place v d)
    → length (both_sent.queue p st.peer.0) < 1 → ⊥
no_send zero place v d st few =
    let same : Some (Puts b (x 2)) ≡ Some (Puts st.peer st.arms) = sym a_stands ∙ st.puts in
    let peer : st.peer ≡ b = cc (same) in
    let P : Role → Type 0 = λ z. length (both_sent.queue 0 z.0) < 1 in
    let few' : length (both_sent.queue 0 1) < 1 = subst P peer few in
    omega (arith, few', a_is_full)
no_send (suc zero) place v d st few =
    let same : Some (Puts a (y 2)) ≡ Some (Puts st.peer st.arms) = sym b_stands ∙ st.puts in
    let peer : st.peer ≡ a = cc (same) in
    let P : Role → Type 0 = λ z. length (both_sent.queue 1 z.0) < 1 in
    let few' : length (both_sent.queue 1 0) < 1 = subst P peer few in
    omega (arith, few', b_is_full)
no_send (suc (suc p)) place v d st few = let h = st.puts in cc (h)

no_receive : (p : ℕ) (d : Configuration) → Receives machines_of_crossing both_sent p d → ⊥
no_receive zero d st = let h = st.takes in cc (h, a_stands)
no_receive (suc zero) d st = let h = st.takes in cc (h, b_stands)
no_receive (suc (suc p)) d st = let h = st.takes in cc (h)

no_step_shown : (e : Event) (d : Configuration) → BoundedStep machines_of_crossing 1 both_sent e d → ⊥
no_step_shown (Send role place v) d b = no_send role.0 place v d b.0 b.1
no_step_shown (Receive role) d st = no_receive role.0 d st

stuck : IsStuck machines_of_crossing 1 both_sent
stuck = record { no_step = no_step_shown; not_ended = λ over. (let h = over.done 0 (omega arith) in cc (h, a_stands)) }

pub can_be_stuck : (c : Configuration) × IsReachableWithin machines_of_crossing 1 c × IsStuck machines_of_crossing 1 c
can_be_stuck = (both_sent, reached, stuck)
