-- The definitions aren't empty: there are starts, and steps.
use Rattle.std.proofs.Common.{◌≡◌, ℕ, List, [], ◌∷◌, Option, Some, None, slice_get, refl, sym, ap, ◌∙◌}
use Rattle.rs_model.specs.Data.{Machine_data}
use Rattle.rs_model.specs.Sorts.{HasSort}
use Rattle.rs_model.specs.declared.graph.Arm.{Arm}
use Rattle.rs_model.specs.declared.graph.Role.{Role}
use Rattle.rs_model.specs.declared.machines.State.TheVariants.{Puts, Takes}
use Rattle.rs_model.specs.declared.values.Value.{Value}
use Rattle.rs_core.specs.Configurations.{Message, Configuration, Event, Send, Receive, Sends, Receives, StartsAt, state_at, Step, Steps, IsReachable, IsSame}
use Rattle.rs_core.proofs.Moves.{after_send, after_receive, send_step, receive_step}

abbrev start_number : Option Machine_data → ℕ
start_number None = 0
start_number (Some m) = m.start

pub start : (machines : List Machine_data) → (c : Configuration) × StartsAt machines c
start machines =
    (record { at = λ p. start_number (slice_get machines p); queue = λ p q. [] }, record { states = λ p m is. ap start_number is; queues = λ p q. refl })

pub send : (machines : List Machine_data) (c : Configuration) (role peer : Role) (arms : List Arm) (place : ℕ) (arm : Arm) (value : Value) → state_at machines c role.0 ≡ Some (Puts peer arms)
    → slice_get arms place ≡ Some arm → HasSort value arm.sort → (d : Configuration) × Step machines c (Send role place value) d
send machines c role peer arms place arm value puts picks has =
    (after_send c role.0 peer arm value, send_step machines c role.0 place value peer arms arm puts picks has)

pub receive : (machines : List Machine_data) (c : Configuration) (role peer : Role) (arms : List Arm) (place : ℕ) (arm : Arm) (message : Message) (later : List Message)
    → state_at machines c role.0 ≡ Some (Takes peer arms) → c.queue peer.0 role.0 ≡ message ∷ later → slice_get arms place ≡ Some arm → arm.label ≡ message.label
    → HasSort message.value arm.sort → (d : Configuration) × Step machines c (Receive role) d
receive machines c role peer arms place arm message later takes oldest follows same has =
    (after_receive c role.0 peer arm later, receive_step machines c role.0 peer arms place arm message later takes oldest follows same has)

sends_same : (machines : List Machine_data) (a c d : Configuration) (p place : ℕ) (value : Value) → IsSame c d → Sends machines a p place value c → Sends machines a p place value d
sends_same machines a c d p place value s t = record {
  peer = t.peer;
  arms = t.arms;
  arm = t.arm;
  puts = t.puts;
  picks = t.picks;
  has_sort = t.has_sort;
  goes = sym (s.at p) ∙ t.goes;
  appends = sym (s.queue p t.peer.0) ∙ t.appends;
  other_states = λ r ne. sym (s.at r) ∙ t.other_states r ne;
  other_queues = λ x y ne. sym (s.queue x y) ∙ t.other_queues x y ne;
}

receives_same : (machines : List Machine_data) (a c d : Configuration) (p : ℕ) → IsSame c d → Receives machines a p c → Receives machines a p d
receives_same machines a c d p s t = record {
  peer = t.peer;
  arms = t.arms;
  place = t.place;
  arm = t.arm;
  message = t.message;
  takes = t.takes;
  removes = t.removes ∙ ap (λ (z : List Message). t.message ∷ z) (s.queue t.peer.0 p);
  follows = t.follows;
  same_label = t.same_label;
  has_sort = t.has_sort;
  goes = sym (s.at p) ∙ t.goes;
  other_states = λ r ne. sym (s.at r) ∙ t.other_states r ne;
  other_queues = λ x y ne. sym (s.queue x y) ∙ t.other_queues x y ne;
}

step_same : (machines : List Machine_data) (a c d : Configuration) (e : Event) → IsSame c d → Step machines a e c → Step machines a e d
step_same machines a c d (Send role place value) s t = sends_same machines a c d role.0 place value s t
step_same machines a c d (Receive role) s t = receives_same machines a c d role.0 s t

steps_same : (machines : List Machine_data) (a c d : Configuration) (e : Event) (es : List Event) → IsSame c d → Steps machines a (e ∷ es) c → Steps machines a (e ∷ es) d
steps_same machines a c d e [] s t =
    let next : IsSame t.0 d = record { at = λ p. ap (λ (z : Configuration). z.at p) t.2 ∙ s.at p; queue = λ p q. ap (λ (z : Configuration). z.queue p q) t.2 ∙ s.queue p q } in
    (d, step_same machines a t.0 d e next t.1, refl)
steps_same machines a c d e (x ∷ es) s t = (t.0, t.1, steps_same machines t.0 c d x es s t.2)

pub same_reachable : (machines : List Machine_data) (c d : Configuration) → IsReachable machines c → IsSame c d → IsReachable machines d
same_reachable machines c d r s = by r.events r.steps
  where
    by : (es : List Event) → Steps machines r.first es c → IsReachable machines d
    by [] t = record {
      first = d;
      events = [];
      starts = record {
        states = λ p m is. sym (s.at p) ∙ ap (λ (z : Configuration). z.at p) (sym t) ∙ r.starts.states p m is;
        queues = λ p q. sym (s.queue p q) ∙ ap (λ (z : Configuration). z.queue p q) (sym t) ∙ r.starts.queues p q;
      };
      steps = refl;
    }
    by (e ∷ es) t = record { first = r.first; events = e ∷ es; starts = r.starts; steps = steps_same machines r.first c d e es s t }
