-- An event has no fault exactly where it is a step, and each fault says what is wrong.
use Rattle.std.proofs.Common.{◌≡◌, ◌⊎◌, inl, inr, ℕ, Bool, true, false, List, [], ◌∷◌, Option, Some, None, slice_get, refl, sym, subst, if◌then◌else◌}
use Rattle.rs_model.specs.Data.{Machine_data}
use Rattle.rs_model.specs.Sorts.{HasSort, fits}
use Rattle.rs_model.specs.declared.graph.Arm.{Arm}
use Rattle.rs_model.specs.declared.graph.Role.{Role}
use Rattle.rs_model.specs.declared.machines.State.{State}
use Rattle.rs_model.specs.declared.machines.State.TheVariants.{Done, Puts, Takes}
use Rattle.rs_model.specs.declared.values.Value.{Value}
use Rattle.rs_core.specs.Configurations.{Message, Event, Send, Receive, Configuration, IsReachable, Step, state_at}
use Rattle.rs_core.specs.Core.{arm_fault, queue_fault, receive_fault, send_fault, step_fault}
use Rattle.rs_core.specs.Safety.{IsSafe}
use Rattle.rs_core.specs.StepFaults.{ReceiveBlames, SendBlames, StepBlames}
use Rattle.rs_core.specs.declared.messages.StepFault.{StepFault}
use Rattle.rs_core.specs.declared.messages.StepFault.TheVariants.{NotSending, NoArm, WrongSort, NotReceiving, QueueEmpty}
use Rattle.rs_core.proofs.Guards.{receive, send}
use Rattle.rs_core.proofs.Nexts.{find}

-- the test of a value's sort
sort_fault : Bool → Option StepFault
sort_fault b = if b then None else Some WrongSort

sort_right : (b : Bool) → sort_fault b ≡ None → b ≡ true
unfolding sort_fault
sort_right true h = refl
sort_right false h = absurd (cc (h))

sort_wrong : (b : Bool) (f : StepFault) → sort_fault b ≡ Some f → (f ≡ WrongSort) × (b ≡ false)
unfolding sort_fault
sort_wrong true f h = absurd (cc (h))
sort_wrong false f h = (cc (h), refl)

arm_right : (o : Option Arm) (v : Value) → arm_fault o v ≡ None → (arm : Arm) × (o ≡ Some arm) × HasSort v arm.sort
unfolding sort_fault
arm_right None v h = absurd (cc (h))
arm_right (Some arm) v h = (arm, refl, sort_right (fits v arm.sort) h)

send_right : (o : Option State) (place : ℕ) (v : Value) → send_fault o place v ≡ None
    → (peer : Role) × (arms : List Arm) × (arm : Arm) × (o ≡ Some (Puts peer arms)) × (slice_get arms place ≡ Some arm) × HasSort v arm.sort
send_right None place v h = absurd (cc (h))
send_right (Some Done) place v h = absurd (cc (h))
send_right (Some (Takes peer arms)) place v h = absurd (cc (h))
send_right (Some (Puts peer arms)) place v h = let a = arm_right (slice_get arms place) v h in (peer, arms, a.0, refl, a.1, a.2)

queue_right : (ms : List Message) → queue_fault ms ≡ None → (message : Message) × (later : List Message) × (ms ≡ message ∷ later)
queue_right [] h = absurd (cc (h))
queue_right (message ∷ later) h = (message, later, refl)

receive_right : (o : Option State) (queue : ℕ → List Message) → receive_fault o queue ≡ None
    → (peer : Role) × (arms : List Arm) × (message : Message) × (later : List Message) × (o ≡ Some (Takes peer arms)) × (queue peer.0 ≡ message ∷ later)
receive_right None queue h = absurd (cc (h))
receive_right (Some Done) queue h = absurd (cc (h))
receive_right (Some (Puts peer arms)) queue h = absurd (cc (h))
receive_right (Some (Takes peer arms)) queue h = let q = queue_right (queue peer.0) h in (peer, arms, q.0, q.1, refl, q.2)

-- where nothing is wrong there is the step
step_there : (ms : List Machine_data) (c : Configuration) (event : Event) → IsSafe ms → IsReachable ms c → step_fault ms c event ≡ None → (d : Configuration) × Step ms c event d
step_there ms c (Send role place v) safe reached h =
    let s = send_right (state_at ms c role.0) place v h in
    send ms c role s.0 s.1 place s.2 v s.3 s.4 s.5
step_there ms c (Receive role) safe reached h =
    let r = receive_right (state_at ms c role.0) (λ p. c.queue p role.0) h in
    elim (find r.1 r.2) [
      | inl t ↦ receive ms c role r.0 r.1 t.0 t.1 r.2 r.3 r.4 r.5 t.2 t.3.0 t.3.1
      | inr none ↦ absurd (safe.fits c reached record { role = role.0; peer = r.0; arms = r.1; message = r.2; later = r.3; takes = r.4; oldest = r.5; no_arm = none })
    ]

-- where there is the step nothing is wrong
nothing_wrong : (ms : List Machine_data) (c : Configuration) (event : Event) → (d : Configuration) × Step ms c event d → step_fault ms c event ≡ None
nothing_wrong ms c (Send role place v) st = rw st.1.puts (rw st.1.picks (rw st.1.has_sort refl))
nothing_wrong ms c (Receive role) st = rw st.1.takes (rw st.1.removes refl)

pub no_fault : (ms : List Machine_data) (c : Configuration) (event : Event) → IsSafe ms → IsReachable ms c
    → ((step_fault ms c event ≡ None → (d : Configuration) × Step ms c event d) × ((d : Configuration) × Step ms c event d → step_fault ms c event ≡ None))
no_fault ms c event safe reached = (step_there ms c event safe reached, nothing_wrong ms c event)

-- what is wrong with a send
arm_wrong : (o : Option Arm) (v : Value) (f : StepFault) → arm_fault o v ≡ Some f
    → ((f ≡ NoArm) × (o ≡ None)) ⊎ ((f ≡ WrongSort) × (arm : Arm) × (o ≡ Some arm) × (HasSort v arm.sort → ⊥))
unfolding sort_fault
arm_wrong None v f h = inl (cc (h), refl)
arm_wrong (Some arm) v f h = let w = sort_wrong (fits v arm.sort) f h in inr (w.0, arm, refl, λ has. (let no = w.1 in cc (has, no)))

send_wrong : (o : Option State) (place : ℕ) (v : Value) (f : StepFault) → send_fault o place v ≡ Some f → SendBlames o place v f
send_wrong None place v f h =
    let e : f ≡ NotSending = cc (h) in
    let P : StepFault → Type 0 = λ z. SendBlames None place v z in
    subst P (sym e) (λ peer arms is. absurd (cc (is)))
send_wrong (Some Done) place v f h =
    let e : f ≡ NotSending = cc (h) in
    let P : StepFault → Type 0 = λ z. SendBlames (Some Done) place v z in
    subst P (sym e) (λ peer arms is. absurd (cc (is)))
send_wrong (Some (Takes q xs)) place v f h =
    let e : f ≡ NotSending = cc (h) in
    let P : StepFault → Type 0 = λ z. SendBlames (Some (Takes q xs)) place v z in
    subst P (sym e) (λ peer arms is. absurd (cc (is)))
send_wrong (Some (Puts q xs)) place v f h =
    let P : StepFault → Type 0 = λ z. SendBlames (Some (Puts q xs)) place v z in
    elim (arm_wrong (slice_get xs place) v f h) [
      | inl n ↦ subst P (sym n.0) (q, xs, refl, n.1)
      | inr w ↦ subst P (sym w.0) (q, xs, w.1, refl, w.2, w.3)
    ]

-- what is wrong with a receive
queue_wrong : (ms : List Message) (f : StepFault) → queue_fault ms ≡ Some f → (f ≡ QueueEmpty) × (ms ≡ [])
queue_wrong [] f h = (cc (h), refl)
queue_wrong (message ∷ later) f h = absurd (cc (h))

receive_wrong : (o : Option State) (queue : ℕ → List Message) (f : StepFault) → receive_fault o queue ≡ Some f → ReceiveBlames o queue f
receive_wrong None queue f h =
    let e : f ≡ NotReceiving = cc (h) in
    let P : StepFault → Type 0 = λ z. ReceiveBlames None queue z in
    subst P (sym e) (λ peer arms is. absurd (cc (is)))
receive_wrong (Some Done) queue f h =
    let e : f ≡ NotReceiving = cc (h) in
    let P : StepFault → Type 0 = λ z. ReceiveBlames (Some Done) queue z in
    subst P (sym e) (λ peer arms is. absurd (cc (is)))
receive_wrong (Some (Puts q xs)) queue f h =
    let e : f ≡ NotReceiving = cc (h) in
    let P : StepFault → Type 0 = λ z. ReceiveBlames (Some (Puts q xs)) queue z in
    subst P (sym e) (λ peer arms is. absurd (cc (is)))
receive_wrong (Some (Takes q xs)) queue f h =
    let w = queue_wrong (queue q.0) f h in
    let P : StepFault → Type 0 = λ z. ReceiveBlames (Some (Takes q xs)) queue z in
    subst P (sym w.0) (q, xs, refl, w.1)

pub blamed : (ms : List Machine_data) (c : Configuration) (event : Event) (f : StepFault) → step_fault ms c event ≡ Some f → StepBlames ms c event f
blamed ms c (Send role place v) f h = send_wrong (state_at ms c role.0) place v f h
blamed ms c (Receive role) f h = receive_wrong (state_at ms c role.0) (λ p. c.queue p role.0) f h
