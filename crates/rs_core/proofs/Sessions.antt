-- What the steps of `Core` do to the configuration that it shows.
use Rattle.std.proofs.Common.{rules, Result, ◌≡◌, ◌≢◌, ◌⊎◌, inl, inr, ℕ, zero, suc, ◌<◌, ◌≤◌, Bool, true, false, List, [], ◌∷◌, ◌++◌, Option, Some, None, IsSome, Ok, Err, slice_get, slice_index_or}
use Rattle.std.proofs.Common.{slice_set, length, refl, sym, ap, ◌∙◌, subst, arith, map, replicate}
use Rattle.std.proofs.lemmas.Bool.Decides.{eqb_tells}
use Rattle.std.proofs.lemmas.Bool.{cases_lt}
use Rattle.std.proofs.lemmas.List.{get_or-set_same, get_or-set_other, length-set, get_or-replicate, length-replicate, length-map}
use Rattle.rs_model.proofs.Lists.{item_at}
use Rattle.rs_model.specs.Data.{Machine_data}
use Rattle.rs_model.specs.Sorts.{fits, HasSort}
use Rattle.rs_model.specs.declared.graph.Arm.{Arm}
use Rattle.rs_model.specs.declared.graph.Label.{Label}
use Rattle.rs_model.specs.declared.graph.Role.{Role}
use Rattle.rs_model.specs.declared.machines.State.{State}
use Rattle.rs_model.specs.declared.machines.State.TheVariants.{Done, Puts, Takes}
use Rattle.rs_model.specs.declared.values.Value.{Value}
use Rattle.rs_core.specs.Choices.{AreWellFormed}
use Rattle.rs_core.specs.Configurations.{Message, Configuration, Event, Send, Receive, Step, Steps, Sends, StartsAt, IsReachable, state_at}
use Rattle.rs_core.specs.Safety.{IsSafe}
use Rattle.rs_core.specs.Queues.{IsStanding}
use Rattle.rs_core.specs.Core.{Core_data, configuration_of, HasPlaces, IsReachedSession, HasReceived}
use Rattle.rs_core.specs.Ways.{way_of, way_by, way_in_front, front_by, next_by, arm_with, with_sent, with_got}
use Rattle.rs_core.specs.Core.{receive_fault}
use Rattle.rs_core.specs.declared.cells.Way.{Way}
use Rattle.rs_core.specs.declared.messages.StepFault.{StepFault}
use Rattle.rs_core.specs.declared.messages.StepFault.TheVariants.{WrongSort, NotReceiving, QueueEmpty}
use Rattle.rs_core.proofs.Stands.{here_is, machine_at, numbered}
use Rattle.rs_core.proofs.Nexts.{Taken, find}

-- one event more at the end
pub steps_snoc : (ms : List Machine_data) (c : Configuration) (es : List Event) (d : Configuration) (e : Event) (x : Configuration) → Steps ms c es d → Step ms d e x
    → Steps ms c (es ++ (e ∷ [])) x
steps_snoc ms c [] d e x s t = let P : Configuration → Type 0 = λ z. Step ms z e x in (x, subst P (sym s) t, refl)
steps_snoc ms c (y ∷ es) d e x s t = (s.0, s.1, steps_snoc ms s.0 es d e x s.2 t)

reach_snoc : (ms : List Machine_data) (c : Configuration) (e : Event) (d : Configuration) → IsReachable ms c → Step ms c e d → IsReachable ms d
reach_snoc ms c e d r s = record { first = r.first; events = r.events ++ (e ∷ []); starts = r.starts; steps = steps_snoc ms r.first r.events c e d r.steps s }

-- a queue of rows, with another queue from x to y
rows_same : (rows : List (List (List Message))) (x y : ℕ) (q : List Message) → x < length rows → y < length (slice_index_or rows x [])
    → slice_index_or (slice_index_or (slice_set rows x (slice_set (slice_index_or rows x []) y q)) x []) y [] ≡ q
rows_same rows x y q hx hy =
    ap (λ (z : List (List Message)). slice_index_or z y []) (get_or-set_same rows x (slice_set (slice_index_or rows x []) y q) [] hx) ∙ get_or-set_same (slice_index_or rows x []) y q [] hy

rows_other : (rows : List (List (List Message))) (x y : ℕ) (q : List Message) → x < length rows → (u v : ℕ) → (u ≢ x) ⊎ (v ≢ y)
    → slice_index_or (slice_index_or (slice_set rows x (slice_set (slice_index_or rows x []) y q)) u []) v [] ≡ slice_index_or (slice_index_or rows u []) v []
rows_other rows x y q hx u v (inl n) = ap (λ (z : List (List Message)). slice_index_or z v []) (get_or-set_other rows x u (slice_set (slice_index_or rows x []) y q) [] n)
rows_other rows x y q hx u v (inr n) = elim (eqb_tells u x) [
  | inr t ↦ ap (λ (z : List (List Message)). slice_index_or z v []) (get_or-set_other rows x u (slice_set (slice_index_or rows x []) y q) [] t.1)
  | inl t ↦ (let P : ℕ → Type 0 = λ z. slice_index_or (slice_index_or (slice_set rows x (slice_set (slice_index_or rows x []) y q)) z []) v [] ≡ slice_index_or (slice_index_or rows z []) v [] in
      subst P (sym t.1) (ap (λ (z : List (List Message)). slice_index_or z v []) (get_or-set_same rows x (slice_set (slice_index_or rows x []) y q) [] hx)
      ∙ get_or-set_other (slice_index_or rows x []) y v q [] n))
]

-- places stay
places_set : (c : Core_data) (p n x y : ℕ) (q : List Message) → HasPlaces c
    → HasPlaces record { machines = c.machines; states = slice_set c.states p n; queues = slice_set c.queues x (slice_set (slice_index_or c.queues x []) y q) }
places_set c p n x y q h = record {
  states = length-set c.states p n ∙ h.states;
  rows = length-set c.queues x (slice_set (slice_index_or c.queues x []) y q) ∙ h.rows;
  queues = λ u hu. elim (eqb_tells u x) [
    | inl t ↦ (let P : ℕ → Type 0 = λ z. z < length c.machines → length (slice_index_or (slice_set c.queues x (slice_set (slice_index_or c.queues x []) y q)) z []) ≡ length c.machines in
        let here : x < length c.machines → length (slice_index_or (slice_set c.queues x (slice_set (slice_index_or c.queues x []) y q)) x []) ≡ length c.machines =
        λ hx. ap length (get_or-set_same c.queues x (slice_set (slice_index_or c.queues x []) y q) [] (let e = h.rows in omega arith)) ∙ length-set (slice_index_or c.queues x []) y q
        ∙ h.queues x hx in
        subst P (sym t.1) here hu)
    | inr t ↦ ap length (get_or-set_other c.queues x u (slice_set (slice_index_or c.queues x []) y q) [] t.1) ∙ h.queues u hu
  ];
}

-- what a way says
record SendWay (machines : List Machine_data) (c : Configuration) (p place : ℕ) (v : Value) (w : Way) : Type 0 where
  arms : List Arm
  arm : Arm
  puts : state_at machines c p ≡ Some (Puts w.peer arms)
  picks : slice_get arms place ≡ Some arm
  has_sort : HasSort v arm.sort
  label : w.label ≡ arm.label
  next : w.next ≡ arm.next

way_arm : (peer : Role) (o : Option Arm) (v : Value) (w : Way) → way_by peer o v ≡ Ok w → (arm : Arm) × (o ≡ Some arm) × HasSort v arm.sort × (w ≡ record {
  peer = peer;
  label = arm.label;
  next = arm.next;
})
way_arm peer None v w e = absurd (cc (e))
way_arm peer (Some arm) v w e = by (fits v arm.sort) refl
  where
    by : (t : Bool) → fits v arm.sort ≡ t → (a : Arm) × (Some arm ≡ Some a) × HasSort v a.sort × (w ≡ record { peer = peer; label = a.label; next = a.next })
    by true f = (
      arm,
      refl,
      f,
      (let way : Way = record { peer = peer; label = arm.label; next = arm.next } in
          let e' : Ok way ≡ Ok w = sym (rw f refl) ∙ e in sym (cc (e'))),
    )
    by false f = (let e' : Err WrongSort ≡ Ok w = sym (rw f refl) ∙ e in absurd (cc (e')))

send_way : (machines : List Machine_data) (c : Configuration) (p place : ℕ) (v : Value) (w : Way) (o : Option State) → state_at machines c p ≡ o → way_of o place v ≡ Ok w
    → SendWay machines c p place v w
send_way machines c p place v w None is e = absurd (cc (e))
send_way machines c p place v w (Some Done) is e = absurd (cc (e))
send_way machines c p place v w (Some (Takes peer arms)) is e = absurd (cc (e))
send_way machines c p place v w (Some (Puts peer arms)) is e =
    let a = way_arm peer (slice_get arms place) v w e in
    let same : w.peer ≡ peer = ap (λ (z : Way). z.peer) a.3 in
    let P : Role → Type 0 = λ z. state_at machines c p ≡ Some (Puts z arms) in
    record { arms = arms; arm = a.0; puts = subst P (sym same) is; picks = a.1; has_sort = a.2; label = ap (λ (z : Way). z.label) a.3; next = ap (λ (z : Way). z.next) a.3 }

-- the peer of a send is one of the roles
pub way_peer : (machines : List Machine_data) (c : Configuration) (p place : ℕ) (v : Value) (w : Way) → AreWellFormed machines → way_of (state_at machines c p) place v ≡ Ok w
    → w.peer.0 < length machines
way_peer machines c p place v w wf e =
    let s = send_way machines c p place v w (state_at machines c p) refl e in
    let at = here_is (slice_get machines p) (c.at p) (Puts w.peer s.arms) s.puts in
    ((wf.fits p at.0 at.1).puts (c.at p) w.peer s.arms at.2).known

pub sent_step : (c : Core_data) (p place : ℕ) (v : Value) (w : Way) → IsReachedSession c → p < length c.machines → way_of (state_at c.machines (configuration_of c) p) place v ≡ Ok w
    → Sends c.machines (configuration_of c) p place v (configuration_of (with_sent c p w.peer.0 w.next record { label = w.label; value = v }))
sent_step c p place v w s hp e =
    let x = send_way c.machines (configuration_of c) p place v w (state_at c.machines (configuration_of c) p) refl e in
    let hq = way_peer c.machines (configuration_of c) p place v w s.well_formed e in
    let rows = s.places.rows in
    let states = s.places.states in
    let row = s.places.queues p hp in
    let hr : p < length c.queues = omega arith in
    let hy : w.peer.0 < length (slice_index_or c.queues p []) = omega arith in
    let message : Label → Message = λ l. record { label = l; value = v } in
    record {
      peer = w.peer;
      arms = x.arms;
      arm = x.arm;
      puts = x.puts;
      picks = x.picks;
      has_sort = x.has_sort;
      goes = get_or-set_same c.states p w.next 0 (omega arith) ∙ x.next;
      appends = rows_same c.queues p w.peer.0 (slice_index_or (slice_index_or c.queues p []) w.peer.0 [] ++ (record { label = w.label; value = v } ∷ [])) hr hy
          ∙ ap (λ (l : Label). slice_index_or (slice_index_or c.queues p []) w.peer.0 [] ++ (record { label = l; value = v } ∷ [])) x.label;
      other_states = λ r ne. get_or-set_other c.states p r w.next 0 ne;
      other_queues = rows_other c.queues p w.peer.0 (slice_index_or (slice_index_or c.queues p []) w.peer.0 [] ++ (record { label = w.label; value = v } ∷ [])) hr;
    }

pub sent_session : (c : Core_data) (p place : ℕ) (v : Value) (w : Way) → IsReachedSession c → p < length c.machines → way_of (state_at c.machines (configuration_of c) p) place v ≡ Ok w
    → IsReachedSession (with_sent c p w.peer.0 w.next record { label = w.label; value = v })
sent_session c p place v w s hp e = record {
  safe = s.safe;
  well_formed = s.well_formed;
  places = places_set c p w.next p w.peer.0 (slice_index_or (slice_index_or c.queues p []) w.peer.0 [] ++ (record { label = w.label; value = v } ∷ [])) s.places;
  reachable = reach_snoc c.machines (configuration_of c) (Send (numbered p) place v) (configuration_of (with_sent c p w.peer.0 w.next record { label = w.label; value = v })) s.reachable
      (sent_step c p place v w s hp e);
}

-- what a front says
record FrontWay (machines : List Machine_data) (c : Configuration) (p : ℕ) (w : Way) : Type 0 where
  arms : List Arm
  arm : Arm
  message : Message
  later : List Message
  takes : state_at machines c p ≡ Some (Takes w.peer arms)
  oldest : c.queue w.peer.0 p ≡ message ∷ later
  with : arm_with arms message.label ≡ Some arm
  next : w.next ≡ arm.next

arm_with_shown : (arms : List Arm) (l : Label) (arm : Arm) → arm_with arms l ≡ Some arm → (place : ℕ) × (slice_get arms place ≡ Some arm) × (arm.label ≡ l)
arm_with_shown [] l arm e = absurd (cc (e))
arm_with_shown (a ∷ arms) l arm e = elim (eqb_tells a.label.0 l.0) [
  | inl t ↦ (let e' : Some a ≡ Some arm = sym (rw t.0 refl) ∙ e in
      let label : ℕ → Label = λ n. record { 0 = n } in
      let same : a ≡ arm = cc (e') in
      (0, ap (λ (z : Arm). Some z) same, ap (λ (z : Arm). z.label) (sym same) ∙ ap label t.1))
  | inr t ↦ (let r = arm_with_shown arms l arm (sym (rw t.0 refl) ∙ e) in (suc r.0, r.1, r.2))
]

-- where some arm has the label, one is found
arm_found : (arms : List Arm) (l : Label) (place : ℕ) (arm : Arm) → slice_get arms place ≡ Some arm → arm.label ≡ l → arm_with arms l ≡ None → ⊥
arm_found [] l place arm is same e = cc (is)
arm_found (a ∷ arms) l place arm is same e = elim (eqb_tells a.label.0 l.0) [
  | inl t ↦ (let e' : Some a ≡ None = sym (rw t.0 refl) ∙ e in cc (e'))
  | inr t ↦ by place is (sym (rw t.0 refl) ∙ e) t.1 (λ n i none. arm_found arms l n arm i same none)
]
  where
    by : (place : ℕ) → slice_get (a ∷ arms) place ≡ Some arm → arm_with arms l ≡ None → a.label.0 ≢ l.0 → ((n : ℕ) → slice_get arms n ≡ Some arm → arm_with arms l ≡ None → ⊥) → ⊥
    by zero i none other on = (let is' : a ≡ arm = cc (i) in other (ap (λ (z : Arm). z.label.0) is' ∙ ap (λ (z : Label). z.0) same))
    by (suc n) i none other on = on n i none

next_way : (peer : Role) (o : Option Arm) (w : Way) → next_by peer o ≡ Some w → (arm : Arm) × (o ≡ Some arm) × (w ≡ record { peer = peer; label = arm.label; next = arm.next })
next_way peer None w e = absurd (cc (e))
next_way peer (Some arm) w e = (let way : Way = record { peer = peer; label = arm.label; next = arm.next } in let e' : Some way ≡ Some w = e in (arm, refl, sym (cc (e'))))

front_way : (machines : List Machine_data) (c : Configuration) (p : ℕ) (w : Way) (o : Option State) → state_at machines c p ≡ o → way_in_front o (λ q. c.queue q p) ≡ Ok (Some w)
    → FrontWay machines c p w
front_way machines c p w None is e = absurd (cc (e))
front_way machines c p w (Some Done) is e = absurd (cc (e))
front_way machines c p w (Some (Puts peer arms)) is e = absurd (cc (e))
front_way machines c p w (Some (Takes peer arms)) is e = by (c.queue peer.0 p) refl e
  where
    by : (queue : List Message) → c.queue peer.0 p ≡ queue → front_by peer arms queue ≡ Ok (Some w) → FrontWay machines c p w
    by [] q e = absurd (cc (e))
    by (message ∷ later) q e =
        let a = next_way peer (arm_with arms message.label) w (cc (e)) in
        let same : w.peer ≡ peer = ap (λ (z : Way). z.peer) a.2 in
        let P : Role → Type 0 = λ z. state_at machines c p ≡ Some (Takes z arms) in
        let Q : Role → Type 0 = λ z. c.queue z.0 p ≡ message ∷ later in
        record { arms = arms; arm = a.0; message = message; later = later; takes = subst P (sym same) is; oldest = subst Q (sym same) q; with = a.1; next = ap (λ (z : Way). z.next) a.2 }

pub front_peer : (machines : List Machine_data) (c : Configuration) (p : ℕ) (w : Way) → AreWellFormed machines → way_in_front (state_at machines c p) (λ q. c.queue q p) ≡ Ok (Some w)
    → w.peer.0 < length machines
front_peer machines c p w wf e =
    let s = front_way machines c p w (state_at machines c p) refl e in
    let at = here_is (slice_get machines p) (c.at p) (Takes w.peer s.arms) s.takes in
    ((wf.fits p at.0 at.1).takes (c.at p) w.peer s.arms at.2).known

pub peers : (machines : List Machine_data) (c : Configuration) (p : ℕ) → AreWellFormed machines → (peer : Role) (arms : List Arm) → state_at machines c p ≡ Some (Takes peer arms)
    → peer.0 < length machines
peers machines c p wf peer arms takes =
    let at = here_is (slice_get machines p) (c.at p) (Takes peer arms) takes in
    ((wf.fits p at.0 at.1).takes (c.at p) peer arms at.2).known

-- in a session the oldest message has an arm that takes it
taken : (c : Core_data) (p : ℕ) (peer : Role) (arms : List Arm) (message : Message) (later : List Message) → IsReachedSession c → state_at c.machines (configuration_of c) p ≡ Some (Takes peer arms)
    → (configuration_of c).queue peer.0 p ≡ message ∷ later → Taken arms message
taken c p peer arms message later s takes oldest = elim (find arms message) [
  | inl t ↦ t
  | inr none ↦ absurd (s.safe.fits (configuration_of c) s.reachable record { role = p; peer = peer; arms = arms; message = message; later = later; takes = takes; oldest = oldest; no_arm = none })
]

pub got_step : (c : Core_data) (p : ℕ) (w : Way) (m : Message) (later : List Message) → IsReachedSession c → p < length c.machines
    → way_in_front (state_at c.machines (configuration_of c) p) (λ q. (configuration_of c).queue q p) ≡ Ok (Some w)
    → (configuration_of c).queue w.peer.0 p ≡ m ∷ later → HasReceived c.machines (configuration_of c) p (configuration_of (with_got c p w.peer.0 w.next later)) m
got_step c p w m later s hp e q =
    let x = front_way c.machines (configuration_of c) p w (state_at c.machines (configuration_of c) p) refl e in
    let hq = front_peer c.machines (configuration_of c) p w s.well_formed e in
    let rows = s.places.rows in
    let states = s.places.states in
    let row = s.places.queues w.peer.0 hq in
    let hr : w.peer.0 < length c.queues = omega arith in
    let hy : p < length (slice_index_or c.queues w.peer.0 []) = omega arith in
    let both : x.message ∷ x.later ≡ m ∷ later = sym x.oldest ∙ q in
    let rest : x.later ≡ later = cc (both) in
    let same : x.message ≡ m = cc (both) in
    let a = arm_with_shown x.arms x.message.label x.arm x.with in
    let t = taken c p w.peer x.arms x.message x.later s x.takes x.oldest in
    let at = here_is (slice_get c.machines p) (slice_index_or c.states p 0) (Takes w.peer x.arms) x.takes in
    let place : t.0 ≡ a.0 = ((s.well_formed.fits p at.0 at.1).takes (slice_index_or c.states p 0) w.peer x.arms at.2).once t.0 a.0 t.1 x.arm t.2 a.1 (t.3.0 ∙ sym a.2) in
    let arm : t.1 ≡ x.arm = cc (t.2, a.1, place) in
    let P : Arm → Type 0 = λ z. HasSort x.message.value z.sort in (
      record {
        peer = w.peer;
        arms = x.arms;
        place = a.0;
        arm = x.arm;
        message = x.message;
        takes = x.takes;
        removes = x.oldest ∙ ap (λ (z : List Message). x.message ∷ z) (rest ∙ sym (rows_same c.queues w.peer.0 p later hr hy));
        follows = a.1;
        same_label = a.2;
        has_sort = subst P arm t.3.1;
        goes = get_or-set_same c.states p w.next 0 (omega arith) ∙ x.next;
        other_states = λ r ne. get_or-set_other c.states p r w.next 0 ne;
        other_queues = rows_other c.queues w.peer.0 p later hr;
      },
      same,
    )

pub got_session : (c : Core_data) (p : ℕ) (w : Way) (m : Message) (later : List Message) → IsReachedSession c → p < length c.machines
    → way_in_front (state_at c.machines (configuration_of c) p) (λ q. (configuration_of c).queue q p) ≡ Ok (Some w)
    → (configuration_of c).queue w.peer.0 p ≡ m ∷ later → IsReachedSession (with_got c p w.peer.0 w.next later)
got_session c p w m later s hp e q = record {
  safe = s.safe;
  well_formed = s.well_formed;
  places = places_set c p w.next w.peer.0 p later s.places;
  reachable = reach_snoc c.machines (configuration_of c) (Receive (numbered p)) (configuration_of (with_got c p w.peer.0 w.next later)) s.reachable (got_step c p w m later s hp e q).0;
}

pub front_some : (c : Core_data) (p : ℕ) (f : StepFault) → IsReachedSession c → way_in_front (state_at c.machines (configuration_of c) p) (λ q. (configuration_of c).queue q p) ≡ Err f
    → receive_fault (state_at c.machines (configuration_of c) p) (λ q. (configuration_of c).queue q p) ≡ Some f
front_some c p f s e = by (state_at c.machines (configuration_of c) p) refl e
  where
    queued : (peer : Role) (arms : List Arm) (queue : List Message) → state_at c.machines (configuration_of c) p ≡ Some (Takes peer arms) → (configuration_of c).queue peer.0 p ≡ queue
        → front_by peer arms queue ≡ Err f
        → receive_fault (Some (Takes peer arms)) (λ q. queue) ≡ Some f
    queued peer arms [] is q e = (let s : QueueEmpty ≡ f = cc (e) in ap (λ (z : StepFault). Some z) s)
    queued peer arms (message ∷ later) is q e = absurd (cc (e))

    by : (o : Option State) → state_at c.machines (configuration_of c) p ≡ o → way_in_front o (λ q. (configuration_of c).queue q p) ≡ Err f
        → receive_fault o (λ q. (configuration_of c).queue q p) ≡ Some f
    by None is e = (let s : NotReceiving ≡ f = cc (e) in ap (λ (z : StepFault). Some z) s)
    by (Some Done) is e = (let s : NotReceiving ≡ f = cc (e) in ap (λ (z : StepFault). Some z) s)
    by (Some (Puts peer arms)) is e = (let s : NotReceiving ≡ f = cc (e) in ap (λ (z : StepFault). Some z) s)
    by (Some (Takes peer arms)) is e = queued peer arms ((configuration_of c).queue peer.0 p) is refl e

-- in a session a front goes somewhere
pub front_goes : (c : Core_data) (p : ℕ) → IsReachedSession c → way_in_front (state_at c.machines (configuration_of c) p) (λ q. (configuration_of c).queue q p) ≡ Ok None → ⊥
front_goes c p s e = by (state_at c.machines (configuration_of c) p) refl e
  where
    found : (peer : Role) (arms : List Arm) (message : Message) (o : Option Arm) → arm_with arms message.label ≡ o → next_by peer o ≡ None → Taken arms message → ⊥
    found peer arms message None n e t = arm_found arms message.label t.0 t.1 t.2 t.3.0 n
    found peer arms message (Some arm) n e t = cc (e)

    queued : (peer : Role) (arms : List Arm) (queue : List Message) → state_at c.machines (configuration_of c) p ≡ Some (Takes peer arms) → (configuration_of c).queue peer.0 p ≡ queue
        → front_by peer arms queue ≡ Ok None → ⊥
    queued peer arms [] is q e = cc (e)
    queued peer arms (message ∷ later) is q e = found peer arms message (arm_with arms message.label) refl (cc (e)) (taken c p peer arms message later s is q)

    by : (o : Option State) → state_at c.machines (configuration_of c) p ≡ o → way_in_front o (λ q. (configuration_of c).queue q p) ≡ Ok None → ⊥
    by None is e = cc (e)
    by (Some Done) is e = cc (e)
    by (Some (Puts peer arms)) is e = cc (e)
    by (Some (Takes peer arms)) is e = queued peer arms ((configuration_of c).queue peer.0 p) is refl e

-- the start
start_at : (machines : List Machine_data) (p : ℕ) (m : Machine_data) → slice_get machines p ≡ Some m → slice_index_or (map (λ (z : Machine_data). z.start) machines) p 0 ≡ m.start
start_at [] p m h = absurd (cc (h))
start_at (x ∷ xs) zero m h = let e : x ≡ m = cc (h) in ap (λ (z : Machine_data). z.start) e
start_at (x ∷ xs) (suc p) m h = start_at xs p m h

past : {X : Type 0} (xs : List X) (i : ℕ) (d : X) → length xs ≤ i → slice_index_or xs i d ≡ d
past [] i d h = refl
past (x ∷ xs) zero d h = absurd (omega arith)
past (x ∷ xs) (suc i) d h = past xs i d (omega arith)

empty_queue : (n q : ℕ) → slice_index_or (replicate n (let none : List Message = [] in none)) q [] ≡ []
empty_queue n q = elim (cases_lt q n) [
  | inl low ↦ get_or-replicate n q [] [] low
  | inr high ↦ past (replicate n []) q [] (let none : List Message = [] in omega (arith, length-replicate n none))
]

empty_row : (n p q : ℕ) → slice_index_or (slice_index_or (replicate n (replicate n (let none : List Message = [] in none))) p []) q [] ≡ []
empty_row n p q = elim (cases_lt p n) [
  | inl low ↦ ap (λ (z : List (List Message)). slice_index_or z q []) (get_or-replicate n p (replicate n []) [] low) ∙ empty_queue n q
  | inr high ↦ ap (λ (z : List (List Message)). slice_index_or z q []) (past (replicate n (replicate n [])) p [] (let none : List Message = [] in omega (arith, length-replicate n (replicate n none))))
]

pub starts : (machines : List Machine_data)
    → StartsAt machines (configuration_of record { machines = machines; states = map (λ (m : Machine_data). m.start) machines; queues = replicate (length machines) (replicate (length machines) []) })
starts machines = record { states = λ p m is. start_at machines p m is; queues = λ p q. empty_row (length machines) p q }

pub start_session : (machines : List Machine_data) → IsSafe machines → AreWellFormed machines
    → IsReachedSession record { machines = machines; states = map (λ (m : Machine_data). m.start) machines; queues = replicate (length machines) (replicate (length machines) []) }
start_session machines safe wf = record {
  safe = safe;
  well_formed = wf;
  places = record {
    states = length-map machines (λ (m : Machine_data). m.start);
    rows = let none : List Message = [] in length-replicate (length machines) (replicate (length machines) none);
    queues = λ p hp. let none : List Message = [] in ap length (get_or-replicate (length machines) p (replicate (length machines) none) [] hp) ∙ length-replicate (length machines) none;
  };
  reachable = record {
    first = configuration_of record { machines = machines; states = map (λ (m : Machine_data). m.start) machines; queues = replicate (length machines) (replicate (length machines) []) };
    events = [];
    starts = starts machines;
    steps = refl;
  };
}

-- a machine that is well formed stays among its states
inside_step : (machines : List Machine_data) (c : Configuration) (e : Event) (d : Configuration) (p : ℕ) (m : Machine_data) → AreWellFormed machines → slice_get machines p ≡ Some m
    → Step machines c e d → c.at p < length m.states → d.at p < length m.states
inside_step machines c (Send r place v) d p m wf is s low = elim (eqb_tells p r.0) [
  | inr t ↦ (let e = s.other_states p t.1 in omega arith)
  | inl t ↦ (let is' : slice_get machines r.0 ≡ Some m = ap (λ (z : ℕ). slice_get machines z) (sym t.1) ∙ is in
      let st = machine_at machines c r.0 (Puts s.peer s.arms) m s.puts is' in
      let n = ((wf.fits p m is).puts (c.at r.0) s.peer s.arms st).nexts place s.arm s.picks in
      let e : d.at p ≡ s.arm.next = ap (λ (z : ℕ). d.at z) t.1 ∙ s.goes in
      omega arith)
]
inside_step machines c (Receive r) d p m wf is s low = elim (eqb_tells p r.0) [
  | inr t ↦ (let e = s.other_states p t.1 in omega arith)
  | inl t ↦ (let is' : slice_get machines r.0 ≡ Some m = ap (λ (z : ℕ). slice_get machines z) (sym t.1) ∙ is in
      let st = machine_at machines c r.0 (Takes s.peer s.arms) m s.takes is' in
      let n = ((wf.fits p m is).takes (c.at r.0) s.peer s.arms st).nexts s.place s.arm s.follows in
      let e : d.at p ≡ s.arm.next = ap (λ (z : ℕ). d.at z) t.1 ∙ s.goes in
      omega arith)
]

inside_steps : (machines : List Machine_data) (c : Configuration) (es : List Event) (d : Configuration) (p : ℕ) (m : Machine_data) → AreWellFormed machines → slice_get machines p ≡ Some m
    → Steps machines c es d → c.at p < length m.states → d.at p < length m.states
inside_steps machines c [] d p m wf is s low = let e = ap (λ (z : Configuration). z.at p) s in omega arith
inside_steps machines c (x ∷ es) d p m wf is s low = inside_steps machines s.0 es d p m wf is s.2 (inside_step machines c x s.0 p m wf is s.1 low)

-- a role of a session has a state
pub has_state : (c : Core_data) (p : ℕ) → IsReachedSession c → p < length c.machines → state_at c.machines (configuration_of c) p ≡ None → ⊥
has_state c p s hp none =
    let m = item_at c.machines p hp in
    let r = s.reachable in
    let start = r.starts.states p m.0 m.1 in
    let wf = s.well_formed.fits p m.0 m.1 in
    let low = inside_steps c.machines r.first r.events (configuration_of c) p m.0 s.well_formed m.1 r.steps (let w = wf.start in omega arith) in
    let st = item_at m.0.states (slice_index_or c.states p 0) low in
    let here : state_at c.machines (configuration_of c) p ≡ Some st.0 = rw m.1 st.1 in
    cc (here, none)

-- the machines of a session that was reached are well formed and stand at their states
pub standing : (c : Core_data) → IsReachedSession c → IsStanding c
standing c s = record {
  well_formed = s.well_formed;
  somewhere = λ r low. some (state_at c.machines (configuration_of c) r) (has_state c r s low);
}
  where
    some : {X : Type 0} (o : Option X) → (o ≡ None → ⊥) → IsSome o
    some None there = absurd (there refl)
    some (Some x) there = search rules

pub at_ok : {X E : Type 0} (r : Result X E) (x y : X) → r ≡ Ok x → x ≡ y → r ≡ Ok y
at_ok {X} r x y e same = let P : X → Type 0 = λ z. r ≡ Ok z in subst P same e
