-- What a step over rings keeps, and what it counts.
use Rattle.std.proofs.Common.{◌≡◌, ◌≢◌, ◌⊎◌, inl, inr, ℕ, ◌+◌, ◌<◌, ◌≤◌, ◌^◌, true, List, [], ◌∷◌, ◌++◌, Option, Some, None, slice_get, slice_index_or, slice_set, length, refl, sym, ap, ◌∙◌, subst}
use Rattle.std.proofs.Common.{subst₂, arith, length-append}
use Rattle.std.proofs.lemmas.Bool.Decides.{eqb_tells, leb_tells}
use Rattle.std.proofs.lemmas.List.{get_or-set_same, get_or-set_other, length-set}
use Rattle.rs_model.specs.Data.{Machine_data}
use Rattle.rs_model.specs.declared.graph.Arm.{Arm}
use Rattle.rs_model.specs.declared.graph.Role.{Role}
use Rattle.rs_model.specs.declared.machines.State.{State}
use Rattle.rs_model.specs.declared.machines.State.TheVariants.{Done, Puts, Takes}
use Rattle.rs_model.specs.declared.values.Value.{Value}
use Rattle.rs_core.specs.declared.messages.Event.{Event}
use Rattle.rs_core.specs.declared.messages.Event.TheVariants.{Send, Receive}
use Rattle.rs_core.specs.declared.messages.Message.{Message}
use Rattle.rs_core.specs.declared.messages.Stepped.{Stepped}
use Rattle.rs_core.specs.declared.messages.Stepped.TheVariants.{Sent, Got}
use Rattle.rs_core.specs.Configurations.{Configuration, Receives, Sends, role_of, state_at}
use Rattle.rs_core.specs.Core.{Core_data, HasStepped, configuration_of}
use Rattle.rs_core.proofs.Stands.{here_is}
use Rattle.rs_room.specs.Bounded.{BoundedStep, BoundedSteps, IsReachableWithin}
use Rattle.rs_room.specs.Counts.{CanCount, counts_behind, count_for_pair, with_one_more}
use Rattle.rs_room.specs.Looks.{full_by, full_ring, is_right, pair_of_receive, taking_by}
use Rattle.rs_room.specs.Rings.{Bounded_data, CountsReceive, CountsSend, CountsStep, HasSteppedWithin, IsRingSession, Rises}

-- a table in which the number of one pair rises

number_same : (rows : List (List ℕ)) (x y : ℕ) → x < length rows → y < length (slice_index_or rows x [])
    → count_for_pair (with_one_more rows x y) x y ≡ count_for_pair rows x y + 1
number_same rows x y hx hy =
    ap (λ (z : List ℕ). slice_index_or z y 0) (get_or-set_same rows x (slice_set (slice_index_or rows x []) y (count_for_pair rows x y + 1)) [] hx)
    ∙ get_or-set_same (slice_index_or rows x []) y (count_for_pair rows x y + 1) 0 hy

number_elsewhere : (rows : List (List ℕ)) (x y u v : ℕ) → u ≢ x → count_for_pair (with_one_more rows x y) u v ≡ count_for_pair rows u v
number_elsewhere rows x y u v n =
    ap (λ (z : List ℕ). slice_index_or z v 0) (get_or-set_other rows x u (slice_set (slice_index_or rows x []) y (count_for_pair rows x y + 1)) [] n)

number_other : (rows : List (List ℕ)) (x y : ℕ) → x < length rows → (u v : ℕ) → (u ≢ x) ⊎ (v ≢ y)
    → count_for_pair (with_one_more rows x y) u v ≡ count_for_pair rows u v
number_other rows x y hx u v (inl n) = number_elsewhere rows x y u v n
number_other rows x y hx u v (inr n) = elim (eqb_tells u x) [
  | inr t ↦ number_elsewhere rows x y u v t.1
  | inl t ↦ (let P : ℕ → Type 0 = λ z. count_for_pair (with_one_more rows x y) z v ≡ count_for_pair rows z v in
      subst P (sym t.1) (ap (λ (z : List ℕ). slice_index_or z v 0) (get_or-set_same rows x (slice_set (slice_index_or rows x []) y (count_for_pair rows x y + 1)) [] hx)
      ∙ get_or-set_other (slice_index_or rows x []) y v (count_for_pair rows x y + 1) 0 n))
]

row_length : (rows : List (List ℕ)) (x y : ℕ) → x < length rows → (u : ℕ) → length (slice_index_or (with_one_more rows x y) u []) ≡ length (slice_index_or rows u [])
row_length rows x y hx u = elim (eqb_tells u x) [
  | inr t ↦ ap length (get_or-set_other rows x u (slice_set (slice_index_or rows x []) y (count_for_pair rows x y + 1)) [] t.1)
  | inl t ↦ (let P : ℕ → Type 0 = λ z. length (slice_index_or (with_one_more rows x y) z []) ≡ length (slice_index_or rows z []) in
      subst P (sym t.1) (ap length (get_or-set_same rows x (slice_set (slice_index_or rows x []) y (count_for_pair rows x y + 1)) [] hx)
      ∙ length-set (slice_index_or rows x []) y (count_for_pair rows x y + 1)))
]

-- the session after the step, in which the machines stand as told
abbrev pub after : Bounded_data → Event → Core_data → Bounded_data
after b e core = record { core = core; capacity = b.capacity; room = b.room; steps = b.steps + 1; taken = counts_behind b.taken (pair_of_receive b e) }

-- the table after a receive
taken_by : (b : Bounded_data) (role : Role) (peer : Role) (arms : List Arm) → state_at b.core.machines (configuration_of b.core) role.0 ≡ Some (Takes peer arms)
    → pair_of_receive b (Receive role) ≡ Some (peer, role)
taken_by b role peer arms h = rw h refl

-- the peer of a receive is one of the roles
takes_peer : (b : Bounded_data) → IsRingSession b → (p : ℕ) (peer : Role) (arms : List Arm) → state_at b.core.machines (configuration_of b.core) p ≡ Some (Takes peer arms)
    → peer.0 < length b.core.machines
takes_peer b s p peer arms h =
    let P : List Machine_data → Type 0 = λ z. state_at z (configuration_of b.core) p ≡ Some (Takes peer arms) in
    let at = here_is (slice_get s.session.machines p) ((configuration_of b.core).at p) (Takes peer arms) (subst P s.machines h) in
    let known = ((s.accepted.is_session.machines_fit.fits p at.0 at.1).takes ((configuration_of b.core).at p) peer arms at.2).known in
    omega (arith, ap (λ (z : List Machine_data). length z) s.machines)

-- what a receive takes can be counted
can_count_by : (b : Bounded_data) → IsRingSession b → b.steps < 2 ^ 63 → (role : Role) → role.0 < length b.core.machines
    → (o : Option State) → state_at b.core.machines (configuration_of b.core) role.0 ≡ o → CanCount b.taken (taking_by o role)
can_count_by b s few role hr None h = tt
can_count_by b s few role hr (Some Done) h = tt
can_count_by b s few role hr (Some (Puts peer arms)) h = tt
can_count_by b s few role hr (Some (Takes peer arms)) h =
    let hp = takes_peer b s role.0 peer arms h in
    (omega (arith, s.rows), omega (arith, s.places peer.0 hp), (let k = s.bounded peer.0 role.0 in omega arith))

pub can_count : (b : Bounded_data) → IsRingSession b → b.steps < 2 ^ 63 → (e : Event) → role_of e < length b.core.machines → CanCount b.taken (pair_of_receive b e)
can_count b s few (Send role arm value) hr = tt
can_count b s few (Receive role) hr = can_count_by b s few role hr (state_at b.core.machines (configuration_of b.core) role.0) refl

-- what isn't a send into a full ring is a bounded step
has_room : (capacity : ℕ) (o : Option State) (peer : Role) (arms : List Arm) (arm : ℕ) (value : Value) (out : ℕ → List Message) → o ≡ Some (Puts peer arms)
    → is_right (slice_get arms arm) value ≡ true → full_by capacity o arm value out ≡ None → length (out peer.0) < capacity
has_room capacity o peer arms arm value out h right none = elim (leb_tells capacity (length (out peer.0))) [
  | inr t ↦ t.1
  | inl t ↦ (let e : full_by capacity o arm value out ≡ Some peer = rw (h, right, t.0) refl in absurd (cc (e, none)))
]

pub is_bounded : (b : Bounded_data) (e : Event) (d : Configuration) (told : Stepped) → full_ring b e ≡ None → HasStepped b.core.machines (configuration_of b.core) e d told
    → HasSteppedWithin b.core.machines b.capacity (configuration_of b.core) e d told
is_bounded b (Send role arm value) d Sent none st =
    let right : is_right (slice_get st.arms arm) value ≡ true = rw st.picks st.has_sort in
    record {
      step = (st, has_room b.capacity (state_at b.core.machines (configuration_of b.core) role.0) st.peer st.arms arm value (λ q. (configuration_of b.core).queue role.0 q) st.puts right none);
      tells = st;
    }
is_bounded b (Send role arm value) d (Got label v) none st = absurd st
is_bounded b (Receive role) d Sent none st = absurd st
is_bounded b (Receive role) d (Got label v) none st = record { step = st.0; tells = st }

-- no ring grows above its capacity

within_sends : (ms : List Machine_data) (capacity : ℕ) (c d : Configuration) (p place : ℕ) (v : Value) (st : Sends ms c p place v d) → length (c.queue p st.peer.0) < capacity
    → ((x y : ℕ) → length (c.queue x y) ≤ capacity) → (x y : ℕ) → length (d.queue x y) ≤ capacity
within_sends ms capacity c d p place v st room all x y = elim (eqb_tells x p) [
  | inr t ↦ rw (st.other_queues x y (inl t.1)) (all x y)
  | inl t ↦ elim (eqb_tells y st.peer.0) [
    | inr w ↦ rw (st.other_queues x y (inr w.1)) (all x y)
    | inl w ↦ (let P : ℕ → ℕ → Type 0 = λ u w. length (d.queue u w) ≤ capacity in
        let e = ap length st.appends ∙ length-append (c.queue p st.peer.0) _ in
        let here : length (d.queue p st.peer.0) ≤ capacity = omega (arith, e) in
        subst₂ P (sym t.1) (sym w.1) here)
  ]
]

within_receives : (ms : List Machine_data) (capacity : ℕ) (c d : Configuration) (p : ℕ) (st : Receives ms c p d)
    → ((x y : ℕ) → length (c.queue x y) ≤ capacity) → (x y : ℕ) → length (d.queue x y) ≤ capacity
within_receives ms capacity c d p st all x y = elim (eqb_tells x st.peer.0) [
  | inr t ↦ rw (st.other_queues x y (inl t.1)) (all x y)
  | inl t ↦ elim (eqb_tells y p) [
    | inr w ↦ rw (st.other_queues x y (inr w.1)) (all x y)
    | inl w ↦ (let P : ℕ → ℕ → Type 0 = λ u w. length (d.queue u w) ≤ capacity in
        let e = ap length st.removes in
        let old = all st.peer.0 p in
        let here : length (d.queue st.peer.0 p) ≤ capacity = omega (arith, e) in
        subst₂ P (sym t.1) (sym w.1) here)
  ]
]

pub stays_within : (ms : List Machine_data) (capacity : ℕ) (c d : Configuration) (e : Event) → BoundedStep ms capacity c e d
    → ((x y : ℕ) → length (c.queue x y) ≤ capacity) → (x y : ℕ) → length (d.queue x y) ≤ capacity
stays_within ms capacity c d (Send role arm value) st all = within_sends ms capacity c d role.0 arm value st.0 st.1 all
stays_within ms capacity c d (Receive role) st all = within_receives ms capacity c d role.0 st all

-- what the table keeps

few_more : (rows : List (List ℕ)) (steps : ℕ) (pair : Option (Role × Role)) → CanCount rows pair → ((p q : ℕ) → count_for_pair rows p q ≤ steps)
    → (p q : ℕ) → count_for_pair (counts_behind rows pair) p q ≤ steps + 1
few_more rows steps None can all p q = let k = all p q in omega arith
few_more rows steps (Some pair) can all p q = elim (eqb_tells p pair.0.0) [
  | inr t ↦ (let k = all p q in omega (arith, number_other rows pair.0.0 pair.1.0 can.0 p q (inl t.1)))
  | inl t ↦ elim (eqb_tells q pair.1.0) [
    | inr w ↦ (let k = all p q in omega (arith, number_other rows pair.0.0 pair.1.0 can.0 p q (inr w.1)))
    | inl w ↦ (let P : ℕ → ℕ → Type 0 = λ u v. count_for_pair (with_one_more rows pair.0.0 pair.1.0) u v ≤ steps + 1 in
        let k = all pair.0.0 pair.1.0 in
        let here : count_for_pair (with_one_more rows pair.0.0 pair.1.0) pair.0.0 pair.1.0 ≤ steps + 1 = omega (arith, number_same rows pair.0.0 pair.1.0 can.0 can.1) in
        subst₂ P (sym t.1) (sym w.1) here)
  ]
]

rows_stay : (rows : List (List ℕ)) (pair : Option (Role × Role)) → length (counts_behind rows pair) ≡ length rows
rows_stay rows None = refl
rows_stay rows (Some pair) = length-set rows pair.0.0 (slice_set (slice_index_or rows pair.0.0 []) pair.1.0 (count_for_pair rows pair.0.0 pair.1.0 + 1))

places_stay : (rows : List (List ℕ)) (pair : Option (Role × Role)) → CanCount rows pair → (p : ℕ) → length (slice_index_or (counts_behind rows pair) p []) ≡ length (slice_index_or rows p [])
places_stay rows None can p = refl
places_stay rows (Some pair) can p = row_length rows pair.0.0 pair.1.0 can.0 p

-- one bounded step more
steps_snoc : (ms : List Machine_data) (capacity : ℕ) (c : Configuration) (es : List Event) (d : Configuration) (e : Event) (x : Configuration)
    → BoundedSteps ms capacity c es d → BoundedStep ms capacity d e x → BoundedSteps ms capacity c (es ++ (e ∷ [])) x
steps_snoc ms capacity c [] d e x s t = let P : Configuration → Type 0 = λ z. BoundedStep ms capacity z e x in (x, subst P (sym s) t, refl)
steps_snoc ms capacity c (y ∷ es) d e x s t = (s.0, s.1, steps_snoc ms capacity s.0 es d e x s.2 t)

reach_snoc : (ms : List Machine_data) (capacity : ℕ) (c d : Configuration) (e : Event) → IsReachableWithin ms capacity c → BoundedStep ms capacity c e d → IsReachableWithin ms capacity d
reach_snoc ms capacity c d e r st = record { first = r.first; events = r.events ++ (e ∷ []); starts = r.starts; steps = steps_snoc ms capacity r.first r.events c e d r.steps st }

-- the session over rings after a step is one
pub stays_session : (b : Bounded_data) (e : Event) (core : Core_data) → IsRingSession b → b.steps < 2 ^ 63 → role_of e < length b.core.machines → core.machines ≡ b.core.machines
    → BoundedStep b.core.machines b.capacity (configuration_of b.core) e (configuration_of core) → IsRingSession (after b e core)
stays_session b e core s few hr same st =
    let can = can_count b s few e hr in
    record {
      session = s.session;
      accepted = s.accepted;
      machines = same ∙ s.machines;
      room = s.room;
      capacity = s.capacity;
      reachable = (let P : List Machine_data → Type 0 = λ z. IsReachableWithin z b.capacity (configuration_of core) in
          subst P (sym same) (reach_snoc b.core.machines b.capacity (configuration_of b.core) (configuration_of core) e s.reachable st));
      within = stays_within b.core.machines b.capacity (configuration_of b.core) (configuration_of core) e st s.within;
      rows = rows_stay b.taken (pair_of_receive b e) ∙ s.rows ∙ sym (ap (λ (z : List Machine_data). length z) same);
      places = λ p hp. places_stay b.taken (pair_of_receive b e) can p ∙ s.places p (omega (arith, ap (λ (z : List Machine_data). length z) same))
          ∙ sym (ap (λ (z : List Machine_data). length z) same);
      bounded = few_more b.taken b.steps (pair_of_receive b e) can s.bounded;
    }

-- what a step counts

counts_send : (b : Bounded_data) (role : Role) (arm : ℕ) (value : Value) (core : Core_data) → Sends b.core.machines (configuration_of b.core) role.0 arm value (configuration_of core)
    → CountsSend b (after b (Send role arm value) core) role.0
counts_send b role arm value core st = record {
  peer = st.peer;
  arms = st.arms;
  puts = st.puts;
  sent = record {
    rises = (let e = ap length st.appends ∙ length-append ((configuration_of b.core).queue role.0 st.peer.0) _ in omega (arith, e));
    others = λ p q ne. ap (λ (z : List Message). count_for_pair b.taken p q + length z) (st.other_queues p q ne);
  };
  taken = λ p q. refl;
}

counts_receive : (b : Bounded_data) → IsRingSession b → b.steps < 2 ^ 63 → (role : Role) (core : Core_data) → role.0 < length b.core.machines
    → Receives b.core.machines (configuration_of b.core) role.0 (configuration_of core) → CountsReceive b (after b (Receive role) core) role.0
counts_receive b s few role core hr st =
    let e : pair_of_receive b (Receive role) ≡ Some (st.peer, role) = taken_by b role st.peer st.arms st.takes in
    let table : counts_behind b.taken (pair_of_receive b (Receive role)) ≡ with_one_more b.taken st.peer.0 role.0 = ap (counts_behind b.taken) e in
    let can : CanCount b.taken (Some (st.peer, role)) = subst (CanCount b.taken) e (can_count b s few (Receive role) hr) in
    let same : count_for_pair (with_one_more b.taken st.peer.0 role.0) st.peer.0 role.0 ≡ count_for_pair b.taken st.peer.0 role.0 + 1 = number_same b.taken st.peer.0 role.0 can.0 can.1 in
    let other : (p q : ℕ) → (p ≢ st.peer.0) ⊎ (q ≢ role.0) → count_for_pair (with_one_more b.taken st.peer.0 role.0) p q ≡ count_for_pair b.taken p q = number_other b.taken st.peer.0 role.0 can.0 in
    let N : List (List ℕ) → Type 0 = λ z. Rises (λ p q. count_for_pair b.taken p q) (λ p q. count_for_pair z p q) st.peer.0 role.0 in
    let S : List (List ℕ) → Type 0 = λ z. (p q : ℕ) → count_for_pair z p q + length ((configuration_of core).queue p q) ≡ count_for_pair b.taken p q + length ((configuration_of b.core).queue p q) in
    record {
      peer = st.peer;
      arms = st.arms;
      takes = st.takes;
      sent = subst S (sym table) (λ p q. sent p q other same (eqb_tells p st.peer.0) (eqb_tells q role.0));
      taken = subst N (sym table) record { rises = same ∙ omega arith; others = other };
    }
  where
    sent : (p q : ℕ) → ((x y : ℕ) → (x ≢ st.peer.0) ⊎ (y ≢ role.0) → count_for_pair (with_one_more b.taken st.peer.0 role.0) x y ≡ count_for_pair b.taken x y)
        → count_for_pair (with_one_more b.taken st.peer.0 role.0) st.peer.0 role.0 ≡ count_for_pair b.taken st.peer.0 role.0 + 1
        → {A B : Type 0} → (A × (p ≡ st.peer.0)) ⊎ (B × (p ≢ st.peer.0)) → {A' B' : Type 0} → (A' × (q ≡ role.0)) ⊎ (B' × (q ≢ role.0))
        → count_for_pair (with_one_more b.taken st.peer.0 role.0) p q + length ((configuration_of core).queue p q) ≡ count_for_pair b.taken p q + length ((configuration_of b.core).queue p q)
    sent p q other same (inr t) w = omega (arith, other p q (inl t.1), ap length (st.other_queues p q (inl t.1)))
    sent p q other same (inl t) (inr w) = omega (arith, other p q (inr w.1), ap length (st.other_queues p q (inr w.1)))
    sent p q other same (inl t) (inl w) =
        let P : ℕ → ℕ → Type 0
        = λ x y. count_for_pair (with_one_more b.taken st.peer.0 role.0) x y + length ((configuration_of core).queue x y) ≡ count_for_pair b.taken x y + length ((configuration_of b.core).queue x y) in
        let e = ap length st.removes in
        subst₂ P (sym t.1) (sym w.1) (omega (arith, same, e))

pub counts : (b : Bounded_data) → IsRingSession b → b.steps < 2 ^ 63 → (e : Event) (core : Core_data) (told : Stepped) → role_of e < length b.core.machines
    → HasStepped b.core.machines (configuration_of b.core) e (configuration_of core) told → CountsStep b e (after b e core)
counts b s few (Send role arm value) core Sent hr st = counts_send b role arm value core st
counts b s few (Send role arm value) core (Got label v) hr st = absurd st
counts b s few (Receive role) core Sent hr st = absurd st
counts b s few (Receive role) core (Got label v) hr st = counts_receive b s few role core hr st.0
