-- The rule says what a table shows, and how a step changes it.
use Rattle.std.proofs.Common.{if◌then◌else◌, ◌==◌, ◌≡◌, ℕ, ◌+◌, ◌<◌, List, [], ◌∷◌, ◌++◌, length, drop, map, slice_index, Option, Some, slice_get, refl, sym, ap, ◌∙◌, subst, ⊎_elim}
use mathlib.Core.Option.{some-injective}
use lib.ListN.{get_elem?}
use Rattle.atomic_table.specs.Table.{State}
use Rattle.rs_model.specs.Data.{Machine_data}
use Rattle.rs_core.specs.Configurations.{Configuration, state_of}
use Rattle.rs_core.specs.Histories.{IsLegal}
use Rattle.rs_slots.specs.Places.{IsPair}
use Rattle.rs_slots.specs.declared.parcels.Parcel.{Parcel}
use Rattle.rs_rings.specs.Acts.{message_of, sent_act, got_act, parcels_sent, parcels_got, SendsParcel, ReceivesParcel}
use Rattle.rs_rings.specs.Places.{head_word_of, tail_of}
use Rattle.rs_rings.specs.Rule.{RingsShow, RingRule, ring_facts, Spoken, AreLegal, configuration_by, histories_of, machines_in_key}
use Rattle.rs_rings.specs.Shown.{Shown, IsSameAmong, Moves, LoadsHeadOf, StoresTailOf, LoadsTailOf, StoresHeadOf, SplitsOff, JoinsIn}
use Rattle.rs_rings.specs.Views.{the_part, sending, getting, parcel_in_hand}
use Rattle.rs_rings.specs.declared.views.Key.{Key}
use Rattle.rs_rings.specs.declared.views.Part.{Part}
use Rattle.rs_rings.specs.declared.views.View.{View}
use Rattle.rs_rings.proofs.OneRing.{behind}
use Rattle.rs_rings.proofs.Parts.{at_put, put_case, the_role, spoken_step}
use Rattle.rs_rings.proofs.Legal.{reached, sends, receives, legal_sent, legal_got}
use Rattle.rs_rings.proofs.FourSteps.{taken_here}
use Rattle.rs_rings.proofs.Seats.{spoken_split, spoken_join}

abbrev St : Type 0
St = State (Option Parcel) View

-- a table shows a configuration that has the states and the queues of what is known of the roles
shown_by : (key : Key) (t : St) (sh : RingsShow key t) (known : ℕ → Part) (c : Configuration) → ((r : ℕ) → r < key.roles → sh.known r ≡ known r)
    → ((r : ℕ) → c.at r ≡ (known r).state)
    → ((p q : ℕ) → c.queue p q ≡ map message_of (drop (length (parcels_got p (known q).history)) (parcels_sent q (known p).history)))
    → IsLegal (machines_in_key key) (histories_of known) c → Shown key t c
shown_by key t sh known c same states queues legal = record {
  known = known;
  spoken = λ r l. let e = sh.spoken.each r l in (sh.owner r, e.0, e.1, e.2, e.3 ∙ same r l, λ i w at says. sym (sh.spoken.only i w r at says).0);
  states = states;
  queues = queues;
  rings = λ p q pair. subst (λ (z : Part × Part). RingRule key.capacity (ring_facts key.roles key.capacity t.words t.homes p q z.0 z.1)) (λ i. (same p pair.sender i, same q pair.receiver i))
      (sh.rings p q pair.sender pair.receiver pair.differ);
  legal = legal;
  reachable = reached (machines_in_key key) (histories_of known) c legal;
}

pub shown : (key : Key) (s : St) → RingsShow key s → (c : Configuration) × Shown key s c
shown key s sh = (configuration_by sh.known, shown_by key s sh sh.known (configuration_by sh.known) (λ r l. refl) (λ r. refl) (λ p q. refl) sh.legal)

-- two configurations that a table shows are the same, since each role has one view
known_once : (key : Key) (s : St) (c d : Configuration) (x : Shown key s c) (y : Shown key s d) (r : ℕ) → r < key.roles → x.known r ≡ y.known r
known_once key s c d x y r l =
    let a = x.spoken r l in let b = y.spoken r l in
    let seat : a.0 ≡ b.0 = b.5 a.0 a.1 a.2 a.3 in
    let view : a.1 ≡ b.1 = some-injective a.1 b.1 (sym a.2 ∙ ap (get_elem? s.views) seat ∙ b.2) in
    sym a.4 ∙ ap (λ (v : View). the_part r v.parts) view ∙ b.4

pub shown_once : (key : Key) (s : St) (c d : Configuration) → Shown key s c → Shown key s d → IsSameAmong key.roles c d
shown_once key s c d x y = record {
  at = λ r l. x.states r ∙ ap (λ (z : Part). z.state) (known_once key s c d x y r l) ∙ sym (y.states r);
  queue = λ p q a b. x.queues p q
      ∙ (λ i. map message_of (drop (length (parcels_got p (known_once key s c d x y q b i).history)) (parcels_sent q (known_once key s c d x y p a i).history)))
      ∙ sym (y.queues p q);
}

-- views speak for each role once, so what is known of it is one
spoken_once : (n : ℕ) (o o' : ℕ → ℕ) (k k' : ℕ → Part) (views : List View) → Spoken n o k views → Spoken n o' k' views → (r : ℕ) → r < n → k r ≡ k' r
spoken_once n o o' k k' views a b r l =
    let e = a.each r l in let f = b.each r l in
    let seat : o' r ≡ o r = (b.only (o r) e.0 r e.1 e.2).0 in
    let view : f.0 ≡ e.0 = some-injective f.0 e.0 (sym f.1 ∙ ap (get_elem? views) seat ∙ e.1) in
    sym e.3 ∙ ap (λ (v : View). the_part r v.parts) (sym view) ∙ f.3

-- the views speak for what a shown configuration knows
spoken_shown : (key : Key) (s : St) (c : Configuration) (sh : RingsShow key s) (x : Shown key s c) → Spoken key.roles sh.owner x.known s.views
spoken_shown key s c sh x = record {
  each = λ r l. let e = sh.spoken.each r l in let a = x.spoken r l in
      let seat : sh.owner r ≡ a.0 = a.5 (sh.owner r) e.0 e.1 e.2 in
      let view : e.0 ≡ a.1 = some-injective e.0 a.1 (sym e.1 ∙ ap (get_elem? s.views) seat ∙ a.2) in
      (e.0, e.1, e.2, ap (λ (v : View). the_part r v.parts) view ∙ a.4);
  only = sh.spoken.only;
}

module _ (key : Key) (s t : St) (c : Configuration) (sh : RingsShow key s) (th : RingsShow key t) (x : Shown key s c) where
  -- where all views know the same, the same is shown
  stays : (o : ℕ → ℕ) → Spoken key.roles o x.known t.views → Shown key t c
  stays o sp = shown_by key t th x.known c (spoken_once key.roles th.owner o th.known x.known t.views th.spoken sp) x.states x.queues x.legal

  pub splits_off : (r : ℕ) → SplitsOff s t r → Shown key t c
  splits_off r m =
      let o : ℕ → ℕ = at_put sh.owner r (length s.views) in
      stays o (subst (λ (vs : List View). Spoken key.roles o x.known vs) (sym m.views) (spoken_split key.roles sh.owner x.known s.views (spoken_shown key s c sh x) m.seat m.view m.present r m.speaks))

  module _ (p : ℕ) (a b : Part) (word new : ℕ) (low : p < key.roles) (role : b.role ≡ p) (m : Moves s t p word new a b) where
    abbrev after : ℕ → Part
    after = at_put x.known p b

    here : a ≡ x.known p
    here =
        let e = x.spoken p low in
        let seat : m.seat ≡ e.0 = e.5 m.seat m.view m.present m.speaks in
        let view : m.view ≡ e.1 = some-injective m.view e.1 (sym m.present ∙ ap (get_elem? s.views) seat ∙ e.2) in
        sym m.knew ∙ ap (λ (v : View). the_part p v.parts) view ∙ e.4

    known_after : (r : ℕ) → r < key.roles → th.known r ≡ after r
    known_after = spoken_once key.roles th.owner sh.owner th.known after t.views th.spoken
        (subst (λ (vs : List View). Spoken key.roles sh.owner after vs) (sym m.views)
        (spoken_step key.roles sh.owner x.known s.views (spoken_shown key s c sh x) m.seat m.view m.present p b m.speaks role))

    -- a step that changes no state and no history leaves what is shown
    looks : b.state ≡ a.state → b.history ≡ a.history → Shown key t c
    looks st hist =
        let histories : (r : ℕ) → (after r).history ≡ (x.known r).history = λ r. put_case x.known p b r (λ z. z.history ≡ (x.known r).history)
        (λ is. hist ∙ ap (λ (z : Part). z.history) here ∙ ap (λ (k : ℕ). (x.known k).history) (sym is)) (λ _. refl) in
        let states : (r : ℕ) → (after r).state ≡ (x.known r).state = λ r. put_case x.known p b r (λ z. z.state ≡ (x.known r).state)
        (λ is. st ∙ ap (λ (z : Part). z.state) here ∙ ap (λ (k : ℕ). (x.known k).state) (sym is)) (λ _. refl) in
        shown_by key t th after c known_after (λ r. x.states r ∙ sym (states r))
        (λ u v. x.queues u v ∙ (λ i. map message_of (drop (length (parcels_got u (sym (histories v) i))) (parcels_sent v (sym (histories u) i)))))
        record { first = x.legal.first; events = x.legal.events; starts = x.legal.starts; steps = x.legal.steps; gives = λ r. histories r ∙ x.legal.gives r }

  -- what is shown is the configuration of what is known
  abbrev path : c ≡ configuration_by x.known
  path = λ i. record { at = λ r. x.states r i; queue = λ u v. x.queues u v i }

  legal_known : AreLegal (machines_in_key key) x.known
  legal_known = subst (λ (z : Configuration). IsLegal (machines_in_key key) (histories_of x.known) z) path x.legal

  pub joins_in : JoinsIn s t → Shown key t c
  joins_in m =
      let o : ℕ → ℕ = λ y. if sh.owner y == m.other then m.seat else sh.owner y in
      stays o (subst (λ (vs : List View). Spoken key.roles o x.known vs) (sym m.views)
      (spoken_join key.roles sh.owner x.known s.views (spoken_shown key s c sh x) m.seat m.view m.present m.other m.taken m.apart m.too))

  module _ (p q : ℕ) (pair : IsPair key.roles p q) where
    pub loads_head : LoadsHeadOf key s t p q → Shown key t c
    loads_head l = let n : ℕ = slice_index s.words (head_word_of key.roles p q) in let a : Part = l.knew in let role = role_of_knew l.moves in
        ⊎_elim
        (λ is. looks p a l.knows (head_word_of key.roles p q) n pair.sender (ap (λ (z : Part). z.role) is ∙ role) l.moves (ap (λ (z : Part). z.state) is) (ap (λ (z : Part). z.history) is))
        (λ is. looks p a l.knows (head_word_of key.roles p q) n pair.sender (ap (λ (z : Part). z.role) is ∙ role) l.moves (ap (λ (z : Part). z.state) is) (ap (λ (z : Part). z.history) is))
        l.looks
      where
        role_of_knew : Moves s t p (head_word_of key.roles p q) (slice_index s.words (head_word_of key.roles p q)) l.knew l.knows → l.knew.role ≡ p
        role_of_knew m = ap (λ (z : Part). z.role) (sym m.knew) ∙ the_role p m.view.parts m.speaks

    pub loads_tail : LoadsTailOf key s t p q → Shown key t c
    loads_tail l = let n : ℕ = slice_index s.words (tail_of key.roles p q) in let a : Part = l.knew in let role = role_of_knew l.moves in
        ⊎_elim
        (λ is. looks q a l.knows (tail_of key.roles p q) n pair.receiver (ap (λ (z : Part). z.role) is ∙ role) l.moves (ap (λ (z : Part). z.state) is) (ap (λ (z : Part). z.history) is))
        (λ t'. let is = t'.1 in looks q a l.knows (tail_of key.roles p q) n pair.receiver (ap (λ (z : Part). z.role) is ∙ role) l.moves (ap (λ (z : Part). z.state) is)
        (ap (λ (z : Part). z.history) is))
        l.looks
      where
        role_of_knew : Moves s t q (tail_of key.roles p q) (slice_index s.words (tail_of key.roles p q)) l.knew l.knows → l.knew.role ≡ q
        role_of_knew m = ap (λ (z : Part). z.role) (sym m.knew) ∙ the_role q m.view.parts m.speaks

    pub stores_tail : (m : Parcel) → StoresTailOf key s t p q m → (d : Configuration) × Shown key t d × SendsParcel (machines_in_key key) c p q m d
    stores_tail m l =
        let ms : List Machine_data = machines_in_key key in
        let b : Part = sending q m l.next l.loads l.knew in
        let w : ℕ = tail_of key.roles p q in
        let new : ℕ = slice_index s.words w + 1 in
        let role : b.role ≡ p = ap (λ (z : Part). z.role) (sym l.moves.knew) ∙ the_role p l.moves.view.parts l.moves.speaks in
        let knew : l.knew ≡ x.known p = here p l.knew b w new pair.sender role l.moves in
        let known : ℕ → Part = at_put x.known p b in
        let picked : (place : ℕ) × (slice_get l.may.arms place ≡ Some l.may.arm) × (l.may.arm.label ≡ m.label) = (l.may.place, l.may.picks, l.may.same_label) in
        let puts = ap (λ (z : Part). state_of (slice_get ms p) z.state) (sym knew) ∙ l.may.puts in
        let history : b.history ≡ (x.known p).history ++ sent_act q m ∷ [] = ap (λ (z : Part). z.history ++ sent_act q m ∷ []) knew in
        let behind' = behind key.capacity (ring_facts key.roles key.capacity s.words s.homes p q (x.known p) (x.known q)) (x.rings p q pair) in
        let told = sends ms x.known p q pair.differ m l.may.arms l.may.arm picked l.may.has_sort b puts l.may.goes history behind' in
        let lived = legal_sent ms x.known p q pair.differ m l.may.arms l.may.arm picked l.may.has_sort b legal_known puts l.may.goes history behind' in (
          configuration_by known,
          shown_by key t th known (configuration_by known) (known_after p l.knew b w new pair.sender role l.moves) (λ r. refl) (λ u v. refl) lived.0,
          subst (λ (z : Configuration). SendsParcel ms z p q m (configuration_by known)) (sym path) record { place = l.may.place; step = told.0; did = told.1 },
        )

    pub stores_head : (m : Parcel) → StoresHeadOf key s t p q m → (d : Configuration) × Shown key t d × ReceivesParcel (machines_in_key key) c q p m d
    stores_head m l =
        let ms : List Machine_data = machines_in_key key in
        let b : Part = getting p m l.next l.loads l.knew in
        let w : ℕ = head_word_of key.roles p q in
        let new : ℕ = slice_index s.words w + 1 in
        let role : b.role ≡ q = ap (λ (z : Part). z.role) (sym l.moves.knew) ∙ the_role q l.moves.view.parts l.moves.speaks in
        let knew : l.knew ≡ x.known q = here q l.knew b w new pair.receiver role l.moves in
        let known : ℕ → Part = at_put x.known q b in
        let picked : (place : ℕ) × (slice_get l.may.arms place ≡ Some l.may.arm) × (l.may.arm.label ≡ m.label) = (l.may.place, l.may.picks, l.may.same_label) in
        let takes = ap (λ (z : Part). state_of (slice_get ms q) z.state) (sym knew) ∙ l.may.takes in
        let history : b.history ≡ (x.known q).history ++ got_act p m ∷ [] = ap (λ (z : Part). z.history ++ got_act p m ∷ []) knew in
        let first = (x.rings p q pair).takes m (ap (λ (z : Part). parcel_in_hand p z.middle) (sym knew) ∙ ap (parcel_in_hand p) l.middle ∙ taken_here p m) in
        let told = receives ms x.known p q pair.differ m l.may.arms l.may.arm picked l.may.has_sort b takes l.may.goes history first in
        let lived = legal_got ms x.known p q pair.differ m l.may.arms l.may.arm picked l.may.has_sort b legal_known takes l.may.goes history first in (
          configuration_by known,
          shown_by key t th known (configuration_by known) (known_after q l.knew b w new pair.receiver role l.moves) (λ r. refl) (λ u v. refl) lived.0,
          subst (λ (z : Configuration). ReceivesParcel ms z q p m (configuration_by known)) (sym path) record { step = told.0; did = told.1 },
        )
