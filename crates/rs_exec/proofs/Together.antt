-- What is known of all roles, as a session of queues in lists, and what an act makes of it.
use Rattle.std.proofs.Common.{◌≡◌, ◌≢◌, ◌⊎◌, inl, inr, ℕ, zero, suc, ◌-◌, ◌<◌, ◌≤◌, List, [], ◌∷◌, ◌++◌, length, map, drop, slice_index_or, slice_get, Some, refl, sym, ap, ◌∙◌, subst, arith}
use Rattle.std.proofs.Common.{length-append}
use Rattle.std.proofs.lemmas.Bool.{cases_lt}
use Rattle.std.proofs.lemmas.Bool.Decides.{eqb_tells}
use Rattle.std.proofs.lemmas.List.{drop-append-le, drop_all, length-drop, length-map, map-append}
use Rattle.rs_model.specs.Data.{Machine_data}
use Rattle.rs_model.specs.Sorts.{HasSort}
use Rattle.rs_model.specs.declared.graph.Arm.{Arm}
use Rattle.rs_model.specs.declared.machines.State.TheVariants.{Puts, Takes}
use Rattle.rs_model.specs.declared.values.Value.{Value}
use Rattle.rs_core.specs.declared.messages.Message.{Message}
use Rattle.rs_core.specs.Configurations.{Configuration, Sends, Receives, StartsAt, state_at, state_of}
use Rattle.rs_core.specs.Core.{configuration_of}
use Rattle.rs_slots.specs.declared.parcels.Parcel.{Parcel}
use Rattle.rs_rings.specs.Acts.{message_of, role_of_number, sent_act, got_act, parcel_sent, parcel_got, parcels_sent, parcels_got}
use Rattle.rs_rings.specs.Passes.{IsChanged}
use Rattle.rs_rings.specs.Views.{history_in, parcels_under_way, part_of, start_of, starting, state_in}
use Rattle.rs_rings.specs.declared.views.Part.{Part}
use Rattle.rs_rings.specs.declared.views.View.{View}
use Rattle.rs_rings.proofs.Legal.{last_none, sent_here, sent_other, got_here, got_other}
use Rattle.rs_rings.proofs.Seats.{first_part_is}
use Rattle.rs_exec.specs.Hands.{first_values, core_of}

pub listed_at : {X : Type 0} (n : ℕ) (f : ℕ → X) (k : ℕ) (d : X) → k < n → slice_index_or (first_values n f) k d ≡ f k
listed_at zero f k d low = absurd (omega arith)
listed_at (suc n) f zero d low = refl
listed_at (suc n) f (suc k) d low = listed_at n (λ j. f (suc j)) k d (omega arith)

pub listed_past : {X : Type 0} (n : ℕ) (f : ℕ → X) (k : ℕ) (d : X) → n ≤ k → slice_index_or (first_values n f) k d ≡ d
listed_past zero f k d high = refl
listed_past (suc n) f zero d high = absurd (omega arith)
listed_past (suc n) f (suc k) d high = listed_past n (λ j. f (suc j)) k d (omega arith)

pub snoc_map : (xs : List Parcel) (x : Parcel) → map message_of (xs ++ x ∷ []) ≡ map message_of xs ++ message_of x ∷ []
snoc_map xs x = map-append message_of xs (x ∷ [])

module _ (ms : List Machine_data) where
  abbrev pub shown_in : View → Configuration
  shown_in v = configuration_of (core_of ms v)

  pub at_is : (v : View) (r : ℕ) → r < length ms → (shown_in v).at r ≡ state_in v r
  at_is v r low = listed_at (length ms) (λ p. state_in v p) r 0 low

  at_past : (v : View) (r : ℕ) → length ms ≤ r → (shown_in v).at r ≡ 0
  at_past v r high = listed_past (length ms) (λ p. state_in v p) r 0 high

  abbrev row_of : View → ℕ → List (List Message)
  row_of v p = first_values (length ms) (λ q. map message_of (parcels_under_way v p q))

  pub queue_is : (v : View) (p q : ℕ) → p < length ms → q < length ms → (shown_in v).queue p q ≡ map message_of (parcels_under_way v p q)
  queue_is v p q low other = ap (λ (row : List (List Message)). slice_index_or row q []) (listed_at (length ms) (row_of v) p [] low)
      ∙ listed_at (length ms) (λ y. map message_of (parcels_under_way v p y)) q [] other

  row_past : (v : View) (p q : ℕ) → length ms ≤ p → (shown_in v).queue p q ≡ []
  row_past v p q high = ap (λ (row : List (List Message)). slice_index_or row q []) (listed_past (length ms) (row_of v) p [] high)

  queue_past : (v : View) (p q : ℕ) → (length ms ≤ p) ⊎ (length ms ≤ q) → (shown_in v).queue p q ≡ []
  queue_past v p q (inl high) = row_past v p q high
  queue_past v p q (inr high) = elim (cases_lt p (length ms)) [
    | inl low ↦ ap (λ (row : List (List Message)). slice_index_or row q []) (listed_at (length ms) (row_of v) p [] low)
        ∙ listed_past (length ms) (λ y. map message_of (parcels_under_way v p y)) q [] high
    | inr past ↦ row_past v p q past
  ]

  -- the states of the lists are those that are known
  pub state_is : (v : View) (r : ℕ) → r < length ms → state_at ms (shown_in v) r ≡ state_of (slice_get ms r) (state_in v r)
  state_is v r low = ap (state_of (slice_get ms r)) (at_is v r low)

  -- the same states and acts
  pub same_core : (v w : View) → ((r : ℕ) → state_in w r ≡ state_in v r) → ((r : ℕ) → history_in w r ≡ history_in v r) → core_of ms w ≡ core_of ms v
  same_core v w states acts i = record {
    machines = ms;
    states = first_values (length ms) (λ p. states p i);
    queues = first_values (length ms) (λ p. first_values (length ms) (λ q. map message_of (drop (length (parcels_got p (acts q i))) (parcels_sent q (acts p i)))));
  }

  -- nothing has changed of one role but what was read, and nothing of the others
  pub looked : (v w : View) (p : ℕ) (y : Part) → IsChanged p y v w → y.state ≡ state_in v p → y.history ≡ history_in v p → core_of ms w ≡ core_of ms v
  looked v w p y c state acts = same_core v w
      (λ r. elim (eqb_tells r p) [
        | inl t ↦ subst (λ (z : ℕ). state_in w z ≡ state_in v z) (sym t.1) (ap (λ (z : Part). z.state) c.part ∙ state)
        | inr t ↦ ap (λ (z : Part). z.state) (c.others r t.1)
      ])
      (λ r. elim (eqb_tells r p) [
        | inl t ↦ subst (λ (z : ℕ). history_in w z ≡ history_in v z) (sym t.1) (ap (λ (z : Part). z.history) c.part ∙ acts)
        | inr t ↦ ap (λ (z : Part). z.history) (c.others r t.1)
      ])

  -- what is shown of other roles stays
  pub other_at : (v w : View) (r : ℕ) → part_of w r ≡ part_of v r → (shown_in w).at r ≡ (shown_in v).at r
  other_at v w r same = elim (cases_lt r (length ms)) [
    | inl low ↦ at_is w r low ∙ ap (λ (z : Part). z.state) same ∙ sym (at_is v r low)
    | inr high ↦ at_past w r high ∙ sym (at_past v r high)
  ]

  pub other_queue : (v w : View) (a b : ℕ) → parcels_under_way w a b ≡ parcels_under_way v a b → (shown_in w).queue a b ≡ (shown_in v).queue a b
  other_queue v w a b same = elim (cases_lt a (length ms)) [
    | inl low ↦ elim (cases_lt b (length ms)) [
      | inl low' ↦ queue_is w a b low low' ∙ ap (λ (l : List Parcel). map message_of l) same ∙ sym (queue_is v a b low low')
      | inr high ↦ queue_past w a b (inr high) ∙ sym (queue_past v a b (inr high))
    ]
    | inr high ↦ queue_past w a b (inl high) ∙ sym (queue_past v a b (inl high))
  ]

-- p has sent x to q
pub record HasPutIn (v w : View) (p q : ℕ) (x : Parcel) : Type 0 where
  pub history : history_in w p ≡ history_in v p ++ sent_act q x ∷ []
  pub others : (r : ℕ) → r ≢ p → part_of w r ≡ part_of v r

pub left_sent : (v w : View) (p q : ℕ) (x : Parcel) → HasPutIn v w p q x → p ≢ q → length (parcels_got p (history_in v q)) ≤ length (parcels_sent q (history_in v p))
    → parcels_under_way w p q ≡ parcels_under_way v p q ++ x ∷ []
left_sent v w p q x put apart le =
    let g : history_in w q ≡ history_in v q = ap (λ (z : Part). z.history) (put.others q (λ e. apart (sym e))) in
    let s : parcels_sent q (history_in w p) ≡ parcels_sent q (history_in v p) ++ x ∷ [] = ap (parcels_sent q) put.history ∙ sent_here q x (history_in v p) in
    (λ i. drop (length (parcels_got p (g i))) (s i)) ∙ drop-append-le (length (parcels_got p (history_in v q))) (parcels_sent q (history_in v p)) (x ∷ []) le

pub left_beside : (v w : View) (p q : ℕ) (x : Parcel) → HasPutIn v w p q x → (a b : ℕ) → (a ≢ p) ⊎ (b ≢ q) → parcels_under_way w a b ≡ parcels_under_way v a b
left_beside v w p q x put a b or =
    let s : parcels_sent b (history_in w a) ≡ parcels_sent b (history_in v a) = elim (eqb_tells a p) [
      | inl t ↦ subst (λ (z : ℕ). parcels_sent b (history_in w z) ≡ parcels_sent b (history_in v z)) (sym t.1) (ap (parcels_sent b) put.history ∙ sent_other b q x (history_in v p) (not t.1 or))
      | inr t ↦ ap (λ (z : Part). parcels_sent b z.history) (put.others a t.1)
    ] in
    let g : parcels_got a (history_in w b) ≡ parcels_got a (history_in v b) = elim (eqb_tells b p) [
      | inl t ↦ subst (λ (z : ℕ). parcels_got a (history_in w z) ≡ parcels_got a (history_in v z)) (sym t.1)
          (ap (parcels_got a) put.history ∙ last_none (parcel_got a) (history_in v p) (sent_act q x) refl)
      | inr t ↦ ap (λ (z : Part). parcels_got a z.history) (put.others b t.1)
    ] in
    λ i. drop (length (g i)) (s i)
  where
    not : a ≡ p → (a ≢ p) ⊎ (b ≢ q) → b ≢ q
    not e (inl ne) = absurd (ne e)
    not e (inr ne) = ne

-- q has got x from p
pub record HasTakenIn (v w : View) (q p : ℕ) (x : Parcel) : Type 0 where
  pub history : history_in w q ≡ history_in v q ++ got_act p x ∷ []
  pub others : (r : ℕ) → r ≢ q → part_of w r ≡ part_of v r

pub left_got : (v w : View) (q p : ℕ) (x : Parcel) → HasTakenIn v w q p x → q ≢ p → parcels_under_way v p q ≡ x ∷ drop (suc (length (parcels_got p (history_in v q)))) (parcels_sent q (history_in v p))
    → parcels_under_way v p q ≡ x ∷ parcels_under_way w p q
left_got v w q p x take apart oldest =
    let s : parcels_sent q (history_in v p) ≡ parcels_sent q (history_in w p) = ap (λ (z : Part). parcels_sent q z.history) (sym (take.others p (λ e. apart (sym e)))) in
    let g : parcels_got p (history_in w q) ≡ parcels_got p (history_in v q) ++ x ∷ [] = ap (parcels_got p) take.history ∙ got_here p x (history_in v q) in
    let n : suc (length (parcels_got p (history_in v q))) ≡ length (parcels_got p (history_in w q)) = omega (arith, ap length g, length-append (parcels_got p (history_in v q)) (x ∷ [])) in
    oldest ∙ (λ i. x ∷ drop (n i) (s i))

pub left_aside : (v w : View) (q p : ℕ) (x : Parcel) → HasTakenIn v w q p x → (a b : ℕ) → (a ≢ p) ⊎ (b ≢ q) → parcels_under_way w a b ≡ parcels_under_way v a b
left_aside v w q p x take a b or =
    let s : parcels_sent b (history_in w a) ≡ parcels_sent b (history_in v a) = elim (eqb_tells a q) [
      | inl t ↦ subst (λ (z : ℕ). parcels_sent b (history_in w z) ≡ parcels_sent b (history_in v z)) (sym t.1)
          (ap (parcels_sent b) take.history ∙ last_none (parcel_sent b) (history_in v q) (got_act p x) refl)
      | inr t ↦ ap (λ (z : Part). parcels_sent b z.history) (take.others a t.1)
    ] in
    let g : parcels_got a (history_in w b) ≡ parcels_got a (history_in v b) = elim (eqb_tells b q) [
      | inl t ↦ subst (λ (z : ℕ). parcels_got a (history_in w z) ≡ parcels_got a (history_in v z)) (sym t.1) (ap (parcels_got a) take.history ∙ got_other a p x (history_in v q) (not t.1 or))
      | inr t ↦ ap (λ (z : Part). parcels_got a z.history) (take.others b t.1)
    ] in
    λ i. drop (length (g i)) (s i)
  where
    not : b ≡ q → (a ≢ p) ⊎ (b ≢ q) → a ≢ p
    not e (inl ne) = ne
    not e (inr ne) = absurd (ne e)

module _ (ms : List Machine_data) (v w : View) (p q : ℕ) (low : p < length ms) (other : q < length ms) (apart : p ≢ q) where
  -- a send, over queues in lists
  abbrev pub sends_in : (place : ℕ) (value : Value) (arms : List Arm) (arm : Arm) → state_of (slice_get ms p) (state_in v p) ≡ Some (Puts (role_of_number q) arms) → slice_get arms place ≡ Some arm
      → HasSort value arm.sort
      → state_in w p ≡ arm.next → HasPutIn v w p q (record { label = arm.label; value = value }) → length (parcels_got p (history_in v q)) ≤ length (parcels_sent q (history_in v p))
      → Sends ms (shown_in ms v) p place value (shown_in ms w)
  sends_in place value arms arm stands picks has goes put le = let x : Parcel = record { label = arm.label; value = value } in record {
    peer = role_of_number q;
    arms = arms;
    arm = arm;
    puts = state_is ms v p low ∙ stands;
    picks = picks;
    has_sort = has;
    goes = at_is ms w p low ∙ goes;
    appends = queue_is ms w p q low other ∙ ap (λ (l : List Parcel). map message_of l) (left_sent v w p q x put apart le) ∙ snoc_map (parcels_under_way v p q) x
        ∙ ap (λ (l : List Message). l ++ message_of x ∷ []) (sym (queue_is ms v p q low other));
    other_states = λ r ne. other_at ms v w r (put.others r ne);
    other_queues = λ a b or. other_queue ms v w a b (left_beside v w p q x put a b or);
  }

  -- a receive: q gets x from p
  abbrev pub receives_in : (place : ℕ) (x : Parcel) (arms : List Arm) (arm : Arm) → state_of (slice_get ms q) (state_in v q) ≡ Some (Takes (role_of_number p) arms) → slice_get arms place ≡ Some arm
      → arm.label ≡ x.label → HasSort x.value arm.sort
      → state_in w q ≡ arm.next → HasTakenIn v w q p x → parcels_under_way v p q ≡ x ∷ drop (suc (length (parcels_got p (history_in v q)))) (parcels_sent q (history_in v p))
      → Receives ms (shown_in ms v) q (shown_in ms w)
  receives_in place x arms arm stands picks label has goes take oldest = record {
    peer = role_of_number p;
    arms = arms;
    place = place;
    arm = arm;
    message = message_of x;
    takes = state_is ms v q other ∙ stands;
    removes = queue_is ms v p q low other ∙ ap (λ (l : List Parcel). map message_of l) (left_got v w q p x take (λ e. apart (sym e)) oldest)
        ∙ ap (λ (l : List Message). message_of x ∷ l) (sym (queue_is ms w p q low other));
    follows = picks;
    same_label = label;
    has_sort = has;
    goes = at_is ms w q other ∙ goes;
    other_states = λ r ne. other_at ms v w r (take.others r ne);
    other_queues = λ a b or. other_queue ms v w a b (left_aside v w q p x take a b or);
  }

  -- how many messages are under way
  pub under_way : length ((shown_in ms v).queue p q) ≡ length (parcels_sent q (history_in v p)) - length (parcels_got p (history_in v q))
  under_way = ap length (queue_is ms v p q low other) ∙ length-map (parcels_under_way v p q) message_of ∙ length-drop (length (parcels_got p (history_in v q))) (parcels_sent q (history_in v p))

  pub none_under_way : length (parcels_got p (history_in v q)) ≡ length (parcels_sent q (history_in v p)) → (shown_in ms v).queue p q ≡ []
  none_under_way e = queue_is ms v p q low other ∙ ap (λ (l : List Parcel). map message_of l) (drop_all (length (parcels_got p (history_in v q))) (parcels_sent q (history_in v p)) (omega (arith, e)))

-- the start
left_first : (ms : List Machine_data) (p q : ℕ) → p < length ms → q < length ms → parcels_under_way (starting ms) p q ≡ []
left_first ms p q low other =
    let a : history_in (starting ms) p ≡ [] = ap (λ (z : Part). z.history) (first_part_is ms (length ms) p low) in
    let b : history_in (starting ms) q ≡ [] = ap (λ (z : Part). z.history) (first_part_is ms (length ms) q other) in
    λ i. drop (length (parcels_got p (b i))) (parcels_sent q (a i))

slice_within : (ms : List Machine_data) (p : ℕ) (m : Machine_data) → slice_get ms p ≡ Some m → p < length ms
slice_within [] p m e = absurd (cc (e))
slice_within (x ∷ xs) zero m e = omega arith
slice_within (x ∷ xs) (suc p) m e = let ih = slice_within xs p m e in omega arith

pub starts_in : (ms : List Machine_data) (v : View) → v ≡ starting ms → StartsAt ms (shown_in ms v)
starts_in ms v is = subst (λ (z : View). StartsAt ms (shown_in ms z)) (sym is) record {
  states = λ p m e. (let low = slice_within ms p m e in at_is ms (starting ms) p low ∙ ap (λ (z : Part). z.state) (first_part_is ms (length ms) p low) ∙ ap start_of e);
  queues = λ p q. elim (cases_lt p (length ms)) [
    | inl low ↦ elim (cases_lt q (length ms)) [
      | inl low' ↦ queue_is ms (starting ms) p q low low' ∙ ap (λ (l : List Parcel). map message_of l) (left_first ms p q low low')
      | inr high ↦ queue_past ms (starting ms) p q (inr high)
    ]
    | inr high ↦ queue_past ms (starting ms) p q (inl high)
  ];
}
