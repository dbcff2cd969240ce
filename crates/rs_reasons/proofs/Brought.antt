-- Nothing brings what no node takes. Suppose that a machine had a new label on that arm: it would still have its derivation,
-- so the machines would be safe. And they would do all that they do, until something brings the label: then there would be no
-- arm for it.
use Rattle.std.proofs.Common.{◌≡◌, ◌≢◌, ◌⊎◌, inl, inr, ℕ, zero, suc, ◌+◌, ◌<◌, List, [], ◌∷◌, ◌++◌, map, length, slice_get, slice_set, Bool, true, false, ◌==◌, ◌&&◌, ◌||◌, Option, Some, refl, sym, ap, ◌∙◌, subst, arith, if◌then◌else◌}
use Rattle.std.proofs.lemmas.Bool.Decides.{eqb_tells}
use Rattle.std.proofs.lemmas.List.{length-set}
use Rattle.std.proofs.lemmas.Option.{none-some, same_Some, slice_get-map}
use Rattle.std.specs.List.{list_any}
use Rattle.rs_answers.proofs.AcceptedSessions.{is_accepted}
use Rattle.rs_answers.specs.Derivations.{AreCanonical}
use Rattle.rs_answers.specs.Sessions.{HasMachines}
use Rattle.rs_core.proofs.Sessions.{steps_snoc}
use Rattle.rs_core.proofs.Stands.{machine_at}
use Rattle.rs_core.specs.Choices.{AreWellFormed}
use Rattle.rs_core.specs.Configurations.{Configuration, IsReachable, Receives, StartsAt, Step, Steps, state_at, state_of}
use Rattle.rs_core.specs.Safety.{IsSafe}
use Rattle.rs_core.specs.declared.messages.Event.{Event}
use Rattle.rs_core.specs.declared.messages.Event.TheVariants.{Receive, Send}
use Rattle.rs_core.specs.declared.messages.Message.{Message}
use Rattle.rs_derive.proofs.Mapped.{map_of}
use Rattle.rs_derive.specs.Data.{DNode_data, Derivation_data}
use Rattle.rs_derive.specs.Derivations.{IsDerivation, Remembers, spot_of}
use Rattle.rs_derive.specs.Moves.{Guesses, HasMove, PaysReceive, PaysSend, ReceivesAhead, SendsAhead, SendsBoth, Spot, Stops, arm_of}
use Rattle.rs_documents.specs.Data.{Document_data}
use Rattle.rs_documents.specs.Documents.{SpellsDocument}
use Rattle.rs_model.specs.Data.{Machine_data, Protocol_data}
use Rattle.rs_model.specs.Limits.{IsBound}
use Rattle.rs_model.specs.Sorts.{HasSort}
use Rattle.rs_model.specs.WellFormed.{IsWellFormedMachine, StateFits}
use Rattle.rs_model.specs.declared.graph.Arm.{Arm}
use Rattle.rs_model.specs.declared.graph.Label.{Label}
use Rattle.rs_model.specs.declared.graph.Role.{Role}
use Rattle.rs_model.specs.declared.machines.Act.TheVariants as act
use Rattle.rs_model.specs.declared.machines.State.{State}
use Rattle.rs_model.specs.declared.machines.State.TheVariants.{Done, Puts, Takes}
use Rattle.rs_model.specs.declared.values.Sort.{Sort}
use Rattle.rs_prefix.proofs.Right as right
use Rattle.rs_prefix.specs.Earliest.{IsAbsent, IsFound}
use Rattle.rs_prefix.specs.Search.{earliest}
use Rattle.rs_prefix.specs.declared.earliest.ActKind.TheVariants.{Receive as Receiving}
use Rattle.rs_prefix.specs.declared.earliest.Found.{Found}
use Rattle.rs_prefix.specs.declared.earliest.Found.TheVariants.{At, Absent}
use Rattle.rs_places.specs.declared.places.Position.{Position}
use Rattle.rs_project.specs.Data.{Projection_data}
use Rattle.rs_reasons.specs.Accepted.{unused_arm, unused_line}
use Rattle.rs_safety.proofs.Derived.{arm_of_is}
use Rattle.rs_safety.proofs.Reordered.{safe}
use Rattle.rs_safety.proofs.Walked.{of_accepted}
use Rattle.rs_safety.specs.Accepting.{Accepted_data, IsAcceptedSession}
use Rattle.rs_safety.specs.Sessions.{AreDerivations, IsDerivedSession}
use Rattle.rs_text.specs.NamePlaces.{name_at}
use Rattle.rs_reasons.specs.Brought.{NothingBrings}
use Rattle.rs_reasons.specs.Uses.{is_label, label_found, label_next, label_of_act, takes}

-- ---- lists with another item at one place

set_there : {A : Type 0} (xs : List A) (n : ℕ) (v x : A) → slice_get xs n ≡ Some x → slice_get (slice_set xs n v) n ≡ Some v
set_there [] n v x h = absurd (none-some x h)
set_there (y ∷ xs) zero v x h = refl
set_there (y ∷ xs) (suc n) v x h = set_there xs n v x h

set_elsewhere : {A : Type 0} (xs : List A) (n k : ℕ) (v : A) → k ≢ n → slice_get (slice_set xs n v) k ≡ slice_get xs k
set_elsewhere [] n k v h = refl
set_elsewhere (y ∷ xs) zero zero v h = absurd (h refl)
set_elsewhere (y ∷ xs) zero (suc k) v h = refl
set_elsewhere (y ∷ xs) (suc n) zero v h = refl
set_elsewhere (y ∷ xs) (suc n) (suc k) v h = set_elsewhere xs n k v (λ e. h (ap suc e))

-- ---- arms with a new label

-- the arm, with a new label in place of l
abbrev renamed : Label → Label → Arm → Arm
renamed l new a = if a.label.0 == l.0 then record { label = new; sort = a.sort; next = a.next } else a

renamed_cases : (l new : Label) (a : Arm)
    → ((a.label.0 ≡ l.0) × (renamed l new a ≡ record { label = new; sort = a.sort; next = a.next })) ⊎ ((a.label.0 ≢ l.0) × (renamed l new a ≡ a))
renamed_cases l new a = elim (eqb_tells a.label.0 l.0) [
  | inl t ↦ inl (t.1, rw t.0 refl)
  | inr t ↦ inr (t.1, rw t.0 refl)
]

stays : (l new : Label) (a : Arm) → a.label.0 ≢ l.0 → renamed l new a ≡ a
stays l new a ne = elim (renamed_cases l new a) [
  | inl t ↦ absurd (ne t.0)
  | inr t ↦ t.1
]

leads_on : (l new : Label) (a : Arm) → (renamed l new a).next ≡ a.next
leads_on l new a = elim (renamed_cases l new a) [
  | inl t ↦ ap (λ (z : Arm). z.next) t.1
  | inr t ↦ ap (λ (z : Arm). z.next) t.1
]

-- a label that isn't l and that no arm has
record IsNew (l new : Label) (arms : List Arm) : Type 0 where
  other : new.0 ≢ l.0
  none : (i : ℕ) (a : Arm) → slice_get arms i ≡ Some a → a.label.0 ≢ new.0

abbrev above_labels : List Arm → ℕ
above_labels [] = 0
above_labels (a ∷ later) = suc a.label.0 + above_labels later

below_labels : (arms : List Arm) (i : ℕ) (a : Arm) → slice_get arms i ≡ Some a → a.label.0 < above_labels arms
below_labels [] i a h = absurd (none-some a h)
below_labels (x ∷ arms) zero a h = let e : x.label.0 ≡ a.label.0 = ap (λ (z : Arm). z.label.0) (same_Some x a h) in omega arith
below_labels (x ∷ arms) (suc i) a h = let k = below_labels arms i a h in omega arith

new_label : Label → List Arm → Label
new_label l arms = record { 0 = suc l.0 + above_labels arms }

is_new : (l : Label) (arms : List Arm) → IsNew l (new_label l arms) arms
unfolding new_label
is_new l arms = record {
  other = λ e. absurd (omega (arith, e));
  none = λ i a h e. (let k = below_labels arms i a h in absurd (omega (arith, e, k)));
}

-- no arm has the label l any more
none_left : (l new : Label) (arms : List Arm) → new.0 ≢ l.0 → (i : ℕ) (b : Arm) → slice_get (map (renamed l new) arms) i ≡ Some b → b.label.0 ≢ l.0
none_left l new arms ne i b h e =
    let m = map_of (renamed l new) arms i b h in
    elim (renamed_cases l new m.0) [
      | inl t ↦ (let is : b.label.0 ≡ new.0 = ap (λ (z : Arm). z.label.0) (sym m.2 ∙ t.1) in ne (sym is ∙ e))
      | inr t ↦ (let is : b.label.0 ≡ m.0.label.0 = ap (λ (z : Arm). z.label.0) (sym m.2 ∙ t.1) in t.0 (sym is ∙ e))
    ]

-- the first arm with a label
found_here : (b : Arm) (later : List Arm) (label : Label) → b.label.0 ≡ label.0 → arm_of (b ∷ later) label ≡ Some b
found_here b later label e = elim (eqb_tells b.label.0 label.0) [
  | inl t ↦ rw t.0 refl
  | inr t ↦ absurd (t.1 e)
]

found_later : (b : Arm) (later : List Arm) (label : Label) → b.label.0 ≢ label.0 → arm_of (b ∷ later) label ≡ arm_of later label
found_later b later label e = elim (eqb_tells b.label.0 label.0) [
  | inl t ↦ absurd (e t.1)
  | inr t ↦ rw t.0 refl
]

-- is still the first
found_renamed : (l new : Label) (arms : List Arm) (label : Label) → label.0 ≢ l.0 → label.0 ≢ new.0 → arm_of (map (renamed l new) arms) label ≡ arm_of arms label
found_renamed l new [] label h k = refl
found_renamed l new (a ∷ arms) label h k =
    let later = found_renamed l new arms label h k in
    elim (eqb_tells a.label.0 label.0) [
      | inl t ↦ (
          let e : renamed l new a ≡ a = stays l new a (λ g. h (sym t.1 ∙ g)) in
          ap (λ (z : Arm). arm_of (z ∷ map (renamed l new) arms) label) e ∙ found_here a (map (renamed l new) arms) label t.1 ∙ sym (found_here a arms label t.1))
      | inr t ↦ found_later (renamed l new a) (map (renamed l new) arms) label (differs t.1) ∙ later ∙ sym (found_later a arms label t.1)
    ]
  where
    differs : a.label.0 ≢ label.0 → (renamed l new a).label.0 ≢ label.0
    differs ne e = elim (renamed_cases l new a) [
      | inl t ↦ k (sym e ∙ ap (λ (z : Arm). z.label.0) t.1)
      | inr t ↦ ne (sym (ap (λ (z : Arm). z.label.0) t.1) ∙ e)
    ]

-- ---- a machine with a new label at one state

abbrev TakesNone : State → Type 0
TakesNone Done = Unit {0}
TakesNone (Puts peer arms) = Unit {0}
TakesNone (Takes peer arms) = ⊥

module _ (m : Machine_data) (s : ℕ) (q : Role) (arms : List Arm) (l new : Label) (stands : slice_get m.states s ≡ Some (Takes q arms)) (fresh : IsNew l new arms) where
  abbrev others : List Arm
  others = map (renamed l new) arms

  abbrev changed : Machine_data
  changed = record { role = m.role; states = slice_set m.states s (Takes q others); start = m.start }

  size : length changed.states ≡ length m.states
  size = length-set m.states s (Takes q others)

  here : (t : ℕ) → t ≡ s → slice_get changed.states t ≡ Some (Takes q others)
  here t e = ap (λ (z : ℕ). slice_get changed.states z) e ∙ set_there m.states s (Takes q others) (Takes q arms) stands

  there : (t : ℕ) → t ≢ s → slice_get changed.states t ≡ slice_get m.states t
  there t ne = set_elsewhere m.states s t (Takes q others) ne

  at_s : (t : ℕ) (st : State) → t ≡ s → slice_get m.states t ≡ Some st → st ≡ Takes q arms
  at_s t st e h = same_Some st (Takes q arms) (sym h ∙ ap (λ (z : ℕ). slice_get m.states z) e ∙ stands)

  takes_some : (st : State) → TakesNone st → st ≡ Takes q arms → ⊥
  takes_some st unlike e = subst TakesNone e unlike

  -- other states are the same
  stays_state : (t : ℕ) (st : State) → TakesNone st → slice_get m.states t ≡ Some st → slice_get changed.states t ≡ Some st
  stays_state t st unlike h = elim (eqb_tells t s) [
    | inl x ↦ absurd (takes_some st unlike (at_s t st x.1 h))
    | inr x ↦ there t x.1 ∙ h
  ]

  was_state : (t : ℕ) (st : State) → TakesNone st → slice_get changed.states t ≡ Some st → slice_get m.states t ≡ Some st
  was_state t st unlike h = elim (eqb_tells t s) [
    | inl x ↦ (let e : Some st ≡ Some (Takes q others) = sym h ∙ here t x.1 in absurd (subst TakesNone (same_Some st (Takes q others) e) unlike))
    | inr x ↦ sym (there t x.1) ∙ h
  ]

  -- a state that receives is that one, or is the same
  receives : (t : ℕ) (peer : Role) (bs : List Arm) → slice_get m.states t ≡ Some (Takes peer bs)
      → ((t ≡ s) × (peer ≡ q) × (bs ≡ arms)) ⊎ (slice_get changed.states t ≡ Some (Takes peer bs))
  receives t peer bs h = elim (eqb_tells t s) [
    | inl x ↦ (let e : Takes peer bs ≡ Takes q arms = at_s t (Takes peer bs) x.1 h in inl (x.1, cc (e), cc (e)))
    | inr x ↦ inr (there t x.1 ∙ h)
  ]

  received : (t : ℕ) (peer : Role) (bs : List Arm) → slice_get changed.states t ≡ Some (Takes peer bs)
      → ((t ≡ s) × (peer ≡ q)) ⊎ (slice_get m.states t ≡ Some (Takes peer bs))
  received t peer bs h = elim (eqb_tells t s) [
    | inl x ↦ (let e : Takes peer bs ≡ Takes q others = same_Some (Takes peer bs) (Takes q others) (sym h ∙ here t x.1) in inl (x.1, cc (e)))
    | inr x ↦ inr (sym (there t x.1) ∙ h)
  ]

  -- what is taken at the state has another label
  abbrev TakesOthers : Spot → Type 0
  TakesOthers p = (place : ℕ) (label : Label) (so : Sort) → p.state ≡ s → IsFound p.pending Receiving q place → slice_get p.pending place ≡ Some (act.Takes q label so) → label.0 ≢ l.0

  -- the moves are the same
  moves : (above : Machine_data) (p : Spot) (makes : Option ℕ) (rs : List Spot) → TakesOthers p → HasMove m above p makes rs → HasMove changed above p makes rs
  moves above p makes rs unlike (Stops st pe ab mk e) = Stops (stays_state p.state Done tt st) pe ab mk e
  moves above p makes rs unlike (PaysSend r arm place so st found at sv mk e) = PaysSend r arm place so (stays_state p.state (Puts r (arm ∷ [])) tt st) found at sv mk e
  moves above p makes rs unlike (SendsBoth r bs theirs st none ab mk both) = SendsBoth r bs theirs (stays_state p.state (Puts r bs) tt st) none ab mk both
  moves above p makes rs unlike (Guesses r u bs theirs place b st none ab ne ch mk e) = Guesses r u bs theirs place b (stays_state p.state (Puts r bs) tt st) none ab ne ch mk e
  moves above p makes rs unlike (SendsAhead r u bs theirs st none ab mk e) = SendsAhead r u bs theirs (stays_state p.state (Puts r bs) tt st) none ab mk e
  moves above p makes rs unlike (PaysReceive r bs place label so arm st found at ch sv mk e) = elim (receives p.state r bs st) [
    | inr same ↦ PaysReceive r bs place label so arm same found at ch sv mk e
    | inl t ↦ (
        let found' : IsFound p.pending Receiving q place = subst (λ (z : Role). IsFound p.pending Receiving z place) t.1 found in
        let at' : slice_get p.pending place ≡ Some (act.Takes q label so) = subst (λ (z : Role). slice_get p.pending place ≡ Some (act.Takes z label so)) t.1 at in
        let ch' : arm_of arms label ≡ Some arm = subst (λ (z : List Arm). arm_of z label ≡ Some arm) t.2 ch in
        let is = arm_of_is arms label arm ch' in
        let known : label.0 ≢ new.0 = (λ g. fresh.none is.0 arm is.1 (ap (λ (z : Label). z.0) is.2 ∙ g)) in
        PaysReceive q others place label so arm (here p.state t.0) found' at' (found_renamed l new arms label (unlike place label so t.0 found' at') known ∙ ch') sv mk e)
  ]
  moves above p makes rs unlike (ReceivesAhead r u bs theirs st none ab mk e) = elim (receives p.state r bs st) [
    | inr same ↦ ReceivesAhead r u bs theirs same none ab mk e
    | inl t ↦ ReceivesAhead q u others theirs (here p.state t.0) (subst (λ (z : Role). IsAbsent p.pending Receiving z) t.1 none) ab mk e
  ]

  -- what is paid at the state was paid there
  was_paid : (above : Machine_data) (p : Spot) (makes makes2 : Option ℕ) (rs2 : List Spot) (place : ℕ) → p.state ≡ s → IsFound p.pending Receiving q place → makes ≡ Some place
      → HasMove m above p makes2 rs2 → (rs : List Spot) × HasMove m above p makes rs
  was_paid above p makes makes2 rs2 place e found mk (Stops st pe ab mk2 e2) = absurd (takes_some Done tt (at_s p.state Done e st))
  was_paid above p makes makes2 rs2 place e found mk (PaysSend r arm place2 so st found2 at sv mk2 e2) = absurd (takes_some (Puts r (arm ∷ [])) tt (at_s p.state (Puts r (arm ∷ [])) e st))
  was_paid above p makes makes2 rs2 place e found mk (SendsBoth r bs theirs st none ab mk2 both) = absurd (takes_some (Puts r bs) tt (at_s p.state (Puts r bs) e st))
  was_paid above p makes makes2 rs2 place e found mk (Guesses r u bs theirs place2 b st none ab ne ch mk2 e2) = absurd (takes_some (Puts r bs) tt (at_s p.state (Puts r bs) e st))
  was_paid above p makes makes2 rs2 place e found mk (SendsAhead r u bs theirs st none ab mk2 e2) = absurd (takes_some (Puts r bs) tt (at_s p.state (Puts r bs) e st))
  was_paid above p makes makes2 rs2 place e found mk (PaysReceive r bs place2 label so arm st found2 at ch sv mk2 e2) =
      let is : Takes r bs ≡ Takes q arms = at_s p.state (Takes r bs) e st in
      let er : r ≡ q = cc (is) in
      let found2' : IsFound p.pending Receiving q place2 = subst (λ (z : Role). IsFound p.pending Receiving z place2) er found2 in
      let same : At place ≡ At place2 = right.one p.pending Receiving q (At place) (At place2) found found2' in
      let k : place ≡ place2 = cc (same) in
      (rs2, PaysReceive r bs place2 label so arm st found2 at ch sv (mk ∙ ap (λ (z : ℕ). Some z) k) e2)
  was_paid above p makes makes2 rs2 place e found mk (ReceivesAhead r u bs theirs st none ab mk2 e2) =
      let is : Takes r bs ≡ Takes q arms = at_s p.state (Takes r bs) e st in
      let er : r ≡ q = cc (is) in
      let none' : IsAbsent p.pending Receiving q = subst (λ (z : Role). IsAbsent p.pending Receiving z) er none in
      let same : At place ≡ Absent = right.one p.pending Receiving q (At place) Absent found none' in
      absurd (cc (same))

  -- a move of the machine with the new label makes what one of the machine makes
  were_moves : (above : Machine_data) (p : Spot) (makes makes2 : Option ℕ) (rs rs2 : List Spot) → HasMove m above p makes2 rs2 → HasMove changed above p makes rs
      → (rs3 : List Spot) × HasMove m above p makes rs3
  were_moves above p makes makes2 rs rs2 was (Stops st pe ab mk e) = (rs, Stops (was_state p.state Done tt st) pe ab mk e)
  were_moves above p makes makes2 rs rs2 was (PaysSend r arm place so st found at sv mk e) = (rs, PaysSend r arm place so (was_state p.state (Puts r (arm ∷ [])) tt st) found at sv mk e)
  were_moves above p makes makes2 rs rs2 was (SendsBoth r bs theirs st none ab mk both) = (rs, SendsBoth r bs theirs (was_state p.state (Puts r bs) tt st) none ab mk both)
  were_moves above p makes makes2 rs rs2 was (Guesses r u bs theirs place b st none ab ne ch mk e) = (rs, Guesses r u bs theirs place b (was_state p.state (Puts r bs) tt st) none ab ne ch mk e)
  were_moves above p makes makes2 rs rs2 was (SendsAhead r u bs theirs st none ab mk e) = (rs, SendsAhead r u bs theirs (was_state p.state (Puts r bs) tt st) none ab mk e)
  were_moves above p makes makes2 rs rs2 was (PaysReceive r bs place label so arm st found at ch sv mk e) = elim (received p.state r bs st) [
    | inr same ↦ (rs, PaysReceive r bs place label so arm same found at ch sv mk e)
    | inl t ↦ was_paid above p makes makes2 rs2 place t.0 (subst (λ (z : Role). IsFound p.pending Receiving z place) t.1 found) mk was
  ]
  were_moves above p makes makes2 rs rs2 was (ReceivesAhead r u bs theirs st none ab mk e) = elim (received p.state r bs st) [
    | inr same ↦ (rs, ReceivesAhead r u bs theirs same none ab mk e)
    | inl t ↦ (rs, ReceivesAhead q u arms theirs (ap (λ (z : ℕ). slice_get m.states z) t.0 ∙ stands) (subst (λ (z : Role). IsAbsent p.pending Receiving z) t.1 none) ab mk e)
  ]

  -- so a derivation in which no node takes the label at the state is one of the machine with the new label
  derives : (d : Derivation_data) (above : Machine_data) → ((i : ℕ) (n : DNode_data) → slice_get d.nodes i ≡ Some n → TakesOthers (spot_of n)) → IsDerivation d m above → IsDerivation d changed above
  derives d above unlike is = record {
    first = is.first;
    stands = is.stands;
    starts = is.starts;
    each = λ i n at. (let fit = is.each i n at in
        record {
          state = (let k = fit.state in omega (arith, k, size));
          present = fit.present;
          short = fit.short;
          makes = fit.makes;
          results = fit.results;
          move = moves above (spot_of n) fit.makes fit.results (unlike i n at) fit.move;
          named = fit.named;
        });
  }

  remembers : (d : Derivation_data) (above : Machine_data) → IsDerivation d m above → Remembers d m above → Remembers d changed above
  remembers d above is rem = record {
    falls = λ i n makes results at move keeps k j o next to.
        (let fit = is.each i n at in
        let was = were_moves above (spot_of n) makes fit.makes results fit.results fit.move move in
        rem.falls i n makes was.0 at was.1 keeps k j o next to);
  }

  -- and the machine is well formed
  fits : (roles : ℕ) (peer : Role) (bs : List Arm) → StateFits m roles peer bs → StateFits changed roles peer bs
  fits roles peer bs f = record { some = f.some; other = f.other; known = f.known; once = f.once; nexts = λ i a h. (let k = f.nexts i a h in omega (arith, k, size)) }

  once_renamed : (a b : Arm) (i j : ℕ) → slice_get arms i ≡ Some a → slice_get arms j ≡ Some b → (a.label.0 ≡ b.label.0 → i ≡ j) → (renamed l new a).label.0 ≡ (renamed l new b).label.0 → i ≡ j
  once_renamed a b i j ha hb once e = elim (renamed_cases l new a) [
    | inl t ↦ elim (renamed_cases l new b) [
      | inl u ↦ once (t.0 ∙ sym u.0)
      | inr u ↦ absurd (fresh.none j b hb (sym (ap (λ (z : Arm). z.label.0) u.1) ∙ sym e ∙ ap (λ (z : Arm). z.label.0) t.1))
    ]
    | inr t ↦ elim (renamed_cases l new b) [
      | inl u ↦ absurd (fresh.none i a ha (sym (ap (λ (z : Arm). z.label.0) t.1) ∙ e ∙ ap (λ (z : Arm). z.label.0) u.1))
      | inr u ↦ once (sym (ap (λ (z : Arm). z.label.0) t.1) ∙ e ∙ ap (λ (z : Arm). z.label.0) u.1)
    ]
  ]

  some_left : (bs : List Arm) → bs ≢ [] → map (renamed l new) bs ≢ []
  some_left [] h e = h refl
  some_left (a ∷ bs) h e = cc (e)

  fits_here : (roles : ℕ) → StateFits m roles q arms → StateFits changed roles q others
  fits_here roles f = record {
    some = some_left arms f.some;
    other = f.other;
    known = f.known;
    once = λ i j a b ha hb e.
        (let x = map_of (renamed l new) arms i a ha in
        let y = map_of (renamed l new) arms j b hb in
        let same : (renamed l new x.0).label.0 ≡ (renamed l new y.0).label.0 = ap (λ (z : Arm). z.label.0) x.2 ∙ ap (λ (z : Label). z.0) e ∙ ap (λ (z : Arm). z.label.0) (sym y.2) in
        let label : ℕ → Label = λ k. record { 0 = k } in
        once_renamed x.0 y.0 i j x.1 y.1 (λ g. f.once i j x.0 y.0 x.1 y.1 (ap label g)) same);
    nexts = λ i b h.
        (let x = map_of (renamed l new) arms i b h in
        let k = f.nexts i x.0 x.1 in
        let e : b.next ≡ x.0.next = ap (λ (z : Arm). z.next) (sym x.2) ∙ leads_on l new x.0 in
        omega (arith, k, e, size));
  }

  well_formed : (roles : ℕ) → IsWellFormedMachine m roles → IsWellFormedMachine changed roles
  well_formed roles w = record {
    role = w.role;
    start = (let k = w.start in omega (arith, k, size));
    puts = λ t peer bs h. fits roles peer bs (w.puts t peer bs (was_state t (Puts peer bs) tt h));
    takes = λ t peer bs h. takes_fit t peer bs h (eqb_tells t s);
  }
    where
      takes_fit : (t : ℕ) (peer : Role) (bs : List Arm) → slice_get changed.states t ≡ Some (Takes peer bs) → (((t == s) ≡ true) × (t ≡ s)) ⊎ (((t == s) ≡ false) × (t ≢ s)) → StateFits changed roles peer bs
      takes_fit t peer bs h (inl x) =
          let e : Takes q others ≡ Takes peer bs = same_Some (Takes q others) (Takes peer bs) (sym (here t x.1) ∙ h) in
          let ep : q ≡ peer = cc (e) in
          let ea : others ≡ bs = cc (e) in
          subst (λ (z : Role). StateFits changed roles z bs) ep (subst (λ (z : List Arm). StateFits changed roles q z) ea (fits_here roles (w.takes s q arms stands)))
      takes_fit t peer bs h (inr x) = fits roles peer bs (w.takes t peer bs (sym (there t x.1) ∙ h))

-- ---- no node takes the label

none_of : (test : DNode_data → Bool) (nodes : List DNode_data) → list_any test nodes ≡ false → (i : ℕ) (n : DNode_data) → slice_get nodes i ≡ Some n → test n ≡ false
none_of test [] e i n at = absurd (none-some n at)
none_of test (x ∷ nodes) e i n at = go (test x) refl e i at (none_of test nodes)
  where
    go : (b : Bool) → test x ≡ b → (b || list_any test nodes) ≡ false → (i : ℕ) → slice_get (x ∷ nodes) i ≡ Some n
        → (list_any test nodes ≡ false → (j : ℕ) (o : DNode_data) → slice_get nodes j ≡ Some o → test o ≡ false) → test n ≡ false
    go true t f i at later = absurd (cc (f))
    go false t f zero at later = ap test (sym (same_Some x n at)) ∙ t
    go false t f (suc i) at later = later f i n at

equal : (k j : ℕ) → k ≡ j → (k == j) ≡ true
equal k j e = elim (eqb_tells k j) [
  | inl t ↦ t.0
  | inr t ↦ absurd (t.1 e)
]

-- a node that takes a receive that it owes takes its label
takes_found : (s : ℕ) (q : Role) (label : Label) (n : DNode_data) (place : ℕ) (so : Sort) → n.state ≡ s → IsFound n.pending Receiving q place
    → slice_get n.pending place ≡ Some (act.Takes q label so) → takes s q label n ≡ true
takes_found s q label n place so here found at =
    let e : earliest n.pending Receiving q ≡ At place = right.is n.pending Receiving q (At place) found in
    let next : label_next n.pending q ≡ Some label = ap (λ (z : Found). label_found n.pending z) e ∙ ap label_of_act at in
    ap (λ (z : Bool). z && is_label (label_next n.pending q) label) (equal n.state s here) ∙ ap (λ (z : Option Label). is_label z label) next ∙ equal label.0 label.0 refl

abbrev label_of : ℕ → Label
label_of k = record { 0 = k }

-- ---- the session in which role p's machine has the new label

module _ (pr : Protocol_data) (pjs : List Projection_data) (ms : List Machine_data) (ds : List Derivation_data) (session : IsDerivedSession pr pjs ms ds)
    (p s : ℕ) (m : Machine_data) (d : Derivation_data) (q : Role) (arms : List Arm) (l : Label) (runs : slice_get ms p ≡ Some m) (derived : slice_get ds p ≡ Some d)
    (stands : slice_get m.states s ≡ Some (Takes q arms)) (untaken : list_any (takes s q l) d.nodes ≡ false) where
  abbrev new : Label
  new = new_label l arms

  fresh : IsNew l new arms
  fresh = is_new l arms

  abbrev other : Machine_data
  other = changed m s q arms l new stands fresh

  abbrev machines : List Machine_data
  machines = slice_set ms p other

  many : length machines ≡ length ms
  many = length-set ms p other

  in_place : slice_get machines p ≡ Some other
  in_place = set_there ms p other m runs

  elsewhere : (k : ℕ) → k ≢ p → slice_get machines k ≡ slice_get ms k
  elsewhere k ne = set_elsewhere ms p k other ne

  -- a machine is the other one, or is the same
  data Which (k : ℕ) (x : Machine_data) : Type 0 where
    Other : k ≡ p → x ≡ other → Which k x
    Same : slice_get ms k ≡ Some x → Which k x

  which : (k : ℕ) (x : Machine_data) → slice_get machines k ≡ Some x → Which k x
  which k x h = elim (eqb_tells k p) [
    | inl t ↦ Other t.1 (same_Some x other (sym h ∙ ap (λ (z : ℕ). slice_get machines z) t.1 ∙ in_place))
    | inr t ↦ Same (sym (elsewhere k t.1) ∙ h)
  ]

  runs_at : (k : ℕ) → k ≡ p → slice_get ms k ≡ Some m
  runs_at k e = ap (λ (z : ℕ). slice_get ms z) e ∙ runs

  takes_others : (i : ℕ) (n : DNode_data) → slice_get d.nodes i ≡ Some n → (place : ℕ) (label : Label) (so : Sort) → n.state ≡ s → IsFound n.pending Receiving q place
      → slice_get n.pending place ≡ Some (act.Takes q label so) → label.0 ≢ l.0
  takes_others i n at place label so here found paid e =
      let same : label ≡ l = ap label_of e in
      let yes : takes s q l n ≡ true = subst (λ (z : Label). takes s q z n ≡ true) same (takes_found s q label n place so here found paid) in
      let none = none_of (takes s q l) d.nodes untaken i n at in
      cc (yes, none)

  other_fits : AreWellFormed machines
  other_fits = record {
    role = λ k x h. role_at k x (which k x h);
    fits = λ k x h. subst (λ (z : ℕ). IsWellFormedMachine x z) (sym many) (fits_at k x (which k x h));
  }
    where
      role_at : (k : ℕ) (x : Machine_data) → Which k x → x.role.0 ≡ k
      role_at k x (Other e is) = ap (λ (z : Machine_data). z.role.0) is ∙ session.machines_fit.role k m (runs_at k e)
      role_at k x (Same h) = session.machines_fit.role k x h

      fits_at : (k : ℕ) (x : Machine_data) → Which k x → IsWellFormedMachine x (length ms)
      fits_at k x (Other e is) = subst (λ (z : Machine_data). IsWellFormedMachine z (length ms)) (sym is)
          (well_formed m s q arms l new stands fresh (length ms) (session.machines_fit.fits k m (runs_at k e)))
      fits_at k x (Same h) = session.machines_fit.fits k x h

  other_derived : AreDerivations machines pjs ds
  other_derived = record { many = session.derived.many ∙ sym many; each = λ k x j y hx hj hy. derived_at k x j y hj hy (which k x hx) }
    where
      derived_at : (k : ℕ) (x : Machine_data) (j : Projection_data) (y : Derivation_data) → slice_get pjs k ≡ Some j → slice_get ds k ≡ Some y → Which k x
          → IsDerivation y x j.machine × Remembers y x j.machine
      derived_at k x j y hj hy (Same h) = session.derived.each k x j y h hj hy
      derived_at k x j y hj hy (Other e is) =
          let both = session.derived.each k m j y (runs_at k e) hj hy in
          let same : d ≡ y = same_Some d y (sym derived ∙ ap (λ (z : ℕ). slice_get ds z) (sym e) ∙ hy) in
          let free : (i : ℕ) (n : DNode_data) → slice_get y.nodes i ≡ Some n → (place : ℕ) (label : Label) (so : Sort) → n.state ≡ s → IsFound n.pending Receiving q place
          → slice_get n.pending place ≡ Some (act.Takes q label so) → label.0 ≢ l.0
          = λ i n at. takes_others i n (ap (λ (z : Derivation_data). slice_get z.nodes i) same ∙ at) in
          subst (λ (z : Machine_data). IsDerivation y z j.machine × Remembers y z j.machine) (sym is)
          (derives m s q arms l new stands fresh y j.machine free both.0, remembers m s q arms l new stands fresh y j.machine both.0 both.1)

  other_safe : IsSafe machines
  other_safe = safe pr pjs machines ds record {
    well_formed = session.well_formed;
    projected = session.projected;
    a_machine_each = many ∙ session.a_machine_each;
    machines_fit = other_fits;
    derived = other_derived;
  }

  -- nothing brings the label in_place
  at_p : (c : Configuration) (st : State) → slice_get other.states (c.at p) ≡ Some st → state_at machines c p ≡ Some st
  at_p c st h = ap (λ (z : Option Machine_data). state_of z (c.at p)) in_place ∙ h

  never : (c : Configuration) (message : Message) (later : List Message) → IsReachable machines c → c.at p ≡ s → c.queue q.0 p ≡ message ∷ later → message.label.0 ≢ l.0
  never c message later r at old e = other_safe.fits c r record {
    role = p;
    peer = q;
    arms = others m s q arms l new stands fresh;
    message = message;
    later = later;
    takes = at_p c (Takes q (others m s q arms l new stands fresh)) (here m s q arms l new stands fresh (c.at p) at);
    oldest = old;
    no_arm = λ place arm h same sort. none_left l new arms fresh.other place arm h (ap (λ (z : Label). z.0) same ∙ e);
  }

  -- so each step is one of the machines with the new label too
  stays_at : (c : Configuration) (k : ℕ) (st : State) → TakesNone st → state_at ms c k ≡ Some st → state_at machines c k ≡ Some st
  stays_at c k st unlike h = elim (eqb_tells k p) [
    | inr t ↦ ap (λ (z : Option Machine_data). state_of z (c.at k)) (elsewhere k t.1) ∙ h
    | inl t ↦ (
        let known : slice_get m.states (c.at k) ≡ Some st = machine_at ms c k st m h (runs_at k t.1) in
        let on : slice_get other.states (c.at k) ≡ Some st = stays_state m s q arms l new stands fresh (c.at k) st unlike known in
        ap (λ (z : ℕ). state_of (slice_get machines z) (c.at k)) t.1 ∙ ap (λ (z : Option Machine_data). state_of z (c.at k)) in_place ∙ on)
  ]

  received_too : (c e : Configuration) (k : ℕ) → IsReachable machines c → Receives ms c k e → Receives machines c k e
  received_too c e k r st = elim (eqb_tells k p) [
    | inr t ↦ again st.arms st.place st.arm (ap (λ (z : Option Machine_data). state_of z (c.at k)) (elsewhere k t.1) ∙ st.takes) st.follows refl
    | inl t ↦ by_p t.1 (receives m s q arms l new stands fresh (c.at k) st.peer st.arms (machine_at ms c k (Takes st.peer st.arms) m st.takes (runs_at k t.1)))
  ]
    where
      again : (arms' : List Arm) (place : ℕ) (arm : Arm) → state_at machines c k ≡ Some (Takes st.peer arms') → slice_get arms' place ≡ Some arm → arm ≡ st.arm → Receives machines c k e
      again arms' place arm takes' follows same = record {
        peer = st.peer;
        arms = arms';
        place = place;
        arm = arm;
        message = st.message;
        takes = takes';
        removes = st.removes;
        follows = follows;
        same_label = ap (λ (z : Arm). z.label) same ∙ st.same_label;
        has_sort = subst (λ (z : Sort). HasSort st.message.value z) (ap (λ (z : Arm). z.sort) (sym same)) st.has_sort;
        goes = st.goes ∙ ap (λ (z : Arm). z.next) (sym same);
        other_states = st.other_states;
        other_queues = st.other_queues;
      }

      state_is : k ≡ p → (x : State) → slice_get other.states (c.at k) ≡ Some x → state_at machines c k ≡ Some x
      state_is t x h = ap (λ (z : ℕ). state_of (slice_get machines z) (c.at k)) t ∙ ap (λ (z : Option Machine_data). state_of z (c.at k)) in_place ∙ h

      by_p : k ≡ p → ((c.at k ≡ s) × (st.peer ≡ q) × (st.arms ≡ arms)) ⊎ (slice_get other.states (c.at k) ≡ Some (Takes st.peer st.arms)) → Receives machines c k e
      by_p t (inr h) = again st.arms st.place st.arm (state_is t (Takes st.peer st.arms) h) st.follows refl
      by_p t (inl x) =
          let at : c.at p ≡ s = ap (λ (z : ℕ). c.at z) (sym t) ∙ x.0 in
          let old : c.queue q.0 p ≡ st.message ∷ e.queue st.peer.0 k = ap (λ (z : Role). c.queue z.0 p) (sym x.1) ∙ ap (λ (z : ℕ). c.queue st.peer.0 z) (sym t) ∙ st.removes in
          let unlike : st.arm.label.0 ≢ l.0 = λ g. never c st.message (e.queue st.peer.0 k) r at old (ap (λ (z : Label). z.0) (sym st.same_label) ∙ g) in
          let new_arms : slice_get other.states (c.at k) ≡ Some (Takes st.peer (others m s q arms l new stands fresh))
          = here m s q arms l new stands fresh (c.at k) x.0 ∙ ap (λ (z : Role). Some (Takes z (others m s q arms l new stands fresh))) (sym x.1) in
          let follows : slice_get arms st.place ≡ Some st.arm = subst (λ (z : List Arm). slice_get z st.place ≡ Some st.arm) x.2 st.follows in
          let same : renamed l new st.arm ≡ st.arm = stays l new st.arm unlike in
          let found : slice_get (map (renamed l new) arms) st.place ≡ Some st.arm = rw (slice_get-map (renamed l new) arms st.place, follows) (ap (λ (z : Arm). Some z) same) in
          again (others m s q arms l new stands fresh) st.place st.arm (state_is t (Takes st.peer (others m s q arms l new stands fresh)) new_arms) found refl

  step_too : (c e : Configuration) (event : Event) → IsReachable machines c → Step ms c event e → Step machines c event e
  step_too c e (Send role place value) r st = record {
    peer = st.peer;
    arms = st.arms;
    arm = st.arm;
    puts = stays_at c role.0 (Puts st.peer st.arms) tt st.puts;
    picks = st.picks;
    has_sort = st.has_sort;
    goes = st.goes;
    appends = st.appends;
    other_states = st.other_states;
    other_queues = st.other_queues;
  }
  step_too c e (Receive role) r st = received_too c e role.0 r st

  reached_too : (c e : Configuration) (events : List Event) → IsReachable machines c → Steps ms c events e → IsReachable machines e
  reached_too c e [] r steps = subst (IsReachable machines) steps r
  reached_too c e (event ∷ events) r steps =
      let st = step_too c steps.0 event r steps.1 in
      reached_too steps.0 e events record {
        first = r.first;
        events = r.events ++ (event ∷ []);
        starts = r.starts;
        steps = steps_snoc machines r.first r.events c event steps.0 r.steps st;
      } steps.2

  starts_too : (c : Configuration) → StartsAt ms c → StartsAt machines c
  starts_too c st = record { states = λ k x h. start_at k x (which k x h); queues = st.queues }
    where
      start_at : (k : ℕ) (x : Machine_data) → Which k x → c.at k ≡ x.start
      start_at k x (Other e is) = st.states k m (runs_at k e) ∙ ap (λ (z : Machine_data). z.start) (sym is)
      start_at k x (Same h) = st.states k x h

  pub nothing_brings : NothingBrings ms p s q l
  nothing_brings c message later r at old e =
      never c message later (reached_too r.first c r.events record { first = r.first; events = []; starts = starts_too r.first r.starts; steps = refl } r.steps) at old (ap (λ (z : Label). z.0) e)

-- ---- accepted sessions

pub brings_accepted : (session : Accepted_data) (p state : ℕ) (machine : Machine_data) (derivation : Derivation_data) (peer : Role) (arms : List Arm) (label : Label) → IsAcceptedSession session
    → slice_get session.machines p ≡ Some machine → slice_get session.derivations p ≡ Some derivation → slice_get machine.states state ≡ Some (Takes peer arms)
    → list_any (takes state peer label) derivation.nodes ≡ false → NothingBrings session.machines p state peer label
brings_accepted session p state machine derivation peer arms label is runs derived stands untaken =
    nothing_brings session.protocol session.projections session.machines session.derivations (of_accepted session is) p state machine derivation peer arms label runs derived stands untaken

-- an arm of which a line is printed is one that no node takes
not_taken : (taken : Bool) (line : List ℕ) → (if taken then [] else line) ≢ [] → taken ≡ false
not_taken true line h = absurd (h refl)
not_taken false line h = refl

pub brings_told : (bound : ℕ) (bytes : List ℕ) (d : Document_data) (projections : List Projection_data) (machines : List Machine_data) (derivations : List Derivation_data) (p state : ℕ)
    (machine : Machine_data) (derivation : Derivation_data) (peer : Role) (arms : List Arm) (arm : Arm) (at : Option Position) → IsBound bound → SpellsDocument bytes d
    → HasMachines d projections machines → AreCanonical bound machines projections derivations → slice_get machines p ≡ Some machine → slice_get derivations p ≡ Some derivation
    → slice_get machine.states state ≡ Some (Takes peer arms) → unused_arm d.names (name_at d.names.roles p) derivation.nodes state at peer arm ≢ []
    → NothingBrings machines p state peer arm.label
brings_told bound bytes d projections machines derivations p state machine derivation peer arms arm at within spells has found runs derived stands printed =
    let session : Accepted_data = record { protocol = d.protocol; projections = projections; derivations = derivations; machines = machines } in
    let untaken = not_taken (list_any (takes state peer arm.label) derivation.nodes) (unused_line d.names (name_at d.names.roles p) peer arm at) printed in
    brings_accepted session p state machine derivation peer arms arm.label (is_accepted bound bytes d projections machines derivations within spells has found) runs derived stands untaken
