-- The states of a projection by the labels that lead to them.
use Rattle.std.proofs.Common.{◌≡◌, ◌↔◌, ◌⊎◌, inl, inr, ℕ, zero, suc, ◌+◌, ◌<◌, ◌≤◌, List, [], ◌∷◌, map, length, Some, slice_get, refl, sym, ap, ◌∙◌, subst, subst₂, arith}
use Rattle.std.specs.List.{Contains}
use Rattle.std.proofs.lemmas.Bool.Decides.{eqb_tells}
use Rattle.rs_model.specs.Data.{Protocol_data}
use Rattle.rs_model.specs.declared.graph.Arm.{Arm}
use Rattle.rs_model.specs.declared.graph.Label.{Label}
use Rattle.rs_model.specs.declared.graph.Role.{Role}
use Rattle.rs_model.specs.declared.machines.State.{State}
use Rattle.rs_model.specs.declared.machines.State.TheVariants.{Done, Puts, Takes}
use Rattle.rs_project.specs.Data.{Projection_data}
use Rattle.rs_project.specs.Graph.{MeetsFirst, MeetsTheEnd}
use Rattle.rs_graph.specs.Order.{Numbered, NoMore, Known, New, Worked, AllDone, Next}
use Rattle.rs_project.specs.Numbered.{IsNumberedProjection, nexts_of, nexts_behind}
use Rattle.rs_project.specs.Projection.{IsSet, IsStateOf, IsDone, IsPuts, IsTakes, IsProjection, MeetsBehind, EndsBehind}
use Rattle.rs_project.specs.Reached.{arms_behind, StateLeads, LeadToState, MeetsAfter, EndsAfter}

-- a number after a row is known before or stands in the row
in_row : (known after n : ℕ) (row : List ℕ) → Numbered known row after → n < after → (n < known) ⊎ ((place : ℕ) × (slice_get row place ≡ Some n) × (known ≤ n))
in_row known after n [] (NoMore k) lt = inl lt
in_row known after n (m ∷ row) (Known k m' after' row' known-m rest) lt = elim (in_row known after n row rest lt) [
  | inl before ↦ inl before
  | inr there ↦ inr (suc there.0, there.1, there.2)
]
in_row known after n (m ∷ row) (New k after' row' rest) lt = elim (in_row (suc known) after n row rest lt) [
  | inl before ↦
      elim (eqb_tells n known) [
        | inl same ↦ let e = same.1 in inr (0, ap Some (sym e), omega (arith, e))
        | inr other ↦ inl (less before other.1)
      ]
  | inr there ↦ let more = there.2 in inr (suc there.0, there.1, omega (arith, more))
]
  where
    less : n < suc known → (n ≡ known → ⊥) → n < known
    less below apart = omega (arith, below, apart)

-- a number after rows is known before or stands in a row with a lesser number
in_rows : (k known after n : ℕ) (rows : List (List ℕ)) → Worked k known rows after → n < after
    → (n < known) ⊎ ((i : ℕ) × (row : List ℕ) × (slice_get rows i ≡ Some row) × (place : ℕ) × (slice_get row place ≡ Some n) × (k + i < n))
in_rows k known after n [] (AllDone k' known') lt = inl lt
in_rows k known after n (row ∷ rows) (Next k' known' mid after' row' rows' there numbered rest) lt =
    elim (in_rows (suc k) mid after n rows rest lt) [
      | inl before ↦
          elim (in_row known mid n row numbered before) [
            | inl earlier ↦ inl earlier
            | inr at ↦ let least = at.2 in inr (0, row, refl, at.0, at.1, omega (arith, least, there))
          ]
      | inr later ↦ let least = later.5 in inr (suc later.0, later.1, later.2, later.3, later.4, omega (arith, least))
    ]

-- the state of a row
state_at : (states : List State) (i : ℕ) (row : List ℕ) → slice_get (map nexts_behind states) i ≡ Some row → (state : State) × (slice_get states i ≡ Some state) × (nexts_behind state ≡ row)
state_at [] i row e = absurd (cc (e))
state_at (x ∷ states) zero row e = (x, refl, cc (e))
state_at (x ∷ states) (suc i) row e = state_at states i row e

arm_of : (arms : List Arm) (place n : ℕ) → slice_get (nexts_of arms) place ≡ Some n → (arm : Arm) × (slice_get arms place ≡ Some arm) × (arm.next ≡ n)
arm_of [] place n e = absurd (cc (e))
arm_of (a ∷ arms) zero n e = (a, refl, cc (e))
arm_of (a ∷ arms) (suc place) n e = arm_of arms place n e

nexts_are : (state : State) → nexts_behind state ≡ nexts_of (arms_behind state)
nexts_are Done = refl
nexts_are (Puts peer arms) = refl
nexts_are (Takes peer arms) = refl

reached_below : (protocol : Protocol_data) (role : Role) (p : Projection_data) → IsNumberedProjection protocol role p → (bound n : ℕ) → n < bound → n < length p.sets
    → (labels : List Label) × LeadToState p labels n
reached_below protocol role p h zero n low lt = absurd (omega arith)
reached_below protocol role p h (suc bound) n low lt = elim (in_rows 0 1 (length p.sets) n (map nexts_behind p.machine.states) h.order lt) [
  | inl first ↦ ([], omega arith)
  | inr later ↦
      let i = later.0 in
      let near = later.5 in
      let least : i < n = omega (arith, near) in
      let state = state_at p.machine.states i later.1 later.2 in
      let row : slice_get (nexts_of (arms_behind state.0)) later.3 ≡ Some n = subst (λ (r : List ℕ). slice_get r later.3 ≡ Some n) (sym state.2 ∙ nexts_are state.0) later.4 in
      let arm = arm_of (arms_behind state.0) later.3 n row in
      let way = reached_below protocol role p h bound i (omega arith) (omega arith) in
      let leads : StateLeads p i arm.0.label n = record { state = state.0; present = state.1; place = later.3; arm = arm.0; stands = arm.1; its_label = refl; leads = arm.2 } in
      let all : LeadToState p (arm.0.label ∷ way.0) n = (i, way.1, leads) in (arm.0.label ∷ way.0, all)
]

pub is_reached : (protocol : Protocol_data) (role : Role) (p : Projection_data) (n : ℕ) → IsNumberedProjection protocol role p → n < length p.machine.states
    → (labels : List Label) × LeadToState p labels n
is_reached protocol role p n h lt =
    let all = h.is_projection.all in
    reached_below protocol role p h (suc n) n (omega arith) (omega arith)

-- the set after an arm
behind_arm : (protocol : Protocol_data) (role : Role) (sets : List (List ℕ)) (members : List ℕ) (state : State) (place : ℕ) (arm : Arm) → IsStateOf protocol role sets members state
    → slice_get (arms_behind state) place ≡ Some arm
    → IsSet sets arm.next (MeetsBehind protocol role members arm.label) (EndsBehind protocol role members arm.label)
behind_arm protocol role sets members state place arm (IsDone none is) e =
    let P : State → Type 0 = λ s. slice_get (arms_behind s) place ≡ Some arm in
    let nothing = subst P is e in absurd (cc (nothing))
behind_arm protocol role sets members state place arm (IsPuts peer arms some each is of) e =
    let P : State → Type 0 = λ s. slice_get (arms_behind s) place ≡ Some arm in
    of.nexts place arm (subst P is e)
behind_arm protocol role sets members state place arm (IsTakes peer arms some each is of) e =
    let P : State → Type 0 = λ s. slice_get (arms_behind s) place ≡ Some arm in
    of.nexts place arm (subst P is e)

-- one label more
set_behind : (protocol : Protocol_data) (role : Role) (sets : List (List ℕ)) (from to : ℕ) (label : Label) (labels : List Label)
    (one : IsSet sets from (MeetsAfter protocol role labels) (EndsAfter protocol role labels))
    → IsSet sets to (MeetsBehind protocol role one.members label) (EndsBehind protocol role one.members label)
    → IsSet sets to (MeetsAfter protocol role (label ∷ labels)) (EndsAfter protocol role (label ∷ labels))
set_behind protocol role sets from to label labels one other = record {
  members = other.members;
  stands = other.stands;
  rising = other.rising;
  talks = λ talk. (
    λ m.
        let h = (other.talks talk).0 m in
        let by = h.1 in (by.talk, h.0, (one.talks by.talk).0 by.member, record { place = by.place; step = by.step; its_label = by.its_label }, h.2),
    λ h.
        let by = h.3 in (other.talks talk).1 (h.1, record { talk = h.0; member = (one.talks h.0).1 h.2; place = by.place; step = by.step; its_label = by.its_label }, h.4),
  );
  ends = (
    λ m.
        let h = other.ends.0 m in
        let by = h.1 in (by.talk, h.0, (one.talks by.talk).0 by.member, record { place = by.place; step = by.step; its_label = by.its_label }, h.2),
    λ h.
        let by = h.3 in other.ends.1 (h.1, record { talk = h.0; member = (one.talks h.0).1 h.2; place = by.place; step = by.step; its_label = by.its_label }, h.4),
  );
}

set_after : (protocol : Protocol_data) (role : Role) (p : Projection_data) → IsProjection protocol role p → (labels : List Label) (n : ℕ) → LeadToState p labels n
    → IsSet p.sets n (MeetsAfter protocol role labels) (EndsAfter protocol role labels)
set_after protocol role p h [] n e =
    let P : ℕ → Type 0 = λ z. IsSet p.sets z (MeetsFirst protocol role protocol.root) (MeetsTheEnd protocol role protocol.root) in
    subst P (sym e) h.first
set_after protocol role p h (label ∷ labels) n way =
    let from = way.0 in
    let by = way.2 in
    let one = set_after protocol role p h labels from way.1 in
    let of = h.states from one.members by.state one.stands by.present in
    let other = behind_arm protocol role p.sets one.members by.state by.place by.arm of by.stands in
    let P : Label → ℕ → Type 0 = λ l z. IsSet p.sets z (MeetsBehind protocol role one.members l) (EndsBehind protocol role one.members l) in
    set_behind protocol role p.sets from n label labels one (subst₂ P by.its_label by.leads other)

same_members : (protocol : Protocol_data) (role : Role) (sets : List (List ℕ)) (labels : List Label) (n : ℕ) (members : List ℕ)
    (set : IsSet sets n (MeetsAfter protocol role labels) (EndsAfter protocol role labels))
    → slice_get sets n ≡ Some members → set.members ≡ members
same_members protocol role sets labels n members set e =
    let is = set.stands in cc (is, e)

pub members_are_met : (protocol : Protocol_data) (role : Role) (p : Projection_data) (labels : List Label) (n : ℕ) (members : List ℕ) → IsProjection protocol role p → LeadToState p labels n
    → slice_get p.sets n ≡ Some members
    → (talk : ℕ) → Contains members talk ↔ MeetsAfter protocol role labels talk
members_are_met protocol role p labels n members h way e talk =
    let set = set_after protocol role p h labels n way in
    let P : List ℕ → Type 0 = λ z. Contains z talk ↔ MeetsAfter protocol role labels talk in
    subst P (same_members protocol role p.sets labels n members set e) (set.talks talk)

pub end_is_met : (protocol : Protocol_data) (role : Role) (p : Projection_data) (labels : List Label) (n : ℕ) (members : List ℕ) → IsProjection protocol role p → LeadToState p labels n
    → slice_get p.sets n ≡ Some members
    → (members ≡ []) ↔ EndsAfter protocol role labels
end_is_met protocol role p labels n members h way e =
    let set = set_after protocol role p h labels n way in
    let P : List ℕ → Type 0 = λ z. (z ≡ []) ↔ EndsAfter protocol role labels in
    subst P (same_members protocol role p.sets labels n members set e) set.ends
