-- An improved machine: it's well formed, it has at most 1,024 states where a swap was made, and its messages are those of the machine before.
use Rattle.std.proofs.Common.{◌≡◌, ◌⊎◌, inl, inr, ℕ, ◌<◌, ◌≤◌, ◌≢◌, true, List, [], ◌∷◌, ◌++◌, length, map, eqb, Some, slice_get, refl, sym, ap, ◌∙◌, subst, arith}
use Rattle.std.specs.List.{flat_map, list_any}
use Rattle.std.specs.Set.{distinct_count}
use Rattle.std.proofs.lemmas.Bool.{eqb-true}
use Rattle.std.proofs.lemmas.Bool.Decides.{leb_tells}
use Rattle.rs_derivations.specs.Printable.{label_number, peer_of}
use Rattle.rs_documents.specs.Canonical.{CanBeWritten}
use Rattle.rs_graph.proofs.Growth.{at_in}
use Rattle.rs_graph.specs.Lists.{Among}
use Rattle.rs_improve.specs.Data.{Improved_data}
use Rattle.rs_improve.specs.Improved.{CeasesAt, HasNoSwap, HasTooManyStates, IsAsked, IsImproved, IsRefused}
use Rattle.rs_improve.specs.Swaps.{SwapsTo, SwapsToIn, AsItIs, OnceMore}
use Rattle.rs_improve.specs.declared.improving.Ceased.{Ceased}
use Rattle.rs_improve.specs.declared.improving.Ceased.TheVariants.{TooManyStates}
use Rattle.rs_bodies.specs.declared.dialects.Mark.{Mark}
use Rattle.rs_bodies.specs.declared.dialects.Mark.TheVariants as mark
use Rattle.rs_machines.specs.Machines.{state_by_mark}
use Rattle.rs_model.specs.Data.{Machine_data, Names_data}
use Rattle.rs_model.specs.WellFormed.{IsWellFormedMachine, StateFits}
use Rattle.rs_model.specs.declared.graph.Arm.{Arm}
use Rattle.rs_model.specs.declared.graph.Label.{Label}
use Rattle.rs_model.specs.declared.graph.Role.{Role}
use Rattle.rs_model.specs.declared.limits.TheConstants.{MOST_LABELS, MOST_STATES}
use Rattle.rs_model.specs.declared.machines.Act.{Act}
use Rattle.rs_model.specs.declared.machines.Act.TheVariants as act
use Rattle.rs_model.specs.declared.machines.State.{State}
use Rattle.rs_model.specs.declared.machines.State.TheVariants.{Done, Puts, Takes}
use Rattle.rs_tables.specs.Printable.{IsArmTabled, IsChoiceTabled, IsStateTabled, IsTabled, arms_of, label_numbers}
use Rattle.rs_answers.proofs.Owed.{IsActOf, Receives, Sends}
use Rattle.rs_answers.proofs.Printables.{IsNamed, all_of, few_below, or_first}
use Rattle.rs_improve.proofs.SwapLaws.{swapped_well_formed}
use Rattle.rs_improve.proofs.Messages.{swapped_many, swapped_sends, swapped_takes}

-- ---- swapped several times

pub well_formed_in : (m roles : ℕ) (above machine : Machine_data) → SwapsToIn m above machine → IsWellFormedMachine above roles → IsWellFormedMachine machine roles
well_formed_in _ roles _ _ (AsItIs a) w = w
well_formed_in _ roles _ _ (OnceMore n a before after steps last) w = swapped_well_formed before after roles (well_formed_in n roles a before steps w) last

pub role_in : (m : ℕ) (above machine : Machine_data) → SwapsToIn m above machine → machine.role ≡ above.role
role_in _ _ _ (AsItIs a) = refl
role_in _ _ _ (OnceMore n a before after steps last) = last.is_swapped.role ∙ role_in n a before steps

-- a machine that was swapped starts at 0
pub start_in : (m : ℕ) (above machine : Machine_data) → SwapsToIn m above machine → above.start ≡ 0 → machine.start ≡ 0
start_in _ _ _ (AsItIs a) e = e
start_in _ _ _ (OnceMore n a before after steps last) e = last.is_swapped.start

-- a machine that wasn't is the one before
pub none_in : (m : ℕ) (above machine : Machine_data) → SwapsToIn m above machine → m ≡ 0 → machine ≡ above
none_in _ _ _ (AsItIs a) e = refl
none_in _ _ _ (OnceMore n a before after steps last) e = absurd (cc e)

-- ---- acts

-- the machine has an act with the peer and the label of this one
pub record HasMessage (m : Machine_data) (a : Act) : Type 0 where
  pub own : Act
  pub is_act : IsActOf m own
  pub peer : peer_of own ≡ peer_of a
  pub label : label_number own ≡ label_number a

own_message : (m : Machine_data) (a : Act) → IsActOf m a → HasMessage m a
own_message m a is = record { own = a; is_act = is; peer = refl; label = refl }

swapped_message : (machine swapped : Machine_data) → SwapsTo machine swapped → (a : Act) → IsActOf swapped a → HasMessage machine a
swapped_message machine swapped s _ (Sends n k peer arms arm there at) =
    let h = swapped_sends machine swapped s n k peer arms arm there at in
    record { own = act.Puts peer h.own.label h.own.sort; is_act = Sends h.state h.place peer h.theirs h.own h.stands h.at; peer = refl; label = ap (λ (l : Label). l.0) h.label }
swapped_message machine swapped s _ (Receives n k peer arms arm there at) =
    let h = swapped_takes machine swapped s n k peer arms arm there at in
    record { own = act.Takes peer h.own.label h.own.sort; is_act = Receives h.state h.place peer h.theirs h.own h.stands h.at; peer = refl; label = ap (λ (l : Label). l.0) h.label }

pub message_in : (m : ℕ) (above machine : Machine_data) → SwapsToIn m above machine → (a : Act) → IsActOf machine a → HasMessage above a
message_in _ _ _ (AsItIs x) a is = own_message x a is
message_in _ _ _ (OnceMore n x before after steps last) a is =
    let one = swapped_message before after last a is in
    let first = message_in n x before steps one.own one.is_act in
    record { own = first.own; is_act = first.is_act; peer = first.peer ∙ one.peer; label = first.label ∙ one.label }

-- so its acts have names where those of the machine before have
pub named_in : (names : Names_data) (m : ℕ) (above machine : Machine_data) → SwapsToIn m above machine → ((a : Act) → IsActOf above a → IsNamed names a) → (a : Act) → IsActOf machine a → IsNamed names a
named_in names m above machine steps named a is =
    let h = message_in m above machine steps a is in
    let n = named h.own h.is_act in
    record { peer = subst (λ (k : ℕ). k < length names.roles) h.peer n.peer; label = subst (λ (k : ℕ). k < length names.labels) h.label n.label }

-- ---- how many states

-- what doesn't have more states than it may have has few
few_once : (after : Machine_data) → (MOST_STATES < length after.states → ⊥) → length after.states ≤ MOST_STATES
few_once after never = elim (leb_tells (length after.states) MOST_STATES) [ inl few ↦ few.1 | inr more ↦ absurd (never (let m = more.1 in omega (arith, m))) ]

few_by : (above : Machine_data) (bound asked : ℕ) (i : Improved_data) → IsImproved above bound asked i → (m : ℕ) (machine : Machine_data) → SwapsToIn m above machine → m ≡ i.swaps → i.swaps ≤ asked
    → length above.states ≤ MOST_STATES → length machine.states ≤ MOST_STATES
few_by above bound asked i h _ _ (AsItIs a) e le few = few
few_by above bound asked i h _ _ (OnceMore n a before after steps last) e le few =
    few_once after (λ more. h.least n before TooManyStates (omega (arith, e)) steps (HasTooManyStates (omega (arith, e, le)) (swapped_many before after last more)))

not_more : (above : Machine_data) (bound asked m : ℕ) (machine : Machine_data) (reason : Ceased) → CeasesAt above bound asked m machine reason → m ≤ asked
not_more above bound asked m machine _ (IsAsked e) = omega (arith, e)
not_more above bound asked m machine _ (HasNoSwap lt none) = omega (arith, lt)
not_more above bound asked m machine _ (HasTooManyStates lt many) = omega (arith, lt)
not_more above bound asked m machine _ (IsRefused next why reason lt s few r e) = omega (arith, lt)

pub few_states_of : (above : Machine_data) (bound asked : ℕ) (i : Improved_data) → IsImproved above bound asked i → length above.states ≤ MOST_STATES → length i.machine.states ≤ MOST_STATES
few_states_of above bound asked i h few = few_by above bound asked i h i.swaps i.machine h.swapped refl (not_more above bound asked i.swaps i.machine i.ceased h.ceases) few

-- ---- the machine has a table

arms_below : (arms : List Arm) (n q : ℕ) → ((a : Arm) → Among arms a → a.label.0 < n) → list_any (eqb q) (map (λ (a : Arm). a.label.0) arms) ≡ true → q < n
arms_below [] n q h e = absurd (cc e)
arms_below (a ∷ arms) n q h e = elim (or_first (eqb q a.label.0) (list_any (eqb q) (map (λ (b : Arm). b.label.0) arms)) e) [
  | inl k ↦ subst (λ (z : ℕ). z < n) (sym (eqb-true q a.label.0 k)) (h a (inl refl))
  | inr k ↦ arms_below arms n q (λ b m. h b (inr m)) k
]

in_either : (xs ys : List Arm) (a : Arm) → Among (xs ++ ys) a → Among xs a ⊎ Among ys a
in_either [] ys a h = inr h
in_either (x ∷ xs) ys a (inl e) = inl (inl e)
in_either (x ∷ xs) ys a (inr h) = elim (in_either xs ys a h) [ inl l ↦ inl (inr l) | inr r ↦ inr r ]

-- an arm of the machine is one of a state
of_state : (states : List State) (a : Arm) → Among (flat_map arms_of states) a → (s : State) × Among states s × Among (arms_of s) a
of_state [] a h = absurd h
of_state (s ∷ states) a h = elim (in_either (arms_of s) (flat_map arms_of states) a h) [
  | inl here ↦ (s, inl refl, here)
  | inr later ↦ (let k = of_state states a later in (k.0, inr k.1, k.2))
]

some_arms : (arms : List Arm) → arms ≢ [] → 1 ≤ length arms
some_arms [] never = absurd (never refl)
some_arms (a ∷ arms) never = omega arith

module _ (names : Names_data) (m : Machine_data) (roles : ℕ) (w : IsWellFormedMachine m roles) (size : length names.roles ≡ roles) (start : m.start ≡ 0) (few : length m.states ≤ MOST_STATES)
    (labels : length names.labels ≤ MOST_LABELS) (named : (a : Act) → IsActOf m a → IsNamed names a) where
  choice_tabled : (peer : Role) (arms : List Arm) → StateFits m roles peer arms → ((k : ℕ) (arm : Arm) → slice_get arms k ≡ Some arm → arm.label.0 < length names.labels) → IsChoiceTabled names peer arms
  choice_tabled peer arms fits labelled = record {
    has_name = (let k = fits.known in omega (arith, k, size));
    some = some_arms arms fits.some;
    each = all_of (IsArmTabled names) arms (λ arm among.
        let at = at_in arms arm among in
        let next = fits.nexts at.0 arm at.1 in
        record { label = labelled at.0 arm at.1; next = omega (arith, next, few) });
  }

  state_tabled : (n : ℕ) (s : State) → slice_get m.states n ≡ Some s → IsStateTabled names s
  state_tabled n Done e = tt
  state_tabled n (Puts peer arms) e = choice_tabled peer arms (w.puts n peer arms e) (λ k arm at. (named (act.Puts peer arm.label arm.sort) (Sends n k peer arms arm e at)).label)
  state_tabled n (Takes peer arms) e = choice_tabled peer arms (w.takes n peer arms e) (λ k arm at. (named (act.Takes peer arm.label arm.sort) (Receives n k peer arms arm e at)).label)

  arm_labelled : (n : ℕ) (s : State) → slice_get m.states n ≡ Some s → (a : Arm) → Among (arms_of s) a → a.label.0 < length names.labels
  arm_labelled n Done e a among = absurd among
  arm_labelled n (Puts peer arms) e a among = let at = at_in arms a among in (named (act.Puts peer a.label a.sort) (Sends n at.0 peer arms a e at.1)).label
  arm_labelled n (Takes peer arms) e a among = let at = at_in arms a among in (named (act.Takes peer a.label a.sort) (Receives n at.0 peer arms a e at.1)).label

  few_labels : distinct_count eqb (label_numbers m) ≤ MOST_LABELS
  few_labels =
      let below = few_below (label_numbers m) (length names.labels) (λ q e. arms_below (flat_map arms_of m.states) (length names.labels) q (λ a among.
      let of = of_state m.states a among in
      let at = at_in m.states of.0 of.1 in
      arm_labelled at.0 of.0 at.1 a of.2) e) in
      omega (arith, below, labels)

  own_role : m.role.0 < length names.roles
  own_role = let low = w.role in omega (arith, low, size)

  tabled : IsTabled names m
  tabled = record {
    start = start;
    some = (let s = w.start in omega (arith, s));
    bounded = few;
    role = own_role;
    states = all_of (IsStateTabled names) m.states (λ s among. let at = at_in m.states s among in state_tabled at.0 s at.1);
    few_labels = few_labels;
  }

  peer_known : (n : ℕ) (k : Mark) (peer : Role) (arms : List Arm) → slice_get m.states n ≡ Some (state_by_mark k peer arms) → peer.0 < length names.roles
  peer_known n mark.Puts peer arms e = let known = (w.puts n peer arms e).known in omega (arith, known, size)
  peer_known n mark.Takes peer arms e = let known = (w.takes n peer arms e).known in omega (arith, known, size)

  label_known : (n place : ℕ) (k : Mark) (peer : Role) (arms : List Arm) (arm : Arm) → slice_get m.states n ≡ Some (state_by_mark k peer arms) → slice_get arms place ≡ Some arm
      → arm.label.0 < length names.labels
  label_known n place mark.Puts peer arms arm e at = (named (act.Puts peer arm.label arm.sort) (Sends n place peer arms arm e at)).label
  label_known n place mark.Takes peer arms arm e at = (named (act.Takes peer arm.label arm.sort) (Receives n place peer arms arm e at)).label

  pub has_a_table : CanBeWritten names m
  has_a_table = record { enough = record { role = own_role; peers = peer_known; labels = label_known }; shaped = inr tabled }
