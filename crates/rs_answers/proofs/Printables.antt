-- The derivations that are found for a session can be printed with the names of its document.
use Rattle.std.proofs.Common.{◌≡◌, ◌⊎◌, inl, inr, ℕ, zero, suc, ◌<◌, ◌≤◌, List, [], ◌∷◌, length, map, Bool, true, false, ◌||◌, eqb, cond, Some, get_or, slice_get, refl, sym, ap, ◌∙◌, subst, arith}
use Rattle.std.proofs.lemmas.Bool.{eqb-true}
use Rattle.std.proofs.lemmas.List.Elements.{All-cons, All-nil}
use Rattle.std.proofs.lemmas.Map.Keys.{IsDistinct-cons}
use Rattle.std.proofs.lemmas.Map.Steps.{length-le_from_distinct_below}
use Rattle.std.proofs.lemmas.Option.{none-some, slice_get-get_or, slice_get_within}
use Rattle.std.specs.List.{All, AllByRecursion, IsDistinct, flat_map, list_any}
use Rattle.std.specs.Set.{distinct_count, unique_keys}
use Rattle.rs_derivations.specs.Printable.{IsPrintable, pending_acts, label_number, peer_of}
use Rattle.rs_derive.specs.Data.{DNode_data, Derivation_data}
use Rattle.rs_derive.specs.Derivations.{spot_of}
use Rattle.rs_derive.specs.Moves.{Spot}
use Rattle.rs_documents.specs.Canonical.{ArePrintable, CanBeShown}
use Rattle.rs_documents.specs.Data.{Document_data}
use Rattle.rs_documents.specs.Ready.{DocumentIsReady}
use Rattle.rs_global.specs.Enough.{AreEnough}
use Rattle.rs_graph.proofs.Growth.{at_in}
use Rattle.rs_graph.specs.Lists.{Among}
use Rattle.rs_model.specs.Data.{Names_data, Machine_data, Protocol_data}
use Rattle.rs_model.specs.WellFormed.{IsWellFormedMachine}
use Rattle.rs_model.specs.declared.graph.Arm.{Arm}
use Rattle.rs_model.specs.declared.graph.Label.{Label}
use Rattle.rs_model.specs.declared.graph.Role.{Role}
use Rattle.rs_model.specs.declared.limits.TheConstants.{MOST_BOUND, MOST_LABELS}
use Rattle.rs_model.specs.declared.machines.Act.{Act}
use Rattle.rs_model.specs.declared.machines.State.{State}
use Rattle.rs_model.specs.declared.machines.State.TheVariants.{Puts, Takes}
use Rattle.rs_project.proofs.Choices.{arm_choice}
use Rattle.rs_project.proofs.Machines.{projection_machine}
use Rattle.rs_project.proofs.Numbers.{choice_leads}
use Rattle.rs_project.specs.Data.{Projection_data}
use Rattle.rs_project.specs.Projection.{LabelChoice, IsProjection, IsStateOf, IsDone, IsPuts, IsTakes, LeadsOn, choice_of, merged_choices}
use Rattle.rs_safety.specs.Sessions.{IsSession}
use Rattle.rs_search.proofs.Accepted.{nodes_are_candidates}
use Rattle.rs_search.proofs.Determined.{few_nodes}
use Rattle.rs_search.proofs.Verdicts.{candidate_short}
use Rattle.rs_search.specs.Canonical.{IsCanonical}
use Rattle.rs_wellformed.specs.WellFormed.{IsWellFormed}
use Rattle.rs_answers.specs.Checks.{with_derivations}
use Rattle.rs_answers.specs.Derivations.{AreCanonical}
use Rattle.rs_model.specs.Limits.{IsBound}
use Rattle.rs_answers.specs.Sessions.{HasMachines}
use Rattle.rs_answers.proofs.Derivings.{found_at, session_has}
use Rattle.rs_answers.proofs.Owed.{IsActOf, in_parts, Sends, Receives, owed_acts}

-- the peer and the label of the act have names
pub record IsNamed (names : Names_data) (a : Act) : Type 0 where
  pub peer : peer_of a < length names.roles
  pub label : label_number a < length names.labels

-- a label of a projection is one of its protocol
led_named : (names : Names_data) (pr : Protocol_data) (members : List ℕ) (l : Label) (next : ℕ) → AreEnough names pr → LeadsOn pr members l next → l.0 < length names.labels
led_named names pr members l next enough on =
    subst (λ (z : Label). z.0 < length names.labels) on.its_label
    (enough.labels on.talk on.place on.step.sender on.step.receiver on.step.arms on.step.arm on.step.talks on.step.stands)

arm_named : (names : Names_data) (pr : Protocol_data) (members : List ℕ) (arms : List Arm) (place : ℕ) (arm : Arm) → AreEnough names pr → map choice_of arms ≡ merged_choices pr members
    → slice_get arms place ≡ Some arm
    → arm.label.0 < length names.labels
arm_named names pr members arms place arm enough same at =
    let on = choice_leads pr members (choice_of arm) (subst (λ (z : List LabelChoice). Among z (choice_of arm)) same (arm_choice arms place arm at)) in
    led_named names pr members arm.label on.0 enough on.1

puts_named : (names : Names_data) (pr : Protocol_data) (role : Role) (sets : List (List ℕ)) (members : List ℕ) (peer : Role) (arms : List Arm) (place : ℕ) (arm : Arm) → AreEnough names pr
    → IsStateOf pr role sets members (Puts peer arms)
    → slice_get arms place ≡ Some arm → arm.label.0 < length names.labels
puts_named names pr role sets members peer arms place arm enough (IsDone n e) at = absurd (cc e)
puts_named names pr role sets members peer arms place arm enough (IsTakes r bs n each e are) at = absurd (cc e)
puts_named names pr role sets members peer arms place arm enough (IsPuts r bs n each e are) at =
    let same : bs ≡ arms = cc e in
    arm_named names pr members bs place arm enough are.choices (subst (λ (z : List Arm). slice_get z place ≡ Some arm) (sym same) at)

takes_named : (names : Names_data) (pr : Protocol_data) (role : Role) (sets : List (List ℕ)) (members : List ℕ) (peer : Role) (arms : List Arm) (place : ℕ) (arm : Arm) → AreEnough names pr
    → IsStateOf pr role sets members (Takes peer arms)
    → slice_get arms place ≡ Some arm → arm.label.0 < length names.labels
takes_named names pr role sets members peer arms place arm enough (IsDone n e) at = absurd (cc e)
takes_named names pr role sets members peer arms place arm enough (IsPuts r bs n each e are) at = absurd (cc e)
takes_named names pr role sets members peer arms place arm enough (IsTakes r bs n each e are) at =
    let same : bs ≡ arms = cc e in
    arm_named names pr members bs place arm enough are.choices (subst (λ (z : List Arm). slice_get z place ≡ Some arm) (sym same) at)

-- the state is that of its set
state_of : (pr : Protocol_data) (role : Role) (j : Projection_data) (s : ℕ) (state : State) → IsProjection pr role j → slice_get j.machine.states s ≡ Some state
    → (members : List ℕ) × IsStateOf pr role j.sets members state
state_of pr role j s state is at =
    let within = slice_get_within j.machine.states s state at in
    let all = is.all in
    (get_or j.sets s [], is.states s (get_or j.sets s []) state (slice_get-get_or j.sets s [] (omega (arith, within, all))) at)

-- each act of a projection has names
pub act_named : (names : Names_data) (pr : Protocol_data) (role : Role) (j : Projection_data) → AreEnough names pr → IsProjection pr role j → IsWellFormedMachine j.machine pr.roles → (a : Act)
    → IsActOf j.machine a → IsNamed names a
act_named names pr role j enough is w _ (Sends s place peer arms arm there at) =
    let of = state_of pr role j s (Puts peer arms) is there in
    let known = (w.puts s peer arms there).known in
    let roles = enough.roles in
    record { peer = omega (arith, known, roles); label = puts_named names pr role j.sets of.0 peer arms place arm enough of.1 at }
act_named names pr role j enough is w _ (Receives s place peer arms arm there at) =
    let of = state_of pr role j s (Takes peer arms) is there in
    let known = (w.takes s peer arms there).known in
    let roles = enough.roles in
    record { peer = omega (arith, known, roles); label = takes_named names pr role j.sets of.0 peer arms place arm enough of.1 at }

-- what holds of each item of a list holds of all
pub all_of : {X : Type 0} (P : X → Type 0) (xs : List X) → ((x : X) → Among xs x → P x) → All P xs
all_of P [] h = All-nil P
all_of P (x ∷ xs) h = All-cons P x xs (h x (inl refl)) (all_of P xs (λ y k. h y (inr k)))

-- an act of a derivation is owed at a node
owed_at : (nodes : List DNode_data) (a : Act) → Among (flat_map (λ (n : DNode_data). n.pending) nodes) a → (n : DNode_data) × Among nodes n × Among n.pending a
owed_at [] a h = absurd h
owed_at (n ∷ nodes) a h = elim (in_parts n.pending (flat_map (λ (m : DNode_data). m.pending) nodes) a h) [
  | inl here ↦ (n, inl refl, here)
  | inr later ↦ (let k = owed_at nodes a later in (k.0, inr k.1, k.2))
]

owed_named : (names : Names_data) (pr : Protocol_data) (role : Role) (m : Machine_data) (j : Projection_data) (bound : ℕ) (d : Derivation_data) → AreEnough names pr → IsProjection pr role j
    → IsWellFormedMachine j.machine pr.roles
    → IsCanonical m j.machine bound d → (a : Act) → Among (pending_acts d) a → IsNamed names a
owed_named names pr role m j bound d enough is w found a h =
    let o = owed_at d.nodes a h in
    let at = at_in d.nodes o.0 o.1 in
    act_named names pr role j enough is w a (owed_acts m j.machine bound (spot_of o.0) (nodes_are_candidates m j.machine bound d found.canonical at.0 o.0 at.1) a o.2)

-- numbers below n, each counted once, are n at most
or_both : (a b : Bool) → (a || b) ≡ false → (a ≡ false) × (b ≡ false)
or_both true b h = absurd (cc h)
or_both false b h = (refl, h)

pub or_first : (a b : Bool) → (a || b) ≡ true → (a ≡ true) ⊎ (b ≡ true)
or_first true b h = inl refl
or_first false b h = inr h

same_by : (b c : Bool) (xs : List ℕ) (x q : ℕ) → list_any (eqb x) xs ≡ b → eqb q x ≡ c → list_any (eqb q) (unique_keys eqb xs) ≡ list_any (eqb q) xs
    → list_any (eqb q) (cond b (unique_keys eqb xs) (x ∷ unique_keys eqb xs)) ≡ (c || list_any (eqb q) xs)
same_by true true xs x q m t r = r ∙ ap (λ z. list_any (eqb z) xs) (eqb-true q x t) ∙ m
same_by true false xs x q m t r = r
same_by false c xs x q m t r = ap (λ z. z || list_any (eqb q) (unique_keys eqb xs)) t ∙ ap (λ z. c || z) r

unique_same : (xs : List ℕ) (q : ℕ) → list_any (eqb q) (unique_keys eqb xs) ≡ list_any (eqb q) xs
unique_same [] q = refl
unique_same (x ∷ xs) q = same_by (list_any (eqb x) xs) (eqb q x) xs x q refl refl (unique_same xs q)

absent_apart : (x : ℕ) (ys : List ℕ) → list_any (eqb x) ys ≡ false → AllByRecursion (λ y. eqb x y ≡ false) ys
absent_apart x [] h = tt
absent_apart x (y ∷ ys) h = let k = or_both (eqb x y) (list_any (eqb x) ys) h in (k.0, absent_apart x ys k.1)

distinct_none : IsDistinct eqb []
unfolding IsDistinct
distinct_none = tt

distinct_by : (b : Bool) (xs : List ℕ) (x : ℕ) → list_any (eqb x) xs ≡ b → IsDistinct eqb (unique_keys eqb xs) → IsDistinct eqb (cond b (unique_keys eqb xs) (x ∷ unique_keys eqb xs))
distinct_by true xs x m h = h
distinct_by false xs x m h = IsDistinct-cons eqb x (unique_keys eqb xs) (absent_apart x (unique_keys eqb xs) (unique_same xs x ∙ m)) h

unique_distinct : (xs : List ℕ) → IsDistinct eqb (unique_keys eqb xs)
unique_distinct [] = distinct_none
unique_distinct (x ∷ xs) = distinct_by (list_any (eqb x) xs) xs x refl (unique_distinct xs)

pub few_below : (xs : List ℕ) (n : ℕ) → ((q : ℕ) → list_any (eqb q) xs ≡ true → q < n) → distinct_count eqb xs ≤ n
few_below xs n h = length-le_from_distinct_below (unique_keys eqb xs) n (unique_distinct xs) (λ q e. h q (sym (unique_same xs q) ∙ e))

label_below : (acts : List Act) (n q : ℕ) → ((a : Act) → Among acts a → label_number a < n) → list_any (eqb q) (map label_number acts) ≡ true → q < n
label_below [] n q h e = absurd (cc e)
label_below (a ∷ acts) n q h e = elim (or_first (eqb q (label_number a)) (list_any (eqb q) (map label_number acts)) e) [
  | inl k ↦ subst (λ (z : ℕ). z < n) (sym (eqb-true q (label_number a) k)) (h a (inl refl))
  | inr k ↦ label_below acts n q (λ b m. h b (inr m)) k
]

-- what is found for a role
pub printable : (names : Names_data) (pr : Protocol_data) (role : Role) (m : Machine_data) (j : Projection_data) (bound : ℕ) (d : Derivation_data) → IsWellFormed pr → AreEnough names pr
    → length names.labels ≤ MOST_LABELS
    → role.0 < pr.roles → IsProjection pr role j → m.role ≡ role → IsBound bound → IsCanonical m j.machine bound d → IsPrintable names d
printable names pr role m j bound d wf enough few known is same within found =
    let w = projection_machine pr role j wf known is in
    let named = owed_named names pr role m j bound d enough is w found in
    let own : d.role ≡ role = found.canonical.role ∙ same in
    let roles = enough.roles in
    let labels = few_below (map label_number (pending_acts d)) (length names.labels) (λ q e. label_below (pending_acts d) (length names.labels) q (λ a h. (named a h).label) e) in
    let first = at_first d found in
    let nodes = few_nodes m j.machine bound d found in
    record {
      roles = record {
        role = subst (λ (z : Role). z.0 < length names.roles) (sym own) (omega (arith, known, roles));
        peers = all_of (λ a. peer_of a < length names.roles) (pending_acts d) (λ a h. (named a h).peer);
      };
      labels = all_of (λ a. label_number a < length names.labels) (pending_acts d) (λ a h. (named a h).label);
      few_labels = omega (arith, labels, few);
      short_lists = all_of (λ (n : DNode_data). length n.pending ≤ MOST_BOUND) d.nodes (λ n h.
          let at = at_in d.nodes n h in
          let short : length n.pending ≤ bound = candidate_short m j.machine bound (spot_of n) (nodes_are_candidates m j.machine bound d found.canonical at.0 n at.1) in
          let most = within.1 in
          omega (arith, short, most));
      bound = subst (λ (z : ℕ). (1 ≤ z) × (z ≤ MOST_BOUND)) (sym found.canonical.bound') within;
      some = first;
      nodes = nodes;
    }
  where
    some_nodes : (nodes : List DNode_data) (x : Spot) → slice_get (map (λ (n : DNode_data). spot_of n) nodes) 0 ≡ Some x → 1 ≤ length nodes
    some_nodes [] x e = absurd (none-some x e)
    some_nodes (n ∷ nodes) x e = omega arith

    at_first : (d : Derivation_data) → IsCanonical m j.machine bound d → 1 ≤ length d.nodes
    at_first d f = some_nodes d.nodes _ f.canonical.first

pub there : (ds : List Derivation_data) (k : ℕ) (d : Derivation_data) → slice_get (map Some ds) k ≡ Some (Some d) → slice_get ds k ≡ Some d
there [] k d e = absurd (cc e)
there (x ∷ ds) zero d e = cc e
there (x ∷ ds) (suc k) d e = there ds k d e

-- what is found for each role of a session
all_printable : (names : Names_data) (bound : ℕ) (pr : Protocol_data) (ps : List Projection_data) (ms : List Machine_data) (ds : List Derivation_data) → IsSession pr ps ms → AreEnough names pr
    → length names.labels ≤ MOST_LABELS
    → IsBound bound → AreCanonical bound ms ps ds → ArePrintable names (map Some ds)
all_printable names bound pr ps ms ds s enough few within h k d at =
    let stands = there ds k d at in
    let f = found_at bound pr ps ms ds s h k d stands in
    let lt = slice_get_within ds k d stands in
    let many = h.many in
    let each = s.a_machine_each in
    let role : f.machine.role ≡ record { 0 = k } = ap (λ (n : ℕ). record { 0 = n }) (s.machines_fit.role k f.machine f.runs) in
    printable names pr (record { 0 = k }) f.machine f.projection bound d s.well_formed enough few (omega (arith, lt, many, each))
    (s.projected.each k f.projection f.projects).is_projection role within f.found

-- a document that can be shown can be shown with the derivations that are found for a session of its protocol
pub can_show_session : (bound : ℕ) (d : Document_data) (ps : List Projection_data) (ms : List Machine_data) (ds : List Derivation_data) → IsSession d.protocol ps ms
    → length d.names.labels ≤ MOST_LABELS → CanBeShown d → IsBound bound → AreCanonical bound ms ps ds → CanBeShown (with_derivations d ds)
can_show_session bound d ps ms ds session few shown within found = record {
  sound = shown.sound;
  shaped = shown.shaped;
  enough = shown.enough;
  machines = shown.machines;
  derivations = all_printable d.names bound d.protocol ps ms ds session shown.enough few within found;
}

-- and with those that are found for its own
pub can_show_found : (bound : ℕ) (d : Document_data) (ps : List Projection_data) (ms : List Machine_data) (ds : List Derivation_data) → DocumentIsReady d → CanBeShown d → IsBound bound
    → HasMachines d ps ms → AreCanonical bound ms ps ds → CanBeShown (with_derivations d ds)
can_show_found bound d ps ms ds ready shown within h found = can_show_session bound d ps ms ds (session_has d ps ms ready h) ready.labels shown within found
