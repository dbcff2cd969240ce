-- The session of a document where a role has an improved machine.
use Rattle.std.proofs.Common.{◌≡◌, ◌⊎◌, inl, inr, ℕ, zero, suc, ◌<◌, ◌≤◌, ◌≢◌, ◌==◌, Bool, true, false, cond, List, [], ◌∷◌, length, map, Option, Some, None, slice_get, slice_set, refl, sym, ap, ◌∙◌, subst, arith}
use Rattle.std.proofs.lemmas.Bool.{eqb-true}
use Rattle.std.proofs.lemmas.List.{length-map}
use Rattle.std.proofs.lemmas.Option.{same_Some, slice_get_within}
use Rattle.rs_bodies.proofs.Few.{spelt_few}
use Rattle.rs_bodies.specs.Places.{place_of_state}
use Rattle.rs_bodies.specs.declared.dialects.Dialect.TheVariants.{Acts}
use Rattle.rs_derive.specs.Data.{Derivation_data}
use Rattle.rs_documents.proofs.Parts.{set_size}
use Rattle.rs_documents.proofs.SpeltSessions.{IsSpeltSession}
use Rattle.rs_documents.specs.Again.{CanBeReadAgain}
use Rattle.rs_documents.specs.Canonical.{AreShown, CanBePrinted, CanBeShown, CanBeWritten}
use Rattle.rs_documents.specs.Data.{Document_data}
use Rattle.rs_documents.specs.Ready.{AreInPlace}
use Rattle.rs_improve.specs.Data.{Improved_data}
use Rattle.rs_improve.specs.Improved.{IsImproved}
use Rattle.rs_machines.proofs.Places.{spelt}
use Rattle.rs_machines.specs.Canonical.{IsMachineTextShaped}
use Rattle.rs_model.specs.Data.{Machine_data, Names_data}
use Rattle.rs_model.specs.Limits.{IsBound}
use Rattle.rs_model.specs.WellFormed.{IsWellFormedMachine}
use Rattle.rs_model.specs.declared.graph.Role.{Role}
use Rattle.rs_model.specs.declared.limits.TheConstants.{MOST_LABELS, MOST_STATES}
use Rattle.rs_model.specs.declared.machines.Act.{Act}
use Rattle.rs_project.proofs.Machines.{projection_machine}
use Rattle.rs_project.specs.Data.{Projection_data}
use Rattle.rs_project.specs.Projection.{IsProjection}
use Rattle.rs_safety.specs.Sessions.{IsSession}
use Rattle.rs_search.specs.Canonical.{IsCanonical}
use Rattle.rs_tables.specs.Printable.{IsTabled}
use Rattle.rs_answers.specs.Derivations.{AreCanonical}
use Rattle.rs_answers.specs.Improves.{improved_document, machine_if_swapped, with_own}
use Rattle.rs_answers.specs.Sessions.{HasMachines, machine_or, machines_of}
use Rattle.rs_answers.proofs.Derivings.{IsChosen, chosen, each_fits, session_of}
use Rattle.rs_answers.proofs.EachRole.{chosen_size, few_states}
use Rattle.rs_answers.proofs.ImprovedMachines.{few_states_of, has_a_table, named_in, none_in, role_in, start_in, well_formed_in}
use Rattle.rs_answers.proofs.Owed.{IsActOf}
use Rattle.rs_answers.proofs.Printables.{IsNamed, act_named, can_show_session}
use Rattle.rs_answers.proofs.ReadAgain.{none_refused}

-- ---- a list with another item at a place

pub set_here : {A : Type 0} (xs : List A) (p : ℕ) (x : A) → p < length xs → slice_get (slice_set xs p x) p ≡ Some x
set_here [] p x lt = absurd (omega arith)
set_here (y ∷ ys) zero x lt = refl
set_here (y ∷ ys) (suc p) x lt = set_here ys p x (omega arith)

-- set again, only the later item stands
pub set_again : {A : Type 0} (xs : List A) (p : ℕ) (x y : A) → slice_set (slice_set xs p x) p y ≡ slice_set xs p y
set_again [] p x y = refl
set_again (z ∷ zs) zero x y = refl
set_again {A} (z ∷ zs) (suc p) x y = ap (λ (l : List A). z ∷ l) (set_again zs p x y)

-- an item that stands there already changes nothing
pub set_as_it_is : {A : Type 0} (xs : List A) (p : ℕ) (x : A) → slice_get xs p ≡ Some x → slice_set xs p x ≡ xs
set_as_it_is [] p x e = refl
set_as_it_is {A} (y ∷ ys) zero x e = ap (λ (z : A). z ∷ ys) (sym (same_Some y x e))
set_as_it_is {A} (y ∷ ys) (suc p) x e = ap (λ (l : List A). y ∷ l) (set_as_it_is ys p x e)

-- what stands at a place: the new item at its own, and each other one where it stood
pub set_places : {A : Type 0} (xs : List A) (p : ℕ) (x : A) (q : ℕ) (y : A) → slice_get (slice_set xs p x) q ≡ Some y → ((q ≡ p) × (x ≡ y)) ⊎ ((q ≢ p) × (slice_get xs q ≡ Some y))
set_places [] p x q y e = absurd cc
set_places (z ∷ zs) zero x zero y e = inl (refl, same_Some x y e)
set_places (z ∷ zs) zero x (suc q) y e = inr (λ h. cc, e)
set_places (z ∷ zs) (suc p) x zero y e = inr (λ h. cc, e)
set_places (z ∷ zs) (suc p) x (suc q) y e = elim (set_places zs p x q y e) [
  | inl here ↦ inl (ap suc here.0, here.1)
  | inr other ↦ inr (λ h. other.0 (omega (arith, h)), other.1)
]

-- what holds at each place of a list, and of the new item, holds at each place
pub set_each : {A : Type 0} (P : ℕ → A → Type 0) (xs : List A) (p : ℕ) (x : A) → ((q : ℕ) (y : A) → slice_get xs q ≡ Some y → P q y) → P p x → (q : ℕ) (y : A) → slice_get (slice_set xs p x) q ≡ Some y
    → P q y
set_each {A} P xs p x all own q y e = elim (set_places xs p x q y e) [
  | inl here ↦ subst (λ (z : A). P q z) here.1 (subst (λ (k : ℕ). P k x) (sym here.0) own)
  | inr other ↦ all q y other.1
]

-- ---- the machines of a session

pub machines_set : (own : List (Option Machine_data)) (ps : List Projection_data) (p : ℕ) (j : Projection_data) (o : Option Machine_data) → slice_get ps p ≡ Some j
    → machines_of (slice_set own p o) ps ≡ slice_set (machines_of own ps) p (machine_or o j)
machines_set [] ps p j o at = refl
machines_set (x ∷ own) [] p j o at = absurd cc
machines_set (x ∷ own) (i ∷ ps) zero j o at = ap (λ (z : Projection_data). machine_or o z ∷ machines_of own ps) (same_Some i j at)
machines_set (x ∷ own) (i ∷ ps) (suc p) j o at = ap (λ (z : List Machine_data). machine_or x i ∷ z) (machines_set own ps p j o at)

-- what stands in its place without the role's own machine does so with one that is in its place
pub in_place_with : (machines : List (Option Machine_data)) (p : ℕ) (o : Option Machine_data) → AreInPlace machines → ((m : Machine_data) → o ≡ Some m → m.role.0 ≡ p) → AreInPlace (slice_set machines p o)
in_place_with machines p o all own k m e = elim (set_places machines p o k (Some m) e) [
  | inl here ↦ own m here.1 ∙ sym here.0
  | inr other ↦ all k m other.1
]

pub spelt_with : (d : Document_data) (p : ℕ) (o : Option Machine_data) → IsSpeltSession d → ((m : Machine_data) → o ≡ Some m → m.role.0 ≡ p) → IsSpeltSession (with_own d p o)
spelt_with d p o spelt own = record {
  two = spelt.two;
  bounded = spelt.bounded;
  roles = spelt.roles;
  one_each = set_size d.machines p o ∙ spelt.one_each;
  in_place = in_place_with d.machines p o spelt.in_place own;
  a_derivation_each = spelt.a_derivation_each;
  derivations_in_place = spelt.derivations_in_place;
}

pub spelt_without : (d : Document_data) (p : ℕ) → IsSpeltSession d → IsSpeltSession (with_own d p None)
spelt_without d p spelt = spelt_with d p None spelt (λ m e. absurd cc)

-- ---- machines that can be shown

pub shown_with : (names : Names_data) (machines : List (Option Machine_data)) (p : ℕ) (o : Option Machine_data) → AreShown names machines → CanBePrinted names o → AreShown names (slice_set machines p o)
shown_with names [] p o all own = all
shown_with names (x ∷ machines) zero o all own = (own, all.1)
shown_with names (x ∷ machines) (suc p) o all own = (all.0, shown_with names machines p o all.1 own)

written_few : (names : Names_data) (m : Machine_data) → IsMachineTextShaped m ⊎ IsTabled names m → length m.states < 4294967296
written_few names m (inl shaped) =
    let few = spelt_few Acts (map place_of_state m.states) m.start (spelt m shaped) in
    let size = length-map m.states place_of_state in
    omega (arith, few, size)
written_few names m (inr tabled) = let few = tabled.bounded in omega (arith, few)

pub shown_few : (names : Names_data) (machines : List (Option Machine_data)) → AreShown names machines → (k : ℕ) (m : Machine_data) → slice_get machines k ≡ Some (Some m) → length m.states < 4294967296
shown_few names [] all k m e = absurd cc
shown_few names (None ∷ machines) all zero m e = absurd cc
shown_few names (Some x ∷ machines) all zero m e = subst (λ (z : Machine_data). length z.states < 4294967296) (some_same x m e) (written_few names x all.0.shaped)
  where
    some_same : (a b : Machine_data) → Some (Some a) ≡ Some (Some b) → a ≡ b
    some_same a b f = cc
shown_few names (x ∷ machines) all (suc k) m e = shown_few names machines all.1 k m e

-- ---- the session without the role's own machine

module _ (bound : ℕ) (d : Document_data) (p : ℕ) (ps : List Projection_data) (ms : List Machine_data) (ds : List Derivation_data) (j : Projection_data)
    (spelt_one : IsSpeltSession d) (place : p < length d.machines) (has : HasMachines (with_own d p None) ps ms) (found : AreCanonical bound ms ps ds) (projects : slice_get ps p ≡ Some j) where
  pub low : p < d.protocol.roles
  low = let one = spelt_one.one_each in let roles = spelt_one.roles in omega (arith, place, one, roles)

  without : IsSession d.protocol ps ms
  without =
      let h = has in
      session_of (with_own d p None) ps ms (spelt_without d p spelt_one) h.projections_are.well_formed h.projections_are.projected h.machines_are h.well_formed

  its_projection : IsProjection d.protocol (record { 0 = p }) j
  its_projection = (has.projections_are.projected.each p j projects).is_projection

  pub above_fits : IsWellFormedMachine j.machine d.protocol.roles
  above_fits = projection_machine d.protocol (record { 0 = p }) j without.well_formed low its_projection

  few_above : length j.machine.states ≤ MOST_STATES
  few_above = few_states d.protocol ps has.projections_are.projected p j projects

  -- the role runs its projection
  pub runs_its_projection : slice_get ms p ≡ Some j.machine
  runs_its_projection =
      let size = chosen_size d.machines ps (spelt_one.one_each ∙ spelt_one.roles ∙ sym has.projections_are.projected.many) in
      let less = slice_get_within ps p j projects in
      ap (λ (z : List Machine_data). slice_get z p) (has.machines_are ∙ machines_set d.machines ps p j None projects) ∙ set_here (machines_of d.machines ps) p j.machine (omega (arith, size, less))

  -- ---- with the improved machine

  module _ (asked : ℕ) (i : Improved_data) (improved : IsImproved j.machine bound asked i) where
    fits : IsWellFormedMachine i.machine d.protocol.roles
    fits = well_formed_in i.swaps d.protocol.roles j.machine i.machine improved.swapped above_fits

    role : i.machine.role ≡ record { 0 = p }
    role = role_in i.swaps j.machine i.machine improved.swapped ∙ its_projection.onto

    few : length i.machine.states ≤ MOST_STATES
    few = few_states_of j.machine bound asked i improved few_above

    starts : i.machine.start ≡ 0
    starts = start_in i.swaps j.machine i.machine improved.swapped its_projection.start

    abbrev own : Option Machine_data
    own = machine_if_swapped i

    -- the machine of the role is the improved one
    runs : machine_or own j ≡ i.machine
    runs = go (i.swaps == 0) refl
      where
        go : (b : Bool) → (i.swaps == 0) ≡ b → machine_or (cond b None (Some i.machine)) j ≡ i.machine
        go true e = sym (none_in i.swaps j.machine i.machine improved.swapped (eqb-true i.swaps 0 e))
        go false e = refl

    own_is : (m : Machine_data) → own ≡ Some m → i.machine ≡ m
    own_is m e = go (i.swaps == 0) e
      where
        go : (b : Bool) → cond b None (Some i.machine) ≡ Some m → i.machine ≡ m
        go true e = absurd cc
        go false e = cc

    in_its_place : (m : Machine_data) → own ≡ Some m → m.role.0 ≡ p
    in_its_place m e = ap (λ (z : Machine_data). z.role.0) (sym (own_is m e)) ∙ ap (λ (z : Role). z.0) role

    abbrev e : Document_data
    e = with_own d p own

    abbrev ns : List Machine_data
    ns = slice_set ms p i.machine

    abbrev es : List Derivation_data
    es = slice_set ds p i.derivation

    pub spelt_again_with : IsSpeltSession e
    spelt_again_with = spelt_with d p own spelt_one in_its_place

    machines_are : ns ≡ machines_of e.machines ps
    machines_are =
        ap (λ (z : List Machine_data). slice_set z p i.machine) (has.machines_are ∙ machines_set d.machines ps p j None projects)
        ∙ set_again (machines_of d.machines ps) p j.machine i.machine
        ∙ ap (λ (z : Machine_data). slice_set (machines_of d.machines ps) p z) (sym runs)
        ∙ sym (machines_set d.machines ps p j own projects)

    pub has_with : HasMachines e ps ns
    has_with = record {
      projections_are = record { well_formed = has.projections_are.well_formed; projected = has.projections_are.projected };
      machines_are = machines_are;
      well_formed = none_refused d.protocol.roles ns (set_each (λ q m. IsWellFormedMachine m d.protocol.roles) ms p i.machine (λ q m at. each_fits d.protocol.roles ms has.well_formed q m at) fits);
    }

    pub session_with : IsSession d.protocol ps ns
    session_with =
        let h = has_with in
        session_of e ps ns spelt_again_with h.projections_are.well_formed h.projections_are.projected h.machines_are h.well_formed

    canonical_at : (q : ℕ) (m : Machine_data) (k : Projection_data) (x : Derivation_data) → slice_get ns q ≡ Some m → slice_get ps q ≡ Some k → slice_get es q ≡ Some x → IsCanonical m k.machine bound x
    canonical_at q m k x hm hk hx = elim (set_places ms p i.machine q m hm) [
      | inl here ↦ elim (set_places ds p i.derivation q x hx) [
        | inl there ↦ (
            let same : j ≡ k = same_Some j k (sym projects ∙ ap (λ (n : ℕ). slice_get ps n) (sym here.0) ∙ hk) in
            subst (λ (z : Derivation_data). IsCanonical m k.machine bound z) there.1
            (subst (λ (z : Machine_data). IsCanonical z k.machine bound i.derivation) here.1
            (subst (λ (z : Projection_data). IsCanonical i.machine z.machine bound i.derivation) same improved.derivation)))
        | inr elsewhere ↦ absurd (elsewhere.0 here.0)
      ]
      | inr other ↦ elim (set_places ds p i.derivation q x hx) [
        | inl there ↦ absurd (other.0 there.0)
        | inr before ↦ found.each q m k x other.1 hk before.1
      ]
    ]

    pub canonical_with : AreCanonical bound ns ps es
    canonical_with = record { many = set_size ds p i.derivation ∙ found.many ∙ sym (set_size ms p i.machine); each = canonical_at }

    -- ---- it can be shown

    module _ (labels : length d.names.labels ≤ MOST_LABELS) (shown : CanBeShown d) where
      acts_named : (a : Act) → IsActOf i.machine a → IsNamed d.names a
      acts_named = named_in d.names i.swaps j.machine i.machine improved.swapped (act_named d.names d.protocol (record { 0 = p }) j shown.enough its_projection above_fits)

      table : CanBeWritten d.names i.machine
      table = has_a_table d.names i.machine d.protocol.roles fits spelt_one.roles starts few labels acts_named

      own_printed : CanBePrinted d.names own
      own_printed = go (i.swaps == 0)
        where
          go : (b : Bool) → CanBePrinted d.names (cond b None (Some i.machine))
          go true = tt
          go false = table

      pub shown_as_improved : CanBeShown e
      shown_as_improved = record {
        sound = shown.sound;
        shaped = shown.shaped;
        enough = shown.enough;
        machines = shown_with d.names d.machines p own shown.machines own_printed;
        derivations = shown.derivations;
      }

      pub improved_can_be_shown : IsBound bound → CanBeShown (improved_document d p ds i)
      improved_can_be_shown within = can_show_session bound e ps ns es session_with labels shown_as_improved within canonical_with

    -- ---- it can be read again

    few_of : (q : ℕ) (m : Machine_data) → CanBeShown d → slice_get ms q ≡ Some m → length m.states < 4294967296
    few_of q m shown at = go (chosen (slice_set d.machines p None) ps q m (subst (λ (z : List Machine_data). slice_get z q ≡ Some m) has.machines_are at))
      where
        by : (o : Option Machine_data) (k : Projection_data) → slice_get (slice_set d.machines p None) q ≡ Some o → slice_get ps q ≡ Some k → m ≡ machine_or o k → length m.states < 4294967296
        by None k at' projects' is =
            let less = few_states d.protocol ps has.projections_are.projected q k projects' in
            subst (λ (z : Machine_data). length z.states < 4294967296) (sym is) (omega (arith, less))
        by (Some x) k at' projects' is = subst (λ (z : Machine_data). length z.states < 4294967296) (sym is)
            (shown_few d.names (slice_set d.machines p None) (shown_with d.names d.machines p None shown.machines tt) q x at')

        go : IsChosen (slice_set d.machines p None) ps q m → length m.states < 4294967296
        go c = by c.own' c.projection c.has c.projects c.machine_is

    pub few_with : CanBeShown d → (q : ℕ) (m : Machine_data) → slice_get ns q ≡ Some m → length m.states < 4294967296
    few_with shown = set_each (λ q m. length m.states < 4294967296) ms p i.machine (λ q m at. few_of q m shown at) (let f = few in omega (arith, f))

    pub read_again_with : CanBeReadAgain d → CanBeReadAgain e
    read_again_with again = record {
      shown = shown_as_improved again.bounded again.shown;
      bounded = again.bounded;
      machines = record { one_each = spelt_again_with.one_each; in_place = spelt_again_with.in_place };
      derivations = again.derivations;
      small = again.small;
    }
